-- Laws of `fold op z f n`: op applied from the left, as a loop does it: z, then f 0, f 1, .. f (n - 1). Whole sums, f32
-- sums in order and the greatest
use mathlib.Core.Path.{◌≡◌, refl, sym, ap, ◌∙◌}
use Prim.Native.Nat.{ℕ, zero, suc, ◌+◌, ◌-◌, ◌*◌, ◌≤◌, ◌<◌}
use native.Mathlib.Nat.{mul-suc, add-zero, add-suc}
use native.Mathlib.Numerals.{add-one}
use native.Mathlib.Omega.{arith}
use Rattle.grid.specs.Fold.{fold, sum_to}

module _ {A B : Type 0} (op : A → B → A) (z : A) where
  pub fold-none : (f : ℕ → B) (n : ℕ) → n ≡ 0 → z ≡ fold op z f n
  unfolding fold
  fold-none f n e = rw e

  pub fold_on : (f : ℕ → B) (n m : ℕ) {a : A} {v : B} → m ≡ n + 1 → v ≡ f n → a ≡ fold op z f n → op a v ≡ fold op z f m
  unfolding fold
  fold_on f n m e u h = rw (e, add-one, u, h)

  pub fold_ext : (f g : ℕ → B) (n : ℕ) → ((k : ℕ) → k < n → f k ≡ g k) → fold op z f n ≡ fold op z g n
  unfolding fold
  fold_ext f g zero h = refl
  fold_ext f g (suc n) h = rw (fold_ext f g n (λ k b. h k (omega arith)), h n (omega arith))

  -- what holds of z and is kept by every step holds of the fold
  pub fold_keeps : (P : ℕ → A → Type 0) (f : ℕ → B) → P 0 z → ((n : ℕ) (a : A) → P n a → P (suc n) (op a (f n))) → (n : ℕ) → P n (fold op z f n)
  unfolding fold
  fold_keeps P f p s zero = p
  fold_keeps P f p s (suc n) = s n (fold op z f n) (fold_keeps P f p s n)

  -- a fold goes on from where a part of it ended
  pub fold_more : (f : ℕ → B) (m n : ℕ) → fold op z f (m + n) ≡ fold op (fold op z f m) (λ k. f (m + k)) n
  unfolding fold
  fold_more f m zero = rw add-zero
  fold_more f m (suc n) = rw (add-suc, fold_more f m n)

  -- all of it is the part from 0 on
  pub fold-first : (f : ℕ → B) (n : ℕ) → fold op z (λ k. f (0 + k)) (n - 0) ≡ fold op z f n
  fold-first f n =
      let q : n - 0 ≡ n = omega arith in
      rw q (fold_ext _ f n (λ k b. ap f (omega arith)))

  -- entries of which none changes z
  pub fold_still : (f : ℕ → B) (n : ℕ) → ((k : ℕ) → k < n → op z (f k) ≡ z) → z ≡ fold op z f n
  unfolding fold
  fold_still f zero h = refl
  fold_still f (suc n) h = sym (h n (omega arith)) ∙ rw (← fold_still f n (λ k b. h k (omega arith)))

  -- ---- `for i in a..e { acc = op(acc, v); }`: the entries from a and below i are folded

  pub record Folding (f : ℕ → B) (a e i : ℕ) (acc : A) : Type 0 where
    pub least : a ≤ i
    pub most : i ≤ e
    pub is : acc ≡ fold op z (λ k. f (a + k)) (i - a)

  pub folding_none : (f : ℕ → B) (a e : ℕ) → a ≤ e → Folding f a e a z
  folding_none f a e b = record { least = omega arith; most = b; is = fold-none _ _ (omega arith) }

  pub folding_more : (f : ℕ → B) (a e : ℕ) {i : ℕ} {acc : A} {v : B} → Folding f a e i acc → i < e → v ≡ f i → Folding f a e (i + 1) (op acc v)
  folding_more f a e {i} r b u =
      let q : i ≡ a + (i - a) = omega arith in
      record { least = omega arith; most = omega arith; is = fold_on _ (i - a) _ (omega arith) (u ∙ ap f q) r.is }

  pub folding_all : (f : ℕ → B) (a e : ℕ) {i : ℕ} {acc : A} → Folding f a e i acc → e ≤ i → acc ≡ fold op z (λ k. f (a + k)) (e - a)
  folding_all f a e {i} r b =
      let q : i ≡ e = omega arith in
      rw q at r.is

module _ {A B : Type 0} (op : A → B → A) (z : A) (f : ℕ → B) (a e : ℕ) where
  -- several entries at once
  pub folding_part : {i : ℕ} {acc r : A} (d j : ℕ) → Folding op z f a e i acc → j ≡ i + d → j ≤ e
      → r ≡ fold op acc (λ k. f (i + k)) d → Folding op z f a e j r
  folding_part {i} {acc} d j t q b u =
      let g : ℕ → B = λ k. f (a + k) in
      let n : j - a ≡ i - a + d = omega arith in
      let w : fold op acc (λ k. f (i + k)) d ≡ fold op acc (λ k. g (i - a + k)) d = fold_ext op acc _ _ d (λ k l. ap f (omega arith)) in
      record { least = omega arith; most = b; is = u ∙ w ∙ rw (n, fold_more op z g (i - a) d, t.is) }

  -- and all that are left
  pub folding_rest : {i : ℕ} {acc r : A} → Folding op z f a e i acc → r ≡ fold op acc (λ k. f (i + k)) (e - i)
      → r ≡ fold op z (λ k. f (a + k)) (e - a)
  folding_rest {i} t u = (folding_part (e - i) e t (omega arith) (omega arith) u).is

-- in two parts, each folded from z, where op lets them be grouped so: the law behind every running sum
module _ {A : Type 0} (op : A → A → A) (z : A) (f : ℕ → A) (m : ℕ) where
  pub fold_split : fold op z f m ≡ op (fold op z f m) z
      → ((n : ℕ) (v : A) → op (op (fold op z f m) (fold op z (λ k. f (m + k)) n)) v ≡ op (fold op z f m) (op (fold op z (λ k. f (m + k)) n) v))
      → (n : ℕ) → fold op z f (m + n) ≡ op (fold op z f m) (fold op z (λ k. f (m + k)) n)
  unfolding fold
  fold_split u s zero = rw add-zero u
  fold_split u s (suc n) = rw (add-suc, fold_split u s n) (s n (f (m + n)))

-- ---- whole sums: f 0 + .. + f (n - 1)

pub sum_one : (f : ℕ → ℕ) → sum_to f 1 ≡ f 0
unfolding fold
sum_one f = omega arith

pub sum_split : (f : ℕ → ℕ) (m n : ℕ) → sum_to f (m + n) ≡ sum_to f m + sum_to (λ k. f (m + k)) n
sum_split f m n = fold_split ◌+◌ 0 f m (omega arith) (λ k v. omega arith) n

sum_suc : (f : ℕ → ℕ) (n : ℕ) → sum_to f (suc n) ≡ sum_to f n + f n
unfolding fold
sum_suc f n = refl

-- from the other end
pub sum_back : (f : ℕ → ℕ) (n : ℕ) → sum_to f n ≡ sum_to (λ k. f (n - 1 - k)) n
sum_back f zero = sym (fold-none ◌+◌ 0 f 0 refl) ∙ fold-none ◌+◌ 0 _ 0 refl
sum_back f (suc n) =
    let g : ℕ → ℕ = λ k. f (suc n - 1 - k) in
    let one : suc n ≡ 1 + n = omega arith in
    let first : f n ≡ g 0 = ap f (omega arith) in
    let rest : sum_to (λ k. f (n - 1 - k)) n ≡ sum_to (λ k. g (1 + k)) n = fold_ext ◌+◌ 0 _ _ n (λ k b. ap f (omega arith)) in
    omega (arith, sum_suc f n, sum_back f n, rest, first, sum_one g, sum_split g 1 n, ap (sum_to g) one)

pub sum-most : (f : ℕ → ℕ) (b n : ℕ) → ((k : ℕ) → f k ≤ b) → sum_to f n ≤ b * n
unfolding fold
sum-most f b zero h = omega arith
sum-most f b (suc n) h = omega (arith, sum-most f b n h, h n, mul-suc b n)

-- each term raised by b
pub sum_raised : (f : ℕ → ℕ) (b n : ℕ) → sum_to (λ k. f k + b) n ≡ sum_to f n + b * n
unfolding fold
sum_raised f b zero = omega arith
sum_raised f b (suc n) = omega (arith, sum_raised f b n, mul-suc b n)

-- ---- f32 sums: ((0 + f 0) + f 1) + .. + f (n - 1), each sum rounded once
