-- The greatest of values, from zero up: it is at least zero, values that are not above it leave it as it is, and parts may be taken side by side.
-- Assumes nothing.
use mathlib.Core.Path.{◌≡◌, refl, sym, ◌∙◌}
use mathlib.Core.Bool.{Bool, true, false, cond}
use Prim.Native.Nat.{ℕ, zero, suc, ◌+◌, ◌-◌, ◌≤◌}
use native.Mathlib.Nat.{add-zero}
use native.Mathlib.Omega.{arith}
use mathlib.Core.List.{List}
use lib.ListN.{length, get_or, take, drop, length-drop}
use lib.Seq.{get_or-drop}
use lib.Dec.{T}
use lib.Ieee.{Float, nan, inf, fin, lt, le, of_bits, is_nan}
use Rattle.std.specs.List.{fold as list-fold}
use Rattle.std.proofs.lemmas.List.Sums.{fold_more as list_fold-more}
use Rattle.float.specs.Values.{f0}
use Rattle.float.proofs.Order.{lt_le, le_lt_trans, le_of_not_lt, lt_itself}
use Rattle.grid.specs.Fold.{fold}
use Rattle.grid.proofs.Fold.{fold-none, fold_on, fold_ext, fold_keeps, fold-first, fold_still, fold_split, Folding, folding_none, folding_part, folding_rest}
use Rattle.crests.specs.Maximum.{entry, greater}
use Rattle.crests.specs.Crests.{eight}
use Rattle.crests.proofs.Passing.{none-eight}

one_of : (P : Float → Type 0) (b : Bool) (x y : Float) → (T b → P x) → P y → P (cond b x y)
one_of P true x y p q = p tt
one_of P false x y p q = q

zero_zero : T (le f0 f0)
unfolding of_bits le
zero_zero = tt

pub greatest_nonneg : (f : ℕ → Float) (n : ℕ) → T (le f0 (fold greater f0 f n))
greatest_nonneg f n =
    fold_keeps greater f0 (λ n m. T (le f0 m)) f zero_zero
    (λ n m h. one_of (λ v. T (le f0 v)) (lt m (f n)) (f n) m (λ t. lt_le f0 (f n) (le_lt_trans f0 m (f n) h t)) h) n

-- eight values that are not above m leave it as it is
pub eight_still : (f : ℕ → Float) (i : ℕ) {m : Float} {r : Bool} → r ≡ eight (λ k. lt m (f k)) i → r ≡ false
    → m ≡ fold greater m (λ k. f (i + k)) 8
eight_still f i {m} h u =
    fold_still greater m _ 8
    (λ k b.
    let t : lt m (f (i + k)) ≡ false = none-eight (λ k. lt m (f k)) i (sym h ∙ u) (i + k) (omega arith) (omega arith) in
    rw t)

-- ---- a list's entries, one after the other, are those of its places

list_fold : {A B : Type 0} (op : A → B → A) (z : A) (l : List B) (d : B) (i : ℕ) → i ≤ length l
    → list-fold op z (take i l) ≡ fold op z (λ k. get_or l k d) i
list_fold op z l d zero h = fold-none op z _ 0 refl
list_fold op z l d (suc i) h =
    let e : suc i ≡ i + 1 = omega arith in
    rw e (list_fold-more op z l i d (omega arith) ∙ fold_on op z (λ k. get_or l k d) i (i + 1) refl refl (list_fold op z l d i (omega arith)))

-- a part of a buffer, from a to below e
pub part_folded : (s : List Float) (a e : ℕ) (m : Float) → a ≤ e → e ≤ length s
    → list-fold greater m (take (e - a) (drop a s)) ≡ fold greater m (λ k. entry s (a + k)) (e - a)
part_folded s a e m h b =
    let r = drop a s in
    let long : e - a ≤ length r = simp length-drop (omega arith) in
    list_fold greater m r nan (e - a) long ∙ fold_ext greater m _ _ (e - a) (λ k v. get_or-drop a s k nan)

-- ---- in parts

number : (x : Float) → T (le f0 x) → is_nan x ≡ false
unfolding le of_bits is_nan
number nan h = absurd h
number (inf s) h = refl
number (fin s m e) h = refl

not_below : (x : Float) → T (le f0 x) → lt x f0 ≡ false
not_below x h = go (lt x f0) refl
  where
    go : (b : Bool) → lt x f0 ≡ b → lt x f0 ≡ false
    go false e = e
    go true e = absurd (rw (lt_itself f0) at (le_lt_trans f0 x f0 h (rw e tt)))

-- numbers may be grouped either way
grouped : (a b v : Float) → T (le f0 a) → T (le f0 b) → greater (greater a b) v ≡ greater a (greater b v)
grouped a b v h k = go (lt a b) (lt b v) (lt a v) refl refl refl
  where
    go : (p q r : Bool) → lt a b ≡ p → lt b v ≡ q → lt a v ≡ r → greater (greater a b) v ≡ greater a (greater b v)
    go true true true p q r = simp (p, q, r)
    go true true false p q r = absurd (rw r at (le_lt_trans a b v (lt_le a b (rw p tt)) (rw q tt)))
    go true false r p q e = simp (p, q)
    go false true r p q e = simp (p, q)
    go false false true p q r = absurd (rw q at (le_lt_trans b a v (le_of_not_lt b a (number b k) (number a h) p) (rw r tt)))
    go false false false p q r = simp (p, q, r)

-- the greatest of the first a and that of the rest
greatest_joined : (f : ℕ → Float) (a e : ℕ) {m r : Float} → a ≤ e → m ≡ fold greater f0 f a
    → r ≡ fold greater f0 (λ k. f (a + k)) (e - a) → greater m r ≡ fold greater f0 f e
greatest_joined f a e b h k =
    let z = greatest_nonneg f a in
    let n : a + (e - a) ≡ e = omega arith in
    let t : fold greater f0 f a ≡ greater (fold greater f0 f a) f0 = rw (not_below _ z) in
    rw (h, k) (sym (rw n at (fold_split greater f0 f a t (λ n v. grouped _ _ v z (greatest_nonneg _ n)) (e - a))))

-- ---- side by side: the parts up to a, b, c and n, of each of which the first i entries are folded

-- one of them, from u to below v
abbrev Part : (ℕ → Float) → ℕ → ℕ → ℕ → Float → Type 0
Part f u v i m = Folding greater f0 f u v (u + i) m

pub record Quarters (f : ℕ → Float) (a b c n i : ℕ) (m0 m1 m2 m3 : Float) : Type 0 where
  pub first : Folding greater f0 f 0 a i m0
  pub second : Part f a b i m1
  pub third : Part f b c i m2
  pub fourth : Part f c n i m3

part_none : (f : ℕ → Float) (u v : ℕ) → u ≤ v → Part f u v 0 f0
part_none f u v l = rw add-zero (folding_none greater f0 f u v l)

part-eight : (f : ℕ → Float) (u v i : ℕ) {m r : Float} → Part f u v i m → u + i + 8 ≤ v → r ≡ fold greater m (λ k. f (u + i + k)) 8
    → Part f u v (i + 8) r
part-eight f u v i t l e = folding_part greater f0 f u v 8 (u + (i + 8)) t (omega arith) (omega arith) e

module _ (f : ℕ → Float) (a b c n : ℕ) where
  pub quarters_none : a ≤ b → b ≤ c → c ≤ n → Quarters f a b c n 0 f0 f0 f0 f0
  quarters_none u v w = record {
    first = folding_none greater f0 f 0 a (omega arith);
    second = part_none f a b u;
    third = part_none f b c v;
    fourth = part_none f c n w;
  }

  module _ {i : ℕ} {m0 m1 m2 m3 : Float} (t : Quarters f a b c n i m0 m1 m2 m3) {r0 r1 r2 r3 : Float} where
    -- eight more of each
    pub quarters_eight : i + 8 ≤ a → a + i + 8 ≤ b → b + i + 8 ≤ c → c + i + 8 ≤ n
        → r0 ≡ fold greater m0 (λ k. f (i + k)) 8 → r1 ≡ fold greater m1 (λ k. f (a + i + k)) 8
        → r2 ≡ fold greater m2 (λ k. f (b + i + k)) 8 → r3 ≡ fold greater m3 (λ k. f (c + i + k)) 8
        → Quarters f a b c n (i + 8) r0 r1 r2 r3
    quarters_eight k u v w e0 e1 e2 e3 = record {
      first = folding_part greater f0 f 0 a 8 (i + 8) t.first (omega arith) k e0;
      second = part-eight f a b i t.second u e1;
      third = part-eight f b c i t.third v e2;
      fourth = part-eight f c n i t.fourth w e3;
    }

    -- and what is left of each: the greatest of the four is that of all
    pub quarters_all : {g1 g2 g3 : Float} → a ≤ b → b ≤ c → c ≤ n
        → r0 ≡ fold greater m0 (λ k. f (i + k)) (a - i) → r1 ≡ fold greater m1 (λ k. f (a + i + k)) (b - (a + i))
        → r2 ≡ fold greater m2 (λ k. f (b + i + k)) (c - (b + i)) → r3 ≡ fold greater m3 (λ k. f (c + i + k)) (n - (c + i))
        → g1 ≡ greater r0 r1 → g2 ≡ greater g1 r2 → g3 ≡ greater g2 r3 → g3 ≡ fold greater f0 f n
    quarters_all u v w e0 e1 e2 e3 h1 h2 h3 =
        let p0 = folding_rest greater f0 f 0 a t.first e0 ∙ fold-first greater f0 f a in
        let p1 = h1 ∙ greatest_joined f a b u p0 (folding_rest greater f0 f a b t.second e1) in
        let p2 = h2 ∙ greatest_joined f b c v p1 (folding_rest greater f0 f b c t.third e2) in
        h3 ∙ greatest_joined f c n w p2 (folding_rest greater f0 f c n t.fourth e3)
