-- Laws of A list of whole entries in a buffer that may be too short: `written k f l old` has the k numbers of each
-- entry of l, as far as whole entries fit.
use mathlib.Core.Path.{◌≡◌, refl, sym, ap, ◌∙◌}
use mathlib.Core.Bool.{Bool, true, false}
use Prim.Native.Nat.{ℕ, zero, suc, ◌+◌, ◌*◌, ◌/◌, ◌≤◌, ◌<◌, min}
use native.Mathlib.Nat.{le_of_suc-le-suc, not-suc-le-zero, mul-le-mul_left, mul-div-le, div-mul-le_self, le-div_iff_mul-le}
use native.Mathlib.Omega.{arith}
use mathlib.Core.List.{List, [], ◌∷◌, ◌++◌, append-nil}
use lib.ListN.{length, set, take, drop, length-append, length-take}
use lib.Seq.{sets, length-sets, take_all, take-append-le, take-take, append_snoc}
use Rattle.grid.specs.Each.{each, keep}
use Rattle.grid.proofs.Each.{each_none, each_more, length-each, take-each, keep-none, keep_yes, keep_no}
use Rattle.grid.specs.Over.{over, written, Listed, Onward}

module _ {A : Type 0} where
  pub over_none : (xs : List A) → over [] xs ≡ xs
  unfolding over
  over_none xs = refl

  pub length_over : (vs xs : List A) → length (over vs xs) ≡ length xs
  unfolding over
  length_over [] xs = refl
  length_over (v ∷ vs) [] = refl
  length_over (v ∷ vs) (x ∷ xs) = ap suc (length_over vs xs)

  pub over-set : (vs xs : List A) (a : A) → set (over vs xs) (length vs) a ≡ over (vs ++ (a ∷ [])) xs
  unfolding over
  over-set [] [] a = refl
  over-set [] (x ∷ xs) a = refl
  over-set (v ∷ vs) [] a = refl
  over-set (v ∷ vs) (x ∷ xs) a = ap (λ (r : List A). v ∷ r) (over-set vs xs a)

  pub over_sets : (ws vs xs : List A) → sets (over vs xs) (length vs) ws ≡ over (vs ++ ws) xs
  over_sets [] vs xs = rw append-nil
  over_sets (a ∷ ws) vs xs =
      let n : suc (length vs) ≡ length (vs ++ (a ∷ [])) = omega (arith, length-append vs (a ∷ [])) in
      rw (over-set, n) (over_sets ws (vs ++ (a ∷ [])) xs ∙ ap (λ (l : List A). over l xs) (append_snoc vs a ws))

  -- the entries that are written
  pub take-over : (vs xs : List A) → length vs ≤ length xs → take (length vs) (over vs xs) ≡ vs
  unfolding over
  take-over [] xs h = refl
  take-over (v ∷ vs) [] h = absurd (not-suc-le-zero h)
  take-over (v ∷ vs) (x ∷ xs) h = ap (λ (r : List A). v ∷ r) (take-over vs xs (le_of_suc-le-suc h))

module _ {A B : Type 0} (k : ℕ) (f : A → List B) (p : A → Bool) (old : List B) where
  pub listed_none : Listed k f p old old 0 []
  unfolding written
  listed_none = record { count = rw keep-none; fill = rw (keep-none, take_none (length old / k), each_none, over_none); long = refl }
    where
      take_none : (n : ℕ) → ◌≡◌ {A = List A} (take n []) []
      take_none zero = refl
      take_none (suc n) = refl

  pub listed_no : {out : List B} {n : ℕ} (l : List A) (a : A) → Listed k f p old out n l → p a ≡ false → Listed k f p old out n (l ++ (a ∷ []))
  listed_no l a h e = record { count = rw (keep_no p l a e) h.count; fill = rw (keep_no p l a e) h.fill; long = h.long }

  -- no room
  pub listed_full : {out : List B} {n : ℕ} (l : List A) (a : A) → Listed k f p old out n l → p a ≡ true → length old / k ≤ n
      → Listed k f p old out (n + 1) (l ++ (a ∷ []))
  unfolding written
  listed_full {out} {n} l a h e b =
      let c : length old / k ≤ length (keep p l) = omega (arith, h.count) in
      record {
        count = rw (keep_yes p l a e, length-append, h.count);
        fill = rw (keep_yes p l a e, take-append-le) h.fill;
        long = h.long;
      }

  -- room: the k numbers are stored one after the other
  pub listed_put : {out : List B} {n : ℕ} (l : List A) (a : A) → ((b : A) → length (f b) ≡ k) → Listed k f p old out n l
      → p a ≡ true → n < length old / k
      → Listed k f p old (sets out (k * n) (f a)) (n + 1) (l ++ (a ∷ []))
  unfolding written
  listed_put {out} {n} l a g h e b =
      let c : length (keep p l) ≤ length old / k = omega (arith, h.count) in
      let d : length (keep p l ++ (a ∷ [])) ≤ length old / k = omega (arith, h.count, length-append (keep p l) (a ∷ [])) in
      let m : k * n ≡ length (each f (keep p l)) = ap (λ (i : ℕ). k * i) h.count ∙ sym (length-each k f g (keep p l)) in
      let o : out ≡ over (each f (keep p l)) old = h.fill ∙ rw (take_all (length old / k) (keep p l) c) in
      record {
        count = rw (keep_yes p l a e, length-append, h.count);
        fill = rw (keep_yes p l a e, take_all (length old / k) (keep p l ++ (a ∷ [])) d, each_more, o, m) (over_sets (f a) (each f (keep p l)) old);
        long = length-sets out (k * n) (f a) ∙ h.long;
      }

-- three stores, as the code has them
pub sets_three : {B : Type 0} (l : List B) (i : ℕ) (a b c : B) → set (set (set l i a) (i + 1) b) (i + 2) c ≡ sets l i (a ∷ b ∷ c ∷ [])
sets_three l i a b c =
    let e : i + 1 ≡ suc i = omega arith in
    let d : i + 2 ≡ suc (suc i) = omega arith in
    rw (e, d)

module _ {A B : Type 0} (k : ℕ) (f : A → List B) (p : A → Bool) (mid : List B) (m : ℕ) (l₀ : List A) where
  pub onward-none : Onward k f p mid m l₀ mid m l₀
  onward-none = record { on = λ old h. h; same = refl }

  pub onward_no : {out : List B} {n : ℕ} (l : List A) (a : A) → Onward k f p mid m l₀ out n l → p a ≡ false
      → Onward k f p mid m l₀ out n (l ++ (a ∷ []))
  onward_no l a o e = record { on = λ old h. listed_no k f p old l a (o.on old h) e; same = o.same }

  pub onward_full : {out : List B} {n : ℕ} (l : List A) (a : A) → Onward k f p mid m l₀ out n l → p a ≡ true → length mid / k ≤ n
      → Onward k f p mid m l₀ out (n + 1) (l ++ (a ∷ []))
  onward_full {n = n} l a o e b = record { on = λ old h. listed_full k f p old l a (o.on old h) e (rw h.long at b); same = o.same }

  pub onward-put : {out new : List B} {n : ℕ} (l : List A) (a : A) → ((b : A) → length (f b) ≡ k) → Onward k f p mid m l₀ out n l
      → p a ≡ true → n < length mid / k
      → new ≡ sets out (k * n) (f a) → Onward k f p mid m l₀ new (n + 1) (l ++ (a ∷ []))
  onward-put {out} {new} {n} l a g o e b q =
      record {
        on = λ old h. rw q (listed_put k f p old l a g (o.on old h) e (rw h.long at b));
        same = ap length q ∙ length-sets out (k * n) (f a) ∙ o.same;
      }

-- ---- what is written, read back: a buffer's opening entries
take_over_le : {A : Type 0} (n : ℕ) (vs xs : List A) → n ≤ length vs → n ≤ length xs → take n (over vs xs) ≡ take n vs
unfolding over
take_over_le zero vs xs h k = refl
take_over_le (suc n) [] xs h k = absurd (not-suc-le-zero h)
take_over_le (suc n) (v ∷ vs) [] h k = absurd (not-suc-le-zero k)
take_over_le {A} (suc n) (v ∷ vs) (x ∷ xs) h k = ap (λ (r : List A). v ∷ r) (take_over_le n vs xs (le_of_suc-le-suc h) (le_of_suc-le-suc k))

pub drop-over : {A : Type 0} (vs xs : List A) → drop (length vs) (over vs xs) ≡ drop (length vs) xs
unfolding over
drop-over [] xs = refl
drop-over (v ∷ vs) [] = refl
drop-over (v ∷ vs) (x ∷ xs) = drop-over vs xs

module _ {A B : Type 0} (k : ℕ) (f : A → List B) (g : (a : A) → length (f a) ≡ k) (l : List A) where
  -- the first m entries, where there are so many and there is room for them
  pub opening : (m : ℕ) (old : List B) → m ≤ length old / k → m ≤ length l → take (k * m) (written k f l old) ≡ each f (take m l)
  unfolding written
  opening m old a b =
      let n = length old / k in
      let t : length (take n l) ≡ min n (length l) = length-take n l in
      let c : k * m ≤ k * length (take n l) = mul-le-mul_left k (omega arith) in
      let d : k * m ≤ k * n = mul-le-mul_left k a in
      take_over_le (k * m) (each f (take n l)) old (omega (arith, length-each k f g (take n l))) (omega (arith, mul-div-le (length old) k))
      ∙ take-each k f g m (take n l)
      ∙ ap (each f) (take-take m n l a)

  -- a shorter buffer has the opening entries of a longer one
  pub shorter : (old new : List B) → 0 < k → length old ≤ length new
      → take (k * min (length l) (length old / k)) (written k f l old) ≡ take (k * min (length l) (length old / k)) (written k f l new)
  shorter old new p q =
      let d : length old / k ≤ length new / k = (le-div_iff_mul-le p).1 (omega (arith, div-mul-le_self (length old) k)) in
      opening (min (length l) (length old / k)) old (omega arith) (omega arith)
      ∙ sym (opening (min (length l) (length old / k)) new (omega arith) (omega arith))

  -- and past them its own
  pub past : (old : List B) → drop (k * min (length l) (length old / k)) (written k f l old) ≡ drop (k * min (length l) (length old / k)) old
  unfolding written
  past old =
      let n = length old / k in
      let e : k * min (length l) n ≡ length (each f (take n l)) =
      sym (length-each k f g (take n l) ∙ ap (λ (i : ℕ). k * i) (length-take n l ∙ omega arith)) in
      rw e (drop-over (each f (take n l)) old)
