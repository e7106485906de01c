-- A list read back entry by entry: number j of entry i, where each entry has k numbers, stands at k · i + j; what holds of every entry
-- holds of entry i. Assumes nothing.
use mathlib.Core.Path.{◌≡◌, ap, ◌∙◌}
use Prim.Native.Nat.{ℕ, zero, suc, ◌+◌, ◌*◌, ◌<◌}
use native.Mathlib.Nat.{le_of_suc-le-suc, not-suc-le-zero, mul-zero, mul-suc, zero-add}
use native.Mathlib.Omega.{arith}
use mathlib.Core.List.{List, [], ◌∷◌}
use lib.ListN.{length, get_or, get_or-append}
use lib.Seq.{get_or-append-add}
use Rattle.grid.specs.Each.{each}
use Rattle.grid.proofs.All.{All}

pub all_at : {A : Type 0} (P : A → Type 0) (l : List A) (i : ℕ) (z : A) → All P l → i < length l → P (get_or l i z)
all_at P [] i z p b = absurd (not-suc-le-zero b)
all_at P (a ∷ l) zero z p b = p.0
all_at P (a ∷ l) (suc i) z p b = all_at P l i z p.1 (le_of_suc-le-suc b)

module _ {A B : Type 0} (k : ℕ) (f : A → List B) (g : (a : A) → length (f a) ≡ k) where
  pub each-entry : (l : List A) (i j : ℕ) (z : A) (d : B) → i < length l → j < k → get_or (each f l) (k * i + j) d ≡ get_or (f (get_or l i z)) j d
  unfolding each
  each-entry [] i j z d b c = absurd (not-suc-le-zero b)
  each-entry (a ∷ l) zero j z d b c =
      let n : k * 0 + j ≡ j = ap (λ (x : ℕ). x + j) (mul-zero k) ∙ zero-add j in
      rw n (get_or-append (f a) (each f l) d j (omega (arith, g a)))
  each-entry (a ∷ l) (suc i) j z d b c =
      let n : k * suc i + j ≡ length (f a) + (k * i + j) = omega (arith, g a, mul-suc k i) in
      rw n (get_or-append-add (f a) (each f l) (k * i + j) d ∙ each-entry l i j z d (le_of_suc-le-suc b) c)
