-- A table of how far the rows of a disk reach, held to the disk's definition by one test that is computed over every
-- radius, row and column. Assumes nothing.
use mathlib.Core.Path.{◌≡◌, refl}
use mathlib.Core.Bool.{Bool, true, false, ◌&&◌, beq}
use mathlib.Core.List.{List, []}
use Prim.Native.Nat.{ℕ, ◌+◌, ◌-◌, ◌≤◌, ◌<◌}
use native.Mathlib.Omega.{arith}
use lib.Dec.{T, ltb, leb, leb→le}
use lib.ListN.{get_or}
use lib.Ieee.Fits.{and_l, and_r}
use Rattle.float.proofs.Computed.{every, every_at}
use Rattle.grid.specs.Rect.{place}
use Rattle.saddle.specs.Saddle.{side, apart, in_disk}
use Rattle.saddle.specs.Steps.{Spans}

same : (a b : Bool) → T (beq a b) → a ≡ b
same true true t = refl
same true false t = absurd t
same false true t = absurd t
same false false t = refl

-- how far a row goes that lies d away from the middle one
abbrev entry : List (List ℕ) → ℕ → ℕ → ℕ
entry t k d = get_or (get_or t k []) d 0

right_at : ℕ → ℕ → ℕ → ℕ → Bool
right_at k y r x = beq (in_disk k (place x y)) (leb (k - r) x && ltb x (k + r + 1))

right_row : List (List ℕ) → ℕ → ℕ → Bool
right_row t k y = leb (entry t k (apart y k)) k && every (right_at k y (entry t k (apart y k))) (side k)

unfoldable pub right : List (List ℕ) → Bool
unfolding right_row right_at every in_disk
right t = every (λ k. every (right_row t k) (side k)) 8

module _ (t : List (List ℕ)) (h : T (right t)) (k : ℕ) (few : k ≤ 7) where
  row : (y : ℕ) → y < side k → T (right_row t k y)
  unfolding right
  row y b = every_at (right_row t k) (side k) (every_at (λ k. every (right_row t k) (side k)) 8 h k (omega arith)) y b

  pub spans : (y d : ℕ) → y < side k → d ≡ apart y k → Spans k y (k - entry t k d) (k + entry t k d + 1)
  unfolding right_row right_at
  spans y d b e =
      rw e
      (let r = entry t k (apart y k) in
      let reaches : r ≤ k = leb→le _ _ (and_l (leb r k) _ (row y b)) in
      record {
        some = omega arith;
        most = omega arith;
        is = λ x l. same _ _ (every_at (right_at k y r) (side k) (and_r (leb r k) _ (row y b)) x l);
      })
