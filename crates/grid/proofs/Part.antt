-- Parts of a list. A row that another function fills, over a part `&mut out[a..e]` of the buffer: what comes back is the buffer with that part put in its place.
-- Assumes nothing.
use mathlib.Core.Path.{◌≡◌, refl, sym, ap}
use Prim.Native.Nat.{ℕ, zero, suc, ◌+◌, ◌-◌, ◌*◌, ◌<◌}
use native.Mathlib.Nat.{suc-add, zero-add}
use native.Mathlib.Omega.{arith}
use mathlib.Core.List.{List, [], ◌∷◌, ◌++◌}
use lib.ListN.{take, drop}
use lib.Seq.{take-nil, drop-nil}
use Rattle.grid.specs.Fill.{filled}
use Rattle.grid.proofs.Fill.{filled_nil, filled_ext, length-fill}
use Rattle.grid.specs.Plane.{plane}
use Rattle.grid.proofs.Plane.{plane-at, next_row}
use Rattle.grid.proofs.Loops.{Rows}

module _ {ℓ} {A : Type ℓ} where
  -- a part is a part of what is taken
  pub part_taken : (n k : ℕ) (l : List A) → take k (drop n l) ≡ drop n (take (n + k) l)
  part_taken zero k l = rw zero-add
  part_taken (suc n) k [] = rw (suc-add, take-nil)
  part_taken (suc n) k (x ∷ xs) = rw suc-add (part_taken n k xs)

  front : (k : ℕ) (f : ℕ → A) (xs : List A) → filled k f (take k xs) ++ drop k xs ≡ filled k f xs
  unfolding filled
  front zero f xs = refl
  front (suc k) f [] = refl
  front (suc k) f (x ∷ xs) = ap (λ (r : List A). f zero ∷ r) (front k (λ j. f (suc j)) xs)

  middle : (a k : ℕ) (f : ℕ → A) (xs : List A)
      → take a (filled a f xs) ++ (filled k (λ j. f (a + j)) (take k (drop a (filled a f xs))) ++ drop k (drop a (filled a f xs)))
      ≡ filled (a + k) f xs
  unfolding filled
  middle zero k f xs = simp zero-add (front k f xs)
  middle (suc a) k f [] = simp (take-nil, drop-nil, filled_nil)
  middle (suc a) k f (x ∷ xs) = simp suc-add (ap (λ (r : List A). f zero ∷ r) (middle a k (λ j. f (suc j)) xs))

  -- the first a entries are done, and the next k are filled as a part
  pub fill-part : (a k : ℕ) (f g : ℕ → A) (xs : List A) {ys : List A} → ys ≡ filled a f xs → ((j : ℕ) → j < k → g j ≡ f (a + j))
      → take a ys ++ (filled k g (take k (drop a ys)) ++ drop k (drop a ys)) ≡ filled (a + k) f xs
  fill-part a k f g xs h e = rw (h, filled_ext k g (λ j. f (a + j)) (take k (drop a (filled a f xs))) e) (middle a k f xs)

-- a turn of a loop over rows, where row y starts at i and a function fills `&mut out[i..i + w]`
module _ {ℓ} {A : Type ℓ} (w h : ℕ) (g : ℕ → ℕ → A) (xs : List A) where
  pub rows-part : {ys zs : List A} {y i : ℕ} → i ≡ y * w → Rows w h g xs ys y → y < h → zs ≡ filled w (λ x. g x y) (take (i + w - i) (drop i ys))
      → Rows w h g xs (take i ys ++ (zs ++ drop (i + w - i) (drop i ys))) (y + 1)
  rows-part {ys} {zs} {y} {i} e r b z = record { least = omega arith; most = omega arith; fill = fill; long = length-fill _ _ _ fill }
    where
      size : y * w + w - y * w ≡ w
      size = omega arith

      fill : take i ys ++ (zs ++ drop (i + w - i) (drop i ys)) ≡ filled ((y + 1) * w) (plane w g) xs
      fill = rw (z, e, size, next_row w y) (fill-part (y * w) w (plane w g) _ xs r.fill (λ j u. sym (plane-at u g y)))
