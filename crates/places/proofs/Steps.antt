-- A step of the view's proofs: a row inside ends within the response. Assumes nothing.
use mathlib.Core.Path.{◌≡◌, ◌∙◌}
use mathlib.Core.Bool.{true, and-false, true≢false}
use Prim.Native.Nat.{ℕ, ◌+◌, ◌*◌, ◌≤◌, ◌<◌}
use native.Mathlib.Decide.{dec_le}
use native.Mathlib.Omega.{arith}
use borrow.Author.Tests.{lt-leb, le-ltb}
use Rattle.grid.proofs.Plane.{row_in}
use Rattle.places.specs.Places.{whole, row_inside}

-- a row inside ends within the first slice
pub row_ends : (m n w h y : ℕ) → true ≡ row_inside m n w h y → y * w + w ≤ m
unfolding row_inside whole
row_ends m n w h y t = go (dec_le (y + 1) h) (dec_le (w * h) m)
  where
    go : Dec (y + 1 ≤ h) → Dec (w * h ≤ m) → y * w + w ≤ m
    go (yes p) (yes q) =
        let l : y < h = omega arith in
        omega (arith, row_in w l)
    go (yes p) (no q) = absurd (true≢false (t ∙ simp (lt-leb (w * h) m (omega arith), and-false)))
    go (no p) q = absurd (true≢false (t ∙ simp (le-ltb y h (omega arith))))
