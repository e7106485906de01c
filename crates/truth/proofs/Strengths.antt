-- The unblurred response of an eight-bit image is a whole number, at most 2 ^ 24, and comes from the image's own pixels. Assumes nothing.
use mathlib.Core.Path.{◌≡◌, refl, ap}
use mathlib.Core.Bool.{Bool, true, false, cond}
use Prim.Native.Nat.{ℕ, ◌*◌, ◌^◌, ◌≤◌, ◌<◌}
use native.Mathlib.Nat.{le_trans, mul-le-mul}
use native.Mathlib.Omega.{arith}
use lib.Dec.{T, lit≤}
use lib.Ieee.{of_bits}
use lib.Ieee.Exact.{HasValue}
use Rattle.float.specs.Values.{f0}
use Rattle.grid.specs.Ways.{Inside}
use Rattle.rays.specs.Response.{ray_spread, square, within, response_at}
use Rattle.rays.proofs.Inner.{inside_of, spread_ext}
use Rattle.rays.proofs.SpreadExact.{spread-most, exact}
use Rattle.truth.specs.Truth.{whole_at}

module _ (f : ℕ → ℕ → ℕ) (w h r : ℕ) where
  pub whole_ext : (g : ℕ → ℕ → ℕ) (x y : ℕ) → ((i j : ℕ) → i < w → j < h → f i j ≡ g i j)
      → whole_at f w h r x y ≡ whole_at g w h r x y
  unfolding whole_at
  whole_ext g x y e = at (within w h r x y) (inside_of w h r x y)
    where
      at : (b : Bool) → (T b → Inside w h r x y)
          → cond b (ray_spread f r x y * ray_spread f r x y) 0 ≡ cond b (ray_spread g r x y * ray_spread g r x y) 0
      at true m = ap (λ (s : ℕ). s * s) (spread_ext f g w h r x y (m tt) e)
      at false m = refl

  module _ (most : (x y : ℕ) → f x y ≤ 255) (l : r ≤ 7) (x y : ℕ) where
    pub whole-most : whole_at f w h r x y ≤ 2 ^ 24
    unfolding whole_at
    whole-most = at (within w h r x y)
      where
        narrow : ray_spread f r x y ≤ 3825
        narrow = omega (arith, spread-most f 255 r x y most)

        at : (b : Bool) → cond b (ray_spread f r x y * ray_spread f r x y) 0 ≤ 2 ^ 24
        at true = le_trans (mul-le-mul narrow narrow) (lit≤ tt)
        at false = lit≤ tt

    pub whole_is : HasValue (response_at f w h r x y) false (whole_at f w h r x y) 1
    unfolding whole_at response_at of_bits
    whole_is = at (within w h r x y)
      where
        at : (b : Bool) → HasValue (cond b (square (ray_spread f r x y)) f0) false (cond b (ray_spread f r x y * ray_spread f r x y) 0) 1
        at true = exact f r x y l most
        at false = (refl, refl)
