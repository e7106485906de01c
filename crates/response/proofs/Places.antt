-- What the map's definitions have at one place, in the words of the demands: the unblurred value is the squared spread of four rays or zero,
-- and every value is an f32. Assumes nothing.
use mathlib.Core.Path.{◌≡◌, sym}
use mathlib.Core.Bool.{false}
use Prim.Native.Nat.{ℕ, ◌*◌, ◌≤◌, ◌<◌}
use lib.Dec.{T}
use lib.IntN.{pos}
use lib.Ieee.{binary32, fits, of_bits, of_int}
use lib.Ieee.Exact.{HasValue}
use lib.Ieee.Fits.{mul-fits, cond-fits}
use Rattle.float.specs.Values.{f0}
use Rattle.grid.specs.Ways.{Inside}
use Rattle.upsample.specs.Upsample.{work_at}
use Rattle.upsample.proofs.RoundedQuarter.{work_most}
use Rattle.rays.specs.Response.{square, ray_spread, within, response_at}
use Rattle.rays.proofs.Inner.{within_of, response_out, spread_ext}
use Rattle.rays.proofs.SpreadExact.{exact}
use Rattle.blur.specs.Blur.{blur_at}
use Rattle.blur.proofs.BlurLaws.{blur_fits}
use Rattle.response.specs.Map.{raw_at, map_at}

-- ---- the unblurred response

module _ (factor ray : ℕ) (f : ℕ → ℕ → ℕ) (w h x y : ℕ) where
  -- g is the working image wherever that has a pixel
  pub raw_squared : ((x y : ℕ) → f x y ≤ 255) → ray ≤ 7 → Inside (factor * w) (factor * h) ray x y
      → (g : ℕ → ℕ → ℕ) → ((x y : ℕ) → x < factor * w → y < factor * h → g x y ≡ work_at factor f w h x y)
      → HasValue (raw_at factor ray f w h x y) false (ray_spread g ray x y * ray_spread g ray x y) 1
  unfolding raw_at response_at
  raw_squared most r m g e =
      rw (within_of (factor * w) (factor * h) ray x y m, spread_ext g (work_at factor f w h) (factor * w) (factor * h) ray x y m e)
      (exact (work_at factor f w h) ray x y r (λ x y. work_most factor f w h x y 255 most))

  pub raw_border : (Inside (factor * w) (factor * h) ray x y → ⊥) → raw_at factor ray f w h x y ≡ f0
  unfolding raw_at
  raw_border n = sym (response_out (work_at factor f w h) (factor * w) (factor * h) ray x y n)

  pub unblurred : {blur : ℕ} → blur ≡ 0 → map_at factor ray blur f w h x y ≡ raw_at factor ray f w h x y
  unfolding map_at blur_at
  unblurred e = rw e

-- ---- every map value is an f32

zero_fits : T (fits binary32 f0)
unfolding of_bits fits
zero_fits = tt

response-fits : (f : ℕ → ℕ → ℕ) (w h r x y : ℕ) → T (fits binary32 (response_at f w h r x y))
unfolding response_at square
response-fits f w h r x y =
    let n = of_int binary32 (pos (ray_spread f r x y)) in
    cond-fits binary32 (within w h r x y) (square (ray_spread f r x y)) f0 (mul-fits binary32 n n) zero_fits

pub map-fits : (factor ray blur : ℕ) (f : ℕ → ℕ → ℕ) (w h x y : ℕ) → T (fits binary32 (map_at factor ray blur f w h x y))
unfolding map_at raw_at
map-fits factor ray blur f w h x y =
    blur_fits (raw_at factor ray f w h) (factor * w) (factor * h) blur x y (response-fits (work_at factor f w h) (factor * w) (factor * h) ray x y)
