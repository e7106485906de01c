-- Values worked out, E and N beside the f32: in document 01's frame, in windows that are cut, and in a frame on which 2 ^ 21 for 2 ^ 20 would not do.
-- Assumes nothing.
use mathlib.Core.Path.{◌≡◌, refl}
use mathlib.Core.Bool.{cond, ◌&&◌}
use mathlib.Core.List.{List, [], ◌∷◌}
use Prim.Native.Nat.{ℕ, ◌*◌, ◌^◌, ◌<◌}
use lib.Dec.{lit<, eqb}
use lib.ListN.{length, get_or}
use lib.Ieee.{of_bits, of_int, add, mul, div, sum, round, units, odd, size, span, climb}
use lib.Ieee.Positive.{num, den}
use Rattle.grid.specs.Each.{each}
use Rattle.grid.specs.Fold.{fold}
use Rattle.grid.specs.Rect.{from, range, line, rect}
use Rattle.grid.specs.Ways.{ray}
use Rattle.upsample.specs.Upsample.{work_at}
use Rattle.rays.specs.Response.{ray_spread, square, response_at}
use Rattle.means.specs.Means.{window_sum, mean_at, column_mean}
use Rattle.blur.specs.Blur.{row_mean, blur_at}
use Rattle.response.specs.Map.{raw_at, map_at}
use Rattle.radon.proofs.TableP.{frame}
use Rattle.truth.specs.Truth.{whole_at, window, total, apart}

-- N: whole in the middle, cut at a corner, at the right edge and at the lower one, and the pixel alone
pub pixels : (length (window 7 7 3 3 3) ≡ 49) × (length (window 7 7 3 0 0) ≡ 16) × (length (window 7 7 3 6 3) ≡ 28) × (length (window 7 7 2 3 6) ≡ 15)
    × (length (window 7 7 0 6 6) ≡ 1)
unfolding window rect range line each from
pixels = (refl, refl, refl, refl, refl)

-- in the middle m of an image f of n by n pixels, at ray radius r and blur radius 3: E and N, the f32 as a fraction, and by how much the f32
-- times N and E differ, times the fraction's denominator
unfoldable pub shown : (ℕ → ℕ → ℕ) → ℕ → ℕ → ℕ → List ℕ
shown f n r m =
    let E = total (whole_at (work_at 1 f n n) n n r) (window n n 3 m m) in
    let N = length (window n n 3 m m) in
    let v = map_at 1 r 3 f n n m m in
    E ∷ N ∷ num v ∷ den v ∷ apart (num v * N) (E * den v) ∷ []

-- upright stripes, but for one pixel; found by search
abbrev stripes : List ℕ
stripes = 4 ∷ 6 ∷ 5 ∷ 5 ∷ 5 ∷ 5 ∷ 0 ∷ 246 ∷ 246 ∷ 53 ∷ 53 ∷ 53 ∷ 53 ∷ 53 ∷ 3 ∷ 11 ∷ 1 ∷ 9 ∷ 7 ∷ 5 ∷ 5 ∷ []

unfoldable pub far : ℕ → ℕ → ℕ
far x y = cond (eqb x 0 && eqb y 9) 0 (get_or stripes x 0)

-- document 01's frame at ray radius 1, and the stripes at ray radius 7
pub worked : (shown frame 7 1 3 ≡ 440000 ∷ 49 ∷ 9195103 ∷ 1024 ∷ 47 ∷ []) × (shown far 21 7 10 ≡ 117479618 ∷ 49 ∷ 2397542 ∷ 1 ∷ 60 ∷ [])
unfolding shown frame far whole_at window total rect range line each from work_at ray fold ray_spread map_at raw_at blur_at column_mean row_mean mean_at window_sum response_at square of_int of_bits add sum mul div round units odd size span climb
worked = (refl, refl)

-- 47 / 1,024 is less than a 2 ^ 20th part of 440,000; 60 is more than a 2 ^ 21st part of 117,479,618, so the bound cannot be halved
pub within_bound : 47 * 2 ^ 20 < 440000 * 1024
within_bound = lit< tt

pub past_half : 117479618 < 60 * 2 ^ 21
past_half = lit< tt
