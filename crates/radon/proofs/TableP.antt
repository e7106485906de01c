-- Document 01's numbers P1 to P10 under one claim (P): what the definitions compute is what the document states, and P10 holds of every image.
-- Assumes nothing.
use mathlib.Core.Path.{◌≡◌, refl, sym}
use mathlib.Core.Bool.{cond}
use mathlib.Core.List.{List, [], ◌∷◌}
use Prim.Native.Nat.{ℕ, ◌+◌, ◌-◌, ◌*◌}
use lib.Dec.{ltb, lit≤}
use lib.IntN.{pos}
use lib.ListN.{length}
use lib.Ieee.{Float, binary32, of_bits, to_bits, of_int, add, sub, mul, div, le, lt, round, units, odd, size, span, climb}
use Rattle.float.specs.Values.{f0, f1}
use Rattle.grid.specs.Fold.{fold}
use Rattle.grid.specs.Each.{each, keep}
use Rattle.grid.specs.Rect.{from, range, line, rect}
use Rattle.grid.specs.Ways.{pixel, along, down, fall, rise, ray}
use Rattle.params.specs.declared.settings.PeakFitMode.TheVariants.{Parabolic}
use Rattle.upsample.specs.Upsample.{up_at}
use Rattle.rays.specs.Response.{ray_spread, square, response_at}
use Rattle.means.specs.Means.{value_at, window_sum, mean_at, column_mean}
use Rattle.blur.specs.Blur.{row_mean, blur_at}
use Rattle.rays.proofs.Inner.{narrow_zero}
use Rattle.saddle.specs.Saddle.{disk}
use Rattle.peak_fit.specs.PeakFit.{fit_of}

-- a whole number as an f32, by its pattern; 2 and 3
abbrev whole : ℕ → ℕ
whole n = to_bits binary32 (of_int binary32 (pos n))

abbrev f2 : Float
f2 = of_bits binary32 0x4000_0000

abbrev f3 : Float
f3 = of_bits binary32 0x4040_0000

-- the frame: "7 by 7, pixels 200 where (x−3)(y−3) is positive, 0 where negative, 100 elsewhere"
unfoldable pub frame : ℕ → ℕ → ℕ
frame x y = cond (ltb 0 ((x - 3) * (y - 3) + (3 - x) * (3 - y))) 200 (cond (ltb 0 ((x - 3) * (3 - y) + (3 - x) * (y - 3))) 0 100)

-- P1's image, and P9's map
abbrev row01 : ℕ → ℕ → ℕ
row01 = pixel (0 ∷ 1 ∷ []) 2

abbrev map030 : ℕ → ℕ → Float
map030 = value_at (f0 ∷ f3 ∷ f0 ∷ []) 3

-- what the definitions compute: whole numbers, and floats by their patterns
abbrev pub computed : List ℕ
computed =
    -- P1 row 0, 1 upsampled
    up_at row01 2 1 0 0 ∷ up_at row01 2 1 1 0 ∷ up_at row01 2 1 2 0 ∷ up_at row01 2 1 3 0
    ∷ up_at row01 2 1 0 1 ∷ up_at row01 2 1 1 1 ∷ up_at row01 2 1 2 1 ∷ up_at row01 2 1 3 1
    -- P2 rows (1,1),(0,0) and P3 rows (0,1),(0,0), at (1,1)
    ∷ up_at (pixel (1 ∷ 1 ∷ 0 ∷ 0 ∷ []) 2) 2 2 1 1
    ∷ up_at (pixel (0 ∷ 1 ∷ 0 ∷ 0 ∷ []) 2) 2 2 1 1
    -- P4 the frame's rays at (3,3) and its response; P5 at (2,3); P6 at (2,2)
    ∷ ray along frame 1 3 3 ∷ ray down frame 1 3 3 ∷ ray fall frame 1 3 3 ∷ ray rise frame 1 3 3
    ∷ to_bits binary32 (response_at frame 7 7 1 3 3)
    ∷ to_bits binary32 (response_at frame 7 7 1 2 3)
    ∷ to_bits binary32 (response_at frame 7 7 1 2 2)
    -- P7 disk sizes for radius 1 to 7
    ∷ length (disk 1) ∷ length (disk 2) ∷ length (disk 3) ∷ length (disk 4) ∷ length (disk 5) ∷ length (disk 6) ∷ length (disk 7)
    -- P8 parabolic fits of (1,2,2), (2,2,1), (1,2,3)
    ∷ to_bits binary32 (fit_of Parabolic f1 f2 f2) ∷ to_bits binary32 (fit_of Parabolic f2 f2 f1) ∷ to_bits binary32 (fit_of Parabolic f1 f2 f3)
    -- P9 a 3 by 1 map 0, 3, 0 blurred by 1
    ∷ to_bits binary32 (blur_at map030 3 1 1 0 0) ∷ to_bits binary32 (blur_at map030 3 1 1 1 0) ∷ to_bits binary32 (blur_at map030 3 1 1 2 0)
    ∷ []

-- what document 01 states
abbrev pub stated : List ℕ
stated =
    -- P1
    0 ∷ 1 ∷ 1 ∷ 1
    ∷ 0 ∷ 1 ∷ 1 ∷ 1
    -- P2, P3
    ∷ 1
    ∷ 0
    -- P4, P5, P6
    ∷ 300 ∷ 300 ∷ 500 ∷ 100
    ∷ whole 160000
    ∷ whole 40000
    ∷ whole 10000
    -- P7
    ∷ 9 ∷ 13 ∷ 29 ∷ 49 ∷ 81 ∷ 113 ∷ 149
    -- P8: 0.5, −0.5, 0
    ∷ 0x3f00_0000 ∷ 0xbf00_0000 ∷ 0
    -- P9: 1.5, 1, 1.5
    ∷ 0x3fc0_0000 ∷ 0x3f80_0000 ∷ 0x3fc0_0000
    ∷ []

-- P10 a 2 by 2 map at ray 1 is all zero, whatever the image
abbrev pub P10 : Type 0
P10 = (f : ℕ → ℕ → ℕ) (x y : ℕ) → response_at f 2 2 1 x y ≡ f0

pub P : (computed ≡ stated) × P10
unfolding up_at ray fold frame response_at square ray_spread blur_at column_mean row_mean mean_at window_sum
    disk keep each rect line range from fit_of
    of_bits to_bits of_int add sub mul div le lt round units odd size span climb
P = (refl, λ f x y. sym (narrow_zero f 2 2 1 x y (lit≤ tt)))
