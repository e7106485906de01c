-- The peak fit of three map values along one axis: ym before the pixel, y0 at it, yp after it. Assumes nothing.
use Rattle.std.specs.Prelude.{Bool, cond, ◌&&◌, Float, Option, Some, None}
use Rattle.std.specs.Float.{binary32}
use Rattle.std.specs.Float.Ieee.{of_bits, add, sub, mul, div, lt, le}
use Rattle.float.specs.Values.{f0}
use Rattle.params.specs.declared.settings.PeakFitMode.{PeakFitMode}
use Rattle.params.specs.declared.settings.PeakFitMode.TheVariants.{Parabolic, Gaussian}
use Rattle.scalar.specs.Log.{log_of, terms, high}

abbrev pub f2 : Float
f2 = of_bits binary32 0x4000_0000

abbrev pub half : Float
half = of_bits binary32 0x3f00_0000

abbrev pub minus_half : Float
minus_half = of_bits binary32 0xbf00_0000

-- 2^32
abbrev pub greatest : Float
greatest = of_bits binary32 0x4f80_0000

-- -1e-12, the nearest f32
abbrev pub flat : Float
flat = of_bits binary32 0xab8c_bccc

-- ---- Document 01: "as `fit_peak_frac`, per axis. Denominator above −1e-12 (nearest f32) gives 0"

-- ym - 2 y0 + yp, from left to right
unfoldable pub denominator : Float → Float → Float → Float
denominator ym y0 yp = add binary32 (sub binary32 ym (mul binary32 f2 y0)) yp

-- From -0.5 to 0.5: on every number the Rust's `clamp` (`clamp_as_rust` of proofs/AsRust), and no NaN comes here
-- (`fit_as_rust`).
unfoldable pub clamped : Float → Float
clamped x = cond (le x half) (cond (le minus_half x) x minus_half) half

unfoldable pub peak_of : Float → Float → Float → Float
unfolding clamped denominator
peak_of ym y0 yp =
    cond (lt flat (denominator ym y0 yp)) f0
    (clamped (div binary32 (mul binary32 half (sub binary32 ym yp)) (denominator ym y0 yp)))

-- ---- Document 01: "Gaussian mode, three positive values: each is replaced by our logarithm"; and "three positive ones
-- with one outside the logarithm, gives 0"

abbrev pub peak_of_three : Option Float → Option Float → Option Float → Float
peak_of_three (Some ym) (Some y0) (Some yp) = peak_of ym y0 yp
peak_of_three (Some ym) (Some y0) None = f0
peak_of_three (Some ym) None p = f0
peak_of_three None c p = f0

unfoldable pub peak_of_logs : Float → Float → Float → Float
peak_of_logs m c p = peak_of_three (log_of terms high m) (log_of terms high c) (log_of terms high p)

unfoldable pub all_above : Float → Float → Float → Bool
all_above m c p = lt f0 m && (lt f0 c && lt f0 p)

unfoldable pub by_mode : PeakFitMode → Float → Float → Float → Float
unfolding all_above peak_of peak_of_logs
by_mode Parabolic m c p = peak_of m c p
by_mode Gaussian m c p = cond (all_above m c p) (peak_of_logs m c p) (peak_of m c p)

-- ---- Document 01: "Added: a number below 0, above 2^32 or NaN .. gives 0"

unfoldable pub usable : Float → Bool
usable y = le f0 y && le y greatest

unfoldable pub all_usable : Float → Float → Float → Bool
unfolding usable
all_usable m c p = usable m && (usable c && usable p)

unfoldable pub fit_of : PeakFitMode → Float → Float → Float → Float
unfolding by_mode all_usable
fit_of mode m c p = cond (all_usable m c p) (by_mode mode m c p) f0
