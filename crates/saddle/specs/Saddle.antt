-- The saddle test, over an image as a function: f x y is the pixel in column x of row y. Assumes nothing.
use Rattle.std.specs.Prelude.{Bool, false, cond, ◌&&◌, ℕ, ◌+◌, ◌-◌, ◌*◌, max, leb, length, pos, Float, Option, Some, None}
use mathlib.Core.List.{List, foldl}
use Rattle.std.specs.Float.{nan, inf, fin, binary32}
use Rattle.std.specs.Float.Ieee.{of_bits, of_int, minus, add, sub, mul, div, le}
use Rattle.float.specs.Values.{f0, f1}
use Rattle.grid.specs.Each.{keep}
use Rattle.grid.specs.Rect.{Place, rect}
use Rattle.sizes.specs.Fits.{square_fits}
use Rattle.scalar.specs.Root.{root_of}
use Rattle.saddle.specs.declared.SaddleTest.{SaddleTest}
use Rattle.saddle.specs.declared.Moments.{Moments}
use Rattle.saddle.specs.declared.Sums.{Sums}
use Rattle.saddle.specs.declared.Saddle.{Saddle}
use Rattle.saddle.specs.declared.Saddle.TheVariants.{Yes, Flat, Curved}

abbrev pub f4 : Float
f4 = of_bits binary32 0x4080_0000

abbrev pub f16 : Float
f16 = of_bits binary32 0x4180_0000

-- the least ratio of the two curvatures, 0.2
abbrev pub ratio : Float
ratio = of_bits binary32 0x3e4c_cccd

-- ---- Document 01: "offsets with dx²+dy² at most max(k², 2), rows of dy upward, dx upward within"

-- An offset is a place of the square of side 2 k + 1, counted from that square's first corner: column dx + k, row
-- dy + k.
abbrev pub side : ℕ → ℕ
side k = 2 * k + 1

-- i - k without its sign
abbrev pub apart : ℕ → ℕ → ℕ
apart i k = (i - k) + (k - i)

unfoldable pub in_disk : ℕ → Place → Bool
in_disk k p = leb (apart p.x k * apart p.x k + apart p.y k * apart p.y k) (max (k * k) 2)

unfoldable pub disk : ℕ → List Place
unfolding in_disk keep rect
disk k = keep (in_disk k) (rect 0 (side k) 0 (side k))

-- the offset i - k as a float
unfoldable pub offset : ℕ → ℕ → Float
offset k i = of_int binary32 (minus i k)

-- one step for each offset of the disk, in order, with dx and dy as floats
unfoldable pub over_disk : {A : Type 0} → ℕ → (Place → Float → Float → A → A) → A → A
unfolding offset disk
over_disk k step z = foldl (λ s p. step p (offset k p.x) (offset k p.y) s) z (disk k)

-- ---- what a radius fixes. Document 01: "sums, reciprocals and comparisons in the order and grouping of `SaddleTest`"

-- x² + y² - mean, and x² - y²
abbrev pub round_term : Float → Float → Float → Float
round_term mean dx dy = sub binary32 (add binary32 (mul binary32 dx dx) (mul binary32 dy dy)) mean

abbrev pub square_term : Float → Float → Float
square_term dx dy = sub binary32 (mul binary32 dx dx) (mul binary32 dy dy)

-- the sum of x² + y²; and, in the code alone, a count of the offsets in floats
unfoldable pub moment_added : Float → Float → Moments → Moments
moment_added dx dy s =
    record {
      n = add binary32 s.n f1;
      r2 = add binary32 s.r2 (add binary32 (mul binary32 dx dx) (mul binary32 dy dy));
    }

abbrev pub no_moments : Moments
no_moments = record { n = f0; r2 = f0 }

unfoldable pub moments_of : ℕ → Moments
unfolding moment_added over_disk
moments_of k = over_disk k (λ p. moment_added) no_moments

unfoldable pub mean_of : ℕ → Float
unfolding moments_of disk
mean_of k = div binary32 (moments_of k).r2 (of_int binary32 (pos (length (disk k))))

abbrev pub no_sums : Sums
no_sums = record { u = f0; v = f0; xy = f0 }

unfoldable pub norm_added : Float → Float → Float → Sums → Sums
norm_added mean dx dy s = record {
  u = add binary32 s.u (mul binary32 (round_term mean dx dy) (round_term mean dx dy));
  v = add binary32 s.v (mul binary32 (square_term dx dy) (square_term dx dy));
  xy = add binary32 s.xy (mul binary32 (mul binary32 (mul binary32 dx dx) dy) dy);
}

unfoldable pub norms_of : Float → ℕ → Sums
unfolding norm_added over_disk
norms_of mean k = over_disk k (λ p. norm_added mean) no_sums

-- Document 01: "The saddle numbers for a radius (mean and three inverse norms) form one record of floats"
unfoldable pub saddle_of : ℕ → SaddleTest
unfolding mean_of norms_of
saddle_of k = record {
  mean_r2 = mean_of k;
  inv_u = div binary32 f1 (norms_of (mean_of k) k).u;
  inv_v = div binary32 f1 (norms_of (mean_of k) k).v;
  inv_xy = div binary32 f1 (norms_of (mean_of k) k).xy;
}

-- the numbers of a radius from 1 to 7; there are none of another
abbrev pub no_numbers : SaddleTest
no_numbers = record { mean_r2 = f0; inv_u = f0; inv_v = f0; inv_xy = f0 }

unfoldable pub saddle_numbers : ℕ → SaddleTest
unfolding saddle_of
saddle_numbers k = cond (leb 1 k && leb k 7) (saddle_of k) no_numbers

-- ---- the image around a pixel

-- a pixel of value i at the offset dx, dy
unfoldable pub added : SaddleTest → Float → Float → Float → Sums → Sums
added t dx dy i s = record {
  u = add binary32 s.u (mul binary32 (round_term t.mean_r2 dx dy) i);
  v = add binary32 s.v (mul binary32 (square_term dx dy) i);
  xy = add binary32 s.xy (mul binary32 (mul binary32 dx dy) i);
}

-- the pixel at a place of the square around x, y
abbrev pub around : ℕ → (ℕ → ℕ → ℕ) → ℕ → ℕ → Place → Float
around k f x y p = of_int binary32 (pos (f (x + p.x - k) (y + p.y - k)))

unfoldable pub sums_of : SaddleTest → ℕ → (ℕ → ℕ → ℕ) → ℕ → ℕ → Sums
unfolding added over_disk
sums_of t k f x y = over_disk k (λ p dx dy s. added t dx dy (around k f x y p) s) no_sums

-- ---- the verdict

unfoldable pub magnitude : Float → Float
magnitude nan = nan
magnitude (inf s) = inf false
magnitude (fin s m e) = fin false m e

-- From the trace and the spread of the fitted curvatures. Flat is tested first: the spread times k² below 1. Then the
-- curvature: |tr| (1 + ratio) at most spread (1 - ratio).
unfoldable pub by_curvatures : ℕ → Float → Float → Saddle
unfolding magnitude
by_curvatures k tr spread =
    cond (le f1 (mul binary32 spread (of_int binary32 (pos (k * k)))))
    (cond (le (mul binary32 (magnitude tr) (add binary32 f1 ratio)) (mul binary32 spread (sub binary32 f1 ratio)))
    Yes Curved)
    Flat

-- 16 q q + 4 b b, from left to right
unfoldable pub squares : Float → Float → Float
squares q b = add binary32 (mul binary32 (mul binary32 f16 q) q) (mul binary32 (mul binary32 f4 b) b)

-- there is always a root where pixels are at most 4,095: crates/saddle_facts
abbrev pub by_root : ℕ → Float → Option Float → Saddle
by_root k tr (Some spread) = by_curvatures k tr spread
by_root k tr None = Flat

unfoldable pub judge : SaddleTest → ℕ → Sums → Saddle
unfolding by_curvatures squares
judge t k s =
    by_root k (mul binary32 f4 (mul binary32 s.u t.inv_u))
    (root_of (squares (mul binary32 s.v t.inv_v) (mul binary32 s.xy t.inv_xy)))

unfoldable pub saddle_at : SaddleTest → ℕ → (ℕ → ℕ → ℕ) → ℕ → ℕ → Saddle
unfolding judge sums_of
saddle_at t k f x y = judge t k (sums_of t k f x y)

-- ---- where the test can be made

-- the square of side 2 k + 1 around x, y lies in an image w wide and h high, and the image in a buffer of n entries
unfoldable pub disk_fits : ℕ → ℕ → ℕ → ℕ → ℕ → ℕ → Bool
disk_fits k n w h x y = leb k 7 && square_fits k n w h x y
