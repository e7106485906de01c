-- Where the disk fits, `accepts` tells what the saddle test says, and for a radius from 1 to 7 `new` gives its numbers:
-- the plain values, for the callers. Assumes nothing.
use mathlib.Core.Path.{◌≡◌, ◌∙◌}
use mathlib.Core.Bool.{true, ◌&&◌, cond}
use Prim.Native.Nat.{ℕ, ◌≤◌}
use borrow.Author.Tests.{leb-true, le-leb}
use lib.Dec.{leb}
use Rattle.sizes.specs.Fits.{square_fits}
use Rattle.sizes.proofs.Fitting.{both_true, true_both, square-fitting, square_so}
use Rattle.saddle.specs.declared.SaddleTest.{SaddleTest}
use Rattle.saddle.specs.declared.Saddle.{Saddle}
use Rattle.saddle.specs.declared.Saddle.TheVariants.{Flat}
use Rattle.saddle.specs.Saddle.{saddle_of, saddle_numbers, saddle_at, disk_fits}
use Rattle.saddle.specs.Steps.{Around}

-- ---- the radius

pub numbers_plain : (k : ℕ) → 1 ≤ k → k ≤ 7 → saddle_numbers k ≡ saddle_of k
unfolding saddle_numbers
numbers_plain k a b = rw (le-leb 1 k a, le-leb k 7 b)

pub radius_fits : (k : ℕ) → leb 1 k && leb k 7 ≡ true → k ≤ 7
radius_fits k e = leb-true k 7 (both_true (leb 1 k) (leb k 7) e).1

-- ---- the disk

pub around : (k n w h x y : ℕ) → disk_fits k n w h x y ≡ true → Around k n w h x y
unfolding disk_fits
around k n w h x y e =
    let a = both_true (leb k 7) (square_fits k n w h x y) e in
    let s = square-fitting k n w h x y a.1 in
    record {
      small = leb-true k 7 a.0;
      wide = s.map.wide;
      high = s.map.high;
      inside = record { left = s.left; right = s.right; above = s.above; below = s.below };
      room = s.map.inside;
    }

module _ {k n w h x y : ℕ} (r : Around k n w h x y) where
  pub disk_fits_so : disk_fits k n w h x y ≡ true
  unfolding disk_fits
  disk_fits_so =
      let i = r.inside in
      true_both (le-leb k 7 r.small) (square_so (record {
        map = record { wide = r.wide; high = r.high; inside = r.room };
        left = i.left;
        right = i.right;
        above = i.above;
        below = i.below;
      }))

  pub accepts_plain : (t : SaddleTest) (g : ℕ → ℕ → ℕ) {d : Saddle}
      → d ≡ cond (disk_fits k n w h x y) (saddle_at t k g x y) Flat → d ≡ saddle_at t k g x y
  accepts_plain t g e = e ∙ rw disk_fits_so
