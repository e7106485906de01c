-- Sizes that fit: what a passed test says, what passes it, and then the plain promise of each entry. Assumes nothing.
use mathlib.Core.Path.{◌≡◌, sym}
use mathlib.Core.Bool.{true, cond, ◌&&◌}
use Prim.Native.Nat.{ℕ, ◌*◌, ◌≤◌, max}
use native.Mathlib.Nat.{mul-le-mul}
use native.Mathlib.Omega.{arith}
use borrow.Author.Tests.{leb-true, le-leb, ltb-true, lt-ltb}
use lib.Dec.{leb, ltb}
use Rattle.sizes.proofs.Fitting.{both_true, true_both}
use Rattle.upsample.specs.Upsample.{image_fits, row_fits, up_fits}
use Rattle.upsample.specs.Fitting.{FittingImage, FittingRow, FittingAll}

-- ---- what a test says

pub image-fitting : (factor w h pixels : ℕ) → image_fits factor w h pixels ≡ true → FittingImage factor w h pixels
unfolding image_fits
image-fitting factor w h pixels e =
    let sides = leb (max w h) 4096 in
    let a = both_true (leb 1 factor) (leb factor 2 && (sides && leb (w * h) pixels)) e in
    let b = both_true (leb factor 2) (sides && leb (w * h) pixels) a.1 in
    let c = both_true sides (leb (w * h) pixels) b.1 in
    let m = leb-true (max w h) 4096 c.0 in
    record {
      one = leb-true 1 factor a.0;
      two = leb-true factor 2 b.0;
      wide = omega arith;
      high = omega arith;
      inside = leb-true (w * h) pixels c.1;
    }

pub row-fitting : (factor w h y pixels room : ℕ) → row_fits factor w h y pixels room ≡ true → FittingRow factor w h y pixels room
unfolding row_fits
row-fitting factor w h y pixels room e =
    let a = both_true (image_fits factor w h pixels) (ltb y (factor * h) && leb (factor * w) room) e in
    let b = both_true (ltb y (factor * h)) (leb (factor * w) room) a.1 in
    record { image = image-fitting factor w h pixels a.0; row = ltb-true _ _ b.0; within = leb-true _ _ b.1 }

pub all_fitting : (factor w h pixels room : ℕ) → up_fits factor w h pixels room ≡ true → FittingAll factor w h pixels room
unfolding up_fits
all_fitting factor w h pixels room e =
    let a = both_true (image_fits factor w h pixels) (leb (factor * w * (factor * h)) room) e in
    record { image = image-fitting factor w h pixels a.0; within = leb-true _ _ a.1 }

-- the working image's sides and area are no more than these
pub record Sides (factor w h : ℕ) : Type 0 where
  pub wide : factor * w ≤ 8192
  pub high : factor * h ≤ 8192
  pub area : factor * w * (factor * h) ≤ 67108864

pub sides : {factor w h pixels : ℕ} → FittingImage factor w h pixels → Sides factor w h
sides f =
    let a = mul-le-mul f.two f.wide in
    let b = mul-le-mul f.two f.high in
    record { wide = a; high = b; area = mul-le-mul a b }

pub working_sides : (factor w h pixels : ℕ) → true ≡ image_fits factor w h pixels → Sides factor w h
working_sides factor w h pixels e = sides (image-fitting factor w h pixels (sym e))

-- ---- what passes it

pub image-fits : {factor w h pixels : ℕ} → FittingImage factor w h pixels → image_fits factor w h pixels ≡ true
unfolding image_fits
image-fits {w = w} {h = h} f =
    let sides : max w h ≤ 4096 = omega arith in
    true_both (le-leb _ _ f.one) (true_both (le-leb _ _ f.two) (true_both (le-leb _ _ sides) (le-leb _ _ f.inside)))

pub row_fits_lem : {factor w h y pixels room : ℕ} → FittingRow factor w h y pixels room → row_fits factor w h y pixels room ≡ true
unfolding row_fits
row_fits_lem f = true_both (image-fits f.image) (true_both (lt-ltb _ _ f.row) (le-leb _ _ f.within))

pub up_fits_lem : {factor w h pixels room : ℕ} → FittingAll factor w h pixels room → up_fits factor w h pixels room ≡ true
unfolding up_fits
up_fits_lem f = true_both (image-fits f.image) (le-leb _ _ f.within)

-- ---- so the plain value: old is what the buffer held

module _ {A : Type 0} {new after : A} (old : A) where
  pub row_plain : {factor w h y pixels room : ℕ} → FittingRow factor w h y pixels room
      → after ≡ cond (row_fits factor w h y pixels room) new old → after ≡ new
  row_plain f e = rw (row_fits_lem f) at e

  pub up_plain : {factor w h pixels room : ℕ} → FittingAll factor w h pixels room
      → after ≡ cond (up_fits factor w h pixels room) new old → after ≡ new
  up_plain f e = rw (up_fits_lem f) at e
