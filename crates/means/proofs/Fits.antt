-- Sizes that fit: what a passed test says, what passes it, and then the plain promise of each entry. Assumes nothing.
use mathlib.Core.Path.{◌≡◌}
use mathlib.Core.Bool.{true, cond, ◌&&◌}
use Prim.Native.Nat.{ℕ, ◌*◌, ◌≤◌, ◌<◌}
use native.Mathlib.Omega.{arith}
use borrow.Author.Tests.{leb-true, le-leb, ltb-true, lt-ltb}
use lib.Dec.{leb, ltb}
use Rattle.sizes.specs.Fits.{fits_in}
use Rattle.sizes.proofs.Fitting.{both_true, true_both, Fitting, fitting, fits_so}
use Rattle.means.specs.Means.{map_fits, row_fits, column_fits}

-- ---- what a test says

pub map-fitting : (w h r room : ℕ) → map_fits w h r room ≡ true → (r ≤ 3) × Fitting w h room
unfolding map_fits
map-fitting w h r room e =
    let a = both_true (leb r 3) (fits_in w h room) e in
    (leb-true r 3 a.0, fitting w h room a.1)

-- for one row
pub row-fitting : (n r room : ℕ) → row_fits n r room ≡ true → (r ≤ 3) × (n ≤ 8192) × (n ≤ room)
row-fitting n r room e =
    let a = map-fitting n 1 r room e in
    (a.0, a.1.wide, omega (arith, a.1.inside))

-- for row y of the columns' means
pub record FittingColumn (w h y r size room : ℕ) : Type 0 where
  pub few : r ≤ 3
  pub wide : w ≤ 8192
  pub high : h ≤ 8192
  pub source : w * h ≤ size
  pub row : y < h
  pub within : w ≤ room

pub column_fitting : (w h y r size room : ℕ) → column_fits w h y r size room ≡ true → FittingColumn w h y r size room
unfolding column_fits
column_fitting w h y r size room e =
    let a = both_true (map_fits w h r size) (ltb y h && leb w room) e in
    let b = both_true (ltb y h) (leb w room) a.1 in
    let m = map-fitting w h r size a.0 in
    record {
      few = m.0;
      wide = m.1.wide;
      high = m.1.high;
      source = m.1.inside;
      row = ltb-true y h b.0;
      within = leb-true w room b.1;
    }

-- ---- what passes it

pub map-fits : {w h r room : ℕ} → r ≤ 3 → Fitting w h room → map_fits w h r room ≡ true
unfolding map_fits
map-fits {r = r} a f = true_both (le-leb r 3 a) (fits_so f)

pub row_fits_lem : {n r room : ℕ} → r ≤ 3 → n ≤ 8192 → n ≤ room → row_fits n r room ≡ true
row_fits_lem a b c = map-fits a (record { wide = b; high = omega arith; inside = omega arith })

pub column_fits_lem : {w h y r size room : ℕ} → FittingColumn w h y r size room → column_fits w h y r size room ≡ true
unfolding column_fits
column_fits_lem {w} {h} {y} {r} {size} {room} f =
    let m : Fitting w h size = record { wide = f.wide; high = f.high; inside = f.source } in
    true_both (map-fits f.few m) (true_both (lt-ltb y h f.row) (le-leb w room f.within))

-- ---- so the plain value: old is what the buffer held

module _ {A : Type 0} {new after : A} (old : A) where
  pub row_plain : {n r room : ℕ} → r ≤ 3 → n ≤ 8192 → n ≤ room → after ≡ cond (row_fits n r room) new old → after ≡ new
  row_plain a b c e = rw (row_fits_lem a b c) at e

  pub column_plain : {w h y r size room : ℕ} → FittingColumn w h y r size room → after ≡ cond (column_fits w h y r size room) new old → after ≡ new
  column_plain f e = rw (column_fits_lem f) at e
