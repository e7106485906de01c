-- Sizes that fit: what a passed test says, what passes it, and then the plain promise of the entry. Assumes nothing.
use mathlib.Core.Path.{◌≡◌}
use mathlib.Core.Bool.{true, cond}
use Prim.Native.Nat.{ℕ, min}
use native.Mathlib.Omega.{arith}
use Rattle.means.proofs.Fits.{map-fitting, map-fits}
use Rattle.blur.specs.Blur.{blur_fits}
use Rattle.blur.specs.Fitting.{FittingMaps}

pub maps_fitting : (w h r size room : ℕ) → blur_fits w h r size room ≡ true → FittingMaps w h r size room
maps_fitting w h r size room e =
    let m = map-fitting w h r (min size room) e in
    let i = m.1.inside in
    record { few = m.0; wide = m.1.wide; high = m.1.high; source = omega arith; target = omega arith }

pub maps_fit : {w h r size room : ℕ} → FittingMaps w h r size room → blur_fits w h r size room ≡ true
maps_fit f = map-fits f.few (record { wide = f.wide; high = f.high; inside = omega arith })

-- so the plain value: old is what the buffer held
pub blur_plain : {A : Type 0} {new after : A} (old : A) {w h r size room : ℕ} → FittingMaps w h r size room
    → after ≡ cond (blur_fits w h r size room) new old → after ≡ new
blur_plain old f e = rw (maps_fit f) at e
