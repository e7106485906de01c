-- `blur::box_blur_inplace` meets its contract: the second pass over what the first one wrote where a blur is asked for and fits, and else nothing.
-- Assumes nothing.
use Rattle.std.proofs.Common.{◌≡◌, ◌≢◌, Bool, true, false, cond, length, refl, sym, ap, ◌∙◌, arith}
use Rattle.means.specs.Means.{value_at, map_fits}
use Rattle.blur.specs.Blur.{blur_fits}
use Rattle.blur.specs.Fitting.{FittingMaps}
use Rattle.blur.proofs.BlurLaws.{blur_none, scratch-none, blur_some, scratch-some}
use Rattle.blur.proofs.Fits.{maps_fitting}
use Rattle.blur.proofs.box_blur_inplace.Goals.{Then-map_fits, else-radius-gt0-via-then-radius-gt0+else-map_fits, else-radius-gt0-via-else-radius-gt0}
use Rattle.blur.proofs.box_blur_inplace.Goals as goal

passed : (c : Then-map_fits) →
    let p = c.args in
    blur_fits p.w p.h p.radius (length p.resp.now) (length p.scratch.now) ≡ true
passed c = ap (map_fits _ _ _) (sym c.min-room.ensures) ∙ sym c.map_fits.ensures ∙ c.if-map_fits.true

fitted : (c : Then-map_fits) →
    let p = c.args in
    FittingMaps p.w p.h p.radius (length p.resp.now) (length p.scratch.now)
fitted c = maps_fitting _ _ _ _ _ (passed c)

-- what is written is what stands there
either : {A : Type 0} (b : Bool) {x y : A} → y ≡ x → y ≡ cond b x y
either true e = e
either false e = refl

pub blur_rows-requires : goal.blur_rows-requires
blur_rows-requires c = fitted (goal.at.blur_rows-requires c).Then-map_fits

pub blur_columns-requires : goal.blur_columns-requires
blur_columns-requires c =
    let f = fitted (goal.at.blur_columns-requires c).Then-map_fits in
    let long = c.blur_rows.auto.scratch in
    record { few = f.few; wide = f.wide; high = f.high; source = omega (arith, f.target, long); target = f.source }

pub returns-then-map_fits-clause-resp_after : goal.returns-then-map_fits-clause-resp_after
returns-then-map_fits-clause-resp_after c =
    let p = c.args in
    let t = (goal.at.returns-then-map_fits-clause-resp_after c).Then-map_fits in
    let f = fitted t in
    let n : p.radius ≢ 0 = omega arith in
    rw (passed t) (blur_some p.w p.h p.radius n (value_at p.resp.now p.w) p.scratch.now p.resp.now f.target c.blur_rows.ensures c.blur_columns.ensures)

pub returns-then-map_fits-clause-scratch_after : goal.returns-then-map_fits-clause-scratch_after
returns-then-map_fits-clause-scratch_after c =
    let p = c.args in
    let t = (goal.at.returns-then-map_fits-clause-scratch_after c).Then-map_fits in
    let n : p.radius ≢ 0 = omega arith in
    rw (passed t) (scratch-some p.w p.h p.radius n (value_at p.resp.now p.w) p.scratch.now c.blur_rows.ensures)

pub returns-else-radius-gt0-clause-resp_after : goal.returns-else-radius-gt0-clause-resp_after
returns-else-radius-gt0-clause-resp_after c =
    let p = c.args in
    elim c.else-radius-gt0.branch [
      | else-radius-gt0-via-then-radius-gt0+else-map_fits w ↦
          rw (ap (map_fits p.w p.h p.radius) (sym c.min-room.ensures) ∙ sym w.map_fits.ensures ∙ w.if-map_fits.false)
      | else-radius-gt0-via-else-radius-gt0 w ↦ either _ (blur_none p.w p.h p.radius p.resp.now (omega arith))
    ]

pub returns-else-radius-gt0-clause-scratch_after : goal.returns-else-radius-gt0-clause-scratch_after
returns-else-radius-gt0-clause-scratch_after c =
    let p = c.args in
    elim c.else-radius-gt0.branch [
      | else-radius-gt0-via-then-radius-gt0+else-map_fits w ↦
          rw (ap (map_fits p.w p.h p.radius) (sym c.min-room.ensures) ∙ sym w.map_fits.ensures ∙ w.if-map_fits.false)
      | else-radius-gt0-via-else-radius-gt0 w ↦ either _ (scratch-none _ p.w p.h p.radius p.scratch.now (omega arith))
    ]
