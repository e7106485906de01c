-- `ray_response`: the passes one after the other, where the sizes fit. Assumes nothing.
use Rattle.std.proofs.Common.{ℕ, ◌&&◌, leb, length, arith, ap, ◌∙◌}
use Rattle.grid.specs.Ways.{pixel}
use Rattle.sizes.specs.Fits.{fits_in}
use Rattle.cumsums.proofs.Running.{pixel-most}
use Rattle.rays.specs.Lent.{tabled_now}
use Rattle.rays.proofs.Showing.{Four, tables_of}
use Rattle.rays.proofs.Fit.{Fitted, when_so, when_built, when_done}
use Rattle.rays.proofs.ray_response.Goals.{Then-rays_fit, After-build_cumsums}
use Rattle.rays.proofs.ray_response.Goals as goal

fit : (c : Then-rays_fit)
    → Fitted c.args.size.w c.args.size.h c.args.size.r (length c.args.img.now) (tabled_now c.args.lent.now c.args.response.now)
fit c =
    let e = ap (λ (k : ℕ). leb c.args.size.r 7 && fits_in c.args.size.w c.args.size.h k) c.room-room.ensures in
    when_so (pixel c.args.img.now c.args.size.w) c.args.size.w c.args.size.h c.args.size.r (length c.args.img.now)
    (tabled_now c.args.lent.now c.args.response.now) (rw c.min.ensures at (c.rays_fit.ensures ∙ e)) c.if-rays_fit.true

built : (c : After-build_cumsums)
    → Fitted c.args.size.w c.args.size.h c.args.size.r (length c.args.img.now) (tabled_now c.args.lent.now c.args.response.now)
    → Four (pixel c.args.img.now c.args.size.w) c.args.size.w c.args.size.h (tabled_now c.args.lent.now c.args.response.now)
    c.build_cumsums.new.lent.row.now c.build_cumsums.new.lent.col.now c.build_cumsums.new.lent.falling.now c.build_cumsums.new.lent.rising.now
built c m =
    when_built (pixel c.args.img.now c.args.size.w) c.args.size.w c.args.size.h c.args.size.r (length c.args.img.now)
    (tabled_now c.args.lent.now c.args.response.now) m c.build_cumsums.ensures.filled

pub invariant_of-tables : goal.invariant_of-tables
invariant_of-tables c =
    let m = fit (goal.at.invariant_of-tables c).Then-rays_fit in
    let e = built (goal.at.invariant_of-tables c).After-build_cumsums m in
    record {
      short = m.short;
      held = tables_of e m.wide m.high (λ x y. omega (arith, pixel-most c.args.img.now c.args.size.w (λ k. omega (arith, c.type_inv.img k)) x y));
    }

pub returns-then-rays_fit-clause-filled : goal.returns-then-rays_fit-clause-filled
returns-then-rays_fit-clause-filled c =
    let m = fit (goal.at.returns-then-rays_fit-clause-filled c).Then-rays_fit in
    let e = built (goal.at.returns-then-rays_fit-clause-filled c).After-build_cumsums m in
    when_done (pixel c.args.img.now c.args.size.w) c.args.size.w c.args.size.h c.args.size.r (length c.args.img.now)
    (tabled_now c.args.lent.now c.args.response.now) m e c.compute_response.ensures
