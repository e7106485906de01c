-- `means::row_means` meets its contract: the means where they fit, and nothing where they do not. Assumes nothing.
use Rattle.std.proofs.Common.{◌≡◌, ◌≤◌, length, refl, arith}
use mathlib.Core.Path.{sym, ◌∙◌}
use lib.ListN.{take, length-take}
use mathlib.Core.Bool.{true}
use Rattle.grid.proofs.Fill.{length-fill}
use Rattle.means.specs.Means.{row_fits}
use Rattle.means.proofs.Fits.{row-fitting}
use Rattle.means.proofs.Steps.{first_part, row_means}
use Rattle.means.proofs.row_means.Goals.{Then-map_fits}
use Rattle.means.proofs.row_means.Goals as goal

passed : (c : Then-map_fits) →
    let p = c.args in
    row_fits (length p.src.now) p.radius (length p.dst.now) ≡ true
passed c = sym c.map_fits.ensures ∙ c.if-map_fits.true

fitted : (c : Then-map_fits) →
    let p = c.args in
    (p.radius ≤ 3) × (length p.src.now ≤ 8192) × (length p.src.now ≤ length p.dst.now)
fitted c = row-fitting _ _ _ (passed c)

-- the part of dst that is written
part : (c : Then-map_fits) →
    let p = c.args in
    length (take (length p.src.now) p.dst.now) ≡ length p.src.now
part c = simp length-take (omega (arith, fitted c))

pub slice_bounds-row-end : goal.slice_bounds-row-end
slice_bounds-row-end c = (fitted c).2

pub slice_bounds-row-end-then-map_fits : goal.slice_bounds-row-end-then-map_fits
slice_bounds-row-end-then-map_fits c = sym (part (goal.at.slice_bounds-row-end-then-map_fits c).Then-map_fits)

pub invariant_of-windows : goal.invariant_of-windows
invariant_of-windows c =
    let f = fitted (goal.at.invariant_of-windows c).Then-map_fits in
    record { short = f.1; narrow = f.0 }

pub sum_row-requires : goal.sum_row-requires
sum_row-requires c = (refl, part (goal.at.sum_row-requires c).Then-map_fits)

pub divide_row-requires : goal.divide_row-requires
divide_row-requires c = length-fill _ _ _ c.sum_row.ensures ∙ part (goal.at.divide_row-requires c).Then-map_fits

pub returns-then-map_fits : goal.returns-then-map_fits
returns-then-map_fits c =
    let t = (goal.at.returns-then-map_fits c).Then-map_fits in
    rw (passed t) (first_part _ _ _ (row_means c.args.src.now c.args.radius _ _ (part t) c.sum_row.ensures c.divide_row.ensures))
