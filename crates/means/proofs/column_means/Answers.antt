-- `means::column_means` meets its contract: the means where they fit, and nothing where they do not. Assumes nothing.
use mathlib.Core.Path.{◌≡◌, sym, ◌∙◌}
use native.Mathlib.Omega.{arith}
use lib.ListN.{length, length-take}
use mathlib.Core.Bool.{true}
use Rattle.means.specs.Means.{column_fits}
use Rattle.means.proofs.Fits.{FittingColumn, column_fitting}
use Rattle.means.proofs.Steps.{first_part}
use Rattle.means.proofs.column_means.Goals.{Then-column_fits}
use Rattle.means.proofs.column_means.Goals as goal

passed : (c : Then-column_fits) →
    let p = c.args in
    column_fits p.w p.h p.y p.radius (length p.src.now) (length p.dst.now) ≡ true
passed c = sym c.column_fits.ensures ∙ c.if-column_fits.true

fitted : (c : Then-column_fits) →
    let p = c.args in
    FittingColumn p.w p.h p.y p.radius (length p.src.now) (length p.dst.now)
fitted c = column_fitting _ _ _ _ _ _ (passed c)

pub slice_bounds-mean_column-end : goal.slice_bounds-mean_column-end
slice_bounds-mean_column-end c = omega (arith, fitted c)

pub slice_bounds-mean_column-end-then-column_fits : goal.slice_bounds-mean_column-end-then-column_fits
slice_bounds-mean_column-end-then-column_fits c = simp length-take (omega (arith, fitted (goal.at.slice_bounds-mean_column-end-then-column_fits c).Then-column_fits))

pub invariant_of-mean_column : goal.invariant_of-mean_column
invariant_of-mean_column c =
    let f = fitted (goal.at.invariant_of-mean_column c).Then-column_fits in
    record { short = f.high; narrow = f.few }

pub mean_column-requires : goal.mean_column-requires
mean_column-requires c = simp length-take (omega (arith, fitted (goal.at.mean_column-requires c).Then-column_fits))

pub returns-then-column_fits : goal.returns-then-column_fits
returns-then-column_fits c = rw (passed (goal.at.returns-then-column_fits c).Then-column_fits) (first_part _ _ _ c.mean_column.ensures)
