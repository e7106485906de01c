-- `fill_row` of `Along`: a turn adds a pixel to the row's sum so far, and stores it. Assumes nothing.
use Rattle.std.proofs.Common.{arith}
use Rattle.grid.proofs.Loops.{row_more}
use Rattle.cumsums.proofs.Running.{row-start, carried_none, carried_more, carried_entry, carried_fits}
use Rattle.cumsums.proofs.AlongLines.fill_row.Goals as goal

pub loop-x-init : goal.loop-x-init
loop-x-init c = (row-start _ _ _ _ _ c.requires, carried_none _ _ _)

pub overflow_add-acc : goal.overflow_add-acc
overflow_add-acc c =
    omega (
      arith,
      carried_fits _ _ _ c.loop-x.invariant.1 (λ k. omega (arith, c.shared_slice_known-1.given k))
          c.loop-x-test.true c.requires.wide c.requires.high,
    )

pub loop-x-preserved : goal.loop-x-preserved
loop-x-preserved c =
    let l = c.loop-x.invariant in
    let e = c.from-acc.ensures in
    (row_more _ _ _ _ l.0 c.loop-x-test.true (carried_entry _ _ _ l.1 e), carried_more _ _ _ l.1 e)
