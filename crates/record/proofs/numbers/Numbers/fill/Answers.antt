-- `record::numbers::Numbers::fill` meets its contract: a turn stores a number of the record. Assumes nothing.
use Rattle.grid.proofs.Loops.{line-none, line_more}
use Rattle.record.proofs.numbers.Numbers.fill.Goals as goal

pub loop-i-init : goal.loop-i-init
loop-i-init c = line-none _ _ _

pub loop-i-preserved : goal.loop-i-preserved
loop-i-preserved c =
    line_more _ _ _ c.loop-i.invariant c.loop-i-test.true c.at.ensures
