-- `begin`: a turn stores the pixel that it reads. Assumes nothing.
use Rattle.grid.proofs.Span.{spanning_none, spanning_more}
use Rattle.cumsums.proofs.begin.Goals as goal

pub loop-i-init : goal.loop-i-init
loop-i-init c = spanning_none _ _ _ _ c.requires.0

pub loop-i-preserved : goal.loop-i-preserved
loop-i-preserved c = spanning_more _ _ _ _ c.loop-i.invariant c.loop-i-test.true c.from.ensures
