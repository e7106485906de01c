-- `peak_fit::clamp` meets its contract: by its two tests. Assumes nothing.
use Rattle.peak_fit.specs.PeakFit.{clamped}
use Rattle.peak_fit.proofs.clamp.Goals as goal

pub returns-then-frac-2 : goal.returns-then-frac-2
unfolding clamped
returns-then-frac-2 c = rw (c.if-frac.true, c.if-frac-2.true)

pub returns-else-frac-2 : goal.returns-else-frac-2
unfolding clamped
returns-else-frac-2 c = rw (c.if-frac.true, c.if-frac-2.false)

pub returns-else-frac : goal.returns-else-frac
unfolding clamped
returns-else-frac c = rw c.if-frac.false
