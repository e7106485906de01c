-- `peak_fit::peak` meets its contract: by its test. Assumes nothing.
use Rattle.peak_fit.specs.PeakFit.{denominator, peak_of}
use Rattle.peak_fit.proofs.peak.Goals as goal

pub returns-then-denom : goal.returns-then-denom
unfolding peak_of denominator
returns-then-denom c = rw c.if-denom.true

pub returns-else-denom : goal.returns-else-denom
unfolding peak_of denominator
returns-else-denom c = rw c.if-denom.false c.clamp.ensures
