-- `detect::peaks::fitted` meets its contract: a coordinate is a float as it is. Assumes nothing.
use mathlib.Core.Path.{ap}
use Rattle.params.specs.declared.coordinates.Input.{Input}
use Rattle.detect.specs.Corners.{input_at}
use Rattle.detect.proofs.peaks.fitted.Goals as goal

pub returns : goal.returns
unfolding input_at
returns c = rw c.fit_peak_frac-offset.ensures at (ap (λ (i : Input). i.0) c.to_input.ensures)
