-- `record::numbers::is_finite` meets its contract: the finite numbers lie between the infinities. Assumes nothing.
use Rattle.std.proofs.Common.{◌∙◌}
use Rattle.record.proofs.Strays.{below, not_below, no_nan}
use Rattle.record.proofs.numbers.is_finite.Goals as goal

pub float_from_bits-t-3 : goal.float_from_bits-t-3
float_from_bits-t-3 c = no_nan.0

pub float_from_bits-result : goal.float_from_bits-result
float_from_bits-result c = no_nan.1

pub returns-then-x : goal.returns-then-x
returns-then-x c = below _ c.if-x.true

pub returns-else-x : goal.returns-else-x
returns-else-x c = c.if-x.false ∙ not_below _ c.if-x.false
