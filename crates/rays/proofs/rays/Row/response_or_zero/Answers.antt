-- `response_or_zero`: 0 where the test shows that the rays are not inside. Assumes nothing.
use Rattle.rays.proofs.Inner.{found_out}
use Rattle.rays.proofs.rays.Row.response_or_zero.Goals as goal

pub returns-else-inside : goal.returns-else-inside
returns-else-inside c = found_out _ _ _ _ _ c.inside.ensures _ c.if-inside.false
