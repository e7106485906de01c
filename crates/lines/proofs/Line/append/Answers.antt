-- `lines::Line::append` meets its contract: so many bytes of the text are copied. Assumes nothing.
use Rattle.std.proofs.Common.{arith}
use Rattle.lines.proofs.Appended.{copied_none, copied_len, copied_more}
use Rattle.lines.proofs.Line.append.Goals as goal

pub loop-b-init : goal.loop-b-init
loop-b-init c = copied_none _ _

pub push-requires : goal.push-requires
push-requires c = omega (arith, copied_len _ _ c.loop-b.invariant, c.loop-b-test.true)

pub loop-b-preserved : goal.loop-b-preserved
loop-b-preserved c = copied_more _ _ c.loop-b.invariant c.loop-b-test.true c.push.ensures
