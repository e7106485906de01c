-- `means::change` meets its contract: a turn changes one entry. Assumes nothing.
use Rattle.std.proofs.Common.{arith}
use Rattle.grid.proofs.Touch.{span_none, span_more, span_all}
use Rattle.means.proofs.change.Goals as goal

pub loop-x-init : goal.loop-x-init
loop-x-init g c h u = span_none _ _ _ _ _ (omega arith)

pub loop-x-preserved : goal.loop-x-preserved
loop-x-preserved g c h u = span_more _ _ _ _ _ (c.loop-x.invariant h u) c.loop-x-test.true (u _ _ _ c.f.ensures)

pub returns : goal.returns
returns g c h u = span_all _ _ _ _ _ (c.loop-x.invariant h u) c.loop-x-test.false (omega arith)
