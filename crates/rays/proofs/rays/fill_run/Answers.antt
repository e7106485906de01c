-- `fill_run`: a turn stores what a call gave. Assumes nothing.
use Rattle.std.proofs.Common.{arith}
use Rattle.grid.proofs.Loops.{line-none, line_more, steps_all}
use Rattle.rays.proofs.rays.fill_run.Goals as goal

pub loop-i-init : goal.loop-i-init
loop-i-init g c = λ f e. line-none _ _ _

pub loop-i-preserved : goal.loop-i-preserved
loop-i-preserved g c = λ f e. line_more _ _ _ (c.loop-i.invariant f e) c.loop-i-test.true (e _ _ (omega arith) (omega arith) c.f.ensures)

pub returns : goal.returns
returns g c = λ f e. steps_all (c.loop-i.invariant f e) (omega arith)
