-- `upsample::copy` meets its contract: a turn stores the entry that it reads. Assumes nothing.
use Rattle.std.proofs.Common.{refl}
use Rattle.grid.proofs.Loops.{line-none, line_more}
use Rattle.upsample.proofs.copy.Goals as goal

pub loop-i-init : goal.loop-i-init
loop-i-init c = line-none _ _ _

pub loop-i-preserved : goal.loop-i-preserved
loop-i-preserved c = line_more _ _ _ c.loop-i.invariant c.loop-i-test.true refl
