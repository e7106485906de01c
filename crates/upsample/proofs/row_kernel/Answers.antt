-- `upsample::row_kernel` meets its contract: a turn stores the two working pixels of column x, and the end those of the last. Assumes nothing.
use mathlib.Core.Path.{refl}
use Prim.Native.Nat.{◌+◌}
use native.Mathlib.Omega.{arith}
use Rattle.grid.proofs.Loops.{line-none}
use Rattle.upsample.proofs.Steps.{line-two, line_last, line_empty}
use Rattle.upsample.proofs.row_kernel.Goals as goal

pub returns-then-w-eq0 : goal.returns-then-w-eq0
returns-then-w-eq0 c = line_empty _ _ _ _ c.if-w-eq0.true

pub loop-x-init : goal.loop-x-init
loop-x-init c = (omega arith, line-none _ _ _)

pub loop-x-preserved : goal.loop-x-preserved
loop-x-preserved c =
    let l = c.loop-x in
    let level = c.quarter_sum.ensures in
    (omega arith, line-two _ _ _ l.x (l.x + 1) l.invariant.1 (omega arith) (omega arith) level c.quarter_sum-in-loop-x.ensures)

pub returns : goal.returns
returns c = line_last _ _ _ _ c.loop-x.x c.loop-x.invariant.1 (omega arith) refl (omega arith) c.quarter_sum-m.ensures
