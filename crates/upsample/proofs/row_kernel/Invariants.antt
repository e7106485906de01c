-- `upsample::row_kernel` meets its contract: a turn stores the two working pixels of column x, and the end those of the last. Assumes nothing.
use Prim.Native.Nat.{◌*◌, ◌≤◌}
use lib.ListN.{get_or}
use Rattle.grid.proofs.Loops.{Line}
use Rattle.upsample.specs.Kernel.{between}
use Rattle.upsample.proofs.row_kernel.Given as goal

abbrev pub invariant-loop-x : goal.invariant-loop-x
invariant-loop-x l = (l.x ≤ l.last) × Line (2 * l.w) (between (λ k. get_or l.top k 0) (λ k. get_or l.low k 0) l.w) l.initial.dst l.dst (2 * l.x)
