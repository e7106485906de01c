-- `upsample::copy` meets its contract: a turn stores the entry that it reads. Assumes nothing.
use Rattle.std.specs.Prelude.{◌+◌, get_or}
use Rattle.grid.proofs.Loops.{Line}
use Rattle.upsample.proofs.copy.Given as goal

abbrev pub invariant-loop-i : goal.invariant-loop-i
invariant-loop-i l = Line l.n (λ k. get_or l.src (l.a + k) 0) l.initial.dst l.dst l.i
