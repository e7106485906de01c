-- `compute_response`: a turn fills row y. Assumes nothing.
use Rattle.grid.proofs.Loops.{Rows}
use Rattle.rays.specs.Read.{read_at}
use Rattle.rays.proofs.rays.Cumsums.compute_response.Given as goal

abbrev pub invariant-loop-y : goal.invariant-loop-y
invariant-loop-y l = Rows l.w l.self.size.h (read_at l.self) l.initial.out l.out l.y
