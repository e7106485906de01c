-- `begin`: a turn stores the pixel that it reads. Assumes nothing.
use lib.ListN.{get_or}
use Rattle.grid.proofs.Span.{Spanning}
use Rattle.cumsums.proofs.begin.Given as goal

abbrev pub invariant-loop-i : goal.invariant-loop-i
invariant-loop-i l = Spanning l.a l.e (λ i. get_or l.img i 0) l.initial.out l.out l.i
