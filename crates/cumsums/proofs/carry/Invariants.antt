-- `carry`: a turn stores the pixel and the entry `back` before, which no turn of the run has changed. Assumes nothing.
use Prim.Native.Nat.{◌+◌, ◌-◌}
use lib.ListN.{get_or}
use Rattle.grid.proofs.Span.{Spanning}
use Rattle.cumsums.proofs.carry.Given as goal

abbrev pub invariant-loop-i : goal.invariant-loop-i
invariant-loop-i l = Spanning l.a l.e (λ i. get_or l.initial.out (i - l.back) 0 + get_or l.img i 0) l.initial.out l.out l.i
