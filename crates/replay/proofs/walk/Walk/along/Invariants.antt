-- `replay::walk::Walk::along`: who has visited the rest of the records has visited all of them. It ends with the last record.
use Rattle.replay.specs.declared.walk.Walk.{Walk}
use Rattle.replay.specs.Tallies.{opened, Visited}
use Rattle.replay.proofs.walk.Walk.along.Given as goal

abbrev pub invariant-loop-visitor : goal.invariant-loop-visitor
invariant-loop-visitor g l =
    (end : g.row.V.Denot) (last : Walk)
    → Visited g.V.Visit.visits l.s l.visitor l.walk end last
    → Visited g.V.Visit.visits l.s l.fn.visitor (opened l.s) end last

abbrev pub decreases-loop-visitor : goal.decreases-loop-visitor
decreases-loop-visitor g l = l.walk.left
