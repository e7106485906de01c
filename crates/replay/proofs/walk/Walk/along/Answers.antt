-- `replay::walk::Walk::along`: each record is a visit more, and leaves fewer.
use Rattle.replay.proofs.Counting.{fewer, one_visit_more, no_visit_more}
use Rattle.replay.proofs.walk.Walk.along.Goals as goal

pub loop-visitor-smaller : goal.loop-visitor-smaller
loop-visitor-smaller g c = fewer _ _ _ _ _ c.more.ensures c.loop-visitor-test.true c.after-walk.ensures

pub loop-visitor-preserved : goal.loop-visitor-preserved
loop-visitor-preserved g c end last rest =
    c.loop-visitor.invariant end last
    (one_visit_more _ _ _ _ _ _ _ _ _ _ c.more.ensures c.loop-visitor-test.true c.visit-next.ensures c.after-walk.ensures rest)

pub returns-clause-visited : goal.returns-clause-visited
returns-clause-visited g c = c.loop-visitor.invariant _ _ (no_visit_more _ _ _ _)
