-- `crests::crests::Run::next_crest` meets its contract. The invariant is `Went`: there is no crest before k, and what is above is counted.
use native.Mathlib.Omega.{arith}
use Rattle.crests.proofs.Passing.{went_above, went_under, went_few}
use Rattle.crests.proofs.crests.Run.next_crest.Goals as goal
use Rattle.crests.proofs.crests.Run.next_crest.Goals.{then-s-k+else-is_crest, else-s-k}

pub overflow_add-above : goal.overflow_add-above
overflow_add-above c = omega (arith, went_few _ _ _ _ c.loop-k.invariant)

pub loop-k-preserved : goal.loop-k-preserved
loop-k-preserved c =
    elim c.if-s-k.branch [
      | then-s-k+else-is_crest w ↦
          rw w.above-is (went_above _ _ _ _ c.loop-k.invariant (omega arith) w.is_crest.ensures w.if-is_crest.false w.if-s-k.true)
      | else-s-k w ↦ rw w.above-is (went_under _ _ _ _ c.loop-k.invariant (omega arith) w.if-s-k.false)
    ]
