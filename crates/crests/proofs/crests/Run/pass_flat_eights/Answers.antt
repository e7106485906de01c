-- `crests::crests::Run::pass_flat_eights` meets its contract. The invariant is `Went`: the first k eights have no crest, and what is above is counted.
use Rattle.std.proofs.Common.{◌≡◌, ◌+◌, ◌*◌, arith, add-zero}
use Rattle.crests.proofs.Passing.{went_none, went_low, went_slope, went_few}
use Rattle.crests.proofs.crests.Run.pass_flat_eights.Goals as goal
use Rattle.crests.proofs.crests.Run.pass_flat_eights.Goals.{then-eight_above+else-eight_crests, else-eight_above}

pub loop-k-init : goal.loop-k-init
loop-k-init c = rw add-zero (went_none _ _ _ _ (omega arith))

pub overflow_add-above : goal.overflow_add-above
overflow_add-above c = omega (arith, went_few _ _ _ _ c.loop-k.invariant)

pub loop-k-preserved : goal.loop-k-preserved
loop-k-preserved c =
    let e : c.args.self.now.from + 8 * (c.loop-k.k + 1) ≡ c.args.self.now.from + 8 * c.loop-k.k + 8 = omega arith in
    rw e (elim c.if-eight_above.branch [
      | then-eight_above+else-eight_crests w ↦
          rw w.above-is (went_slope _ _ _ _ c.loop-k.invariant (omega arith) (omega arith) w.eight_crests.ensures w.if-eight_crests.false w.above_in.ensures)
      | else-eight_above w ↦ rw w.above-is (went_low _ _ _ _ c.loop-k.invariant (omega arith) c.eight_above.ensures w.if-eight_above.false)
    ])
