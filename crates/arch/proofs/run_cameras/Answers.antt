-- `arch::run_cameras` meets its contract: a turn runs one camera over its share, and goes on behind its frame. Assumes nothing.
use native.Mathlib.Omega.{arith}
use Rattle.response.proofs.Same.{same_none, same_more}
use Rattle.arch_plan.proofs.Frames.{gone_within}
use Rattle.arch.proofs.Cameras.{ran_none, ran_turn}
use Rattle.arch.proofs.run_cameras.Goals as goal

pub loop-i-init : goal.loop-i-init
loop-i-init c =
    (ran_none _ _ _ _ c.refusal-told.ensures c.requires, same_none _)

pub slice_bounds-rest-count : goal.slice_bounds-rest-count
slice_bounds-rest-count c = omega (arith, gone_within _ c.gone_in.ensures)

pub slice_bounds-rest-start : goal.slice_bounds-rest-start
slice_bounds-rest-start c = omega (arith, gone_within _ c.gone_in.ensures)

pub loop-i-preserved : goal.loop-i-preserved
loop-i-preserved c = (
  ran_turn _ _ _ _ c.loop-i.invariant.0 c.loop-i-test.true c.run_camera.ensures.answer c.run_camera.ensures.buffers c.gone_in.ensures
      c.list-1.given.0,
  same_more c.loop-i.invariant.1 c.run_camera.ensures.same,
)
