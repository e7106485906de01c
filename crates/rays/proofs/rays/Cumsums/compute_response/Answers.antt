-- `compute_response`: a turn fills row y. Assumes nothing.
use Rattle.std.proofs.Common.{refl}
use Rattle.grid.proofs.Loops.{rows_none}
use Rattle.grid.proofs.Part.{rows-part}
use Rattle.rays.proofs.rays.Cumsums.compute_response.Goals as goal

pub loop-y-init : goal.loop-y-init
loop-y-init c = rows_none _ _ _ _

pub loop-y-preserved : goal.loop-y-preserved
loop-y-preserved c =
    rows-part _ _ _ _ refl c.loop-y.invariant c.loop-y-test.true c.compute_response_row.ensures
