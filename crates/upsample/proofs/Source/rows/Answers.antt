-- `upsample::Source::rows` meets its contract: a turn fills one working row. Assumes nothing.
use Rattle.std.proofs.Common.{length, refl, arith}
use Rattle.grid.proofs.Loops.{rows_none}
use Rattle.grid.proofs.Part.{rows-part}
use Rattle.upsample.proofs.Steps.{Turn, turn}
use Rattle.upsample.proofs.Source.rows.Goals.{In-loop-y}
use Rattle.upsample.proofs.Source.rows.Goals as goal

-- where row y lies
here : (c : In-loop-y) →
    let s = c.args.self in
    Turn s.factor s.w s.h c.loop-y.y (length s.pixels.now) (length c.args.out.now)
here c = turn c.requires c.loop-y-test.true

pub loop-y-init : goal.loop-y-init
loop-y-init c = rows_none _ _ _ _

pub slice_bounds-row-end : goal.slice_bounds-row-end
slice_bounds-row-end c = omega (arith, here c)

pub loop-y-preserved : goal.loop-y-preserved
loop-y-preserved c = rows-part _ _ _ _ refl c.loop-y.invariant c.loop-y-test.true c.row.ensures
