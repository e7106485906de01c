-- `blur::blur_columns` meets its contract: a turn fills one row. Assumes nothing.
use Rattle.std.proofs.Common.{refl}
use Rattle.grid.proofs.Plane.{row_in}
use Rattle.grid.proofs.Loops.{rows_none}
use Rattle.grid.proofs.Part.{rows-part}
use Rattle.blur.proofs.RowParts.{column_part}
use Rattle.blur.proofs.blur_columns.Goals as goal

pub loop-y-init : goal.loop-y-init
loop-y-init c = rows_none _ _ _ _

pub loop-y-preserved : goal.loop-y-preserved
loop-y-preserved c =
    let in_y = c.loop-y-test.true in
    let row = column_part c.args.scratch.now c.loop-y.resp c.loop-y.y _ c.requires c.loop-y.invariant.long
    in_y (row_in c.args.w c.loop-y-test.true) c.column_means.ensures in
    rows-part _ _ _ _ refl c.loop-y.invariant in_y row
