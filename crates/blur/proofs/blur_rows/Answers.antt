-- `blur::blur_rows` meets its contract: a turn fills one row, with the means of the part that is the row. Assumes nothing.
use Rattle.std.proofs.Common.{refl}
use Rattle.grid.proofs.Plane.{row_in}
use Rattle.grid.proofs.Loops.{rows_none}
use Rattle.grid.proofs.Part.{rows-part}
use Rattle.blur.proofs.RowParts.{row-part}
use Rattle.blur.proofs.blur_rows.Goals as goal

pub loop-y-init : goal.loop-y-init
loop-y-init c = rows_none _ _ _ _

pub loop-y-preserved : goal.loop-y-preserved
loop-y-preserved c =
    let row = row-part c.args.resp.now c.loop-y.scratch c.loop-y.y _ c.requires c.loop-y.invariant.long
    refl (row_in c.args.w c.loop-y-test.true) c.row_means.ensures in
    rows-part _ _ _ _ refl c.loop-y.invariant c.loop-y-test.true row
