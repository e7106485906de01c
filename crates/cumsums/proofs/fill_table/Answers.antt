-- `fill_table`: a turn fills row y. Assumes nothing.
use Rattle.grid.proofs.Loops.{rows_none}
use Rattle.cumsums.proofs.Running.{above_of, rows_next}
use Rattle.cumsums.proofs.fill_table.Goals as goal

pub loop-y-init : goal.loop-y-init
loop-y-init g c = rows_none _ _ _ _

pub fill_row-requires : goal.fill_row-requires
fill_row-requires g c = above_of g.L.Lines.way _ _ _ _ c.loop-y.invariant c.loop-y-test.true c.requires

pub loop-y-preserved : goal.loop-y-preserved
loop-y-preserved g c =
    rows_next g.L.Lines.way c.args.img.now _ _ _ c.loop-y.invariant c.loop-y-test.true c.fill_row.ensures
