-- `build_cumsums`: each table is what its pass leaves, where the sizes fit. Assumes nothing.
use Rattle.std.proofs.Common.{length}
use Rattle.grid.specs.Ways.{pixel}
use Rattle.cumsums.specs.Shown.{tables_now}
use Rattle.cumsums.proofs.Fit.{when_done}
use Rattle.cumsums.proofs.build_cumsums.Goals as goal

pub returns-then-fits-clause-filled : goal.returns-then-fits-clause-filled
returns-then-fits-clause-filled c =
    when_done c.args.w c.args.h (length c.args.img.now) (tables_now c.args.lent.now) c.room.ensures c.fits.ensures
    (pixel c.args.img.now c.args.w) c.if-fits.true
    c.fill_table.ensures c.fill_table-then-fits.ensures c.fill_table-then-fits-2.ensures c.fill_table-then-fits-3.ensures
