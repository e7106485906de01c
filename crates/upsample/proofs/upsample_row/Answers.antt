-- `upsample::upsample_row` meets its contract: the row where it fits, and nothing where it does not. Assumes nothing.
use Rattle.std.proofs.Common.{sym, ◌∙◌}
use Rattle.upsample.proofs.Fits.{row-fitting}
use Rattle.upsample.proofs.upsample_row.Goals as goal

pub row-requires : goal.row-requires
row-requires c = row-fitting _ _ _ _ _ _ (sym c.row_fits.ensures ∙ c.if-row_fits.true)
