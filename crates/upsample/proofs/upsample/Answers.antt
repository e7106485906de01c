-- `upsample::upsample` meets its contract: all rows where they fit, and nothing where they do not. Assumes nothing.
use Rattle.std.proofs.Common.{sym, ◌∙◌}
use Rattle.upsample.proofs.Fits.{all_fitting}
use Rattle.upsample.proofs.upsample.Goals as goal

pub rows-requires : goal.rows-requires
rows-requires c = all_fitting _ _ _ _ _ (sym c.up_fits.ensures ∙ c.if-up_fits.true)
