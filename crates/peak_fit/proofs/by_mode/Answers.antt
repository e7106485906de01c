-- `peak_fit::by_mode` meets its contract. Assumes nothing.
use Rattle.std.proofs.Common.{sym, ◌∙◌}
use Rattle.peak_fit.specs.PeakFit.{by_mode}
use Rattle.peak_fit.proofs.by_mode.Goals.{in_default-via-in-Gaussian+else-all_above, in_default-via-in_default}
use Rattle.peak_fit.proofs.by_mode.Goals as goal

pub returns-in-Gaussian : goal.returns-in-Gaussian
unfolding by_mode
returns-in-Gaussian c = c.unwrap_or.ensures ∙ c.log_peak.ensures ∙ simp (c.in-Gaussian.is, sym c.all_above.ensures ∙ c.if-all_above.true)

pub returns-in_default : goal.returns-in_default
unfolding by_mode
returns-in_default c =
    elim c.in_default.branch [
      | in_default-via-in-Gaussian+else-all_above w ↦ c.peak.ensures ∙ simp (w.in-Gaussian.is, sym w.all_above.ensures ∙ w.if-all_above.false)
      | in_default-via-in_default w ↦ c.peak.ensures ∙ simp w.in_default.is
    ]
