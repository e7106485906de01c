-- `peak_fit::fit_peak_frac` meets its contract. Assumes nothing.
use Rattle.std.proofs.Common.{sym, ◌∙◌}
use Rattle.peak_fit.specs.PeakFit.{fit_of}
use Rattle.peak_fit.proofs.fit_peak_frac.Goals as goal

pub returns-then-all_usable : goal.returns-then-all_usable
unfolding fit_of
returns-then-all_usable c = c.by_mode.ensures ∙ simp (sym c.all_usable.ensures ∙ c.if-all_usable.true)

pub returns-else-all_usable : goal.returns-else-all_usable
unfolding fit_of
returns-else-all_usable c = simp (sym c.all_usable.ensures ∙ c.if-all_usable.false)
