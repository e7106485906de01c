-- `peak_fit::log_peak` meets its contract. Assumes nothing.
use Rattle.std.proofs.Common.{sym, ◌∙◌}
use Rattle.peak_fit.specs.PeakFit.{peak_of_logs}
use Rattle.peak_fit.proofs.log_peak.Goals as goal

pub returns-in_err-ln : goal.returns-in_err-ln
unfolding peak_of_logs
returns-in_err-ln c = rw (c.from_residual.ensures, sym c.ln.ensures.value ∙ c.in_err-ln.was)

pub returns-in_err-ln-2 : goal.returns-in_err-ln-2
unfolding peak_of_logs
returns-in_err-ln-2 c =
    rw (c.from_residual-in_err-ln-2.ensures, sym c.ln.ensures.value ∙ c.in_ok-ln.was, sym c.ln-2.ensures.value ∙ c.in_err-ln-2.was)

pub returns-in_err-ln-3 : goal.returns-in_err-ln-3
unfolding peak_of_logs
returns-in_err-ln-3 c =
    rw (c.from_residual-in_err-ln-3.ensures, sym c.ln.ensures.value ∙ c.in_ok-ln.was, sym c.ln-2.ensures.value ∙ c.in_ok-ln-2.was, sym c.ln-3.ensures.value ∙ c.in_err-ln-3.was)

pub returns : goal.returns
unfolding peak_of_logs
returns c =
    c.peak.ensures ∙ rw (sym c.ln.ensures.value ∙ c.in_ok-ln.was, sym c.ln-2.ensures.value ∙ c.in_ok-ln-2.was, sym c.ln-3.ensures.value ∙ c.in_ok-ln-3.was)
