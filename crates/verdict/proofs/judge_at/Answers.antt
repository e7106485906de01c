-- `verdict::judge_at` meets its contract: by its test, the first rule that fails or what is told where the window does not fit. Assumes nothing.
use mathlib.Core.Path.{sym, ◌∙◌}
use Rattle.verdict.proofs.Rules.{window-room}
use Rattle.verdict.proofs.judge_at.Goals as goal

pub by_rules-requires : goal.by_rules-requires
by_rules-requires c = window-room c.args.scan _ _ _ (sym c.square_fits.ensures ∙ c.if-square_fits.true)
