-- `vectors::after_line` meets its contract: it stops behind the first line feed, or at the end. Assumes nothing.
use Rattle.std.proofs.Common.{sym, ◌∙◌}
use Rattle.vectors.proofs.Places.{line_found, no_line}
use Rattle.vectors.proofs.after_line.Goals as goal

pub returns-in-Some : goal.returns-in-Some
returns-in-Some c = line_found _ _ (sym c.line_feed.ensures ∙ c.in-Some.is)

pub returns-in-None : goal.returns-in-None
returns-in-None c = no_line _ (sym c.line_feed.ensures ∙ c.in-None.is)
