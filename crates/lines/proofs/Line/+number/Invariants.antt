-- The measure of `lines::Line::number`: what is left of the number and of the digits to show. Assumes nothing.
use Rattle.std.proofs.Common.{◌+◌}
use Rattle.lines.proofs.Line.+number.Given as goal

abbrev pub decreases-number : goal.decreases-number
decreases-number l = l.n + l.least
