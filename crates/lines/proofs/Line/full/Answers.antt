-- `lines::Line::full` meets its contract. Assumes nothing.
use lib.Dec.{lit≤}
use Rattle.lines.specs.Printed.{full_line, row}
use Rattle.lines.proofs.Appended.{grown, shown}
use Rattle.lines.proofs.Line.full.Goals as goal

pub returns : goal.returns
unfolding full_line row
returns c = shown c.empty-line.ensures (grown 10 c.append.ensures (lit≤ tt)) (lit≤ tt)
