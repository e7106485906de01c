-- `lines::Line::refused` meets its contract. Assumes nothing.
use Rattle.std.proofs.Common.{arith}
use lib.Dec.{lit≤}
use Rattle.lines.specs.Printed.{refused_line, row}
use Rattle.lines.proofs.Appended.{empty_len, appended_len, grown, grown_more, shown}
use Rattle.lines.proofs.Digits.{decimal-short}
use Rattle.lines.proofs.Line.refused.Goals as goal

pub field-requires : goal.field-requires
field-requires c = (decimal-short _ (omega arith), omega (arith, empty_len c.empty-line.ensures, appended_len _ _ c.append.ensures))

pub returns : goal.returns
unfolding refused_line row
returns c = shown c.empty-line.ensures (grown_more (grown 8 c.append.ensures (lit≤ tt)) c.field.ensures) (lit≤ tt)
