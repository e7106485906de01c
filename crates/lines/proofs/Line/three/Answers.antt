-- `lines::Line::three` meets its contract: one numeral after the other. Assumes nothing.
use Rattle.std.proofs.Common.{arith}
use lib.Dec.{lit≤}
use Rattle.lines.proofs.Appended.{empty_len, grown_len, three_shown}
use Rattle.lines.proofs.Line.three.Goals as goal

pub field-requires-2 : goal.field-requires-2
field-requires-2 c = (c.requires.1, omega (arith, empty_len c.empty-line.ensures, grown_len c.field.ensures))

pub field-requires-3 : goal.field-requires-3
field-requires-3 c = (c.requires.2, omega (arith, empty_len c.empty-line.ensures, grown_len c.field.ensures, grown_len c.field-2.ensures))

pub returns : goal.returns
returns c = three_shown _ _ _ c.empty-line.ensures c.field.ensures c.field-2.ensures c.field-3.ensures (lit≤ tt)
