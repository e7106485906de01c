-- `lines::Line::append` meets its contract: so many bytes of the text are copied. Assumes nothing.
use Rattle.lines.proofs.Appended.{Copied}
use Rattle.lines.proofs.Line.append.Given as goal

abbrev pub invariant-loop-b : goal.invariant-loop-b
invariant-loop-b l = Copied l.initial.self l.s l.self l.b-index
