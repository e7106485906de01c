-- `corners::print`: the lines before i are written.
use Rattle.std.proofs.Common.{take}
use Rattle.std.specs.List.{concat}
use Rattle.std.specs.Io.KnownBytes.{Appends}
use Rattle.lines.specs.Printed.{printed}
use Rattle.corners.proofs.print.Given as goal

abbrev pub invariant-loop-i : goal.invariant-loop-i
invariant-loop-i g l = Appends (g.W.Write.contents l.fn.to) (g.W.Write.contents l.to) (concat (take l.i (printed 3 l.fn.outcome l.fn.list)))
