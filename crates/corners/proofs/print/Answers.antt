-- `corners::print`: each turn writes one line more.
use Rattle.std.proofs.Common.{arith}
use Rattle.corners.proofs.Printing.{print_more}
use Rattle.corners.proofs.print.Goals as goal

pub loop-i-preserved : goal.loop-i-preserved
loop-i-preserved g c =
    print_more _ _ _ _ c.loop-i.i (omega (arith, c.loop-i-test.true, c.lines-many.ensures)) c.loop-i.invariant c.in_ok-print_line.ensures
