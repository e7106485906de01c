-- `fill_table`: a turn fills row y. Assumes nothing.
use Rattle.grid.proofs.Loops.{Rows}
use Rattle.grid.specs.Ways.{pixel}
use Rattle.cumsums.specs.Tables.{table_at}
use Rattle.cumsums.proofs.fill_table.Given as goal

abbrev pub invariant-loop-y : goal.invariant-loop-y
invariant-loop-y g l = Rows l.w l.h (table_at g.L.Lines.way (pixel l.img l.w) l.w) l.initial.out l.out l.y
