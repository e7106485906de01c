-- `blur::blur_columns` meets its contract: a turn fills one row. Assumes nothing.
use Rattle.grid.proofs.Loops.{Rows}
use Rattle.means.specs.Means.{value_at, column_mean}
use Rattle.blur.proofs.blur_columns.Given as goal

abbrev pub invariant-loop-y : goal.invariant-loop-y
invariant-loop-y l = Rows l.w l.h (column_mean (value_at l.scratch l.w) l.h l.radius) l.initial.resp l.resp l.y
