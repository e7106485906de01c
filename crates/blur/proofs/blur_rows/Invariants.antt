-- `blur::blur_rows` meets its contract: a turn fills one row, with the means of the part that is the row. Assumes nothing.
use Rattle.grid.proofs.Loops.{Rows}
use Rattle.means.specs.Means.{value_at}
use Rattle.blur.specs.Blur.{row_mean}
use Rattle.blur.proofs.blur_rows.Given as goal

abbrev pub invariant-loop-y : goal.invariant-loop-y
invariant-loop-y l = Rows l.w l.h (row_mean (value_at l.resp l.w) l.w l.radius) l.initial.scratch l.scratch l.y
