-- `upsample::Source::rows` meets its contract: a turn fills one working row. Assumes nothing.
use Rattle.std.proofs.Common.{◌*◌}
use Rattle.grid.proofs.Loops.{Rows}
use Rattle.grid.specs.Ways.{pixel}
use Rattle.upsample.specs.Upsample.{work_at}
use Rattle.upsample.proofs.Source.rows.Given as goal

abbrev pub invariant-loop-y : goal.invariant-loop-y
invariant-loop-y l =
    let s = l.self in
    Rows (s.factor * s.w) (s.factor * s.h) (work_at s.factor (pixel s.pixels.now s.w) s.w s.h) l.initial.out l.out l.y
