-- `saddle::disk::Disk::fold` meets its contract: for each step that the closure adds as, the places behind are those of the definition.
use Rattle.std.proofs.Common.{◌+◌, ◌-◌}
use lib.Ieee.{Float}
use Rattle.grid.specs.Rect.{Place}
use Rattle.saddle.specs.Steps.{AddsAs}
use Rattle.saddle.proofs.Walk.{Above, Within}
use Rattle.saddle.proofs.disk.Disk.fold.Given as goal

abbrev pub invariant-loop-ix : goal.invariant-loop-ix
invariant-loop-ix g l =
    (step : Place → Float → Float → _ → _) → AddsAs (goal.F-post g l.add) step
    → Within l.self.k step l.fn.start l.iy l.dy (l.self.k - l.reach) (l.self.k + l.reach + 1) l.ix l.s

abbrev pub invariant-loop-iy : goal.invariant-loop-iy
invariant-loop-iy g l =
    (step : Place → Float → Float → _ → _) → AddsAs (goal.F-post g l.add) step → Above l.self.k step l.fn.start l.iy l.s
