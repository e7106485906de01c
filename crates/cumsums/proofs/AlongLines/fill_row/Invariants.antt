-- `fill_row` of `Along`: a turn adds a pixel to the row's sum so far, and stores it. Assumes nothing.
use Rattle.grid.specs.Ways.{along}
use Rattle.cumsums.proofs.Running.{Filling, Carried}
use Rattle.cumsums.proofs.AlongLines.fill_row.Given as goal

abbrev pub invariant-loop-x : goal.invariant-loop-x
invariant-loop-x l = Filling along l.img l.w l.y l.initial.out l.out l.x × Carried l.img l.w l.y l.x l.acc
