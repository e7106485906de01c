-- `means::Windows::sum_row` meets its contract: after k turns each entry is the sum of its window's first k places, those outside left out. Assumes nothing.
use Rattle.means.proofs.Steps.{After}
use Rattle.means.proofs.Windows.sum_row.Given as goal

abbrev pub invariant-loop-k : goal.invariant-loop-k
invariant-loop-k l = After l.src l.w l.radius l.initial.dst l.dst l.k
