-- `means::sum_columns` meets its contract: turns add three rows, then one, to the columns' sums. Assumes nothing.
use Rattle.std.proofs.Common.{◌+◌, ◌*◌}
use Rattle.means.proofs.Steps.{Added}
use Rattle.means.proofs.sum_columns.Given as goal

abbrev pub invariant-loop-t : goal.invariant-loop-t
invariant-loop-t l = Added l.src l.w l.a l.initial.dst l.dst (l.a + 3 * l.t)

abbrev pub invariant-loop-k : goal.invariant-loop-k
invariant-loop-k l = Added l.src l.w l.a l.initial.dst l.dst l.k
