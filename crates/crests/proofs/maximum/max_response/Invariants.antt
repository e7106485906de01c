-- `crests::maximum::max_response` meets its contract. The invariant: of each quarter, the first k eights are folded. Assumes nothing.
use Rattle.std.proofs.Common.{◌*◌}
use Rattle.crests.specs.Maximum.{entry}
use Rattle.crests.proofs.Greatest.{Quarters}
use Rattle.crests.proofs.maximum.max_response.Given as goal

abbrev pub invariant-loop-k : goal.invariant-loop-k
invariant-loop-k l = Quarters (entry l.s) l.second l.third l.fourth l.n (8 * l.k) l.m0 l.m1 l.m2 l.m3
