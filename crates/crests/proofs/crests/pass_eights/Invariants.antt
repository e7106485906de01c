-- `crests::crests::pass_eights` meets its contract. The invariant: no entry of the first k eights is above the floor. Assumes nothing.
use Rattle.std.proofs.Common.{◌*◌, length}
use Rattle.crests.specs.Crests.{over, Passed}
use Rattle.crests.proofs.crests.pass_eights.Given as goal

abbrev pub invariant-loop-k : goal.invariant-loop-k
invariant-loop-k l = Passed (over l.floor l.s) 0 (length l.s) (8 * l.k)
