-- `crests::crests::Run::pass_flat_eights` meets its contract. The invariant is `Went`: the first k eights have no crest, and what is above is counted.
use Rattle.std.proofs.Common.{◌+◌, ◌*◌}
use Rattle.crests.specs.Crests.{Went}
use Rattle.crests.proofs.crests.Run.pass_flat_eights.Given as goal

abbrev pub invariant-loop-k : goal.invariant-loop-k
invariant-loop-k l = Went l.self.floor l.self.s.now l.self.from l.self.to (l.self.from + 8 * l.k) l.above
