-- `crests::crests::Run::next_crest` meets its contract. The invariant is `Went`: there is no crest before k, and what is above is counted.
use Rattle.crests.specs.Crests.{Went}
use Rattle.crests.proofs.crests.Run.next_crest.Given as goal

abbrev pub invariant-loop-k : goal.invariant-loop-k
invariant-loop-k l = Went l.self.floor l.self.s.now l.self.from l.self.to l.k l.above
