-- `crests::crests::eight_crests` meets its contract: the test is whether an entry is a crest. Assumes nothing.
use Rattle.std.proofs.Common.{rules}
use Rattle.crests.specs.Crests.{crest}
use Rattle.crests.proofs.crests.eight_crests.Goals as goal

pub returns : goal.returns
returns c = c.eight.ensures (crest c.args.floor c.args.s.now) (λ k b u v e. search rules)
