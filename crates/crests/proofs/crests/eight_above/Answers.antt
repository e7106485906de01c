-- `crests::crests::eight_above` meets its contract: the test is whether an entry is above the floor. Assumes nothing.
use Rattle.std.proofs.Common.{rules}
use Rattle.crests.specs.Crests.{over}
use Rattle.crests.proofs.crests.eight_above.Goals as goal

pub returns : goal.returns
returns c = c.eight.ensures (over c.args.floor c.args.s.now) (λ k b u v e. search rules)
