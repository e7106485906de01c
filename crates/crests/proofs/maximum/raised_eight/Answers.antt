-- `crests::maximum::raised_eight` meets its contract: where none of the eight is above m, they leave it as it is. Assumes nothing.
use Rattle.crests.specs.Maximum.{entry}
use Rattle.crests.proofs.Greatest.{eight_still}
use Rattle.crests.proofs.maximum.raised_eight.Goals as goal

pub returns : goal.returns
returns c =
    eight_still (entry c.args.s.now) _ c.eight_above.ensures c.if-eight_above.false
