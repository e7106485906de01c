-- `crests::crests::above_in` meets its contract: what is counted are the entries above the floor. Assumes nothing.
use Rattle.std.specs.Prelude.{◌≡◌, count_by}
use Rattle.std.specs.Float.Ieee.{lt}
use Rattle.std.proofs.Common.{arith, ◌∙◌}
use Rattle.std.proofs.lemmas.Grind.{common_steps}
use Rattle.crests.proofs.Passing.{above-entries}
use Rattle.crests.proofs.crests.above_in.Goals as goal

pub returns : goal.returns
returns c =
    let e : c.sum.result ≡ count_by (lt c.args.floor) c.args.part.now = grind (arith, common_steps) in
    e ∙ above-entries c.args.floor c.args.part.now
