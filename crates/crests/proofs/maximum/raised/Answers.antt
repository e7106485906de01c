-- `crests::maximum::raised` meets its contract: the fold is over the entries from a to below e. Assumes nothing.
use Rattle.std.proofs.Common.{◌≡◌, ◌-◌, take, drop, arith, ◌∙◌}
use Rattle.std.specs.List.{fold}
use Rattle.std.proofs.lemmas.Grind.{common_steps}
use Rattle.crests.specs.Maximum.{greater}
use Rattle.crests.proofs.Greatest.{part_folded}
use Rattle.crests.proofs.maximum.raised.Goals as goal

pub returns : goal.returns
returns c =
    let e : c.fold.result ≡ fold greater c.args.m (take (c.args.e - c.args.a) (drop c.args.a c.args.s.now)) = grind (arith, common_steps) in
    e ∙ part_folded c.args.s.now c.args.a c.args.e c.args.m c.requires.0 c.requires.1
