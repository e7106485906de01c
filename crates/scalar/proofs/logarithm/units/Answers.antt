-- `scalar::logarithm::units` meets its contract. Assumes nothing.
use Rattle.scalar.proofs.Series.{units_are}
use Rattle.scalar.proofs.logarithm.units.Goals as goal

pub returns : goal.returns
returns c = units_are c.args.b c.odd_sum.result c.odd_sum.ensures.0
