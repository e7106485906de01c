-- `scalar::logarithm::difference` meets its contract. Assumes nothing.
use Rattle.std.proofs.Common.{ap, le-leb}
use Rattle.std.proofs.lemmas.Bool.{lt-leb}
use lib.Ieee.{neg}
use Rattle.scalar.specs.Log.{difference}
use Rattle.scalar.proofs.logarithm.difference.Goals as goal

pub returns-then-c-a : goal.returns-then-c-a
unfolding difference
returns-then-c-a c = simp (le-leb c.args.c.units c.args.a.units c.if-c-a.true) c.float_of.ensures

pub returns-else-c-a : goal.returns-else-c-a
unfolding difference
returns-else-c-a c = simp (lt-leb c.args.c.units c.args.a.units c.if-c-a.false) (ap neg c.float_of-else-c-a.ensures)
