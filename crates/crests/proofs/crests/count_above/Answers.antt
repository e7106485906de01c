-- `crests::crests::count_above` meets its contract: by its test, the count or none. Assumes nothing.
use borrow.Author.Tests.{le-leb, lt-leb}
use Rattle.crests.specs.Crests.{above_count}
use Rattle.crests.proofs.crests.count_above.Goals as goal

pub returns-then-s-le-LONGEST : goal.returns-then-s-le-LONGEST
unfolding above_count
returns-then-s-le-LONGEST c = rw (le-leb _ _ c.if-s-le-LONGEST.true) c.above_in.ensures

pub returns : goal.returns
unfolding above_count
returns c = rw (lt-leb _ _ c.if-s-le-LONGEST.false)
