-- `entry`: the tests are those of `entry_at`. Assumes nothing.
use Rattle.std.proofs.Common.{arith}
use Rattle.std.proofs.lemmas.Bool.Decides.{nat_tests}
use Rattle.rays.specs.Shown.{entry_at}
use Rattle.rays.proofs.rays.entry.Goals as goal

pub returns-then-x-eq0 : goal.returns-then-x-eq0
unfolding entry_at
returns-then-x-eq0 c = grind (arith, nat_tests)

pub returns : goal.returns
unfolding entry_at
returns c = grind (arith, nat_tests)
