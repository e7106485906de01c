-- `scalar::logarithm::odd_sum`: after j turns p is the power and sum the sum of the definition, each at j. Assumes nothing.
use Rattle.std.proofs.Common.{◌≡◌, ◌+◌, ◌*◌, ◌≤◌}
use Rattle.scalar.specs.Log.{cut_power, cut_sum}
use Rattle.scalar.specs.Steps.{a_third}
use Rattle.scalar.proofs.logarithm.odd_sum.Given as goal

abbrev pub invariant-loop-j : goal.invariant-loop-j
invariant-loop-j l = (l.p ≡ cut_power l.z l.j) × (l.sum ≡ cut_sum l.z l.j) × (l.p ≤ a_third) × (l.sum + l.p ≤ a_third + l.j * 9942054)
