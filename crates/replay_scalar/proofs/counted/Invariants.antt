-- `replay_scalar::counted`: no more agree than were compared.
use Rattle.std.proofs.Common.{◌≤◌}
use Rattle.replay_scalar.proofs.counted.Given as goal

abbrev pub invariant-loop-i : goal.invariant-loop-i
invariant-loop-i g l = l.tally.agree ≤ l.i
