-- `replay_arch::against`: the shares end within the list.
use Rattle.std.proofs.Common.{◌≡◌, ◌*◌, ◌≤◌, length}
use Rattle.replay_arch.proofs.against.Given as goal

abbrev pub invariant-loop-i : goal.invariant-loop-i
invariant-loop-i l = (l.begin ≤ 128 * l.i) × (length l.second ≡ 1024)
