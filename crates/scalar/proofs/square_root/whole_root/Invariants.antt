-- `scalar::square_root::whole_root` meets its contract: r is never below the whole root, and goes down until it is the whole root. Assumes nothing.
use Rattle.std.proofs.Common.{◌+◌, ◌*◌, ◌<◌, ◌≤◌}
use Rattle.scalar.proofs.square_root.whole_root.Given as goal

abbrev pub invariant-loop-r : goal.invariant-loop-r
invariant-loop-r l = (l.n < (l.r + 1) * (l.r + 1)) × (l.r ≤ 67108864)

abbrev pub decreases-loop-r : goal.decreases-loop-r
decreases-loop-r l = l.r
