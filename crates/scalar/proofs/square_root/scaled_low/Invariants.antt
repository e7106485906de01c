-- `scalar::square_root::scaled_low` meets its contract: n * 4 ^ h stays the same while n is below 2 ^ 46. Assumes nothing.
use Rattle.std.proofs.Common.{◌≡◌, ◌+◌, ◌-◌, ◌*◌, ◌%◌, ◌^◌, ◌<◌, ◌≤◌}
use Rattle.scalar.specs.Steps.{most_scaled}
use Rattle.scalar.proofs.square_root.scaled_low.Given as goal

abbrev pub invariant-loop-n : goal.invariant-loop-n
invariant-loop-n l = (l.n * 2 ^ (l.h + l.h) ≡ l.b * 2 ^ 149) × (l.n ≤ most_scaled) × (l.n % 8388608 ≡ 0) × (l.h ≤ 63) × (0 < l.n)

abbrev pub decreases-loop-n : goal.decreases-loop-n
decreases-loop-n l = 281474976710656 - l.n
