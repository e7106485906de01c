-- `saddle::disk_moments` meets its contract. Assumes nothing.
use Rattle.std.proofs.Common.{rules}
use Rattle.saddle.specs.Saddle.{moments_of, moment_added}
use Rattle.saddle.proofs.disk_moments.Goals as goal

pub returns : goal.returns
unfolding moments_of moment_added
returns c = c.fold.ensures (λ p. moment_added) (λ s r p dx dy e. search rules)
