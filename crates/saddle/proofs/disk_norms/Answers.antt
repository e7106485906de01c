-- `saddle::disk_norms` meets its contract. Assumes nothing.
use Rattle.std.proofs.Common.{rules}
use Rattle.saddle.specs.Saddle.{norms_of, norm_added}
use Rattle.saddle.proofs.disk_norms.Goals as goal

pub returns : goal.returns
unfolding norms_of norm_added
returns c = c.fold.ensures (λ p. norm_added c.args.mean) (λ s r p dx dy e. search rules)
