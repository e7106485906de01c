-- `saddle::numbers_of` meets its contract: the count of places, taken in floats, is exact. Assumes nothing.
use Rattle.saddle.specs.Saddle.{saddle_of, mean_of}
use Rattle.saddle.proofs.Exact.{count-is}
use Rattle.saddle.proofs.numbers_of.Goals as goal

pub returns : goal.returns
unfolding saddle_of mean_of
returns c = simp (c.disk_norms-n.ensures, c.disk_moments-m.ensures, count-is c.args.disk.k c.args.disk.small)
