-- `saddle::disk::Disk::offset` meets its contract: the difference of two small whole numbers is exact. Assumes nothing.
use Rattle.saddle.proofs.Exact.{offset-is}
use Rattle.saddle.proofs.disk.Disk.offset.Goals as goal

pub returns : goal.returns
returns c = offset-is _ _ c.args.self.small c.requires
