-- `scalar::square_root::scaled_low` meets its contract: n * 4 ^ h stays the same while n is below 2 ^ 46. Assumes nothing.
use Rattle.std.proofs.Common.{arith}
use Rattle.scalar.proofs.Quarters.{low_step, low-val}
use Rattle.scalar.proofs.square_root.scaled_low.Goals as goal

pub loop-n-preserved : goal.loop-n-preserved
loop-n-preserved c = (
  low_step c.args.b c.loop-n.n c.loop-n.h c.loop-n.invariant.0 (omega arith) c.loop-n-test.true,
  omega arith,
  omega arith,
  omega arith,
  omega arith,
)

pub returns : goal.returns
returns c =
    record {
      same = low-val c.args.b c.loop-n.n c.loop-n.h c.requires.1 c.loop-n.invariant.0;
      least = omega arith;
      most = omega arith;
      small = omega arith;
    }
