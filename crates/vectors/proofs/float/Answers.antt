-- `vectors::float` meets its contract: what is no word has a NaN. Assumes nothing.
use Rattle.std.proofs.Common.{arith, sym, ◌≤◌}
use borrow.Author.Tests.{le-ltb}
use Rattle.big_endian.proofs.Patterns.{nan_pattern}
use Rattle.vectors.proofs.float.Goals as goal

pub returns-in-Err : goal.returns-in-Err
returns-in-Err c =
    let past : 4294967296 ≤ c.args.bits = omega arith in
    rw (le-ltb _ _ past) (sym (nan_pattern 2143289344 (omega arith)))
