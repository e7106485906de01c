-- `input::read_full`: each turn adds what was read.
use Rattle.std.proofs.Common.{rules}
use Rattle.input.proofs.Reading.{read_more}
use Rattle.input.proofs.read_full.Goals as goal

pub loop-done-preserved : goal.loop-done-preserved
loop-done-preserved g c =
    let before = c.loop-done.invariant in
    let read = c.in_ok-more.ensures in
    (search rules, search rules, read_more _ _ _ _ _ _ _ _ before.0 read.bound.0 before.2 read.bytes.0)
