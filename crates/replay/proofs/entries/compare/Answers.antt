-- `replay::entries::compare` meets its contract: after i turns i entries were compared. Assumes nothing.
use Rattle.std.specs.Prelude.{refl}
use Rattle.replay.specs.Entries.{compared_of}
use Rattle.replay.proofs.Comparing.{one_more_is}
use Rattle.replay.proofs.entries.compare.Goals as goal

pub loop-i-init : goal.loop-i-init
unfolding compared_of
loop-i-init g c = refl

pub loop-i-preserved : goal.loop-i-preserved
loop-i-preserved g c =
    one_more_is _ _ _ _ _ _ c.loop-i.invariant c.entry-found.ensures c.listed.ensures c.differ.ensures
    c.plus-wrong.ensures (rw (← c.SIZE.ensures) c.skip-next.ensures)
