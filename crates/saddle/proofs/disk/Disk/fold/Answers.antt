-- `saddle::disk::Disk::fold` meets its contract. Assumes nothing.
use Rattle.grid.specs.Rect.{place}
use Rattle.saddle.proofs.Walk.{above-none, within_none, within_more, above_more, above_all}
use Rattle.saddle.proofs.disk.Disk.fold.Goals as goal

pub loop-iy-init : goal.loop-iy-init
loop-iy-init g c = λ step adds. above-none _ _ _

pub loop-ix-init : goal.loop-ix-init
loop-ix-init g c = λ step adds. within_none _ _ _ (c.loop-iy.invariant step adds) c.loop-iy-test.true c.reach-reach.ensures c.offset-dy.ensures

pub loop-ix-preserved : goal.loop-ix-preserved
loop-ix-preserved g c = λ step adds. within_more _ _ _ (c.loop-ix.invariant step adds) c.loop-ix-test.true c.offset.ensures
    (adds c.loop-ix.s c.add-s.result (place c.loop-ix.ix c.loop-iy.iy) c.offset.result c.offset-dy.result c.add-s.ensures)

pub loop-iy-preserved : goal.loop-iy-preserved
loop-iy-preserved g c = λ step adds. above_more _ _ _ (c.loop-ix.invariant step adds) c.loop-ix-test.false

pub returns : goal.returns
returns g c = λ step adds. above_all _ _ _ (c.loop-iy.invariant step adds) c.loop-iy-test.false
