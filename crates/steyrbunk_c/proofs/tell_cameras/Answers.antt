-- `steyrbunk_c::tell_cameras` meets its contract: a turn tells one camera. Assumes nothing.
use Rattle.std.proofs.Common.{◌≡◌, ◌∙◌, length}
use Rattle.steyrbunk_c.proofs.Cameras.{telling_none, telling_more, telling_all}
use Rattle.steyrbunk_c.proofs.tell_cameras.Goals.{Start}
use Rattle.steyrbunk_c.proofs.tell_cameras.Goals as goal

-- the array has eight entries
eight : (c : Start) → length c.args.cameras ≡ 8
eight c = c.well_formed.0.1.0.1

pub loop-i-init : goal.loop-i-init
loop-i-init c = telling_none _ _ (eight (goal.at.loop-i-init c).Start)

pub loop-i-preserved : goal.loop-i-preserved
loop-i-preserved c = telling_more _ _ c.loop-i.invariant _ (c.copy_from_slice.ensures.after ∙ c.camera_numbers.ensures) c.loop-i-test.true

pub returns : goal.returns
returns c = telling_all _ _ c.loop-i.invariant c.loop-i-test.false c.requires
