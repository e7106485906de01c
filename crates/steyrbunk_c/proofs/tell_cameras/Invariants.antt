-- `steyrbunk_c::tell_cameras` meets its contract: a turn tells one camera. Assumes nothing.
use Rattle.steyrbunk_c.proofs.Cameras.{Telling}
use Rattle.steyrbunk_c.proofs.tell_cameras.Given as goal

abbrev pub invariant-loop-i : goal.invariant-loop-i
invariant-loop-i l = Telling l.fn.cameras l.fn.told l.told l.i
