-- `arch::run_cameras` meets its contract: a turn runs one camera over its share, and goes on behind its frame. Assumes nothing.
use Rattle.response.specs.Work.{SameWork}
use Rattle.radon.specs.Finder.{lent_now}
use Rattle.arch.proofs.Cameras.{Ran}
use Rattle.arch.proofs.run_cameras.Given as goal

abbrev pub invariant-loop-i : goal.invariant-loop-i
invariant-loop-i l = Ran l.frames l.size l.cameras (lent_now l.initial.work l.initial.list) (lent_now l.work l.list) l.told l.rest l.i
    × SameWork l.initial.work l.work
