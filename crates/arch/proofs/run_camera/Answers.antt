-- `arch::run_camera` meets its contract: the frame is not whole, or the file that it is is answered. Assumes nothing.
use mathlib.Core.Path.{sym}
use lib.Seq.{length-take-le}
use Rattle.arch_plan.proofs.Frames.{whole_in}
use Rattle.arch.proofs.run_camera.Goals as goal

pub slice_bounds-run_frame_file-end : goal.slice_bounds-run_frame_file-end
slice_bounds-run_frame_file-end c = sym (length-take-le _ _ (whole_in c.args.rest.now (sym c.in-Ok.ensures)))
