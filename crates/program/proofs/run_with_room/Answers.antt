-- `program::run_with_room` meets its contract: the work buffers are zeros by definition. Assumes nothing.
use mathlib.Core.Path.{ap}
use Rattle.radon.specs.Finder.{Buffers}
use Rattle.program.specs.Program.{blank}
use Rattle.program.proofs.run_with_room.Goals as goal

pub returns-clause-answer : goal.returns-clause-answer
unfolding blank
returns-clause-answer c = c.run_frame_file.ensures.answer

pub returns-clause-list : goal.returns-clause-list
unfolding blank
returns-clause-list c = ap (λ (b : Buffers). b.list) c.run_frame_file.ensures.buffers
