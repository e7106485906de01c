-- `program::answer` meets its contract: what was read is run, and the lines are those of the file. Assumes nothing.
use Rattle.std.proofs.Common.{◌≡◌, ◌∙◌, ℕ, sym, ap, take}
use Rattle.std.specs.Prelude.{min}
use Rattle.std.proofs.lemmas.List.{take_min}
use Rattle.program.proofs.SameLines.{as_read}
use Rattle.program.proofs.answer.Goals.{After-run_with_room}
use Rattle.program.proofs.answer.Goals as goal

-- the part that is run is what was read
read : (c : After-run_with_room) → take c.min.result c.args.input.now ≡ take c.args.got c.args.input.now
read c =
    rw c.min.ensures
    (ap (λ (n : ℕ). take (min c.args.got n) c.args.input.now) (sym c.told-input) ∙ take_min c.args.got c.args.input.now)

pub returns-clause-lines : goal.returns-clause-lines
returns-clause-lines c =
    let r = c.run_with_room.ensures in
    (as_read c.args.input.now c.args.got c.told-input c.args.list.now c.told-list (read (goal.at.returns-clause-lines c).After-run_with_room) (r.answer, r.list)).1.1.0

pub returns-clause-whole : goal.returns-clause-whole
returns-clause-whole c =
    let r = c.run_with_room.ensures in
    (as_read c.args.input.now c.args.got c.told-input c.args.list.now c.told-list (read (goal.at.returns-clause-whole c).After-run_with_room) (r.answer, r.list)).1.1.1
