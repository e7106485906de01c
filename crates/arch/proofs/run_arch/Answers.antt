-- `arch::run_arch` meets its contract: refused by 21, or camera after camera. Assumes nothing.
use lib.ListN.{length}
use Rattle.radon.specs.Finder.{Buffers, lent_now}
use Rattle.arch_plan.proofs.InList.{shares_in}
use Rattle.arch.proofs.Call.{taken, when_refused, when_taken}
use Rattle.arch.proofs.run_arch.Goals.{Start}
use Rattle.arch.proofs.run_arch.Goals as goal

abbrev given : Start → Buffers
given c =
    let o = c.args in
    lent_now o.work.now o.list.now

pub returns-in-Err-clause-answer : goal.returns-in-Err-clause-answer
returns-in-Err-clause-answer c =
    (when_refused c.args.cameras c.args.frames.now (given (goal.at.returns-in-Err-clause-answer c).Start) c.in-Err.ensures c.refusal.ensures).0

pub returns-in-Err-clause-buffers : goal.returns-in-Err-clause-buffers
returns-in-Err-clause-buffers c =
    (when_refused c.args.cameras c.args.frames.now (given (goal.at.returns-in-Err-clause-buffers c).Start) c.in-Err.ensures c.refusal.ensures).1

pub run_cameras-told-requires : goal.run_cameras-told-requires
run_cameras-told-requires c =
    let o = c.args in (
      (taken o.cameras o.frames.now (given (goal.at.run_cameras-told-requires c).Start) c.in_default.ensures).eight,
      rw c.share_size-size.ensures (shares_in 3 o.cameras (length o.list.now)),
    )

pub returns-clause-answer : goal.returns-clause-answer
returns-clause-answer c =
    let told = c.run_cameras-told.ensures in
    (when_taken c.args.cameras c.args.frames.now (given (goal.at.returns-clause-answer c).Start) c.in_default.ensures c.share_size-size.ensures
    (told.told, told.buffers)).0

pub returns-clause-buffers : goal.returns-clause-buffers
returns-clause-buffers c =
    let told = c.run_cameras-told.ensures in
    (when_taken c.args.cameras c.args.frames.now (given (goal.at.returns-clause-buffers c).Start) c.in_default.ensures c.share_size-size.ensures
    (told.told, told.buffers)).1
