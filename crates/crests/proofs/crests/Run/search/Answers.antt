-- `crests::crests::Run::search` meets its contract, by the search that the radius asks for. Assumes nothing.
use native.Mathlib.Omega.{arith}
use Rattle.crests.proofs.Passing.{worth-above}
use Rattle.crests.proofs.crests.Run.search.Goals as goal

pub returns : goal.returns
returns c =
    let o = c.args.self.now in
    worth-above c.args.r o.floor o.s.now o.from o.to c.if-r-gt0.false
    (omega arith) (omega arith) c.first_above.ensures
