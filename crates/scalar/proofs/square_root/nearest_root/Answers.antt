-- `scalar::square_root::nearest_root` meets its contract. Assumes nothing.
use Rattle.scalar.proofs.Squares.{rounds_down, rounds_up}
use Rattle.scalar.proofs.square_root.nearest_root.Goals as goal

pub returns-then-n-q : goal.returns-then-n-q
returns-then-n-q c =
    let a =
    c in rounds_down a.args.n c.whole_root-q.result a.requires.0 a.requires.1
    c.whole_root-q.ensures c.if-n-q.true

pub returns-else-n-q : goal.returns-else-n-q
returns-else-n-q c =
    let a =
    c in rounds_up a.args.n c.whole_root-q.result a.requires.0 a.requires.1
    c.whole_root-q.ensures c.if-n-q.false
