-- `crests::maximum::max_response` meets its contract. The invariant: of each quarter, the first k eights are folded. Assumes nothing.
use Rattle.std.proofs.Common.{◌≡◌, ◌+◌, ◌*◌, ◌/◌, length, arith}
use Rattle.crests.specs.Maximum.{entry}
use Rattle.crests.proofs.Greatest.{quarters_none, quarters_eight, quarters_all}
use Rattle.crests.proofs.maximum.max_response.Goals as goal

pub loop-k-init : goal.loop-k-init
loop-k-init c = quarters_none _ _ _ _ _ (omega arith) (omega arith) (omega arith)

pub loop-k-preserved : goal.loop-k-preserved
loop-k-preserved c =
    let e : 8 * (c.loop-k.k + 1) ≡ 8 * c.loop-k.k + 8 = omega arith in
    rw e (quarters_eight _ _ _ _ _ c.loop-k.invariant (omega arith) (omega arith) (omega arith) (omega arith)
    c.raised_eight-m0.ensures c.raised_eight-m1.ensures
    c.raised_eight-m2.ensures c.raised_eight-m3.ensures)

pub returns : goal.returns
returns c =
    let e : 8 * c.loop-k.k ≡ 8 * (length c.args.s.now / 4 / 8) = omega arith in
    quarters_all (entry c.args.s.now) _ _ _ _ (rw e at c.loop-k.invariant) (omega arith) (omega arith) (omega arith)
    c.raised-m0.ensures c.raised-m1.ensures c.raised-m2.ensures c.raised-m3.ensures
    c.greater_of.ensures c.greater_of-2.ensures c.greater_of-3.ensures
