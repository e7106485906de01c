-- `carry`: a turn stores the pixel and the entry `back` before, which no turn of the run has changed. Assumes nothing.
use mathlib.Core.Path.{◌≡◌}
use Prim.Native.Nat.{◌-◌, ◌≤◌}
use native.Mathlib.Omega.{arith}
use lib.ListN.{get_or}
use Rattle.grid.proofs.Span.{spanning_none, spanning_more, spanning_before}
use Rattle.cumsums.proofs.carry.Goals.{In-loop-i}
use Rattle.cumsums.proofs.carry.Goals as goal

-- the entry that a turn goes on from is there, and as it was
there : (c : In-loop-i) → c.args.back ≤ c.loop-i.i
there c = c.requires.least _ c.loop-i.invariant.least c.loop-i-test.true

kept : (c : In-loop-i)
    → get_or c.loop-i.out (c.loop-i.i - c.args.back) 0
    ≡ get_or c.args.out.now (c.loop-i.i - c.args.back) 0
kept c = spanning_before _ _ _ _ c.loop-i.invariant _ 0 (omega (arith, there c))

pub loop-i-init : goal.loop-i-init
loop-i-init c = spanning_none _ _ _ _ c.requires.run

pub overflow_add-out : goal.overflow_add-out
overflow_add-out c =
    let k = c.loop-i.i - c.args.back in
    let l = there (goal.at.overflow_add-out c).In-loop-i in
    let m = c.requires.small k (omega arith) (omega arith) in
    omega (arith, kept (goal.at.overflow_add-out c).In-loop-i, m, c.shared_slice_known-1.given c.loop-i.i)

pub loop-i-preserved : goal.loop-i-preserved
loop-i-preserved c =
    spanning_more _ _ _ _ c.loop-i.invariant c.loop-i-test.true
    (let e = kept (goal.at.loop-i-preserved c).In-loop-i in cc (c.from.ensures, e))
