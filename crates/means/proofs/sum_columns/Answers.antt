-- `means::sum_columns` meets its contract: turns add three rows, then one, to the columns' sums. Assumes nothing.
use Rattle.std.proofs.Common.{◌≡◌, ◌+◌, ◌*◌, ◌-◌, ◌/◌, ◌≤◌, rules, arith}
use Rattle.std.proofs.Math.Nat.{add-zero}
use Rattle.std.specs.Float.{nan}
use Rattle.grid.proofs.Plane.{row_in}
use Rattle.grid.proofs.Touch.{stage_on, stage_join}
use Rattle.means.proofs.Steps.{zeroed, column_none, column_three, column_more, column_all}
use Rattle.means.proofs.sum_columns.Goals as goal

pub loop-t-init : goal.loop-t-init
loop-t-init c = rw add-zero (column_none c.args.src.now c.args.w _ c.args.dst.now c.requires.1 (zeroed _ (c.fill.ensures.after (search rules))))

-- the last of three rows that a turn adds is within the map
pub add_three-requires : goal.add_three-requires
add_three-requires c =
    let p = c.args in
    let t = c.loop-t.t in
    let s = c.loop-t.invariant in
    let room : (p.a + 3 * t + 2) * p.w + p.w ≤ p.w * p.e = row_in _ (omega arith) in
    omega (arith, room, s.long, s.size)

pub loop-t-preserved : goal.loop-t-preserved
loop-t-preserved c =
    let p = c.args in
    let t = c.loop-t.t in
    let e : p.a + 3 * (t + 1) ≡ p.a + 3 * t + 3 = omega arith in
    rw e (column_three p.src.now p.w p.a (p.a + 3 * t) (omega arith) c.loop-t.invariant c.add_three.ensures)

pub loop-k-init : goal.loop-k-init
loop-k-init c =
    let e : (c.args.e - c.args.a) / 3 ≡ c.loop-t.t = omega arith in
    rw e (stage_on nan _ _ c.loop-t.invariant)

pub loop-k-preserved : goal.loop-k-preserved
loop-k-preserved c =
    let p = c.args in
    column_more p.src.now p.w p.a _ (omega arith) c.loop-k.invariant (c.change.ensures _ (λ x v r h. search rules))

pub returns : goal.returns
returns c =
    let p = c.args in
    column_all p.src.now p.w p.a p.e p.dst.now c.requires.1 (zeroed _ (c.fill.ensures.after (search rules)))
    (stage_join nan _ _ c.loop-t.invariant c.loop-k.invariant) (omega arith)
