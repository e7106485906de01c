-- `means::Windows::sum_row` meets its contract: after k turns each entry is the sum of its window's first k places, those outside left out. Assumes nothing.
use Rattle.std.proofs.Common.{refl, rules, arith}
use Rattle.means.proofs.Steps.{zeroed, row-none, row_more, row_all}
use Rattle.means.proofs.Windows.sum_row.Goals as goal

pub loop-k-init : goal.loop-k-init
loop-k-init c =
    let p = c.args in
    row-none p.src.now _ p.self.radius p.dst.now refl (zeroed _ (c.fill.ensures.after (search rules)))

pub change-requires-clause-part : goal.change-requires-clause-part
change-requires-clause-part c =
    let s = c.loop-k.invariant in
    (omega arith, omega (arith, s.long, s.size))

pub loop-k-preserved : goal.loop-k-preserved
loop-k-preserved c =
    let p = c.args in
    row_more p.src.now _ p.self.radius _ _ _ c.saturating_sub.ensures c.min-a.ensures c.saturating_sub-in-loop-k.ensures c.min-b.ensures
    c.loop-k.invariant (c.change.ensures _ (λ x v r h. search rules))

pub returns : goal.returns
returns c =
    let p = c.args in
    rw (← c.requires.1) (row_all p.src.now _ p.self.radius c.loop-k.k p.dst.now refl (zeroed _ (c.fill.ensures.after (search rules))) c.loop-k.invariant (omega arith))
