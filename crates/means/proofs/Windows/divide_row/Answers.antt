-- `means::Windows::divide_row` meets its contract: three parts, one after the other, divide by the same map of counts. Assumes nothing.
use Rattle.std.proofs.Common.{rules}
use Rattle.means.proofs.Steps.{divided}
use Rattle.means.proofs.Windows.divide_row.Goals as goal

pub returns : goal.returns
returns c =
    divided _ _ _ _ c.args.dst.now c.requires c.min-a.ensures c.saturating_sub.ensures c.max-e.ensures
    (c.change.ensures _ (λ x v r h. search rules)) (c.change-2.ensures _ (λ x v r h. search rules))
    (c.change-3.ensures _ (λ x v r h. search rules))
