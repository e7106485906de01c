-- `means::Windows::mean_column` meets its contract: the sums of the window's rows, times the count's reciprocal, are the means. Assumes nothing.
use Rattle.std.proofs.Common.{rules}
use Rattle.means.proofs.Steps.{column_means}
use Rattle.means.proofs.Windows.mean_column.Goals as goal

pub returns : goal.returns
returns c =
    let p = c.args in
    column_means p.src.now p.w p.self.places p.self.radius p.y _ _ p.dst.now c.requires.1 c.saturating_sub-a.ensures c.min-e.ensures
    c.sum_columns.ensures (c.change.ensures _ (λ x v r h. search rules))
