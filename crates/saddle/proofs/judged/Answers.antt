-- `saddle::judged` meets its contract. Assumes nothing.
use Rattle.std.proofs.Common.{sym, ap, ◌∙◌}
use Rattle.saddle.specs.Saddle.{judge, squares, by_root}
use Rattle.saddle.proofs.judged.Goals as goal

pub returns-in-Some : goal.returns-in-Some
unfolding judge squares
returns-in-Some c = c.compared.ensures ∙ ap (by_root c.args.disk.k _) (sym c.in-Some.is ∙ c.sqrt.ensures)

pub returns-in-None : goal.returns-in-None
unfolding judge squares
returns-in-None c = ap (by_root c.args.disk.k _) (sym c.in-None.is ∙ c.sqrt.ensures)
