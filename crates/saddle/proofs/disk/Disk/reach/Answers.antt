-- `saddle::disk::Disk::reach` meets its contract: the table is right. Assumes nothing.
use Rattle.std.proofs.Common.{ℕ, List, [], ◌∷◌}
use Rattle.saddle.proofs.Table.{right, spans}
use Rattle.saddle.proofs.disk.Disk.reach.Goals as goal

-- REACHES
abbrev table : List (List ℕ)
table =
    (0 ∷ 0 ∷ 0 ∷ 0 ∷ 0 ∷ 0 ∷ 0 ∷ 0 ∷ [])
    ∷ (1 ∷ 1 ∷ 0 ∷ 0 ∷ 0 ∷ 0 ∷ 0 ∷ 0 ∷ [])
    ∷ (2 ∷ 1 ∷ 0 ∷ 0 ∷ 0 ∷ 0 ∷ 0 ∷ 0 ∷ [])
    ∷ (3 ∷ 2 ∷ 2 ∷ 0 ∷ 0 ∷ 0 ∷ 0 ∷ 0 ∷ [])
    ∷ (4 ∷ 3 ∷ 3 ∷ 2 ∷ 0 ∷ 0 ∷ 0 ∷ 0 ∷ [])
    ∷ (5 ∷ 4 ∷ 4 ∷ 4 ∷ 3 ∷ 0 ∷ 0 ∷ 0 ∷ [])
    ∷ (6 ∷ 5 ∷ 5 ∷ 5 ∷ 4 ∷ 3 ∷ 0 ∷ 0 ∷ [])
    ∷ (7 ∷ 6 ∷ 6 ∷ 6 ∷ 5 ∷ 4 ∷ 3 ∷ 0 ∷ [])
    ∷ []

pub returns : goal.returns
unfolding right
returns c = spans table tt c.args.self.k c.args.self.small c.args.iy c.abs_diff.result c.requires c.abs_diff.ensures
