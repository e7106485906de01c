-- `saddle::project` meets its contract: each read is the pixel meant. Assumes nothing.
use Rattle.std.proofs.Common.{◌≡◌, pos, arith, subst, ℕ, rules}
use Rattle.saddle.specs.Saddle.{added, around, sums_of}
use lib.Ieee.{binary32, of_int}
use Rattle.grid.specs.Ways.{pixel}
use Rattle.saddle.proofs.Walk.{row_room, pixel-at}
use Rattle.saddle.proofs.project.Goals as goal

pub fold-requires : goal.fold-requires
fold-requires c = λ s x y dx dy a b.
    (omega (arith, c.requires.inside.below, c.requires.high), omega (arith, row_room c.requires b))

pub returns : goal.returns
unfolding added sums_of
returns c =
    c.fold.ensures (λ p dx dy s. added c.args.t dx dy (around c.args.disk.k (pixel c.args.image.now c.args.w) c.args.x c.args.y p) s)
    (λ s r p dx dy e.
    subst (λ (v : ℕ). r ≡ added c.args.t dx dy (of_int binary32 (pos v)) s)
    (pixel-at c.requires c.args.image.now p.y p.x) (search rules))
