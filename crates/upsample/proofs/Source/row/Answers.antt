-- `upsample::Source::row` meets its contract: between two rows of the image at factor 2, one row of it at factor 1. Assumes nothing.
use Rattle.std.proofs.Common.{◌≡◌, arith}
use Rattle.upsample.proofs.Steps.{part_at, doubled, copied}
use Rattle.upsample.proofs.Source.row.Goals as goal

pub returns-then-self-eq2 : goal.returns-then-self-eq2
returns-then-self-eq2 c =
    let s = c.args.self in
    doubled s.pixels.now s.w s.h c.args.y s.factor c.args.out.now c.if-self-eq2.true c.requires.row c.min.ensures (simp part_at at c.row_kernel.ensures)

pub returns-else-self-eq2 : goal.returns-else-self-eq2
returns-else-self-eq2 c =
    let s = c.args.self in
    let image = c.requires.image in
    let one : s.factor ≡ 1 = omega (arith, image.one, image.two) in
    copied s.pixels.now s.w s.h c.args.y s.factor c.args.out.now one c.copy.ensures
