-- `fill_row` of `Rising`: what comes back from `carry` and `begin` is a row of the table. Assumes nothing.
use native.Mathlib.Omega.{arith}
use Rattle.cumsums.proofs.Running.{Going, going_of, rise_carries, rise-row}
use Rattle.cumsums.proofs.RisingLines.fill_row.Goals.{After-going}
use Rattle.cumsums.proofs.RisingLines.fill_row.Goals as goal

-- how many columns go on
goes : (c : After-going) → Going c.args.w c.args.y c.going.result
goes c = going_of c.saturating_sub-back.ensures c.going.ensures

pub carry-requires : goal.carry-requires
carry-requires c =
    rise_carries c.args.img.now c.args.w c.args.y c.args.out.now (goes (goal.at.carry-requires c).After-going) c.requires c.saturating_sub-back.ensures
    (λ k. omega (arith, c.shared_slice_known-1.given k))

pub returns : goal.returns
returns c =
    rise-row c.args.img.now c.args.w c.args.y c.args.out.now (goes (goal.at.returns c).After-going) c.requires c.saturating_sub-back.ensures
    c.carry.ensures c.begin.ensures
