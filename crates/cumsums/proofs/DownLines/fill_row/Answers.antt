-- `fill_row` of `Down`: what comes back from `begin` and `carry` is a row of the table. Assumes nothing.
use Prim.Native.Nat.{◌≤◌}
use native.Mathlib.Omega.{arith}
use Rattle.cumsums.proofs.Columns.{back_most, down_carries, down-row}
use Rattle.cumsums.proofs.DownLines.fill_row.Goals.{After-going-back}
use Rattle.cumsums.proofs.DownLines.fill_row.Goals as goal

-- how far back the row above stands
most : (c : After-going-back) → c.going-back.result ≤ c.args.w
most c = back_most c.args.w c.args.y c.going-back.ensures

pub carry-requires : goal.carry-requires
carry-requires c =
    down_carries c.args.img.now c.args.w c.args.y c.args.out.now c.going-back.ensures (omega (arith, most (goal.at.carry-requires c).After-going-back)) c.requires
    c.begin.ensures (λ k. omega (arith, c.shared_slice_known-1.given k))

pub returns : goal.returns
returns c =
    down-row c.args.img.now c.args.w c.args.y c.args.out.now c.going-back.ensures (omega (arith, most (goal.at.returns c).After-going-back)) c.requires
    c.begin.ensures c.carry.ensures
