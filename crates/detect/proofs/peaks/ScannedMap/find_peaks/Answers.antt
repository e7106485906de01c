-- `detect::peaks::ScannedMap::find_peaks` meets its contract. The invariant is `FoundTo`: what is found and counted in the rows above. Assumes nothing.
use mathlib.Core.Path.{ap}
use Prim.Native.Nat.{ℕ, ◌-◌, ◌*◌}
use native.Mathlib.Omega.{arith}
use Rattle.detect.proofs.Rows.{found_none, found_more, found_inside, found_all, subtracts}
use Rattle.detect.proofs.peaks.ScannedMap.find_peaks.Goals as goal

-- how many candidates a border n leaves
abbrev product : ℕ → ℕ → ℕ → ℕ
product w h n = (w - 2 * n) * (h - n - n)

pub loop-y-init : goal.loop-y-init
loop-y-init c = rw c.none-tally.ensures (found_none c.border-b.ensures c.args.self.now.judging.asked.higher)

pub loop-y-preserved : goal.loop-y-preserved
loop-y-preserved c =
    found_more c.loop-y.invariant (omega arith) c.find_in_row.ensures

pub by_subtraction-requires : goal.by_subtraction-requires
by_subtraction-requires c =
    let a = c.args.self.now.judging.asked in
    let s = subtracts (found_inside c.loop-y.invariant (omega arith)) (ap (product c.args.self.now.scan.w c.args.self.now.scan.h) c.border-b.ensures) a.wide a.high in
    (s.0, s.1)

pub returns : goal.returns
returns c =
    found_all (found_inside c.loop-y.invariant (omega arith)) (ap (product c.args.self.now.scan.w c.args.self.now.scan.h) c.border-b.ensures)
    c.requires c.by_subtraction.ensures
