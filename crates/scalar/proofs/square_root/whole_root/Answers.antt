-- `scalar::square_root::whole_root` meets its contract: r is never below the whole root, and goes down until it is the whole root. Assumes nothing.
use Rattle.std.proofs.Common.{ℕ, ◌+◌, ◌*◌, ◌/◌, ◌<◌, ◌≤◌, le_trans, mul-le-mul_left, arith}
use Rattle.scalar.proofs.Squares.{cut_low, newton_high, newton_less}
use Rattle.scalar.proofs.square_root.whole_root.Goals as goal

-- the first step, from a number that is not too small
first : (n s : ℕ) → n < 281474976710656 → 4194304 ≤ s → s ≤ 33554432 → (s + n / s) / 2 ≤ 67108864
first n s h l u = let a : n / s * 4194304 ≤ n = le_trans (mul-le-mul_left (n / s) l) (cut_low n s) in omega arith

-- a number with a greater square is above 0
above : (n r : ℕ) → n < r * r → 0 < r
above n r h = omega (arith, newton_less n r h)

pub loop-r-init : goal.loop-r-init
loop-r-init c =
    let n =
    c.args.n in let s = c.guess-s.result in
    (newton_high n s (omega arith), first n s c.requires c.guess-s.ensures.0 c.guess-s.ensures.1)

pub loop-r-preserved : goal.loop-r-preserved
loop-r-preserved c =
    let n =
    c.args.n in let r = c.loop-r.r in
    (newton_high n r (above n r c.loop-r-test.true), omega (arith, newton_less n r c.loop-r-test.true))
