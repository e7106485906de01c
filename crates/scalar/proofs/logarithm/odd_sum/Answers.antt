-- `scalar::logarithm::odd_sum` meets its contract. Assumes nothing.
use Rattle.std.proofs.Common.{◌+◌, ◌*◌, ◌/◌, refl, div-le_self, arith}
use Rattle.scalar.specs.Log.{cut_power, cut_sum, unit}
use Rattle.scalar.proofs.Series.{square_le, step_le, power_step, sum_step}
use Rattle.scalar.proofs.logarithm.odd_sum.Goals as goal

pub loop-j-init : goal.loop-j-init
unfolding cut_power cut_sum
loop-j-init c = (refl, refl, c.requires, omega arith)

pub loop-j-preserved : goal.loop-j-preserved
loop-j-preserved c =
    let z = c.args.z in
    let l = c.loop-j in
    let s = step_le l.p (z * z / unit) l.invariant.2 (square_le z c.requires) in (
      power_step z l.p l.j l.invariant.0,
      sum_step z l.p l.sum l.j l.invariant.1 l.invariant.0,
      omega (arith, s),
      omega (arith, s, div-le_self l.p (2 * l.j + 1)),
    )
