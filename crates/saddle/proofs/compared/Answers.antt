-- `saddle::compared` meets its contract: what its two tests tell, flat before the curvature. Assumes nothing.
use Rattle.std.proofs.Common.{◌≡◌, refl, Bool, false}
use lib.Ieee.{Float, nan, inf, fin, binary32, of_bits, add, sub, mul, le}
use Rattle.std.specs.Float.{float_with_sign}
use Rattle.float.specs.Values.{f1}
use Rattle.saddle.specs.Saddle.{magnitude, ratio, by_curvatures}
use Rattle.saddle.proofs.compared.Goals as goal

abs_is : (x : Float) → float_with_sign false x ≡ magnitude x
unfolding float_with_sign magnitude
abs_is nan = refl
abs_is (inf s) = refl
abs_is (fin s m e) = refl

-- what the test of the curvature finds of a trace tr without its sign
even : (tr spread : Float) {s : Float} {b : Bool} → s ≡ float_with_sign false tr
    → le (mul binary32 s (add binary32 f1 ratio)) (mul binary32 spread (sub binary32 f1 ratio)) ≡ b
    → le (mul binary32 (magnitude tr) (add binary32 f1 ratio)) (mul binary32 spread (sub binary32 f1 ratio)) ≡ b
even tr spread e h = rw (← abs_is tr, ← e) h

pub returns-then-not-steep : goal.returns-then-not-steep
unfolding by_curvatures
returns-then-not-steep c = rw c.if-not-steep.true

pub returns-then-even : goal.returns-then-even
unfolding by_curvatures add sub of_bits
returns-then-even c = simp (c.if-not-steep.false, even c.args.tr c.args.spread c.abs.ensures.value c.if-even.true)

pub returns-else-even : goal.returns-else-even
unfolding by_curvatures add sub of_bits
returns-else-even c = simp (c.if-not-steep.false, even c.args.tr c.args.spread c.abs.ensures.value c.if-even.false)
