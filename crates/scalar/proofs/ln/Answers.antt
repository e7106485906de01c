-- `scalar::ln` meets its contract. Assumes nothing.
use Rattle.std.proofs.Common.{◌≡◌, ◌∙◌, ap, sym, subst, T, Bool, Some}
use lib.Ieee.{Float, binary32, fits, le, of_bits}
use Rattle.scalar.specs.Log.{log_of, lowest, highest, least_bits, most_bits, terms, high}
use Rattle.scalar.proofs.Series.{third_is}
use Rattle.scalar.proofs.Close.{near, room_here}
use Rattle.scalar.proofs.Range.{in_range}
use Rattle.scalar.proofs.ln.Goals.{Start, Then-x-2, else-x-via-then-x+else-x-2, else-x-via-else-x}
use Rattle.scalar.proofs.ln.Goals as goal

-- the tests as the code has them, with LEAST and MOST by their patterns
from_low : (x : Float) {b : Bool} → le (of_bits binary32 least_bits) x ≡ b → le lowest x ≡ b
unfolding of_bits
from_low x e = e

to_high : (x : Float) {b : Bool} → le x (of_bits binary32 (most_bits high)) ≡ b → le x (highest high) ≡ b
unfolding of_bits
to_high x e = e

-- what owning an `f32` tells: the format holds it
held : (c : Start) → T (fits binary32 c.args.x)
held c = subst T (sym c.well_formed.0.1) tt

pub units-requires : goal.units-requires
units-requires c =
    in_range high c.args.x (held (goal.at.units-requires c).Start) (from_low c.args.x c.if-x.true) (to_high c.args.x c.if-x-2.true)

pub returns-then-x-2-clause-value : goal.returns-then-x-2-clause-value
unfolding log_of
returns-then-x-2-clause-value c =
    simp (from_low c.args.x c.if-x.true, to_high c.args.x c.if-x-2.true)
    (ap Some (c.difference.ensures ∙ rw (c.units.ensures, third_is)))

pub returns-then-x-2-clause-close : goal.returns-then-x-2-clause-close
returns-then-x-2-clause-close c = λ v e.
    near terms high room_here c.args.x v (held (goal.at.returns-then-x-2-clause-close c).Start)
    (sym (returns-then-x-2-clause-value c) ∙ e)

pub returns-else-x-clause-value : goal.returns-else-x-clause-value
unfolding log_of
returns-else-x-clause-value c =
    elim c.else-x.branch [
      | else-x-via-then-x+else-x-2 w ↦ simp (from_low c.args.x w.if-x.true, to_high c.args.x w.if-x-2.false)
      | else-x-via-else-x w ↦ simp (from_low c.args.x w.if-x.false)
    ]
