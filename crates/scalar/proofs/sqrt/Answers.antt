-- `scalar::sqrt` meets its contract. Assumes nothing.
use Rattle.std.proofs.Common.{◌≡◌, ℕ, true, false, T, sym, refl, ap, ◌∙◌, subst, arith, Some, None}
use lib.Ieee.{Float, nan, inf, fin, binary32, fits, to_bits, of_bits, is_nan}
use Rattle.scalar.specs.Bits.{from_zero}
use Rattle.scalar.specs.Root.{root_of, root_bits}
use Rattle.scalar.proofs.Patterns.{from_zero_lem, not_from_zero, no_nan_pattern}
use Rattle.scalar.proofs.sqrt.Goals.{Start}
use Rattle.scalar.proofs.sqrt.Goals as goal

inside : (x : Float) (r : ℕ) → from_zero x ≡ true → r ≡ root_bits (to_bits binary32 x) → Some (of_bits binary32 r) ≡ root_of x
unfolding root_of
inside nan r p e = absurd (subst T (sym p) tt)
inside (inf s) r p e = absurd (subst T (sym p) tt)
inside (fin true m k) r p e = absurd (subst T (sym p) tt)
inside (fin false m k) r p e = ap (λ (y : ℕ). Some (of_bits binary32 y)) e

outside : (x : Float) → from_zero x ≡ false → None ≡ root_of x
unfolding root_of
outside nan p = refl
outside (inf s) p = refl
outside (fin true m k) p = refl
outside (fin false m k) p = absurd (subst T p tt)

outside-nan : (x : Float) → is_nan x ≡ true → None ≡ root_of x
unfolding root_of is_nan
outside-nan nan e = refl
outside-nan (inf s) e = absurd (subst T (sym e) tt)
outside-nan (fin s m k) e = absurd (subst T (sym e) tt)

-- what owning an `f32` tells: the format holds it
held : (c : Start) → T (fits binary32 c.args.x)
held c = subst T (sym c.well_formed.0.1) tt

pub returns-then-is_nan : goal.returns-then-is_nan
returns-then-is_nan c = outside-nan c.args.x (sym c.is_nan.ensures.value ∙ c.if-is_nan.true)

pub float_from_bits-result : goal.float_from_bits-result
float_from_bits-result c = no_nan_pattern c.root_bits.result (omega arith)

pub returns-then-b-lt-INFINITE : goal.returns-then-b-lt-INFINITE
returns-then-b-lt-INFINITE c =
    inside c.args.x c.root_bits.result (from_zero_lem c.args.x (held (goal.at.returns-then-b-lt-INFINITE c).Start) c.if-b-lt-INFINITE.true) c.root_bits.ensures.0

pub returns-else-b-lt-INFINITE : goal.returns-else-b-lt-INFINITE
returns-else-b-lt-INFINITE c = outside c.args.x (not_from_zero c.args.x (held (goal.at.returns-else-b-lt-INFINITE c).Start) c.if-b-lt-INFINITE.false)
