-- `Working::to_input` meets its contract: the factor that is used is 1, or it is 2. Assumes nothing.
use mathlib.Core.Path.{◌≡◌, sym, ◌∙◌}
use Prim.Native.Nat.{ℕ}
use lib.Ieee.{binary32, of_bits, mul}
use borrow.Author.Tests.{eq-eqb, ne_eqb}
use Rattle.params.specs.declared.coordinates.Working.{Working}
use Rattle.params.specs.declared.coordinates.Input.{Input}
use Rattle.params.specs.Settings.{factor_of}
use Rattle.params.specs.Coordinates.{to_input}
use Rattle.params.proofs.coordinates.Working.to_input.Goals as goal

-- a coordinate times the number of these bits
abbrev times : Working → ℕ → Input
times a bits = record { 0 = mul binary32 a.0 (of_bits binary32 bits) }

as-it-is : (a : Working) (up : ℕ) → factor_of up ≡ 1 → times a 0x3f80_0000 ≡ to_input a up
unfolding to_input
as-it-is a up e = rw (eq-eqb (factor_of up) 1 e)

halved : (a : Working) (up : ℕ) → (factor_of up ≡ 1 → ⊥) → times a 0x3f00_0000 ≡ to_input a up
unfolding to_input
halved a up e = rw (ne_eqb (factor_of up) 1 e)

pub returns-then-clamped-eq1 : goal.returns-then-clamped-eq1
returns-then-clamped-eq1 c =
    let o = c.args in
    as-it-is o.self o.up (sym c.clamped.ensures ∙ c.if-clamped-eq1.true)

pub returns : goal.returns
returns c =
    let o = c.args in
    halved o.self o.up (λ e. c.if-clamped-eq1.false (c.clamped.ensures ∙ e))
