-- Document 01: "Place is (pixel + offset) times 1 or 0.5": the one conversion from working to input pixels.
use Rattle.std.specs.Prelude.{cond, ℕ, eqb, Float}
use Rattle.std.specs.Float.{binary32}
use Rattle.std.specs.Float.Ieee.{of_bits, mul}
use Rattle.params.specs.declared.coordinates.Working.{Working}
use Rattle.params.specs.declared.coordinates.Input.{Input}
use Rattle.params.specs.Settings.{factor_of}

-- 1 at factor 1, and 0.5 at factor 2
abbrev pub scale_of : ℕ → Float
scale_of u = cond (eqb (factor_of u) 1) (of_bits binary32 0x3f80_0000) (of_bits binary32 0x3f00_0000)

unfoldable pub to_input : Working → ℕ → Input
to_input at u = record { 0 = mul binary32 at.0 (scale_of u) }
