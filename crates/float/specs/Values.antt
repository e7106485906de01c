-- The f32 values that definitions name, by their patterns.
use Rattle.std.specs.Prelude.{Float}
use Rattle.std.specs.Float.{binary32}
use Rattle.std.specs.Float.Ieee.{of_bits}

abbrev pub f0 : Float
f0 = of_bits binary32 0

abbrev pub f1 : Float
f1 = of_bits binary32 0x3f80_0000
