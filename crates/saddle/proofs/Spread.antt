-- What `judge` takes the root of, for the crates that reason about it. Assumes nothing.
use lib.Ieee.{Float, binary32, to_bits, of_bits, mul}
use Rattle.scalar.specs.Root.{root_bits}
use Rattle.saddle.specs.declared.SaddleTest.{SaddleTest}
use Rattle.saddle.specs.declared.Sums.{Sums}
use Rattle.saddle.specs.Saddle.{f4, squares}

-- the three sums over a disk
abbrev pub Added : Type 0
Added = Sums

-- the nearest root of a number that is not negative
abbrev pub nearest_root : Float → Float
nearest_root x = of_bits binary32 (root_bits (to_bits binary32 x))

-- the number that `judge` takes the root of, and the trace that it compares with the root
abbrev pub spread_squared : SaddleTest → Sums → Float
spread_squared t s = squares (mul binary32 s.v t.inv_v) (mul binary32 s.xy t.inv_xy)

abbrev pub trace : SaddleTest → Sums → Float
trace t s = mul binary32 f4 (mul binary32 s.u t.inv_u)
