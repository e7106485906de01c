-- `scalar::logarithm::float_of` meets its contract: 134217728.0 is 2 ^ 27. Assumes nothing.
use Rattle.std.proofs.Common.{◌≡◌, ℕ, pos, ap}
use lib.Ieee.{Float, binary32, of_bits, of_int, div}
use Rattle.scalar.specs.Log.{float_of}
use Rattle.scalar.proofs.logarithm.float_of.Goals as goal

as_written : (d : ℕ) (y : Float) → y ≡ of_int binary32 (pos d) → div binary32 y (of_bits binary32 0x4d00_0000) ≡ float_of d
unfolding float_of of_bits
as_written d y e = ap (λ (z : Float). div binary32 z (of_bits binary32 0x4d00_0000)) e

pub returns : goal.returns
returns c = as_written c.args.d.units c.nearest_u32_to_f32.result c.nearest_u32_to_f32.ensures
