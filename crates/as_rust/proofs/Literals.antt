-- Each literal's pattern is the nearest f32 to the decimal that the Rust writes. Assumes nothing.
use mathlib.Core.Path.{◌≡◌, refl}
use mathlib.Core.Bool.{true, false}
use Prim.Native.Nat.{◌^◌}
use lib.Ieee.{binary32, round, of_bits}
use Rattle.as_rust.specs.Machine.{lit_0, lit_minus_0, lit_1, lit_2, lit_4, lit_16, lit_255, lit_half}
use Rattle.as_rust.specs.Machine.{lit_minus_half, lit_0·2, lit_0·28, lit_minus_1e_12}

pub record Literals : Type 0 where
  pub zero : lit_0 ≡ round binary32 false 0 1
  pub minus_zero : lit_minus_0 ≡ round binary32 true 0 1
  pub one : lit_1 ≡ round binary32 false 1 1
  pub two : lit_2 ≡ round binary32 false 2 1
  pub four : lit_4 ≡ round binary32 false 4 1
  pub sixteen : lit_16 ≡ round binary32 false 16 1
  pub greatest-byte : lit_255 ≡ round binary32 false 255 1
  pub half : lit_half ≡ round binary32 false 5 10
  pub minus-half : lit_minus_half ≡ round binary32 true 5 10
  pub ratio : lit_0·2 ≡ round binary32 false 2 10
  pub threshold : lit_0·28 ≡ round binary32 false 28 100
  pub flat : lit_minus_1e_12 ≡ round binary32 true 1 (10 ^ 12)

pub literals : Literals
unfolding round of_bits
literals = record {
  zero = refl;
  minus_zero = refl;
  one = refl;
  two = refl;
  four = refl;
  sixteen = refl;
  greatest-byte = refl;
  half = refl;
  minus-half = refl;
  ratio = refl;
  threshold = refl;
  flat = refl;
}
