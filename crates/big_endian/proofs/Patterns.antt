-- A pattern above infinity's, the sign apart, makes a NaN. Assumes nothing.
use mathlib.Core.Path.{◌≡◌, refl, sym, ◌∙◌}
use mathlib.Core.Bool.{true}
use Prim.Native.Nat.{ℕ, ◌%◌, ◌<◌}
use native.Mathlib.Omega.{arith}
use borrow.Author.Tests.{lt-ltb}
use lib.Ieee.{Float, nan, inf, fin, binary32, of_bits, is_nan}
use lib.Ieee.Bits.{nan_bits_above, nan_bits_is}

only : (x : Float) → is_nan x ≡ true → nan ≡ x
unfolding is_nan
only nan e = refl
only (inf s) e = absurd (let z : ◌≡◌ {A = ℕ} 0 1 = cc in omega arith)
only (fin s m d) e = absurd (let z : ◌≡◌ {A = ℕ} 0 1 = cc in omega arith)

pub nan_pattern : (n : ℕ) → 0x7f80_0000 < n % 0x8000_0000 → nan ≡ of_bits binary32 n
nan_pattern n h =
    only (of_bits binary32 n)
    (sym (nan_bits_is binary32 n) ∙ nan_bits_above binary32 n ∙ lt-ltb 0x7f80_0000 (n % 0x8000_0000) h)
