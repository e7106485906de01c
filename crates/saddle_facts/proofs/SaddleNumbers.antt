-- What the saddle test fixes for each ray radius, worked out from its definition: mean square distance and three inverse norms, as patterns.
-- Assumes nothing.
use mathlib.Core.Path.{◌≡◌, refl}
use mathlib.Core.List.{List, [], ◌∷◌}
use Prim.Native.Nat.{ℕ}
use lib.Ieee.{binary32, of_bits, to_bits, of_int, add, sub, mul, div}
use Rattle.grid.specs.Each.{each, keep}
use Rattle.grid.specs.Rect.{from, range, line, rect}
use Rattle.saddle.specs.Saddle.{disk, saddle_of}

unfoldable pub patterns : ℕ → List ℕ
patterns k =
    let t = saddle_of k in
    to_bits binary32 t.mean_r2 ∷ to_bits binary32 t.inv_u ∷ to_bits binary32 t.inv_v ∷ to_bits binary32 t.inv_xy ∷ []

pub saddle_numbers : (patterns 1 ≡ 0x3faa_aaab ∷ 0x3e80_0000 ∷ 0x3e80_0000 ∷ 0x3e80_0000 ∷ [])
    × (patterns 2 ≡ 0x4009_d89e ∷ 0x3d2c_e214 ∷ 0x3c70_f0f1 ∷ 0x3e80_0000 ∷ [])
    × (patterns 3 ≡ 0x4096_11a8 ∷ 0x3b90_dbc7 ∷ 0x3b0d_3dcb ∷ 0x3c23_d70a ∷ [])
    × (patterns 4 ≡ 0x40fa_c688 ∷ 0x3a7e_5662 ∷ 0x39ee_500f ∷ 0x3b0e_7835 ∷ [])
    × (patterns 5 ≡ 0x414f_cd6f ∷ 0x395f_d0f2 ∷ 0x3902_5ae4 ∷ 0x39cb_8728 ∷ [])
    × (patterns 6 ≡ 0x4190_243f ∷ 0x38aa_1d02 ∷ 0x3833_26e2 ∷ 0x3923_d70a ∷ [])
    × (patterns 7 ≡ 0x41bd_da34 ∷ 0x3815_41bb ∷ 0x3791_eb56 ∷ 0x3899_d723 ∷ [])
unfolding patterns saddle_of disk keep each rect line range from of_bits to_bits add sub mul div of_int
saddle_numbers = (refl, refl, refl, refl, refl, refl, refl)
