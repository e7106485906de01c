-- Whole numbers in f32: a product of two is theirs, rounded once; those up to 2 ^ 24 may be cast. Assumes nothing.
use mathlib.Core.Path.{◌≡◌, sym, ◌∙◌}
use mathlib.Core.Bool.{true, false}
use Prim.Native.Nat.{ℕ, ◌*◌, ◌^◌, ◌≤◌}
use native.Mathlib.Nat.{mul-one, mul-pos, mul-mul-mul_comm}
use native.Mathlib.Omega.{arith}
use lib.Dec.{T, lit<, le→leb}
use lib.IntN.{pos}
use lib.Ieee.{Float, nan, inf, fin, Format, binary32, up, down, mul, round, in_float}
use lib.Ieee.Exact.{HasValue}
use lib.Ieee.Fits.{down_pos}
use lib.Ieee.Scale.{round_same}

pub mul_whole : (f : Format) (x y : Float) (m n : ℕ) → HasValue x false m 1 → HasValue y false n 1 → mul f x y ≡ round f false (m * n) 1
unfolding mul
mul_whole f nan y m n p q = absurd p
mul_whole f (inf s) y m n p q = absurd p
mul_whole f (fin s a e) nan m n p q = absurd q
mul_whole f (fin s a e) (inf t) m n p q = absurd q
mul_whole f (fin true a e) (fin t b d) m n p q =
    let z : ◌≡◌ {A = ℕ} 0 1 = cc in
    absurd (omega arith)
mul_whole f (fin false a e) (fin true b d) m n p q =
    let z : ◌≡◌ {A = ℕ} 0 1 = cc in
    absurd (omega arith)
mul_whole f (fin false a e) (fin false b d) m n p q =
    let u : a * up e ≡ m * down e = sym (mul-one _) ∙ p.1 in
    let v : b * up d ≡ n * down d = sym (mul-one _) ∙ q.1 in
    round_same f false (a * up e * (b * up d)) (down e * down d) (m * n) 1 (mul-pos (down_pos e) (down_pos d)) (lit< tt)
    (mul-one _ ∙ rw (u, v) (mul-mul-mul_comm m (down e) n (down d)))

-- what `n as f32` asks
pub casts : (n : ℕ) → n ≤ 2 ^ 24 → T (in_float binary32 (pos n))
unfolding in_float
casts n b = le→leb n (2 ^ 24) b
