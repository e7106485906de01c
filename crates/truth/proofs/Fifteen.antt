-- Fifteen roundings move a number by at most its 2 ^ 20th part; sixteen may move it by more. Assumes nothing.
use mathlib.Core.Path.{refl}
use Prim.Native.Nat.{ℕ, ◌+◌, ◌-◌, ◌*◌, ◌^◌, ◌≤◌, ◌<◌}
use native.Mathlib.Nat.{mul-le-mul_left, le_of_mul-le-mul_right}
use native.Mathlib.Omega.{arith}
use lib.Dec.{lit<, lit≤}
use lib.Ieee.{Float, up, down}
use Rattle.float.proofs.Once.{unit, over, under}
use Rattle.float.proofs.Rounded.{Between, Rounded, rounded, rounded_upto}
use Rattle.truth.specs.Truth.{apart, part, Truthful}

-- ---- the computed end

upward : part * over ^ 15 ≤ (part + 1) * unit ^ 15
upward = lit≤ tt

downward : (part - 1) * unit ^ 15 ≤ part * under ^ 15
downward = lit≤ tt

pub sixteen_too_many : (part + 1) * unit ^ 16 < part * over ^ 16
sixteen_too_many = lit< tt

-- ---- over plain numbers: a / c is E / N but for H, M and L

close_by : (H M L E N a c : ℕ) → 0 < M → part * H ≤ (part + 1) * M → (part - 1) * M ≤ part * L → Between H M L E N a c
    → apart (a * N) (E * c) * part ≤ E * c
close_by H M L E N a c pos up down h =
    let p = E * c in
    let most : part * (a * N) ≤ (part + 1) * p = le_of_mul-le-mul_right {k = M} (omega (arith, h.most, mul-le-mul_left p up)) pos in
    let least : (part - 1) * p ≤ part * (a * N) = le_of_mul-le-mul_right {k = M} (omega (arith, h.least, mul-le-mul_left p down)) pos in
    omega arith

fifteen : {E N : ℕ} {x : Float} → Rounded 15 E N x → Truthful E N x
fifteen {E} {N} (rounded {m = m} {e = e} h) =
    record { number = (refl, refl); close = close_by (over ^ 15) (unit ^ 15) (under ^ 15) E N (m * up e) (down e) (lit< tt) upward downward h }

pub fifteen_true : {k E N : ℕ} {x : Float} → k ≤ 15 → Rounded k E N x → Truthful E N x
fifteen_true b h = fifteen (rounded_upto 15 b h)
