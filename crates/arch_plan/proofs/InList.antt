-- The shares of a list lie in it, one behind the other. Assumes nothing.
use mathlib.Core.Path.{◌≡◌, ◌∙◌}
use Prim.Native.Nat.{ℕ, ◌+◌, ◌*◌, ◌/◌, ◌≤◌, ◌<◌}
use native.Mathlib.Nat.{mul_comm, mul_assoc, mul-le-mul_left, mul-div-le, div-mul-le_self}
use native.Mathlib.Omega.{arith}
use Rattle.grid.proofs.Plane.{row_in}

-- n shares of as many whole entries of k numbers as each can have: m is the list's length
pub shares_in : (k n m : ℕ) → n * (k * (m / k / n)) ≤ m
shares_in k n m =
    let turned : n * (k * (m / k / n)) ≡ k * (m / k / n * n) = mul_comm n (k * (m / k / n)) ∙ mul_assoc k (m / k / n) n in
    let each : k * (m / k / n * n) ≤ k * (m / k) = mul-le-mul_left k (div-mul-le_self (m / k) n) in
    let all : k * (m / k) ≤ m = mul-div-le m k in
    omega arith

-- share i of n, with s numbers each
pub share_in : (s : ℕ) {n m i : ℕ} → i < n → n * s ≤ m → i * s + s ≤ m
share_in s {n} {m} {i} l h = omega (arith, row_in s l, mul_comm n s)
