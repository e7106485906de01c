-- A rule for a few numbers, by one test that is computed; and floats that are equal because their patterns are. Assumes nothing.
use mathlib.Core.Path.{◌≡◌, sym, ap, ◌∙◌, subst}
use mathlib.Core.Logic.{inl, inr}
use mathlib.Core.Bool.{Bool, true, ◌&&◌}
use Prim.Native.Nat.{ℕ, zero, suc, ◌≤◌, ◌<◌}
use native.Mathlib.Nat.{eq-or-lt_of_le}
use native.Mathlib.Omega.{arith}
use lib.Dec.{T, eqb, eqb→eq}
use lib.Ieee.{Float, binary32, fits, to_bits, of_bits}
use lib.Ieee.Bits.{of_bits-to_bits}
use lib.Ieee.Fits.{and_l, and_r}

-- a test that holds of every number below n
unfoldable pub every : (ℕ → Bool) → ℕ → Bool
every p zero = true
every p (suc n) = p n && every p n

pub every_at : (p : ℕ → Bool) (n : ℕ) → T (every p n) → (i : ℕ) → i < n → T (p i)
unfolding every
every_at p zero t i b = absurd (omega arith)
every_at p (suc n) t i b =
    let m : i ≤ n = omega arith in
    elim (eq-or-lt_of_le m) [
      | inl e ↦ subst (λ (j : ℕ). T (p j)) (sym e) (and_l (p n) (every p n) t)
      | inr l ↦ every_at p n (and_r (p n) (every p n) t) i l
    ]

-- two values of the format with one pattern are the same
unfoldable pub alike : Float → Float → Bool
alike x y = eqb (to_bits binary32 x) (to_bits binary32 y) && (fits binary32 x && fits binary32 y)

pub alike_same : (x y : Float) → T (alike x y) → x ≡ y
unfolding alike
alike_same x y t =
    let f = and_r (eqb (to_bits binary32 x) (to_bits binary32 y)) (fits binary32 x && fits binary32 y) t in
    sym (of_bits-to_bits binary32 x (and_l (fits binary32 x) (fits binary32 y) f))
    ∙ ap (of_bits binary32) (eqb→eq _ _ (and_l (eqb (to_bits binary32 x) (to_bits binary32 y)) _ t))
    ∙ of_bits-to_bits binary32 y (and_r (fits binary32 x) (fits binary32 y) f)
