-- A sum with an offset of either sign: `Within u v y` says that y is finite and at most u / v in size. Rounding keeps the order, so what is
-- at least p / q and at most n, moved by such an offset, lies between two values of the format that the exact sum cannot pass. Assumes nothing.
use mathlib.Core.Path.{◌≡◌, sym, ap}
use mathlib.Core.Bool.{Bool, true, false, true≢false}
use Prim.Native.Nat.{ℕ, ◌+◌, ◌-◌, ◌*◌, ◌^◌, ◌≤◌, ◌<◌}
use native.Mathlib.Nat.{le_of_eq, mul-one, mul-pos, mul-le-mul_right, le_of_mul-le-mul_right}
use native.Mathlib.Omega.{arith}
use borrow.Author.Tests.{le-ltb}
use lib.Dec.{T, lit≤}
use lib.IntN.{ℤ}
use lib.Ieee.{Float, nan, inf, fin, up, down, binary32, add, sum, le, lt, eq}
use lib.Ieee.Fits.{down_pos}
use lib.Ieee.Exact.{HasValue}
use lib.Ieee.Positive.{through}
use Rattle.float.proofs.Order.{or_le, or_ge}
use Rattle.float.proofs.Sized.{Held, held}
use Rattle.float.proofs.Ranged.{Ranged, ranged, Exact, round_ranged}

-- finite, and at most u / v in size, with either sign
pub data Within : ℕ → ℕ → Float → Type 0 where
  within : {s : Bool} {u v m : ℕ} {e : ℤ} → m * up e * v ≤ u * down e → Within u v (fin s m e)

-- what lies between two values of the format that are - u / v and u / v
pub within_of_le : (u v : ℕ) (lo hi y : Float) → HasValue lo true u v → HasValue hi false u v → T (le lo y) → T (le y hi) → Within u v y
unfolding le lt eq
within_of_le u v lo hi nan a b l h = absurd h
within_of_le u v nan hi (inf s) a b l h = absurd a
within_of_le u v (inf t) hi (inf s) a b l h = absurd a
within_of_le u v (fin t k d) hi (inf true) a b l h = absurd l
within_of_le u v (fin t k d) nan (inf false) a b l h = absurd b
within_of_le u v (fin t k d) (inf r) (inf false) a b l h = absurd b
within_of_le u v (fin t k d) (fin r j g) (inf false) a b l h = absurd h
within_of_le u v lo nan (fin false m e) a b l h = absurd b
within_of_le u v lo (inf t) (fin false m e) a b l h = absurd b
within_of_le u v lo (fin true k d) (fin false m e) a b l h = absurd (true≢false b.0)
within_of_le u v lo (fin false k d) (fin false m e) a b l h =
    within (through (m * up e) (k * up d) u (down e) (down d) v (down_pos d) (or_le _ _ true h) (le_of_eq b.1))
within_of_le u v nan hi (fin true m e) a b l h = absurd a
within_of_le u v (inf t) hi (fin true m e) a b l h = absurd a
within_of_le u v (fin false k d) hi (fin true m e) a b l h = absurd (true≢false (sym a.0))
within_of_le u v (fin true k d) hi (fin true m e) a b l h =
    within (through (m * up e) (k * up d) u (down e) (down d) v (down_pos d) (or_ge _ _ true l) (le_of_eq a.1))

-- ---- the sum, over plain fractions: A / D is at least p / q and at most n, B / F at most u / v

module _ (a c p q n r u v A D B F : ℕ) (C : 0 < c) (Q : 0 < q) (X : 0 < v) (least : a * (q * v) + u * q * c ≤ p * v * c) (most : n * v + u ≤ r * v)
    (h : p * D ≤ A * q) (k : A ≤ n * D) (g : B * v ≤ u * F) where
  -- a / c + B / F is at most A / D
  stays : a * (D * F) + B * D * c ≤ A * F * c
  stays =
      le_of_mul-le-mul_right {k = q * v}
      (omega (arith, mul-le-mul_right (D * F) least, mul-le-mul_right (F * v * c) h, mul-le-mul_right (D * c * q) g)) (mul-pos Q X)

  smaller : B * D ≤ A * F
  smaller = le_of_mul-le-mul_right {k = c} (omega (arith, stays)) C

  plus-low : a * (D * F) ≤ (A * F + B * D) * c
  plus-low = omega (arith, stays)

  plus-high : A * F + B * D ≤ r * (D * F)
  plus-high = le_of_mul-le-mul_right {k = v} (omega (arith, mul-le-mul_right (D * F) most, mul-le-mul_right (F * v) k, mul-le-mul_right D g)) X

  minus-low : (s : ℕ) → A * F ≡ s + B * D → a * (D * F) ≤ s * c
  minus-low s e = omega (arith, stays, ap (λ (x : ℕ). x * c) e)

  minus-high : A * F - B * D ≤ r * (D * F)
  minus-high = omega (arith, plus-high)

-- a / c is at most p / q less u / v, and r at least n and u / v
module _ (a c p q n r u v : ℕ) (C : 0 < c) (Q : 0 < q) (X : 0 < v) (E : Exact a c) (H : Held r)
    (least : a * (q * v) + u * q * c ≤ p * v * c) (most : n * v + u ≤ r * v) where
  pub add_within : {x y : Float} → Ranged p q n x → Within u v y → Ranged a c r (add binary32 x y)
  unfolding add sum
  add_within (ranged {m = m} {e = e} h k) (within {s = false} {m = i} {e = d} g) =
      let A = m * up e in
      let B = i * up d in
      round_ranged a c r (A * down d + B * down e) (down e * down d) C (mul-pos (down_pos e) (down_pos d)) E H
      (plus-low a c p q n r u v A (down e) B (down d) C Q X least most h k g)
      (plus-high a c p q n r u v A (down e) B (down d) C Q X least most h k g)
  add_within (ranged {m = m} {e = e} h k) (within {s = true} {m = i} {e = d} g) =
      let A = m * up e in
      let B = i * up d in
      let l : B * down e ≤ A * down d = smaller a c p q n r u v A (down e) B (down d) C Q X least most h k g in
      rw (le-ltb (A * down d) (B * down e) l)
      (round_ranged a c r (A * down d - B * down e) (down e * down d) C (mul-pos (down_pos e) (down_pos d)) E H
      (minus-low a c p q n r u v A (down e) B (down d) C Q X least most h k g (A * down d - B * down e) (omega arith))
      (minus-high a c p q n r u v A (down e) B (down d) C Q X least most h k g))

-- a whole number below 2 ^ 24 is a value of the format
pub held_whole : (n : ℕ) → n < 2 ^ 24 → Held n
held_whole n b = rw mul-one at (held n 0 b (lit≤ tt))
