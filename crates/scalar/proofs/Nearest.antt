-- The pattern that a scaled and rounded root makes is the nearest root's (`is_root`), above the middle below it and not on it
-- (`above-middle`), and `root_bits` (`root_is`).
-- Assumes nothing.
use Rattle.std.proofs.Common.{◌≡◌, ℕ, zero, suc, ◌+◌, ◌-◌, ◌*◌, ◌^◌, ◌<◌, ◌≤◌, Bool, true, false, cond, T, leb, sym, ap, ◌∙◌, subst, inl, inr, zero-le, le_trans, le_of_eq, lt_of_lt_of_le, lt_of_le_of_lt, le_of_lt, mul-le-mul_right, mul_assoc, add-mul, mul-le-mul, eq-or-lt_of_le, mul-le-mul_left, mul-lt-mul_of_pos_right, mul-pos, lt_of_not-le, not-le_of_lt, arith, lit<, lit≤, le→leb, leb→le, pow_pos, pow-add}
use native.Mathlib.Nat.{mul-mul-mul_comm}
use native.Mathlib.Nat.{pow-succ'}
use Rattle.scalar.specs.Bits.{val, middle, greatest}
use Rattle.scalar.specs.Root.{middle_squared, fourfold, IsRoot, root_bits}
use Rattle.scalar.specs.Steps.{Scales, Rounds, least_scaled}
use Rattle.scalar.proofs.Squares.{square_lt}
use Rattle.scalar.proofs.Patterns.{val_lt, val_mono, middle_mono, val_at}

pub squared_mono : (b c : ℕ) → b ≤ c → middle_squared b ≤ middle_squared c
unfolding middle_squared
squared_mono b c h = mul-le-mul (middle_mono b c h) (middle_mono b c h)

pub fourfold_mono : (b c : ℕ) → b ≤ c → fourfold b ≤ fourfold c
unfolding fourfold
fourfold_mono b c h = mul-le-mul_left 4 (mul-le-mul_right (2 ^ 149) (val_mono b c h))

-- ---- the pattern h * 2 ^ 23 + q

fourfold-is : (b n h : ℕ) → Scales b n h → fourfold b ≡ 4 * n * (2 ^ h * 2 ^ h)
unfolding fourfold
fourfold-is b n h s = ap (λ (x : ℕ). 4 * x) (sym s.same ∙ ap (λ (x : ℕ). n * x) (pow-add 2 h h)) ∙ sym (mul_assoc 4 n (2 ^ h * 2 ^ h))

-- the middle over it: of two neighbours with one exponent
over : (h q : ℕ) → 8388608 ≤ q → q < 16777216 → middle_squared (h * 8388608 + q + 1) ≡ (q + q + 1) * (q + q + 1) * (2 ^ h * 2 ^ h)
unfolding middle_squared middle
over h q l u = ap (λ (x : ℕ). x * x) sum ∙ mul-mul-mul_comm (q + q + 1) (2 ^ h) (q + q + 1) (2 ^ h)
  where
    back : (a : ℕ) → a + 1 - 1 ≡ a
    back a = omega arith

    next : (a q : ℕ) → a + q + 1 ≡ a + (q + 1)
    next a q = omega arith

    group : (q : ℕ) → q + (q + 1) ≡ q + q + 1
    group q = omega arith

    sum : val (h * 8388608 + q + 1 - 1) + val (h * 8388608 + q + 1) ≡ (q + q + 1) * 2 ^ h
    sum =
        ap (λ (x : ℕ). val x + val (h * 8388608 + q + 1)) (back (h * 8388608 + q))
        ∙ ap (λ (x : ℕ). val (h * 8388608 + q) + val x) (next (h * 8388608) q)
        ∙ ap (λ (x : ℕ). x + val (h * 8388608 + (q + 1))) (val_at h q l (le_of_lt u))
        ∙ ap (λ (x : ℕ). q * 2 ^ h + x) (val_at h (q + 1) (omega arith) (omega arith))
        ∙ sym (add-mul q (q + 1) (2 ^ h))
        ∙ ap (λ (x : ℕ). x * 2 ^ h) (group q)

-- the middle under the least significand, where the exponent changes: it is below the pattern's own number
edge : (h : ℕ) → middle_squared (h * 8388608 + 8388608) < 4 * least_scaled * (2 ^ h * 2 ^ h)
unfolding middle_squared middle
edge h =
    lt_of_lt_of_le (square_lt (val (h * 8388608 + 8388608 - 1) + val (h * 8388608 + 8388608)) (16777216 * 2 ^ h) most)
    (le_of_eq (mul-mul-mul_comm 16777216 (2 ^ h) 16777216 (2 ^ h)))
  where
    less : (a : ℕ) → a + 8388608 - 1 < a + 8388608
    less a = omega arith

    sum : (x y : ℕ) → x < y → x + y < y + y
    sum x y h = omega arith

    most : val (h * 8388608 + 8388608 - 1) + val (h * 8388608 + 8388608) < 16777216 * 2 ^ h
    most =
        lt_of_lt_of_le
        (sum (val (h * 8388608 + 8388608 - 1)) (val (h * 8388608 + 8388608))
        (val_lt (h * 8388608 + 8388608 - 1) (h * 8388608 + 8388608) (less (h * 8388608))))
        (le_of_eq (ap (λ (x : ℕ). x + x) (val_at h 8388608 (lit≤ tt) (lit≤ tt)) ∙ sym (add-mul 8388608 8388608 (2 ^ h))))

module _ (b n h q : ℕ) (s : Scales b n h) (r : Rounds n q) where
  pub above-middle : middle_squared (h * 8388608 + q) < fourfold b
  above-middle = elim (eq-or-lt_of_le r.least) [
    | inl e ↦ subst (λ (x : ℕ). middle_squared (h * 8388608 + x) < fourfold b) e
        (lt_of_lt_of_le (edge h) (le_trans (mul-le-mul_right (2 ^ h * 2 ^ h) (mul-le-mul_left 4 s.least)) (le_of_eq (sym (fourfold-is b n h s)))))
    | inr g ↦ subst (λ (x : ℕ). middle_squared x < fourfold b) (last h q g)
        (lt_of_le_of_lt (le_of_eq (over h (q - 1) (first q g) (prev q r.most) ∙ ap (λ (x : ℕ). x * x * (2 ^ h * 2 ^ h)) (twice q g)))
        (lt_of_lt_of_le (mul-lt-mul_of_pos_right r.below (mul-pos (pow_pos h) (pow_pos h))) (le_of_eq (sym (fourfold-is b n h s)))))
  ]
    where
      last : (h q : ℕ) → 8388608 < q → h * 8388608 + (q - 1) + 1 ≡ h * 8388608 + q
      last h q g = omega arith

      first : (q : ℕ) → 8388608 < q → 8388608 ≤ q - 1
      first q g = omega arith

      prev : (q : ℕ) → q < 16777216 → q - 1 < 16777216
      prev q g = omega arith

      twice : (q : ℕ) → 8388608 < q → q - 1 + (q - 1) + 1 ≡ q + q - 1
      twice q g = omega arith

  pub is_root : IsRoot b (h * 8388608 + q)
  is_root = record {
    low = le_of_lt above-middle;
    high = lt_of_le_of_lt (le_of_eq (fourfold-is b n h s))
        (lt_of_lt_of_le (mul-lt-mul_of_pos_right r.above (mul-pos (pow_pos h) (pow_pos h))) (le_of_eq (sym (over h q r.least r.most))));
  }

-- the root of +0 is +0
pub zero_root : IsRoot 0 0
unfolding middle_squared middle fourfold val
zero_root = record { low = lit≤ tt; high = lit< tt }

-- ---- `greatest`: the one number that passes where the next does not

pub greatest-is : (p : ℕ → Bool) → ((c d : ℕ) → c ≤ d → T (p d) → T (p c)) → (k at c : ℕ) → T (p c) → (T (p (c + 1)) → ⊥)
    → at ≤ c → c < at + 2 ^ k → greatest p k at ≡ c
unfolding greatest
greatest-is p down zero at c y n lo hi = omega arith
greatest-is p down (suc k) at c y n lo hi =
    go (p (at + 2 ^ k)) (λ (t : T (p (at + 2 ^ k))). t) (λ (t : T (p (at + 2 ^ k))). t)
    (λ (a : ℕ) (l : a ≤ c) (h : c < a + 2 ^ k). greatest-is p down k a c y n l h)
  where
    far : (a P c : ℕ) → c < a + 2 * P → c < a + P + P
    far a P c h = omega arith

    last : (a c : ℕ) → a < suc c → a ≤ c
    last a c h = omega arith

    one : (c a : ℕ) → suc c ≤ a → c + 1 ≤ a
    one c a h = omega arith

    go : (t : Bool) → (T t → T (p (at + 2 ^ k))) → (T (p (at + 2 ^ k)) → T t)
        → ((a : ℕ) → a ≤ c → c < a + 2 ^ k → greatest p k a ≡ c) → greatest p k (cond t (at + 2 ^ k) at) ≡ c
    go true f g ih =
        ih (at + 2 ^ k)
        (last (at + 2 ^ k) c (lt_of_not-le (λ (h : suc c ≤ at + 2 ^ k). n (down (c + 1) (at + 2 ^ k) (one c (at + 2 ^ k) h) (f tt)))))
        (far at (2 ^ k) c (subst (λ (x : ℕ). c < at + x) (pow-succ' 2 k) hi))
    go false f g ih = ih at lo (lt_of_not-le (λ (h : at + 2 ^ k ≤ c). g (down (at + 2 ^ k) c h y)))

pub root_is : (b c : ℕ) → c < 2147483648 → IsRoot b c → c ≡ root_bits b
unfolding root_bits
root_is b c l r =
    sym (greatest-is (λ (x : ℕ). leb (middle_squared x) (fourfold b))
    (λ (x y : ℕ) (h : x ≤ y) (t : T (leb (middle_squared y) (fourfold b))). le→leb (middle_squared x) (fourfold b)
    (le_trans (squared_mono x y h) (leb→le (middle_squared y) (fourfold b) t)))
    31 0 c (le→leb (middle_squared c) (fourfold b) r.low)
    (λ (t : T (leb (middle_squared (c + 1)) (fourfold b))). not-le_of_lt r.high (leb→le (middle_squared (c + 1)) (fourfold b) t))
    zero-le (below c l))
  where
    below : (c : ℕ) → c < 2147483648 → c < 0 + 2 ^ 31
    below c l = omega arith
