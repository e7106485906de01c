-- A pattern's number scaled by a power of 4 (`Scales`): by the subnormal loop's steps, and at once for a normal number.
-- Every number above 0 has such a scaling, and that a rounded root (`scaling`, `rounded`). Assumes nothing.
use Rattle.std.proofs.Common.{◌≡◌, ℕ, zero, suc, ◌+◌, ◌-◌, ◌*◌, ◌/◌, ◌%◌, ◌^◌, ◌<◌, ◌≤◌, sym, refl, ap, ◌∙◌, subst, le_trans, le_of_eq, lt_of_le_of_lt, mul-le-mul_right, mul_assoc, mul_comm, add_comm, lt_of_not-le, arith, lit<, lit≤, pow-add}
use native.Mathlib.Decide.{dec_le}
use Rattle.scalar.specs.Bits.{infinite, of_field, val}
use Rattle.scalar.specs.Steps.{Scales, WholeRoot, Rounds, least_scaled, most_scaled}
use Rattle.scalar.proofs.Squares.{square_lt, rounds_down, rounds_up}

-- ---- a subnormal number: n * 4 ^ h stays the same while n is multiplied by 4

pub low-start : (b : ℕ) → b * 8388608 * 2 ^ 126 ≡ b * 2 ^ 149
low-start b = mul_assoc b 8388608 (2 ^ 126)

quarter : (h : ℕ) → 2 ^ (suc h + suc h) ≡ 4 * 2 ^ (h + h)
quarter h = ap (λ (x : ℕ). 2 ^ x) two_more ∙ pow-add 2 2 (h + h)
  where
    two_more : suc h + suc h ≡ 2 + (h + h)
    two_more = omega arith

-- the loop ends before h is 0
too_large : (b n : ℕ) → n * 1 ≡ b * 2 ^ 149 → 0 < b → n < least_scaled → ⊥
too_large b n e p l = no (b * 2 ^ 149) (le_trans (lit≤ tt) (mul-le-mul_right (2 ^ 149) p)) e
  where
    no : (x : ℕ) → 70368744177664 ≤ x → n * 1 ≡ x → ⊥
    no x g f = omega arith

module _ (b n : ℕ) where
  pub low_pos : (h : ℕ) → n * 2 ^ (h + h) ≡ b * 2 ^ 149 → 0 < b → n < least_scaled → 1 ≤ h
  low_pos zero e p l = absurd (too_large b n e p l)
  low_pos (suc h) e p l = omega arith

  pub low_step : (h : ℕ) → n * 2 ^ (h + h) ≡ b * 2 ^ 149 → 0 < b → n < least_scaled → n * 4 * 2 ^ (h - 1 + (h - 1)) ≡ b * 2 ^ 149
  low_step zero e p l = absurd (too_large b n e p l)
  low_step (suc h) e p l =
      ap (λ (x : ℕ). n * 4 * 2 ^ (x + x)) less ∙ mul_assoc n 4 (2 ^ (h + h)) ∙ ap (λ (x : ℕ). n * x) (sym (quarter h)) ∙ e
    where
      less : suc h - 1 ≡ h
      less = omega arith

  pub low-val : (h : ℕ) → b < 8388608 → n * 2 ^ (h + h) ≡ b * 2 ^ 149 → n * 2 ^ (h + h) ≡ val b * 2 ^ 149
  unfolding val
  low-val h l e = e ∙ ap (λ (x : ℕ). x * 2 ^ 149) (sym (ap (λ (x : ℕ). of_field x (b % 8388608)) (none b l) ∙ rest b l))
    where
      none : (b : ℕ) → b < 8388608 → b / 8388608 ≡ 0
      none b l = omega arith

      rest : (b : ℕ) → b < 8388608 → b % 8388608 ≡ b
      rest b l = omega arith

-- ---- a normal number: f is 2 ^ 23 or 2 ^ 24, so that what is left of the exponent is even

val-high : (b : ℕ) → 8388608 ≤ b → val b ≡ (b % 8388608 + 8388608) * 2 ^ (b / 8388608 - 1)
unfolding val
val-high b h =
    ap (λ (x : ℕ). of_field x (b % 8388608)) (field b h) ∙ ap (λ (x : ℕ). x * 2 ^ (b / 8388608 - 1)) (add_comm 8388608 (b % 8388608))
  where
    field : (b : ℕ) → 8388608 ≤ b → b / 8388608 ≡ suc (b / 8388608 - 1)
    field b h = omega arith

pub high_scaled : (b f a h : ℕ) → 8388608 ≤ b → f * 2 ^ a ≡ 2 ^ 149 → h + h ≡ a + (b / 8388608 - 1)
    → (b % 8388608 + 8388608) * f * 2 ^ (h + h) ≡ val b * 2 ^ 149
high_scaled b f a h g e i =
    let m = b % 8388608 + 8388608 in
    let k = b / 8388608 - 1 in
    ap (λ (x : ℕ). m * f * 2 ^ x) i
    ∙ ap (λ (x : ℕ). m * f * x) (pow-add 2 a k)
    ∙ mul_assoc m f (2 ^ a * 2 ^ k)
    ∙ ap (λ (x : ℕ). m * x) (sym (mul_assoc f (2 ^ a) (2 ^ k)) ∙ ap (λ (x : ℕ). x * 2 ^ k) e ∙ mul_comm (2 ^ 149) (2 ^ k))
    ∙ sym (mul_assoc m (2 ^ k) (2 ^ 149))
    ∙ ap (λ (x : ℕ). x * 2 ^ 149) (sym (val-high b g))

module _ (b : ℕ) (normal : 8388608 ≤ b) (finite : b < infinite) where
  pub scales_even : (b / 8388608 - 1) % 2 ≡ 0 → Scales b ((b % 8388608 + 8388608) * 8388608) (63 + (b / 8388608 - 1) / 2)
  scales_even e = record {
    same = high_scaled b 8388608 126 (63 + (b / 8388608 - 1) / 2) normal refl (twice (b / 8388608 - 1) e);
    least = omega arith;
    most = omega arith;
    small = omega arith;
  }
    where
      twice : (k : ℕ) → k % 2 ≡ 0 → 63 + k / 2 + (63 + k / 2) ≡ 126 + k
      twice k e = omega arith

  pub scales_odd : ((b / 8388608 - 1) % 2 ≡ 0 → ⊥) → Scales b ((b % 8388608 + 8388608) * 16777216) (63 + (b / 8388608 - 1) / 2)
  scales_odd e = record {
    same = high_scaled b 16777216 125 (63 + (b / 8388608 - 1) / 2) normal refl (twice (b / 8388608 - 1) e);
    least = omega arith;
    most = omega arith;
    small = omega arith;
  }
    where
      twice : (k : ℕ) → (k % 2 ≡ 0 → ⊥) → 63 + k / 2 + (63 + k / 2) ≡ 125 + k
      twice k e = omega arith

-- ---- a scaling and a rounded root exist, whatever the code

whole_root : (n : ℕ) → (r : ℕ) × WholeRoot n r
whole_root zero = (0, record { low = lit≤ tt; high = lit< tt })
whole_root (suc n) = let i = whole_root n in go i.0 i.1 (dec_le ((i.0 + 1) * (i.0 + 1)) (suc n))
  where
    go : (r : ℕ) → WholeRoot n r → Dec ((r + 1) * (r + 1) ≤ suc n) → (r : ℕ) × WholeRoot (suc n) r
    go r w (yes h) = (r + 1, record { low = h; high = lt_of_le_of_lt w.high (square_lt (r + 1) (r + 1 + 1) (up r)) })
      where
        up : (r : ℕ) → r + 1 < r + 1 + 1
        up r = omega arith
    go r w (no f) = (r, record { low = omega arith; high = lt_of_not-le f })

pub rounded : (n : ℕ) → least_scaled ≤ n → n ≤ most_scaled → (q : ℕ) × Rounds n q
rounded n l u = let i = whole_root n in go i.0 i.1 (dec_le (n - i.0 * i.0) i.0)
  where
    go : (r : ℕ) → WholeRoot n r → Dec (n - r * r ≤ r) → (q : ℕ) × Rounds n q
    go r w (yes h) = (r, rounds_down n r l u w h)
    go r w (no f) = (r + 1, rounds_up n r l u w (lt_of_not-le f))

low_scaled : (b n h : ℕ) → 0 < b → b < 8388608 → n * 2 ^ (h + h) ≡ b * 2 ^ 149 → n ≤ most_scaled → n % 8388608 ≡ 0 → h ≤ 63
    → (m : ℕ) × (k : ℕ) × Scales b m k
low_scaled b n zero p l e u d s = (n, 0, record { same = low-val b n 0 l e; least = large (dec_le least_scaled n); most = u; small = lit< tt })
  where
    large : Dec (least_scaled ≤ n) → least_scaled ≤ n
    large (yes h) = h
    large (no f) = absurd (too_large b n e p (lt_of_not-le f))
low_scaled b n (suc h) p l e u d s =
    go (dec_le least_scaled n)
    (λ (t : n < least_scaled). low_scaled b (n * 4) h p l
    (subst (λ (x : ℕ). n * 4 * 2 ^ (x + x) ≡ b * 2 ^ 149) (pred h) (low_step b n (suc h) e p t)) (four n t d) (rest n d) (less h s))
  where
    pred : (h : ℕ) → suc h - 1 ≡ h
    pred h = omega arith

    four : (n : ℕ) → n < 70368744177664 → n % 8388608 ≡ 0 → n * 4 ≤ 281474959933440
    four n t d = omega arith

    rest : (n : ℕ) → n % 8388608 ≡ 0 → n * 4 % 8388608 ≡ 0
    rest n d = omega arith

    less : (h : ℕ) → suc h ≤ 63 → h ≤ 63
    less h s = omega arith

    inside : (h : ℕ) → suc h ≤ 63 → suc h < 200
    inside h s = omega arith

    go : Dec (least_scaled ≤ n) → (n < least_scaled → (m : ℕ) × (k : ℕ) × Scales b m k) → (m : ℕ) × (k : ℕ) × Scales b m k
    go (yes t) f = (n, suc h, record { same = low-val b n (suc h) l e; least = t; most = u; small = inside h s })
    go (no t) f = f (lt_of_not-le t)

pub scaling : (b : ℕ) → 0 < b → b < infinite → (m : ℕ) × (k : ℕ) × Scales b m k
scaling b p u = go (dec_le 8388608 b) (dec_le ((b / 8388608 - 1) % 2) 0)
  where
    go : Dec (8388608 ≤ b) → Dec ((b / 8388608 - 1) % 2 ≤ 0) → (m : ℕ) × (k : ℕ) × Scales b m k
    go (no f) t = low_scaled b (b * 8388608) 63 p (lt_of_not-le f) (low-start b) (start b (lt_of_not-le f)) (rest b) (lit≤ tt)
      where
        start : (b : ℕ) → b < 8388608 → b * 8388608 ≤ 281474959933440
        start b h = omega arith

        rest : (b : ℕ) → b * 8388608 % 8388608 ≡ 0
        rest b = omega arith
    go (yes g) (yes t) = (_, _, scales_even b g u (none ((b / 8388608 - 1) % 2) t))
      where
        none : (a : ℕ) → a ≤ 0 → a ≡ 0
        none a h = omega arith
    go (yes g) (no t) = (_, _, scales_odd b g u (λ (e : (b / 8388608 - 1) % 2 ≡ 0). t (le_of_eq e)))
