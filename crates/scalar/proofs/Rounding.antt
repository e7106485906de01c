-- Half-unit rounding: a fraction rounded to a whole number is within a half of it (`Half`), so the f32 nearest to a whole
-- number below 2 ^ 32 is within 128 of it; and dividing that by 2 ^ 27 is exact (`nearby`). Assumes nothing.
use Rattle.std.proofs.Common.{◌≡◌, ℕ, zero, suc, ◌+◌, ◌-◌, ◌*◌, ◌/◌, ◌%◌, ◌^◌, ◌<◌, ◌≤◌, Bool, true, false, not, T, eqb, pos, sym, refl, ap, ◌∙◌, subst, inl, inr, zero-le, le_trans, le_of_eq, lt_of_lt_of_le, lt_of_le_of_lt, le_of_lt, mul-le-mul_right, mod-lt, zero-lt-suc, mul_assoc, suc-mul, mul_comm, add-mul, mul-le-mul, eq-or-lt_of_le, mul-pos, one-mul, lt_of_not-le, div-add-mod', mul-one, mul_right_comm, not-le_of_lt, div-one, sub-le, arith, lit<, lit≤, eqb→eq, leb→le, pow_pos, pow_mono, pow-add, shl_lt}
use Prim.Native.Nat.{compare, Ordering}
use native.Mathlib.Nat.{eq_of_mul-eq-mul_right}
use native.Mathlib.Nat.{div-div-eq-div-mul}
use lib.Dec.{is_le, compare_is_eq, nleb→lt, eqb_refl}
use lib.Arith.{lt_of_le-ne}
use lib.Ieee.{Float, nan, inf, fin, up, down, binary32, round, div, nearest, size, of_int}
use lib.Ieee.Digits.{size-lt, size-le}
use lib.Ieee.Fits.{down_pos, nearest-le, kept-lt}
use lib.Ieee.Exact.{HasValue, round_exact}
use lib.Ieee.Nearest.{closest}
use lib.Ieee.Order.{drop, kept}
use lib.Ieee.Scale.{grid, round_val}
use Rattle.scalar.specs.Log.{float_of}

-- ---- a fraction rounded to a whole number is within a half of it

abbrev Compared : Ordering → ℕ → ℕ → Type 0
Compared Ordering.lt a b = a < b
Compared Ordering.eq a b = a ≡ b
Compared Ordering.gt a b = b < a

compared : (a b : ℕ) → Compared (compare a b) a b
compared a b = go (compare a b) (leb→le a b) (nleb→lt a b) (eqb→eq a b) (λ (e : a ≡ b). subst (λ (x : ℕ). T (eqb a x)) e (eqb_refl a))
  where
    go : (o : Ordering) → (T (is_le o) → a ≤ b) → (T (not (is_le o)) → b < a) → (T (compare_is_eq o) → a ≡ b) → (a ≡ b → T (compare_is_eq o)) → Compared o a b
    go Ordering.lt h k e n = lt_of_le-ne (h tt) n
    go Ordering.eq h k e n = e tt
    go Ordering.gt h k e n = k tt

-- c is within a half of a / b
pub record Half (a b c : ℕ) : Type 0 where
  pub most : 2 * (c * b) ≤ 2 * a + b
  pub least : 2 * a ≤ 2 * (c * b) + b

half_of : (a b q r : ℕ) (o : Ordering) → q * b + r ≡ a → r < b → Compared o (r * 2) b → Half a b (nearest q o)
half_of a b q r Ordering.lt e l c = record { most = omega arith; least = omega arith }
half_of a b q r Ordering.eq e l c =
    let t : q % 2 ≤ 1 = omega arith in
    let u : q % 2 * b ≤ 1 * b = mul-le-mul_right b t in
    record { most = omega (arith, add-mul q (q % 2) b, u); least = omega (arith, add-mul q (q % 2) b, u) }
half_of a b q r Ordering.gt e l c = record { most = omega (arith, suc-mul q b); least = omega (arith, suc-mul q b) }

pub closest_half : (a b : ℕ) → 0 < b → Half a b (closest a b)
closest_half a b h = half_of a b (a / b) (a % b) (compare (a % b * 2) b) (div-add-mod' a b) (mod-lt a h) (compared (a % b * 2) b)

-- ---- a multiple of 2 ^ 27 units of 2 ^ -149, divided by 2 ^ 27

rescale : (r : Float) (s : Bool) (w l num den : ℕ) → 0 < l → num * l ≡ w * den → HasValue r s w l → HasValue r s num den
rescale nan s w l num den p h v = v
rescale (inf t) s w l num den p h v = v
rescale (fin t m e) s w l num den p h v = (
  v.0,
  eq_of_mul-eq-mul_right l p (m * up e * den) (num * down e)
      (mul_right_comm (m * up e) den l
      ∙ ap (λ (x : ℕ). x * den) v.1
      ∙ mul_right_comm w (down e) den
      ∙ ap (λ (x : ℕ). x * down e) (sym h)
      ∙ mul_right_comm num l (down e)),
)

exact : (q j : ℕ) (y : Float) → q < 2 ^ 24 → q * 2 ^ j < 2 ^ 277 → HasValue y false (q * 2 ^ j * 134217728) (2 ^ 149)
    → HasValue (div binary32 y (fin false 1 (pos 27))) false (q * 2 ^ j * 134217728) (2 ^ 176)
exact q j nan l b h = absurd h
exact q j (inf s) l b h = absurd h
exact q j (fin true m e) l b h = absurd (subst (λ (s : Bool). T (not s)) (sym h.0) tt)
exact q j (fin false m e) l b h =
    unfold div in
    rescale (round binary32 false (m * up e * 1) (134217728 * down e)) false (m * up e * 1) (134217728 * down e)
    (q * 2 ^ j * 134217728) (2 ^ 176) (mul-pos (lit< tt) (down_pos e))
    (sym
    (ap (λ (x : ℕ). x * 2 ^ 176) (mul-one (m * up e)) ∙ sym (mul_assoc (m * up e) (2 ^ 149) 134217728)
    ∙ ap (λ (x : ℕ). x * 134217728) h.1 ∙ mul_assoc (q * 2 ^ j * 134217728) (down e) 134217728
    ∙ ap (λ (x : ℕ). q * 2 ^ j * 134217728 * x) (mul_comm (down e) 134217728)))
    (round_exact binary32 false (m * up e * 1) (134217728 * down e) q j (mul-pos (lit< tt) (down_pos e)) l b
    (ap (λ (x : ℕ). x * 2 ^ 149) (mul-one (m * up e)) ∙ h.1 ∙ mul_assoc (q * 2 ^ j) 134217728 (down e)))

-- ---- the nearest f32 to d: `drop` digits of d * 2 ^ 149 go, and 24 are kept

module _ (d : ℕ) (d-positive : 0 < d) (d_small : d < 2 ^ 32) where
  abbrev n : ℕ
  n = d * 2 ^ 149

  n_lt : n / 1 < 2 ^ 181
  n_lt = subst (λ (x : ℕ). x < 2 ^ 181) (sym (div-one n)) (shl_lt 32 149 d_small)

  n_ge : 2 ^ 149 ≤ n / 1
  n_ge = subst (λ (x : ℕ). 2 ^ 149 ≤ x) (sym (div-one n)) (le_trans (lit≤ tt) (mul-le-mul_right (2 ^ 149) d-positive))

  drop_le : drop 24 n 1 ≤ 157
  drop_le = less (size (n / 1)) (size-le (n / 1) 181 n_lt)
    where
      less : (z : ℕ) → z ≤ 181 → z - 24 ≤ 157
      less z h = omega arith

  drop_ge : 27 ≤ drop 24 n 1
  drop_ge =
      more (size (n / 1))
      (lt_of_not-le
      (λ (h : size (n / 1) ≤ 51). not-le_of_lt (lt_of_lt_of_le (size-lt (n / 1)) (pow_mono h))
      (le_trans (lit≤ {m = 2 ^ 51} {n = 2 ^ 149} tt) n_ge)))
    where
      more : (z : ℕ) → 51 < z → 27 ≤ z - 24
      more z h = omega arith

  kept_le : kept 24 n 1 ≤ 2 ^ 24
  kept_le =
      let u = 1 * 2 ^ drop 24 n 1 in
      le_trans (nearest-le (n / u) (compare (n % u * 2) u))
      (subst (λ (x : ℕ). x < 2 ^ 24) (div-div-eq-div-mul n 1 (2 ^ drop 24 n 1)) (kept-lt 24 (n / 1)))

  half : Half n (2 ^ drop 24 n 1) (kept 24 n 1)
  half =
      subst (λ (u : ℕ). Half n u (kept 24 n 1)) (one-mul (2 ^ drop 24 n 1))
      (closest_half n (1 * 2 ^ drop 24 n 1) (mul-pos (lit< tt) (pow_pos (drop 24 n 1))))

  -- half a unit in the last place is at most 2 ^ 156, which is 128 in units of 2 ^ -149
  most : grid binary32 d 1 ≤ (d + 128) * 2 ^ 149
  most = le_trans (step (grid binary32 d 1) n (2 ^ drop 24 n 1) (2 ^ 156) half.most (pow_mono drop_le)) (le_of_eq (sym (add-mul d 128 (2 ^ 149))))
    where
      step : (G m u H : ℕ) → 2 * G ≤ 2 * m + u → u ≤ 2 * H → G ≤ m + H
      step G m u H a b = omega arith

  least : d * 2 ^ 149 ≤ grid binary32 d 1 + 128 * 2 ^ 149
  least = step (grid binary32 d 1) n (2 ^ drop 24 n 1) (2 ^ 156) half.least (pow_mono drop_le)
    where
      step : (G m u H : ℕ) → 2 * m ≤ 2 * G + u → u ≤ 2 * H → m ≤ G + H
      step G m u H a b = omega arith

  grid_lt : grid binary32 d 1 < 2 ^ 277
  grid_lt = lt_of_le_of_lt (mul-le-mul kept_le (pow_mono drop_le)) (lit< {m = 2 ^ 24 * 2 ^ 157} {n = 2 ^ 277} tt)

  abbrev quotient : Float
  quotient = div binary32 (round binary32 false d 1) (fin false 1 (pos 27))

  by : (q j : ℕ) → q < 2 ^ 24 → grid binary32 d 1 ≡ q * 2 ^ j * 134217728 → j ≤ 157 → HasValue quotient false (grid binary32 d 1) (2 ^ 176)
  by q j l e h =
      subst (λ (G : ℕ). HasValue quotient false G (2 ^ 176)) (sym e)
      (exact q j (round binary32 false d 1) l (lt_of_le_of_lt (mul-le-mul (le_of_lt l) (pow_mono h)) (lit< {m = 2 ^ 24 * 2 ^ 157} {n = 2 ^ 277} tt))
      (subst (λ (G : ℕ). HasValue (round binary32 false d 1) false G (2 ^ 149)) e (round_val binary32 d 1 grid_lt)))

  -- what is kept has 24 digits, or is 2 ^ 24, which has one
  value : HasValue quotient false (grid binary32 d 1) (2 ^ 176)
  value = elim (eq-or-lt_of_le kept_le) [
    | inl e ↦ by 8388608 (k - 26) (lit< tt)
        (ap (λ (x : ℕ). x * 2 ^ k) e ∙ ap (λ (x : ℕ). 16777216 * 2 ^ x) (back 26 k (le_trans (lit≤ tt) drop_ge))
        ∙ ap (λ (x : ℕ). 16777216 * x) (pow-add 2 (k - 26) 26) ∙ regroup (2 ^ (k - 26)))
        (le_trans (sub-le k 26) drop_le)
    | inr l ↦ by (kept 24 n 1) (k - 27) l
        (ap (λ (x : ℕ). kept 24 n 1 * 2 ^ x) (back 27 k drop_ge) ∙ ap (λ (x : ℕ). kept 24 n 1 * x) (pow-add 2 (k - 27) 27)
        ∙ sym (mul_assoc (kept 24 n 1) (2 ^ (k - 27)) 134217728))
        (le_trans (sub-le k 27) drop_le)
  ]
    where
      k : ℕ
      k = drop 24 n 1

      back : (a k : ℕ) → a ≤ k → k ≡ k - a + a
      back a k h = omega arith

      regroup : (P : ℕ) → 16777216 * (P * 67108864) ≡ 8388608 * P * 134217728
      regroup P = omega arith

-- r is v * 2 ^ -176, which is within 128 units of d units of 2 ^ -27
pub record Nearby (d v : ℕ) (r : Float) : Type 0 where
  pub value : HasValue r false v (2 ^ 176)
  pub most : v ≤ (d + 128) * 2 ^ 149
  pub least : d * 2 ^ 149 ≤ v + 128 * 2 ^ 149

pub nearby : (d : ℕ) → d < 2 ^ 32 → (v : ℕ) × Nearby d v (float_of d)
unfolding float_of of_int
nearby zero h = (0, record { value = unfold round div in (refl, refl); most = zero-le; least = lit≤ tt })
nearby (suc d) h = (
  grid binary32 (suc d) 1,
  record
      { value = value (suc d) (zero-lt-suc d) h; most = most (suc d) (zero-lt-suc d) h; least = least (suc d) (zero-lt-suc d) h },
)
