-- A value of binary32 from 2 ^ -6 to 2 ^ H has a pattern from `least_bits` to `most_bits H`
-- (`in_range`), and what the parts of that pattern are (`parts`).
-- Assumes nothing.
use Rattle.std.proofs.Common.{◌≡◌, ℕ, suc, ◌+◌, ◌-◌, ◌*◌, ◌/◌, ◌%◌, ◌^◌, ◌<◌, ◌≤◌, Bool, true, false, not, ◌&&◌, ◌||◌, T, eqb, ltb, ℤ, pos, negsuc, sym, ap, ◌∙◌, subst, le_trans, le_of_eq, lt_of_le_of_lt, le_of_lt, lt_irrefl, mul-le-mul_right, mul_assoc, mul_comm, mul-lt-mul_of_pos_right, one-mul, lt_of_not-le, mul-one, mul_right_comm, not-le_of_lt, le_of_mul-le-mul_right, arith, lit<, lit≤, eqb→eq, ltb→lt, pow_pos, pow-add}
use lib.Ieee.{Float, nan, inf, fin, up, down, binary32, fits, is_nan, to_bits, le, lt, eq}
use lib.Ieee.Fits.{down_pos, and_l}
use Rattle.scalar.specs.Bits.{val, of_field}
use Rattle.scalar.specs.Log.{lowest, highest, least_bits, most_bits, doublings, less_one}
use Rattle.scalar.proofs.Patterns.{val_mono, val_at, worth}

-- ---- what a comparison of two numbers from +0 up says

or_cases : (a b : Bool) (P : Type 0) → (T a → P) → (T b → P) → T (a || b) → P
or_cases true b P f g t = f tt
or_cases false b P f g t = g t

cross : (m : ℕ) (e : ℤ) (n : ℕ) (d : ℤ) → T (le (fin false m e) (fin false n d)) → m * up e * down d ≤ n * up d * down e
unfolding le lt eq
cross m e n d t =
    or_cases (ltb a b) (eqb a b && (true || eqb a 0)) (a ≤ b) (λ (u : T (ltb a b)). le_of_lt (ltb→lt a b u))
    (λ (u : T (eqb a b && (true || eqb a 0))). le_of_eq (eqb→eq a b (and_l (eqb a b) true u))) t
  where
    a : ℕ
    a = m * up e * down d

    b : ℕ
    b = n * up d * down e

-- a number above 0 is not at most a negative one
no_minus : (m : ℕ) (e : ℤ) → le lowest (fin true m e) ≡ true → ⊥
unfolding le lt eq
no_minus m e t =
    go (eqb a b) (eqb a 0)
    (λ (u : T (eqb a 0)). lt_irrefl 0
    (subst (λ (x : ℕ). 0 < x) (eqb→eq a 0 u) (subst (λ (x : ℕ). 0 < x) (sym (one-mul (down e))) (down_pos e))))
    (subst T (sym t) tt)
  where
    a : ℕ
    a = 1 * down e

    b : ℕ
    b = m * up e * 64

    go : (p q : Bool) → (T q → ⊥) → T (p && q) → ⊥
    go true q f u = f u
    go false q f u = u

pub no_nan : (x : Float) → le lowest x ≡ true → T (not (is_nan x))
unfolding le lt eq is_nan
no_nan nan e = subst T (sym e) tt
no_nan (inf s) e = tt
no_nan (fin s m k) e = tt

-- ---- from the number to its pattern: M / D is A / P

module _ (M D A P : ℕ) (D-positive : 0 < D) (same : M * P ≡ A * D) where
  from-below : D ≤ M * 64 → P ≤ A * 64
  from-below h =
      le_of_mul-le-mul_right {k = D}
      (le_trans (le_of_eq (mul_comm P D))
      (le_trans (mul-le-mul_right P h) (le_of_eq (mul_right_comm M 64 P ∙ ap (λ (x : ℕ). x * 64) same ∙ mul_right_comm A D 64))))
      D-positive

  from-above : (h : ℕ) → M ≤ h * D → A ≤ h * P
  from-above h l =
      le_of_mul-le-mul_right {k = D} (le_trans (le_of_eq (sym same)) (le_trans (mul-le-mul_right P l) (le_of_eq (mul_right_comm h D P)))) D-positive

at_least : (b : ℕ) → 2 ^ 149 ≤ val b * 64 → least_bits ≤ b
at_least b h = next (λ (g : b ≤ 1015021567). not-le_of_lt edge (le_trans h (mul-le-mul_right 64 (val_mono b 1015021567 g))))
  where
    edge : val 1015021567 * 64 < 2 ^ 149
    edge = unfold val in lit< tt

    next : (b ≤ 1015021567 → ⊥) → 1015021568 ≤ b
    next f = lt_of_not-le f

at_most : (H b : ℕ) → val b ≤ 2 ^ H * 2 ^ 149 → b ≤ most_bits H
at_most H b h = last (most_bits H) (λ (g : most_bits H + 1 ≤ b). not-le_of_lt edge (le_trans (val_mono (most_bits H + 1) b g) h))
  where
    last : (m : ℕ) → (m + 1 ≤ b → ⊥) → b ≤ m
    last m f = down m (lt_of_not-le f)
      where
        down : (m : ℕ) → b < m + 1 → b ≤ m
        down m h = omega arith

    next : (H : ℕ) → (127 + H) * 8388608 + 1 ≡ (126 + H) * 8388608 + 8388609
    next H = omega arith

    end : 2 ^ H * 2 ^ 149 ≡ 8388608 * 2 ^ (126 + H)
    end = mul_comm (2 ^ H) (2 ^ 149) ∙ mul_assoc 8388608 (2 ^ 126) (2 ^ H) ∙ ap (λ (x : ℕ). 8388608 * x) (sym (pow-add 2 126 H))

    edge : 2 ^ H * 2 ^ 149 < val (most_bits H + 1)
    edge =
        subst (λ (x : ℕ). 2 ^ H * 2 ^ 149 < x) (sym (ap val (next H) ∙ val_at (126 + H) 8388609 (lit≤ tt) (lit≤ tt)))
        (lt_of_le_of_lt (le_of_eq end) (mul-lt-mul_of_pos_right (lit< tt) (pow_pos (126 + H))))

pub in_range : (H : ℕ) (x : Float) → T (fits binary32 x) → le lowest x ≡ true → le x (highest H) ≡ true
    → (least_bits ≤ to_bits binary32 x) × (to_bits binary32 x ≤ most_bits H)
in_range H nan f l h = absurd (unfold le lt eq in subst T (sym l) tt)
in_range H (inf true) f l h = absurd (unfold le lt eq in subst T (sym l) tt)
in_range H (inf false) f l h = absurd (unfold le lt eq in subst T (sym h) tt)
in_range H (fin true m e) f l h = absurd (no_minus m e l)
in_range H (fin false m e) f l h = (
  at_least (to_bits binary32 (fin false m e))
      (from-below (m * up e) (down e) (val (to_bits binary32 (fin false m e))) (2 ^ 149) (down_pos e) (worth m e f)
      (le_trans (le_of_eq (sym (one-mul (down e)))) (cross 1 (negsuc 5) m e (subst T (sym l) tt)))),
  at_most H (to_bits binary32 (fin false m e))
      (from-above (m * up e) (down e) (val (to_bits binary32 (fin false m e))) (2 ^ 149) (down_pos e) (worth m e f) (2 ^ H)
      (le_trans (le_of_eq (sym (mul-one (m * up e))))
      (le_trans (cross m e 1 (pos H) (subst T (sym h) tt)) (le_of_eq (ap (λ (x : ℕ). x * down e) (one-mul (2 ^ H))))))),
)

-- what `doublings` and `less_one` are: a pattern of the range is worth (1 + less_one b / 2 ^ 23) * 2 ^ (doublings b - 6)
pub parts : (b : ℕ) → least_bits ≤ b → val b ≡ (8388608 + less_one b) * 2 ^ (doublings b + 120)
unfolding val
parts b h = ap (λ (x : ℕ). of_field x (b % 8388608)) (field b h)
  where
    field : (b : ℕ) → 1015021568 ≤ b → b / 8388608 ≡ suc (b / 8388608 - 121 + 120)
    field b h = omega arith
