-- Patterns in order: a larger pattern is worth more (`val_lt`, `val_mono`); what exponent and significand are worth (`val_at`); that IEEE 754
-- gives a pattern the same worth (`val_is`); and which values have a pattern below infinity's (`from_zero_lem`, `not_from_zero`). Assumes nothing.
use Rattle.std.proofs.Common.{◌≡◌, ℕ, zero, suc, ◌+◌, ◌-◌, ◌*◌, ◌/◌, ◌%◌, ◌^◌, ◌<◌, ◌≤◌, Bool, true, false, cond, not, T, eqb, ltb, leb, ℤ, sym, refl, ap, ◌∙◌, subst, inl, inr, le_of_eq, lt_of_lt_of_le, le_of_lt, add-le-add, mod-eq_of_lt, mul_assoc, mul-le-mul, eq-or-lt_of_le, mul-lt-mul_of_pos_right, lt_of_not-le, mul-one, not-le_of_lt, arith, eqb→eq, ltb→lt, leb→le, pow_pos, pow_mono}
use native.Mathlib.Nat.{pow-succ'}
use lib.Dec.{nleb→lt, not_T}
use lib.Ieee.{Float, nan, inf, fin, up, down, binary32, fits, odd, of_fields, of_bits, to_bits, nan_bits}
use lib.Ieee.Bits.{is_false, cond_no, of_bits-to_bits, nan_bits_above}
use lib.Ieee.Exact.{HasValue, odd_sign}
use Rattle.scalar.specs.Bits.{from_zero, infinite, of_field, val, middle}

-- ---- a larger pattern is worth more

field_under : (x t : ℕ) → t < 8388608 → of_field x t < 8388608 * 2 ^ x
field_under zero t h = omega arith
field_under (suc x) t h =
    lt_of_lt_of_le (mul-lt-mul_of_pos_right (twice t h) (pow_pos x))
    (le_of_eq (mul_assoc 8388608 2 (2 ^ x) ∙ ap (λ (y : ℕ). 8388608 * y) (sym (pow-succ' 2 x))))
  where
    twice : (t : ℕ) → t < 8388608 → 8388608 + t < 8388608 * 2
    twice t h = omega arith

field_low : (x y t : ℕ) → x < y → 8388608 * 2 ^ x ≤ of_field y t
field_low x zero t h = absurd (no x h)
  where
    no : (x : ℕ) → x < 0 → ⊥
    no x h = omega arith
field_low x (suc y) t h = mul-le-mul (more t) (pow_mono (last h))
  where
    more : (t : ℕ) → 8388608 ≤ 8388608 + t
    more t = omega arith

    last : x < suc y → x ≤ y
    last h = omega arith

field_digits : (x t u : ℕ) → t < u → of_field x t < of_field x u
field_digits zero t u h = h
field_digits (suc x) t u h = mul-lt-mul_of_pos_right (more t u h) (pow_pos x)
  where
    more : (t u : ℕ) → t < u → 8388608 + t < 8388608 + u
    more t u h = omega arith

pub val_lt : (b c : ℕ) → b < c → val b < val c
unfolding val
val_lt b c h =
    elim (eq-or-lt_of_le (fields b c h)) [
      | inl e ↦ subst (λ (x : ℕ). val b < of_field x (c % 8388608)) e (field_digits (b / 8388608) (b % 8388608) (c % 8388608) (digits b c h e))
      | inr l ↦ lt_of_lt_of_le (field_under (b / 8388608) (b % 8388608) (rest b)) (field_low (b / 8388608) (c / 8388608) (c % 8388608) l)
    ]
  where
    fields : (b c : ℕ) → b < c → b / 8388608 ≤ c / 8388608
    fields b c h = omega arith

    digits : (b c : ℕ) → b < c → b / 8388608 ≡ c / 8388608 → b % 8388608 < c % 8388608
    digits b c h e = omega arith

    rest : (c : ℕ) → c % 8388608 < 8388608
    rest c = omega arith

pub val_mono : (b c : ℕ) → b ≤ c → val b ≤ val c
val_mono b c h = elim (eq-or-lt_of_le h) [ inl e ↦ le_of_eq (ap val e) | inr l ↦ le_of_lt (val_lt b c l) ]

pub middle_mono : (b c : ℕ) → b ≤ c → middle b ≤ middle c
unfolding middle
middle_mono b c h = add-le-add (val_mono (b - 1) (c - 1) (less b c h)) (val_mono b c h)
  where
    less : (b c : ℕ) → b ≤ c → b - 1 ≤ c - 1
    less b c h = omega arith

-- ---- the worth of a pattern with the exponent h and the significand q

pub val_at : (h q : ℕ) → 8388608 ≤ q → q ≤ 16777216 → val (h * 8388608 + q) ≡ q * 2 ^ h
unfolding val
val_at h q l u =
    elim (eq-or-lt_of_le u) [
      | inl e ↦ subst (λ (x : ℕ). val (h * 8388608 + x) ≡ x * 2 ^ h) (sym e) (carried h)
      | inr g ↦
          ap (λ (x : ℕ). of_field x ((h * 8388608 + q) % 8388608)) (field h q l g)
          ∙ ap (λ (x : ℕ). of_field (suc h) x) (digits h q l g)
          ∙ ap (λ (x : ℕ). x * 2 ^ h) (back q l)
    ]
  where
    field : (h q : ℕ) → 8388608 ≤ q → q < 16777216 → (h * 8388608 + q) / 8388608 ≡ suc h
    field h q l g = omega arith

    digits : (h q : ℕ) → 8388608 ≤ q → q < 16777216 → (h * 8388608 + q) % 8388608 ≡ q - 8388608
    digits h q l g = omega arith

    back : (q : ℕ) → 8388608 ≤ q → 8388608 + (q - 8388608) ≡ q
    back q l = omega arith

    next : (h : ℕ) → (h * 8388608 + 16777216) / 8388608 ≡ suc (suc h)
    next h = omega arith

    none : (h : ℕ) → (h * 8388608 + 16777216) % 8388608 ≡ 0
    none h = omega arith

    carried : (h : ℕ) → val (h * 8388608 + 16777216) ≡ 16777216 * 2 ^ h
    carried h =
        ap (λ (x : ℕ). of_field x ((h * 8388608 + 16777216) % 8388608)) (next h)
        ∙ ap (λ (x : ℕ). of_field (suc (suc h)) x) (none h)
        ∙ ap (λ (x : ℕ). 8388608 * x) (pow-succ' 2 h)
        ∙ sym (mul_assoc 8388608 2 (2 ^ h))

-- ---- the worth that IEEE 754 gives a pattern

of_fields_lem : (x t : ℕ) → x < 255 → HasValue (of_fields binary32 false x t) false (of_field x t) (2 ^ 149)
unfolding of_fields
of_fields_lem zero t h = subst (λ (y : ℕ). HasValue (odd 24 false t 0 149) false y (2 ^ 149)) (mul-one t) (odd_sign 24 false t 0 149)
of_fields_lem (suc x) t h =
    subst (λ (v : Float). HasValue v false ((8388608 + t) * 2 ^ x) (2 ^ 149))
    (sym
    (cond_no (eqb (suc x) 255) (cond (eqb t 0) (inf false) nan) (odd 24 false (8388608 + t) x 149)
    (not_T (eqb (suc x) 255) (λ (u : T (eqb (suc x) 255)). differ x h (eqb→eq (suc x) 255 u)))))
    (odd_sign 24 false (8388608 + t) x 149)
  where
    differ : (x : ℕ) → suc x < 255 → suc x ≡ 255 → ⊥
    differ x h e = omega arith

pub val_is : (c : ℕ) → c < infinite → HasValue (of_bits binary32 c) false (val c) (2 ^ 149)
unfolding of_bits val
val_is c h =
    subst
    (λ (s : Bool). HasValue (of_fields binary32 s (c % 2147483648 / 8388608) (c % 8388608)) false
    (of_field (c / 8388608) (c % 8388608)) (2 ^ 149))
    (sym (is_false (leb 2147483648 c) (not_T (leb 2147483648 c) (λ (u : T (leb 2147483648 c)). not-le_of_lt (small c h) (leb→le 2147483648 c u)))))
    (subst
    (λ (x : ℕ). HasValue (of_fields binary32 false (x / 8388608) (c % 8388608)) false (of_field (c / 8388608) (c % 8388608))
    (2 ^ 149))
    (sym (mod-eq_of_lt (small c h)))
    (of_fields_lem (c / 8388608) (c % 8388608) (field c h)))
  where
    small : (c : ℕ) → c < 2139095040 → c < 2147483648
    small c h = omega arith

    field : (c : ℕ) → c < 2139095040 → c / 8388608 < 255
    field c h = omega arith

-- ---- which values are numbers from +0 up

value-from_zero : (x : Float) (a c : ℕ) → HasValue x false a c → from_zero x ≡ true
value-from_zero nan a c h = absurd h
value-from_zero (inf s) a c h = absurd h
value-from_zero (fin true m e) a c h = absurd (subst (λ (s : Bool). T (not s)) (sym h.0) tt)
value-from_zero (fin false m e) a c h = refl

pub pattern_from_zero : (c : ℕ) → c < infinite → from_zero (of_bits binary32 c) ≡ true
pattern_from_zero c h = value-from_zero (of_bits binary32 c) (val c) (2 ^ 149) (val_is c h)

either : (b : Bool) (x y : Float) → from_zero x ≡ false → from_zero y ≡ false → from_zero (cond b x y) ≡ false
either true x y h k = h
either false x y h k = k

odd_minus : (d t k l : ℕ) → from_zero (odd d true t k l) ≡ false
unfolding odd
odd_minus d zero k l = refl
odd_minus d (suc t) k l = refl

fields_minus : (x t : ℕ) → from_zero (of_fields binary32 true x t) ≡ false
unfolding of_fields
fields_minus zero t = odd_minus 24 t 0 149
fields_minus (suc x) t =
    either (eqb (suc x) 255) (cond (eqb t 0) (inf true) nan) (odd 24 true (8388608 + t) x 149)
    (either (eqb t 0) (inf true) nan refl refl) (odd_minus 24 (8388608 + t) x 149)

fields_top : (t : ℕ) → from_zero (of_fields binary32 false 255 t) ≡ false
unfolding of_fields
fields_top t = either (eqb t 0) (inf false) nan refl refl

pattern_outside : (b : ℕ) → infinite ≤ b → from_zero (of_bits binary32 b) ≡ false
unfolding of_bits
pattern_outside b h = go (leb 2147483648 b) (nleb→lt 2147483648 b)
  where
    field : (b : ℕ) → 2139095040 ≤ b → b < 2147483648 → b % 2147483648 / 8388608 ≡ 255
    field b h k = omega arith

    go : (s : Bool) → (T (not s) → b < 2147483648) → from_zero (of_fields binary32 s (b % 2147483648 / 8388608) (b % 8388608)) ≡ false
    go true f = fields_minus (b % 2147483648 / 8388608) (b % 8388608)
    go false f = ap (λ (x : ℕ). from_zero (of_fields binary32 false x (b % 8388608))) (field b h (f tt)) ∙ fields_top (b % 8388608)

pub from_zero_lem : (x : Float) → T (fits binary32 x) → to_bits binary32 x < infinite → from_zero x ≡ true
from_zero_lem x f h = ap from_zero (sym (of_bits-to_bits binary32 x f)) ∙ pattern_from_zero (to_bits binary32 x) h

pub not_from_zero : (x : Float) → T (fits binary32 x) → infinite ≤ to_bits binary32 x → from_zero x ≡ false
not_from_zero x f h = ap from_zero (sym (of_bits-to_bits binary32 x f)) ∙ pattern_outside (to_bits binary32 x) h

-- ---- a number from +0 up has a pattern below infinity's, and that pattern is worth the number

pub finite_below : (m : ℕ) (e : ℤ) → T (fits binary32 (fin false m e)) → to_bits binary32 (fin false m e) < infinite
finite_below m e f = lt_of_not-le (λ (h : infinite ≤ to_bits binary32 (fin false m e)). no (not_from_zero (fin false m e) f h))
  where
    no : ◌≡◌ {A = Bool} true false → ⊥
    no e = subst T e tt

pub worth : (m : ℕ) (e : ℤ) → T (fits binary32 (fin false m e)) → m * up e * 2 ^ 149 ≡ val (to_bits binary32 (fin false m e)) * down e
worth m e f =
    (subst (λ (x : Float). HasValue x false (val (to_bits binary32 (fin false m e))) (2 ^ 149))
    (of_bits-to_bits binary32 (fin false m e) f) (val_is (to_bits binary32 (fin false m e)) (finite_below m e f))).1

-- ---- no NaN: a pattern that is at most infinity's beside the sign, and a value that does not differ from itself

pub no_nan_pattern : (c : ℕ) → c % 2147483648 ≤ infinite → T (not (nan_bits binary32 c))
no_nan_pattern c h =
    subst (λ (b : Bool). T (not b)) (sym (nan_bits_above binary32 c))
    (not_T (ltb 2139095040 (c % 2147483648))
    (λ (t : T (ltb 2139095040 (c % 2147483648))). not-le_of_lt (ltb→lt 2139095040 (c % 2147483648) t) h))
