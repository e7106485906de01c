-- The error of the sums in units, as laws of whole numbers. Every power and every term is cut to a whole number,
-- which loses less than one unit, and what earlier cuts lost shrinks: so a power is at most 2 units below the exact
-- one, a term too, and a sum of N terms at most 2 * N (`sum_low`, `sum-high`). Assumes nothing.
use Rattle.std.proofs.Common.{◌≡◌, ℕ, zero, suc, ◌+◌, ◌*◌, ◌/◌, ◌%◌, ◌^◌, ◌<◌, ◌≤◌, sym, refl, ap, ◌∙◌, subst, le_trans, le_of_eq, lt_of_le_of_lt, le_of_lt, mul-le-mul_right, mul_assoc, mul_comm, div-lt_iff_lt-mul, add-mul, mul-le-mul, mul-pos, one-mul, pow-suc, mul-add, div-le_self, mul_right_comm, add-one, arith, lit<, lit≤}
use native.Mathlib.Nat.{mul-mul-mul_comm, pow-zero}
use Rattle.scalar.specs.Log.{unit, terms, sum_top, sum_bottom, cut_power, cut_sum, cut_third, units_of, doublings, less_one, more_one}
use Rattle.scalar.specs.Steps.{a_third}
use Rattle.scalar.proofs.Squares.{cut_low, cut_high, one_more}

-- ---- the code's numbers are the definition's

pub power_step : (z p j : ℕ) → p ≡ cut_power z j → p * (z * z / unit) / unit ≡ cut_power z (j + 1)
unfolding cut_power
power_step z p j e = ap (λ (x : ℕ). x * (z * z / unit) / unit) e ∙ ap (cut_power z) (sym (add-one j))

pub sum_step : (z p s j : ℕ) → s ≡ cut_sum z j → p ≡ cut_power z j → s + p / (2 * j + 1) ≡ cut_sum z (j + 1)
unfolding cut_sum
sum_step z p s j e f =
    ap (λ (x : ℕ). x + p / (2 * j + 1)) e ∙ ap (λ (x : ℕ). cut_sum z j + x / (2 * j + 1)) f ∙ ap (cut_sum z) (sym (add-one j))

-- `cut_third terms`, as the source has it: half of S(1/3) in units of 2 ^ -28.
abbrev pub third_units : ℕ
third_units = 93032639

pub third_is : cut_third terms ≡ third_units
unfolding cut_third
third_is = refl

pub units_are : (b s : ℕ) → s ≡ cut_sum (less_one b * unit / more_one b) terms → doublings b * third_units + s ≡ units_of terms b
unfolding units_of
units_are b s e =
    ap (λ (x : ℕ). doublings b * third_units + x) e ∙ ap (λ (x : ℕ). doublings b * x + cut_sum (less_one b * unit / more_one b) terms) (sym third_is)

-- ---- sizes: z is at most a third, so its square is at most a ninth, and so on

pub square_le : (z : ℕ) → z ≤ a_third → z * z / unit ≤ 29826161
square_le z h = down (z * z) (mul-le-mul h h)
  where
    down : (a : ℕ) → a ≤ 89478485 * 89478485 → a / 268435456 ≤ 29826161
    down a h = omega arith

pub step_le : (p w : ℕ) → p ≤ a_third → w ≤ 29826161 → p * w / unit ≤ 9942054
step_le p w a b = down (p * w) (mul-le-mul a b)
  where
    down : (x : ℕ) → x ≤ 89478485 * 29826161 → x / 268435456 ≤ 9942054
    down x h = omega arith

pub product_fits : (p w : ℕ) → p ≤ a_third → w ≤ a_third → p * w < 2 ^ 64
product_fits p w a b = lt_of_le_of_lt (mul-le-mul a b) (lit< tt)

-- (m - 1) / (m + 1) is below a third
pub ratio_le : (b : ℕ) → less_one b * unit / more_one b ≤ a_third
ratio_le b =
    last (b % 8388608 * 268435456 / (b % 8388608 + 16777216))
    ((div-lt_iff_lt-mul (positive (b % 8388608))).1 (cross (b % 8388608) (digits b)))
  where
    digits : (b : ℕ) → b % 8388608 < 8388608
    digits b = omega arith

    positive : (t : ℕ) → 0 < t + 16777216
    positive t = omega arith

    cross : (t : ℕ) → t < 8388608 → t * 268435456 < 89478486 * (t + 16777216)
    cross t h = omega arith

    last : (a : ℕ) → a < 89478486 → a ≤ 89478485
    last a h = omega arith

-- the sum has room, whatever the number of terms
pub sum-small : (z : ℕ) → z ≤ a_third → (N : ℕ) → (cut_power z N ≤ a_third) × (cut_sum z N + cut_power z N ≤ a_third + N * 9942054)
unfolding cut_power cut_sum
sum-small z h zero = (h, omega arith)
sum-small z h (suc j) =
    let i = sum-small z h j in
    let s = step_le (cut_power z j) (z * z / unit) i.0 (square_le z h) in
    (le_trans s (lit≤ tt), omega (arith, s, i.1, div-le_self (cut_power z j) (2 * j + 1)))

-- ---- how far the terms reach: the power of n = 17 is at most one unit, so that its term is cut to nothing

divided : (a b : ℕ) → a ≤ b → a / unit ≤ b / unit
divided a b h = omega arith

power_mono : (z y : ℕ) → z ≤ y → (j : ℕ) → cut_power z j ≤ cut_power y j
unfolding cut_power
power_mono z y h zero = h
power_mono z y h (suc j) =
    divided (cut_power z j * (z * z / unit)) (cut_power y j * (y * y / unit))
    (mul-le-mul (power_mono z y h j) (divided (z * z) (y * y) (mul-le-mul h h)))

ninth_power : (z : ℕ) → z ≤ a_third → cut_power z 8 ≤ 1
ninth_power z h = le_trans (power_mono z a_third h 8) (unfold cut_power in lit≤ tt)

pub ninth_is_cut : (z : ℕ) → z ≤ a_third → cut_sum z 9 ≡ cut_sum z 8
unfolding cut_sum
ninth_is_cut z h = none (cut_sum z 8) (cut_power z 8) (ninth_power z h)
  where
    none : (s p : ℕ) → p ≤ 1 → s + p / 17 ≡ s
    none s p h = omega arith

-- ---- the square: w stands for z * z in units, and z for p / q

square-low : (z p q w : ℕ) → z * q ≤ p * unit → w * unit ≤ z * z → w * (q * q) ≤ unit * (p * p)
square-low z p q w h k =
    let a : z * q * (z * q) ≤ p * unit * (p * unit) = mul-le-mul h h in
    let b : w * unit * (q * q) ≤ z * z * (q * q) = mul-le-mul_right (q * q) k in
    omega (arith, mul-mul-mul_comm z q z q, mul-mul-mul_comm p unit p unit, mul_right_comm w unit (q * q))

square-high : (z p q w : ℕ) → p * unit ≤ (z + 1) * q → z * z < (w + 1) * unit → 2 * z ≤ unit → unit * (p * p) ≤ (w + 2) * (q * q)
square-high z p q w h k s =
    let a : p * unit * (p * unit) ≤ (z + 1) * q * ((z + 1) * q) = mul-le-mul h h in
    let b : (z + 1) * (z + 1) ≤ (w + 2) * unit = omega (arith, one_more z) in
    let c : (z + 1) * (z + 1) * (q * q) ≤ (w + 2) * unit * (q * q) = mul-le-mul_right (q * q) b in
    omega (arith, mul-mul-mul_comm (z + 1) q (z + 1) q, mul-mul-mul_comm p unit p unit, mul_right_comm (w + 2) unit (q * q))

-- ---- one more power: P is at most 2 below the exact A / B, and w at most 2 below the exact R / Q

next_low : (P w A B R Q : ℕ) → P * B ≤ unit * A → w * Q ≤ unit * R → P * w / unit * (B * Q) ≤ unit * (A * R)
next_low P w A B R Q h k =
    let n = P * w / unit in
    let a : P * B * (w * Q) ≤ unit * A * (unit * R) = mul-le-mul h k in
    let b : n * unit * (B * Q) ≤ P * w * (B * Q) = mul-le-mul_right (B * Q) (cut_low (P * w) unit) in
    omega (arith, mul-mul-mul_comm P B w Q, mul-mul-mul_comm unit A unit R, mul_right_comm n unit (B * Q))

next_high : (P w A B R Q : ℕ) → unit * A ≤ (P + 2) * B → unit * R ≤ (w + 2) * Q → 2 * P + 2 * w + 4 ≤ unit
    → unit * (A * R) ≤ (P * w / unit + 2) * (B * Q)
next_high P w A B R Q h k s =
    let n = P * w / unit in
    let a : unit * A * (unit * R) ≤ (P + 2) * B * ((w + 2) * Q) = mul-le-mul h k in
    let l : P * w < (n + 1) * unit = cut_high (P * w) unit (lit< tt) in
    let b : (P + 2) * (w + 2) ≤ (n + 2) * unit = omega (arith, add-mul P 2 (w + 2), mul-add P w 2) in
    let c : (P + 2) * (w + 2) * (B * Q) ≤ (n + 2) * unit * (B * Q) = mul-le-mul_right (B * Q) b in
    omega (arith, mul-mul-mul_comm (P + 2) B (w + 2) Q, mul-mul-mul_comm unit A unit R, mul_right_comm (n + 2) unit (B * Q))

pow_one : (p : ℕ) → p ^ 1 ≡ p
pow_one p = pow-suc p 0 ∙ ap (λ (x : ℕ). x * p) (pow-zero p) ∙ one-mul p

pow_odd : (p j : ℕ) → p ^ (2 * suc j + 1) ≡ p ^ (2 * j + 1) * (p * p)
pow_odd p j =
    ap (λ (x : ℕ). p ^ x) (two j) ∙ pow-suc p (suc (2 * j + 1)) ∙ ap (λ (x : ℕ). x * p) (pow-suc p (2 * j + 1)) ∙ mul_assoc (p ^ (2 * j + 1)) p p
  where
    two : (j : ℕ) → 2 * suc j + 1 ≡ suc (suc (2 * j + 1))
    two j = omega arith

pow_positive : (q j : ℕ) → 0 < q → 0 < q ^ j
pow_positive q zero h = subst (λ (x : ℕ). 0 < x) (sym (pow-zero q)) (lit< tt)
pow_positive q (suc j) h = subst (λ (x : ℕ). 0 < x) (sym (pow-suc q j)) (mul-pos (pow_positive q j h) h)

odd_positive : (j : ℕ) → 0 < 2 * j + 1
odd_positive j = omega arith

pub bottom-positive : (N q : ℕ) → 0 < q → 0 < sum_bottom N q
unfolding sum_bottom
bottom-positive zero q h = lit< tt
bottom-positive (suc j) q h = mul-pos (bottom-positive j q h) (mul-pos (odd_positive j) (pow_positive q (2 * j + 1) h))

-- ---- a term, and two fractions added: S / d and T / C, each at most n and A in units

term_low : (P D A B : ℕ) → P * B ≤ unit * A → P / D * (D * B) ≤ unit * A
term_low P D A B h = le_trans (le_of_eq (sym (mul_assoc (P / D) D B))) (le_trans (mul-le-mul_right B (cut_low P D)) h)

term_high : (P D A B : ℕ) → 0 < D → unit * A ≤ (P + 2) * B → unit * A ≤ (P / D + 2) * (D * B)
term_high P D A B d h = le_trans h (le_trans (mul-le-mul_right B above) (le_of_eq (mul_assoc (P / D + 2) D B)))
  where
    above : P + 2 ≤ (P / D + 2) * D
    above = let l : P < (P / D + 1) * D = cut_high P D d in omega (arith, add-mul (P / D) 1 D, add-mul (P / D) 2 D)

module _ (S d n T C A : ℕ) where
  spread : (S + T) * (d * C) ≡ S * d * C + T * C * d
  spread =
      add-mul S T (d * C) ∙ ap (λ (x : ℕ). x + T * (d * C)) (sym (mul_assoc S d C))
      ∙ ap (λ (x : ℕ). S * d * C + x) (ap (λ (x : ℕ). T * x) (mul_comm d C) ∙ sym (mul_assoc T C d))

  pub add_low : S * d ≤ unit * n → T * C ≤ unit * A → (S + T) * (d * C) ≤ unit * (n * C + A * d)
  add_low h k = omega (arith, spread, mul-le-mul_right C h, mul-le-mul_right d k, mul_assoc unit n C, mul_assoc unit A d)

  pub add_high : unit * n ≤ S * d → unit * A ≤ T * C → unit * (n * C + A * d) ≤ (S + T) * (d * C)
  add_high h k = omega (arith, spread, mul-le-mul_right C h, mul-le-mul_right d k, mul_assoc unit n C, mul_assoc unit A d)

-- ---- the powers and the sums of a z that is p / q, at most a third, cut to a whole number

module _ (p q : ℕ) (q-positive : 0 < q) (at-most-a-third : p * unit / q ≤ a_third) where
  abbrev z : ℕ
  z = p * unit / q

  abbrev w : ℕ
  w = z * z / unit

  w_low : w * (q * q) ≤ unit * (p * p)
  w_low = square-low z p q w (cut_low (p * unit) q) (cut_low (z * z) unit)

  w_high : unit * (p * p) ≤ (w + 2) * (q * q)
  w_high = square-high z p q w (le_of_lt (cut_high (p * unit) q q-positive)) (cut_high (z * z) unit (lit< tt)) (half z at-most-a-third)
    where
      half : (z : ℕ) → z ≤ 89478485 → 2 * z ≤ 268435456
      half z h = omega arith

  power_low : (j : ℕ) → cut_power z j * q ^ (2 * j + 1) ≤ unit * p ^ (2 * j + 1)
  unfolding cut_power
  power_low zero =
      le_trans (le_of_eq (ap (λ (x : ℕ). z * x) (pow_one q)))
      (le_trans (cut_low (p * unit) q) (le_of_eq (mul_comm p unit ∙ ap (λ (x : ℕ). unit * x) (sym (pow_one p)))))
  power_low (suc j) =
      le_trans (le_of_eq (ap (λ (x : ℕ). cut_power z j * w / unit * x) (pow_odd q j)))
      (le_trans (next_low (cut_power z j) w (p ^ (2 * j + 1)) (q ^ (2 * j + 1)) (p * p) (q * q) (power_low j) w_low)
      (le_of_eq (ap (λ (x : ℕ). unit * x) (sym (pow_odd p j)))))

  power_high : (j : ℕ) → unit * p ^ (2 * j + 1) ≤ (cut_power z j + 2) * q ^ (2 * j + 1)
  unfolding cut_power
  power_high zero =
      le_trans (le_of_eq (ap (λ (x : ℕ). unit * x) (pow_one p) ∙ mul_comm unit p))
      (le_trans (le_of_lt (cut_high (p * unit) q q-positive))
      (le_trans (mul-le-mul_right q (more z)) (le_of_eq (ap (λ (x : ℕ). (z + 2) * x) (sym (pow_one q))))))
    where
      more : (z : ℕ) → z + 1 ≤ z + 2
      more z = omega arith
  power_high (suc j) =
      le_trans (le_of_eq (ap (λ (x : ℕ). unit * x) (pow_odd p j)))
      (le_trans
      (next_high (cut_power z j) w (p ^ (2 * j + 1)) (q ^ (2 * j + 1)) (p * p) (q * q) (power_high j) w_high
      (room (cut_power z j) w (sum-small z at-most-a-third j).0 (square_le z at-most-a-third)))
      (le_of_eq (ap (λ (x : ℕ). (cut_power z j * w / unit + 2) * x) (sym (pow_odd q j)))))
    where
      room : (P w : ℕ) → P ≤ 89478485 → w ≤ 29826161 → 2 * P + 2 * w + 4 ≤ 268435456
      room P w h k = omega arith

  pub sum_low : (N : ℕ) → cut_sum z N * sum_bottom N q ≤ unit * sum_top N p q
  unfolding cut_sum sum_top sum_bottom
  sum_low zero = lit≤ tt
  sum_low (suc j) =
      add_low (cut_sum z j) (sum_bottom j q) (sum_top j p q) (cut_power z j / (2 * j + 1)) ((2 * j + 1) * q ^ (2 * j + 1)) (p ^ (2 * j + 1)) (sum_low j)
      (term_low (cut_power z j) (2 * j + 1) (p ^ (2 * j + 1)) (q ^ (2 * j + 1)) (power_low j))

  pub sum-high : (N : ℕ) → unit * sum_top N p q ≤ (cut_sum z N + 2 * N) * sum_bottom N q
  unfolding cut_sum sum_top sum_bottom
  sum-high zero = lit≤ tt
  sum-high (suc j) =
      le_trans
      (add_high (cut_sum z j + 2 * j) (sum_bottom j q) (sum_top j p q) (cut_power z j / (2 * j + 1) + 2) ((2 * j + 1) * q ^ (2 * j + 1))
      (p ^ (2 * j + 1)) (sum-high j)
      (term_high (cut_power z j) (2 * j + 1) (p ^ (2 * j + 1)) (q ^ (2 * j + 1)) (odd_positive j) (power_high j)))
      (le_of_eq (ap (λ (x : ℕ). x * (sum_bottom j q * ((2 * j + 1) * q ^ (2 * j + 1)))) (group (cut_sum z j) (cut_power z j / (2 * j + 1)) j)))
    where
      group : (s t j : ℕ) → s + 2 * j + (t + 2) ≡ s + t + 2 * suc j
      group s t j = omega arith
