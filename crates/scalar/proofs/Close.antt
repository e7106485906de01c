-- The error law: the f32 that `log_of` gives is within 2 ^ -19 of L, for any number of terms and any upper
-- end that leave room (`near`), and at most 32 in size (`at_most_32`). Assumes nothing.
use Rattle.std.proofs.Common.{◌≡◌, ℕ, ◌+◌, ◌-◌, ◌*◌, ◌/◌, ◌%◌, ◌^◌, ◌<◌, ◌≤◌, Bool, true, false, cond, not, ◌&&◌, T, leb, sym, refl, ap, ◌∙◌, subst, le_trans, le_of_eq, le_of_lt, mul-le-mul_right, mul_assoc, mul_comm, add-mul, mul-le-mul_left, mul-one, mul-add, mul_right_comm, le_of_mul-le-mul_right, mul_left_comm, arith, lit<, lit≤, leb→le}
use lib.Dec.{nleb→lt}
use lib.Ieee.{Float, nan, inf, fin, up, down, binary32, fits, le, to_bits, neg}
use lib.Ieee.Exact.{HasValue}
use Rattle.scalar.specs.Log.{unit, sum_top, sum_bottom, cut_sum, cut_third, units_of, plus, minus, whole, doublings, less_one}
use Rattle.scalar.specs.Log.{more_one, distance, Close, Within, Near, float_of, difference, log_of, lowest, highest, most_bits}
use Rattle.scalar.specs.Log.{terms, high}
use Rattle.scalar.specs.Steps.{roomy, a_third}
use Rattle.std.specs.Prelude.{Some, None}
use Rattle.scalar.proofs.Squares.{cut_low, cut_high}
use Rattle.scalar.proofs.Range.{in_range}
use Rattle.scalar.proofs.Rounding.{Nearby, nearby}
use Rattle.scalar.proofs.Series.{bottom-positive, sum_low, sum-high, add_low, add_high, ratio_le, sum-small, third_is}

-- What the error law asks of the number of terms and of the upper end: few units are lost by cuts, and the sum has room.
pub record Room (N H : ℕ) : Type 0 where
  pub lost : H + 6 + 2 * N ≤ 128
  pub small : (H + 6) * cut_third N + (a_third + N * 9942054) < roomy

-- ---- k times a number that is cut

times-low : (k K n d : ℕ) → K * d ≤ unit * n → k * K * d ≤ unit * (k * n)
times-low k K n d h = le_trans (le_of_eq (mul_assoc k K d)) (le_trans (mul-le-mul_left k h) (le_of_eq (mul_left_comm k unit n)))

times-high : (k K n d : ℕ) → unit * n ≤ (K + 1) * d → unit * (k * n) ≤ (k * K + k) * d
times-high k K n d h =
    le_trans (le_of_eq (mul_left_comm unit k n))
    (le_trans (mul-le-mul_left k h)
    (le_of_eq (sym (mul_assoc k (K + 1) d) ∙ ap (λ (x : ℕ). x * d) (mul-add k K 1 ∙ ap (λ (x : ℕ). k * K + x) (mul-one k)))))

-- ---- the sums in units and the exact fractions, with N terms at the pattern b

module _ (N b : ℕ) where
  third_low : cut_third N * sum_bottom N 3 ≤ unit * sum_top N 1 3
  unfolding cut_third
  third_low = cut_low (unit * sum_top N 1 3) (sum_bottom N 3)

  third_high : unit * sum_top N 1 3 ≤ (cut_third N + 1) * sum_bottom N 3
  unfolding cut_third
  third_high = le_of_lt (cut_high (unit * sum_top N 1 3) (sum_bottom N 3) (bottom-positive N 3 (lit< tt)))

  more_positive : 0 < more_one b
  more_positive = positive (b % 8388608)
    where
      positive : (t : ℕ) → 0 < t + 16777216
      positive t = omega arith

  plus-is : plus N b ≡ doublings b * sum_top N 1 3 * sum_bottom N (more_one b) + sum_top N (less_one b) (more_one b) * sum_bottom N 3
  unfolding plus
  plus-is =
      ap (λ (x : ℕ). x + sum_top N (less_one b) (more_one b) * sum_bottom N 3)
      (sym (mul_assoc (doublings b) (sum_top N 1 3) (sum_bottom N (more_one b))))

  minus_is : unit * (6 * sum_top N 1 3) * sum_bottom N (more_one b) ≡ unit * minus N b
  unfolding minus
  minus_is =
      mul_assoc unit (6 * sum_top N 1 3) (sum_bottom N (more_one b))
      ∙ ap (λ (x : ℕ). unit * x) (mul_assoc 6 (sum_top N 1 3) (sum_bottom N (more_one b)))

  plus-low : units_of N b * whole N b ≤ unit * plus N b
  unfolding units_of whole
  plus-low =
      le_trans
      (add_low (doublings b * cut_third N) (sum_bottom N 3) (doublings b * sum_top N 1 3) (cut_sum (less_one b * unit / more_one b) N)
      (sum_bottom N (more_one b)) (sum_top N (less_one b) (more_one b))
      (times-low (doublings b) (cut_third N) (sum_top N 1 3) (sum_bottom N 3) third_low)
      (sum_low (less_one b) (more_one b) more_positive (ratio_le b) N))
      (le_of_eq (ap (λ (x : ℕ). unit * x) (sym plus-is)))

  plus-high : unit * plus N b ≤ (units_of N b + (doublings b + 2 * N)) * whole N b
  unfolding units_of whole
  plus-high =
      le_trans (le_of_eq (ap (λ (x : ℕ). unit * x) plus-is))
      (le_trans
      (add_high (doublings b * cut_third N + doublings b) (sum_bottom N 3) (doublings b * sum_top N 1 3)
      (cut_sum (less_one b * unit / more_one b) N + 2 * N) (sum_bottom N (more_one b)) (sum_top N (less_one b) (more_one b))
      (times-high (doublings b) (cut_third N) (sum_top N 1 3) (sum_bottom N 3) third_high)
      (sum-high (less_one b) (more_one b) more_positive (ratio_le b) N))
      (le_of_eq
      (ap (λ (x : ℕ). x * (sum_bottom N 3 * sum_bottom N (more_one b)))
      (group (doublings b * cut_third N) (doublings b) (cut_sum (less_one b * unit / more_one b) N) (2 * N)))))
    where
      group : (a l s n : ℕ) → a + l + (s + n) ≡ a + s + (l + n)
      group a l s n = omega arith

  minus-low : 6 * cut_third N * whole N b ≤ unit * minus N b
  unfolding whole
  minus-low =
      le_trans (le_of_eq (sym (mul_assoc (6 * cut_third N) (sum_bottom N 3) (sum_bottom N (more_one b)))))
      (le_trans (mul-le-mul_right (sum_bottom N (more_one b)) (times-low 6 (cut_third N) (sum_top N 1 3) (sum_bottom N 3) third_low)) (le_of_eq minus_is))

  minus-high : unit * minus N b ≤ (6 * cut_third N + 6) * whole N b
  unfolding whole
  minus-high =
      le_trans (le_of_eq (sym minus_is))
      (le_trans (mul-le-mul_right (sum_bottom N (more_one b)) (times-high 6 (cut_third N) (sum_top N 1 3) (sum_bottom N 3) third_high))
      (le_of_eq (mul_assoc (6 * cut_third N + 6) (sum_bottom N 3) (sum_bottom N (more_one b)))))

-- ---- from whole numbers to a float: r is v / c

swap : (y w n c : ℕ) → y * w * n * c ≡ y * c * n * w
swap y w n c = mul_right_comm (y * w) n c ∙ ap (λ (x : ℕ). x * n) (mul_right_comm y w c) ∙ mul_right_comm (y * c) w n

-- a distance from what is not above and not below
both_sides : (v y x d : ℕ) → v * 524288 + y * 1048576 ≤ x * 1048576 + d → x * 1048576 ≤ v * 524288 + y * 1048576 + d
    → distance (v + 2 * y) (2 * x) * 2 ^ 19 ≤ d
both_sides v y x d above below = omega arith

-- and back: the distance says no less
pub two_sides : (v y x d : ℕ) → distance (v + 2 * y) (2 * x) * 2 ^ 19 ≤ d
    → (v * 524288 + y * 1048576 ≤ x * 1048576 + d) × (x * 1048576 ≤ v * 524288 + y * 1048576 + d)
two_sides v y x d near = (omega arith, omega arith)

module _ (v c x y d : ℕ) (c-positive : 0 < c) (up_to : v * d * 2 ^ 19 + y * c * 2 ^ 20 ≤ x * c * 2 ^ 20 + d * c)
    (from : x * c * 2 ^ 20 ≤ v * d * 2 ^ 19 + y * c * 2 ^ 20 + d * c) where
  -- U / W is the size of the float
  module _ (U W : ℕ) (h : U * c ≡ v * W) where
    -- what both sides regroup
    same : (U * d * 524288 * c ≡ v * d * 524288 * W) × (y * W * 1048576 * c ≡ y * c * 1048576 * W)
        × (x * W * 1048576 * c ≡ x * c * 1048576 * W) × (d * W * c ≡ d * c * W)
        × ((U * d * 524288 + y * W * 1048576) * c ≡ U * d * 524288 * c + y * W * 1048576 * c)
        × ((v * d * 524288 + y * c * 1048576) * W ≡ v * d * 524288 * W + y * c * 1048576 * W)
    same = (
      mul_right_comm (U * d) 524288 c
          ∙ ap (λ (s : ℕ). s * 524288) (mul_right_comm U d c ∙ ap (λ (s : ℕ). s * d) h ∙ mul_right_comm v W d)
          ∙ mul_right_comm (v * d) W 524288,
      swap y W 1048576 c,
      swap x W 1048576 c,
      mul_right_comm d W c,
      add-mul (U * d * 524288) (y * W * 1048576) c,
      add-mul (v * d * 524288) (y * c * 1048576) W,
    )

    not_above_lem : U * d * 524288 + y * W * 1048576 ≤ x * W * 1048576 + d * W
    not_above_lem =
        let a : (v * d * 524288 + y * c * 1048576) * W ≤ (x * c * 1048576 + d * c) * W = mul-le-mul_right W up_to in
        le_of_mul-le-mul_right {k = c}
        (omega (arith, a, same, add-mul (x * W * 1048576) (d * W) c, add-mul (x * c * 1048576) (d * c) W)) c-positive

    not_below : x * W * 1048576 ≤ U * d * 524288 + y * W * 1048576 + d * W
    not_below =
        let sum = U * d * 524288 + y * W * 1048576 in
        let b : x * c * 1048576 * W ≤ (v * d * 524288 + y * c * 1048576 + d * c) * W = mul-le-mul_right W from in
        le_of_mul-le-mul_right {k = c}
        (omega (arith, b, same, add-mul sum (d * W) c, add-mul (v * d * 524288 + y * c * 1048576) (d * c) W)) c-positive

    close_of : Close U W x y d
    close_of = both_sides (U * d) (y * W) (x * W) (d * W) not_above_lem not_below

  within : (r : Float) → HasValue r false v c → Within r x y d × Within (neg r) y x d
  unfolding neg
  within nan h = (h, h)
  within (inf s) h = (h, h)
  within (fin false m e) h = (close_of (m * up e) (down e) h.1, close_of (m * up e) (down e) h.1)
  within (fin true m e) h = absurd (subst (λ (s : Bool). T (not s)) (sym h.0) tt)

-- ---- a and c are x / d and y / d in units, at most g and h too low; v / P is a - c, to within 128

module _ (a c x y d g h P v : ℕ) (a-low : a * d ≤ unit * x) (a-high : unit * x ≤ (a + g) * d) (c-low : c * d ≤ unit * y)
    (c-high : unit * y ≤ (c + h) * d) (g-small : g ≤ 128) (h-small : h ≤ 128) (order : c ≤ a) (v-most : v ≤ (a - c + 128) * P)
    (v-least : (a - c) * P ≤ v + 128 * P) where
  apart : (a - c) * (d * P) + c * (d * P) ≡ a * (d * P)
  apart = sym (add-mul (a - c) c (d * P)) ∙ ap (λ (s : ℕ). s * (d * P)) (back a c order)
    where
      back : (a c : ℕ) → c ≤ a → a - c + c ≡ a
      back a c h = omega arith

  swapped : (s : ℕ) → s * P * d ≡ s * (d * P)
  swapped s = mul_assoc s P d ∙ ap (λ (t : ℕ). s * t) (mul_comm P d)

  -- what both sides regroup
  regrouped : ((a - c) * (d * P) + c * (d * P) ≡ a * (d * P)) × (unit * x * P ≡ unit * (x * P)) × (unit * y * P ≡ unit * (y * P))
      × (x * P * 134217728 ≡ x * (P * 134217728)) × (y * P * 134217728 ≡ y * (P * 134217728)) × (d * P * 134217728 ≡ d * (P * 134217728))
  regrouped =
      (apart, mul_assoc unit x P, mul_assoc unit y P, mul_assoc x P 134217728, mul_assoc y P 134217728, mul_assoc d P 134217728)

  up_to : v * d * 2 ^ 19 + y * (P * 134217728) * 2 ^ 20 ≤ x * (P * 134217728) * 2 ^ 20 + d * (P * 134217728)
  up_to =
      let V1 : v * d ≤ (a - c + 128) * P * d = mul-le-mul_right d v-most in
      let X1 : a * d * P ≤ unit * x * P = mul-le-mul_right P a-low in
      let Y1 : unit * y * P ≤ (c + h) * d * P = mul-le-mul_right P c-high in
      let H1 : h * (d * P) ≤ 128 * (d * P) = mul-le-mul_right (d * P) h-small in
      omega (arith, swapped (a - c + 128), add-mul (a - c) 128 (d * P), mul_assoc a d P, mul_assoc (c + h) d P, add-mul c h (d * P), regrouped)

  from : x * (P * 134217728) * 2 ^ 20 ≤ v * d * 2 ^ 19 + y * (P * 134217728) * 2 ^ 20 + d * (P * 134217728)
  from =
      let V1 : (a - c) * P * d ≤ (v + 128 * P) * d = mul-le-mul_right d v-least in
      let X1 : unit * x * P ≤ (a + g) * d * P = mul-le-mul_right P a-high in
      let Y1 : c * d * P ≤ unit * y * P = mul-le-mul_right P c-low in
      let G1 : g * (d * P) ≤ 128 * (d * P) = mul-le-mul_right (d * P) g-small in
      omega (arith, swapped (a - c), add-mul v (128 * P) d, swapped 128, mul_assoc c d P, mul_assoc (a + g) d P, add-mul a g (d * P), regrouped)

-- the float of a - c units, and its negative
module _ (a c x y d g h : ℕ) (a-low : a * d ≤ unit * x) (a-high : unit * x ≤ (a + g) * d) (c-low : c * d ≤ unit * y)
    (c-high : unit * y ≤ (c + h) * d) (g-small : g ≤ 128) (h-small : h ≤ 128) (order : c ≤ a) (small : a < roomy) where
  both_signs : Within (float_of (a - c)) x y d × Within (neg (float_of (a - c))) y x d
  both_signs =
      let f = nearby (a - c) (under a c small) in
      let v = f.0 in
      let k = f.1 in
      within v (2 ^ 176) x y d (lit< tt)
      (up_to a c x y d g h (2 ^ 149) v a-low a-high c-low c-high g-small h-small order k.most k.least)
      (from a c x y d g h (2 ^ 149) v a-low a-high c-low c-high g-small h-small order k.most k.least)
      (float_of (a - c)) k.value
    where
      under : (a c : ℕ) → a < 4294967040 → a - c < 2 ^ 32
      under a c h = omega arith

-- ---- any number of terms, and any pattern, that leave room

module _ (N H b : ℕ) (room : Room N H) (top : b ≤ most_bits H) where
  doublings_le : doublings b ≤ H + 6
  doublings_le = omega arith

  pub units_small : units_of N b < roomy
  unfolding units_of
  units_small =
      omega (arith, room.small, mul-le-mul_right (cut_third N) doublings_le, (sum-small (less_one b * unit / more_one b) (ratio_le b) N).1)

  pub six_small : 6 * cut_third N < roomy
  six_small = omega (arith, room.small, add-mul H 6 (cut_third N))

  pub close : Within (difference (units_of N b) (6 * cut_third N)) (plus N b) (minus N b) (whole N b)
  unfolding difference
  close = go (leb (6 * cut_third N) (units_of N b)) (leb→le (6 * cut_third N) (units_of N b)) (nleb→lt (6 * cut_third N) (units_of N b))
    where
      few : doublings b + 2 * N ≤ 128
      few = omega (arith, room.lost, doublings_le)

      go : (t : Bool) → (T t → 6 * cut_third N ≤ units_of N b) → (T (not t) → units_of N b < 6 * cut_third N)
          → Within (cond t (float_of (units_of N b - 6 * cut_third N)) (neg (float_of (6 * cut_third N - units_of N b)))) (plus N b)
          (minus N b) (whole N b)
      go true f g =
          (both_signs (units_of N b) (6 * cut_third N) (plus N b) (minus N b) (whole N b) (doublings b + 2 * N) 6 (plus-low N b)
          (plus-high N b) (minus-low N b) (minus-high N b) few (lit≤ tt) (f tt) units_small).0
      go false f g =
          (both_signs (6 * cut_third N) (units_of N b) (minus N b) (plus N b) (whole N b) 6 (doublings b + 2 * N) (minus-low N b)
          (minus-high N b) (plus-low N b) (plus-high N b) (lit≤ tt) few (le_of_lt (g tt)) six_small).1

-- ---- the size of the float

-- r is finite and at most n in size
abbrev pub AtMost : ℕ → Float → Type 0
AtMost n nan = ⊥
AtMost n (inf s) = ⊥
AtMost n (fin s m e) = m * up e ≤ n * down e

float_at_most : (d : ℕ) → d < roomy → AtMost 32 (float_of d) × AtMost 32 (neg (float_of d))
unfolding neg
float_at_most d h = let f = nearby d (under d h) in go (float_of d) f.0 f.1
  where
    under : (d : ℕ) → d < 4294967040 → d < 2 ^ 32
    under d h = omega arith

    more : (d : ℕ) → d < 4294967040 → d + 128 ≤ 4294967296
    more d h = omega arith

    go : (r : Float) (v : ℕ) → Nearby d v r → AtMost 32 r × AtMost 32 (neg r)
    go nan v k = absurd k.value
    go (inf s) v k = absurd k.value
    go (fin s m e) v k =
        let t : m * up e ≤ 32 * down e =
        le_of_mul-le-mul_right {k = 2 ^ 176}
        (le_trans (le_of_eq k.value.1)
        (le_trans (mul-le-mul_right (down e) (le_trans k.most (mul-le-mul_right (2 ^ 149) (more d h))))
        (le_of_eq (mul_right_comm 32 (2 ^ 176) (down e)))))
        (lit< tt) in
        (t, t)

difference_at_most : (a c : ℕ) → a < roomy → c < roomy → AtMost 32 (difference a c)
unfolding difference
difference_at_most a c A C = go (leb c a)
  where
    less : (a c : ℕ) → a < 4294967040 → a - c < 4294967040
    less a c h = omega arith

    go : (t : Bool) → AtMost 32 (cond t (float_of (a - c)) (neg (float_of (c - a))))
    go true = (float_at_most (a - c) (less a c A)).0
    go false = (float_at_most (c - a) (less c a C)).1

-- ---- `log_of`

both_true : (a b : Bool) → (a && b) ≡ true → (a ≡ true) × (b ≡ true)
both_true true b e = (refl, e)
both_true false b e = absurd (subst T (sym e) tt)

picked : (t : Bool) (v r : Float) → cond t (Some v) None ≡ Some r → (t ≡ true) × (v ≡ r)
picked true v r e = (refl, cc)
picked false v r e = absurd (let z : ◌≡◌ {A = ℕ} 0 1 = cc in omega arith)

module _ (N H : ℕ) (room : Room N H) (x r : Float) (f : T (fits binary32 x)) (e : log_of N H x ≡ Some r) where
  found : (to_bits binary32 x ≤ most_bits H) × (difference (units_of N (to_bits binary32 x)) (6 * cut_third N) ≡ r)
  unfolding log_of
  found =
      let k = picked (le lowest x && le x (highest H)) (difference (units_of N (to_bits binary32 x)) (6 * cut_third N)) r e in
      let t = both_true (le lowest x) (le x (highest H)) k.0 in
      ((in_range H x f t.0 t.1).1, k.1)

  pub near : Near N x r
  near = subst (λ (v : Float). Near N x v) found.1 (close N H (to_bits binary32 x) room found.0)

  pub at_most_32 : AtMost 32 r
  at_most_32 =
      subst (AtMost 32) found.1
      (difference_at_most (units_of N (to_bits binary32 x)) (6 * cut_third N) (units_small N H (to_bits binary32 x) room found.0)
      (six_small N H (to_bits binary32 x) room found.0))

-- the number of terms and the upper end of the source leave room
pub room_here : Room terms high
room_here = record { lost = lit≤ tt; small = subst (λ (t : ℕ). (high + 6) * t + (a_third + terms * 9942054) < roomy) (sym third_is) (lit< tt) }
