-- The nearest f32 to a root is one, and it is document 01's `root_of`: stated over fractions here, by patterns there. Assumes nothing.
use mathlib.Core.Path.{◌≡◌, refl, sym, ap, ◌∙◌}
use mathlib.Core.Bool.{true, false, true≢false}
use Prim.Native.Nat.{ℕ, ◌+◌, ◌*◌, ◌^◌, ◌<◌}
use native.Mathlib.Nat.{mul-pos, mul-lt-mul_of_pos_right, lt_of_mul-lt-mul_right, lt_irrefl, lt_trans, lt_of_not-le, not-le_of_lt}
use native.Mathlib.Omega.{arith}
use native.Mathlib.Decide.{dec_lt}
use lib.Dec.{T, lit<}
use lib.Ieee.{Float, nan, inf, fin, binary32, fits, to_bits, of_bits}
use lib.Ieee.Exact.{HasValue}
use lib.Ieee.Fits.{down_pos}
use lib.Ieee.Bits.{of_bits-to_bits, of_bits-fits}
use lib.Pow.{pow_pos}
use Rattle.scalar.specs.Bits.{infinite, val}
use Rattle.scalar.specs.Root.{fourfold, root_bits, root_of}
use Rattle.std.specs.Prelude.{Some, None}
use Rattle.scalar.proofs.Patterns.{val_lt, val_mono, val_is, finite_below, worth}
use Rattle.scalar.proofs.Facts.{root_below, nearer_than_below, nearer_than_above}
use Rattle.as_rust.specs.Root.{plus, top, bottom, sum_top, sum-bottom, Nearest, NearestRoots}

-- ---- fractions in units of 1 / P

-- two fractions a / c and b / d that are u and v units
module _ (P a c b d u v : ℕ) (some : 0 < P) (C : 0 < c) (D : 0 < d) (p : a * P ≡ u * c) (q : b * P ≡ v * d) where
  left : a * d * P ≡ u * (c * d)
  left = omega (arith, ap (λ (z : ℕ). z * d) p)

  right : b * c * P ≡ v * (c * d)
  right = omega (arith, ap (λ (z : ℕ). z * c) q)

  pub less_units : u < v → a * d < b * c
  less_units l = lt_of_mul-lt-mul_right P (rw (left, right) (mul-lt-mul_of_pos_right l (mul-pos C D)))

  pub units_less : a * d < b * c → u < v
  units_less l = lt_of_mul-lt-mul_right (c * d) (rw (left, right) at (mul-lt-mul_of_pos_right l some))

  -- their sum
  pub sum_units : (a * d + b * c) * P ≡ (u + v) * (c * d)
  sum_units = omega (arith, left, right)

-- a sum S / D of w units squared, and four times x / e of y units
module _ (P S D w x e y : ℕ) (some : 0 < P) (E : 0 < e) (Q : 0 < D) (p : S * P ≡ w * D) (q : x * P ≡ y * e) where
  square : S * S * e * (P * P) ≡ w * w * (D * D * e)
  square = regroup S e P ∙ ap (λ (z : ℕ). z * z * e) p ∙ back w D e
    where
      regroup : (S e P : ℕ) → S * S * e * (P * P) ≡ S * P * (S * P) * e
      regroup S e P = omega arith

      back : (w D e : ℕ) → w * D * (w * D) * e ≡ w * w * (D * D * e)
      back w D e = omega arith

  fourth : 4 * x * (D * D) * (P * P) ≡ 4 * (y * P) * (D * D * e)
  fourth = regroup x D P ∙ ap (λ (z : ℕ). 4 * z * (D * D) * P) q ∙ back y e D P
    where
      regroup : (x D P : ℕ) → 4 * x * (D * D) * (P * P) ≡ 4 * (x * P) * (D * D) * P
      regroup x D P = omega arith

      back : (y e D P : ℕ) → 4 * (y * e) * (D * D) * P ≡ 4 * (y * P) * (D * D * e)
      back y e D P = omega arith

  unit : 0 < D * D * e
  unit = mul-pos (mul-pos Q Q) E

  pub over_units : w * w < 4 * (y * P) → S * S * e < 4 * x * (D * D)
  over_units l = lt_of_mul-lt-mul_right (P * P) (rw (square, fourth) (mul-lt-mul_of_pos_right l unit))

  pub units_over : S * S * e < 4 * x * (D * D) → w * w < 4 * (y * P)
  units_over l = lt_of_mul-lt-mul_right (D * D * e) (rw (square, fourth) at (mul-lt-mul_of_pos_right l (mul-pos some some)))

  pub under_units : 4 * (y * P) < w * w → 4 * x * (D * D) < S * S * e
  under_units l = lt_of_mul-lt-mul_right (P * P) (rw (square, fourth) (mul-lt-mul_of_pos_right l unit))

  pub units_under : 4 * x * (D * D) < S * S * e → 4 * (y * P) < w * w
  units_under l = lt_of_mul-lt-mul_right (D * D * e) (rw (square, fourth) at (mul-lt-mul_of_pos_right l (mul-pos some some)))

-- ---- f32s by their patterns: 2^-149 is the unit

pub record Pattern (x : Float) : Type 0 where
  pub bits : ℕ
  pub below : bits < infinite
  pub is : of_bits binary32 bits ≡ x
  pub worth-is : top x * 2 ^ 149 ≡ val bits * bottom x
  pub under : 0 < bottom x

bottom_pos : (x : Float) → 0 < bottom x
bottom_pos nan = lit< tt
bottom_pos (inf s) = lit< tt
bottom_pos (fin s k e) = down_pos e

abbrev pattern_of : (x : Float) → T (fits binary32 x) → plus x ≡ true → Pattern x
pattern_of nan f p = absurd (true≢false (sym p))
pattern_of (inf s) f p = absurd (true≢false (sym p))
pattern_of (fin true k e) f p = absurd (true≢false (sym p))
pattern_of (fin false k e) f p = record {
  bits = to_bits binary32 (fin false k e);
  below = finite_below k e f;
  is = of_bits-to_bits binary32 (fin false k e) f;
  worth-is = worth k e f;
  under = down_pos e;
}

-- the number of a pattern
worth_of : (x : Float) (v : ℕ) → HasValue x false v (2 ^ 149) → top x * 2 ^ 149 ≡ v * bottom x
worth_of nan v h = absurd h
worth_of (inf s) v h = absurd h
worth_of (fin s k e) v h = h.1

plus_of : (x : Float) (v : ℕ) → HasValue x false v (2 ^ 149) → plus x ≡ true
plus_of nan v h = absurd h
plus_of (inf s) v h = absurd h
plus_of (fin true k e) v h = absurd (true≢false h.0)
plus_of (fin false k e) v h = refl

abbrev pattern_at : (c : ℕ) → c < infinite → Pattern (of_bits binary32 c)
pattern_at c b = record {
  bits = c;
  below = b;
  is = refl;
  worth-is = worth_of (of_bits binary32 c) (val c) (val_is c b);
  under = bottom_pos (of_bits binary32 c);
}

unit_pos : 0 < 2 ^ 149
unit_pos = pow_pos 149

val-less : (b c : ℕ) → val b < val c → b < c
val-less b c l = lt_of_not-le (λ h. not-le_of_lt l (val_mono c b h))

module _ (x : Float) (X : Pattern x) where
  abbrev root : Float
  root = of_bits binary32 (root_bits X.bits)

  abbrev R : Pattern (of_bits binary32 (root_bits X.bits))
  R = pattern_at (root_bits X.bits) (root_below X.bits X.below)

  -- sums of two f32s in units, and x
  module _ (y r : Float) (Y : Pattern y) (Z : Pattern r) where
    abbrev both : ℕ
    both = val Y.bits + val Z.bits

    under-both : 0 < sum-bottom y r
    under-both = mul-pos Y.under Z.under

    sums : sum_top y r * 2 ^ 149 ≡ both * sum-bottom y r
    sums = sum_units (2 ^ 149) (top y) (bottom y) (top r) (bottom r) _ _ unit_pos Y.under Z.under Y.worth-is Z.worth-is

    over-is : both * both < fourfold X.bits
        → sum_top y r * sum_top y r * bottom x < 4 * top x * (sum-bottom y r * sum-bottom y r)
    unfolding fourfold
    over-is =
        over_units (2 ^ 149) (sum_top y r) (sum-bottom y r) both (top x) (bottom x) (val X.bits) unit_pos X.under under-both sums X.worth-is

    is-over : sum_top y r * sum_top y r * bottom x < 4 * top x * (sum-bottom y r * sum-bottom y r)
        → both * both < fourfold X.bits
    unfolding fourfold
    is-over =
        units_over (2 ^ 149) (sum_top y r) (sum-bottom y r) both (top x) (bottom x) (val X.bits) unit_pos X.under under-both sums X.worth-is

    under-is : fourfold X.bits < both * both
        → 4 * top x * (sum-bottom y r * sum-bottom y r) < sum_top y r * sum_top y r * bottom x
    unfolding fourfold
    under-is =
        under_units (2 ^ 149) (sum_top y r) (sum-bottom y r) both (top x) (bottom x) (val X.bits) unit_pos X.under under-both sums X.worth-is

    is-under : 4 * top x * (sum-bottom y r * sum-bottom y r) < sum_top y r * sum_top y r * bottom x
        → fourfold X.bits < both * both
    unfolding fourfold
    is-under =
        units_under (2 ^ 149) (sum_top y r) (sum-bottom y r) both (top x) (bottom x) (val X.bits) unit_pos X.under under-both sums X.worth-is

    order : val Y.bits < val Z.bits → top y * bottom r < top r * bottom y
    order = less_units (2 ^ 149) (top y) (bottom y) (top r) (bottom r) _ _ unit_pos Y.under Z.under Y.worth-is Z.worth-is

    order_back : top y * bottom r < top r * bottom y → val Y.bits < val Z.bits
    order_back = units_less (2 ^ 149) (top y) (bottom y) (top r) (bottom r) _ _ unit_pos Y.under Z.under Y.worth-is Z.worth-is

  swapped : (a b : ℕ) → (a + b) * (a + b) ≡ (b + a) * (b + a)
  swapped a b = ap (λ (s : ℕ). s * s) (omega arith)

  -- document 01's root is nearest
  pub ours_nearest : Nearest x (of_bits binary32 (root_bits X.bits))
  ours_nearest = record {
    holds = of_bits-fits binary32 (root_bits X.bits);
    positive = plus_of root (val (root_bits X.bits)) (val_is (root_bits X.bits) R.below);
    over = λ y f p l.
        let Y = pattern_of y f p in
        over-is y root Y R (nearer_than_below X.bits X.below Y.bits (val-less Y.bits (root_bits X.bits) (order_back y root Y R l)));
    under = λ y f p l.
        let Y = pattern_of y f p in
        under-is y root Y R
        (rw (swapped (val Y.bits) (val (root_bits X.bits)))
        (nearer_than_above X.bits X.below Y.bits (val-less (root_bits X.bits) Y.bits (order_back root y R Y l))));
  }

  -- and no other is
  pub only_nearest : (r : Float) → Nearest x r → r ≡ of_bits binary32 (root_bits X.bits)
  only_nearest r n = sym Z.is ∙ ap (of_bits binary32) (same (dec_lt Z.bits (root_bits X.bits)) (dec_lt (root_bits X.bits) Z.bits))
    where
      Z : Pattern r
      Z = pattern_of r n.holds n.positive

      ours : Nearest x root
      ours = ours_nearest

      same : Dec (Z.bits < root_bits X.bits) → Dec (root_bits X.bits < Z.bits) → Z.bits ≡ root_bits X.bits
      same (yes l) d =
          let far = is-under root r R Z (n.under root ours.holds ours.positive (order r root Z R (val_lt Z.bits (root_bits X.bits) l))) in
          let near = nearer_than_below X.bits X.below Z.bits l in
          absurd (lt_irrefl _ (lt_trans near (rw (swapped (val (root_bits X.bits)) (val Z.bits)) at far)))
      same (no k) (yes l) =
          let far = is-over root r R Z (n.over root ours.holds ours.positive (order root r R Z (val_lt (root_bits X.bits) Z.bits l))) in
          let near = nearer_than_above X.bits X.below Z.bits l in
          absurd (lt_irrefl _ (lt_trans near far))
      same (no k) (no l) = omega arith

not_value : (r : Float) → None ≡ Some r → ⊥
not_value r e = let z : ◌≡◌ {A = ℕ} 0 1 = cc in omega arith

-- a root that is the nearest is document 01's
pub root_is : (sqrt : Float → Float) → NearestRoots sqrt → (x r : Float) → T (fits binary32 x) → root_of x ≡ Some r → sqrt x ≡ r
unfolding root_of
root_is sqrt near nan r f e = absurd (not_value r e)
root_is sqrt near (inf s) r f e = absurd (not_value r e)
root_is sqrt near (fin true k d) r f e = absurd (not_value r e)
root_is sqrt near (fin false k d) r f e =
    let z : of_bits binary32 (root_bits (to_bits binary32 (fin false k d))) ≡ r = cc in
    only_nearest (fin false k d) (pattern_of (fin false k d) f refl) (sqrt (fin false k d)) (near (fin false k d) f refl) ∙ z

-- there is one such function
abbrev pub nearest_root : Float → Float
nearest_root x = of_bits binary32 (root_bits (to_bits binary32 x))

pub nearest-roots : NearestRoots nearest_root
nearest-roots nan f p = absurd (true≢false (sym p))
nearest-roots (inf s) f p = absurd (true≢false (sym p))
nearest-roots (fin true k e) f p = absurd (true≢false (sym p))
nearest-roots (fin false k e) f p = ours_nearest (fin false k e) (pattern_of (fin false k e) f p)
