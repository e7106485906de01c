-- One rounding: a fraction that is not below the normal range is moved by at most its 2 ^ 24th part, and a value of the format not at all.
-- Assumes nothing.
use mathlib.Core.Path.{◌≡◌, refl, sym, ap, ◌∙◌, subst}
use mathlib.Core.Bool.{false, not, ◌&&◌}
use Prim.Native.Nat.{ℕ, zero, suc, ◌+◌, ◌-◌, ◌*◌, ◌/◌, ◌%◌, ◌^◌, ◌≤◌, ◌<◌, compare, Ordering}
use native.Mathlib.Nat.{le_of_lt, lt_irrefl, lt_of_not-le, lt_of_lt_of_le, mul-le-mul_right, mul-lt-mul_of_pos_right, lt_of_mul-lt-mul_right}
use native.Mathlib.Nat.{one-mul, mul-one, zero-mul, mul_assoc, mul-pos, div-add-mod', mod-lt, le-div_iff_mul-le}
use native.Mathlib.Omega.{arith}
use lib.Dec.{T, lit<, is_le, compare_is_eq, leb, ltb, eqb, leb→le, ltb→lt, nleb→lt, eqb→eq}
use lib.Pow.{pow-add, pow-lt, pow_pos}
use lib.IntN.{ℤ, pos, negsuc}
use lib.Ieee.{fin, nearest, size, up, down, binary32, fits, round}
use lib.Ieee.Digits.{size_reaches, back}
use lib.Ieee.Exact.{HasValue, round_exact}
use lib.Ieee.Fits.{down_pos, and_l, and_r}
use lib.Ieee.Nearest.{closest}
use lib.Ieee.Scale.{grid, normal_of_fraction}
use Rattle.float.proofs.Product.{round_zero}

-- 2 ^ 24, and one more and one less: what a rounded number is to the number, at most and at least
abbrev pub unit : ℕ
unit = 16777216

abbrev pub over : ℕ
over = 16777217

abbrev pub under : ℕ
under = 16777215

-- ---- to the nearest multiple of u: by at most half of u

-- twice m is no further than u from twice n
record Half (m n u : ℕ) : Type 0 where
  most : 2 * m ≤ 2 * n + u
  least : 2 * n ≤ 2 * m + u

-- q whole ones and a remainder r, and on which side of the half it lies
half_of : (q r u : ℕ) (o : Ordering) → (T (is_le o) → r * 2 ≤ u) → (T (not (is_le o)) → u < r * 2) → (T (compare_is_eq o) → r * 2 ≡ u) → r ≤ u
    → Half (nearest q o * u) (q * u + r) u
half_of q r u Ordering.lt low high tie b =
    let l = low tt in
    record { most = omega arith; least = omega arith }
half_of q r u Ordering.gt low high tie b =
    let l = high tt in
    record { most = omega arith; least = omega arith }
half_of q r u Ordering.eq low high tie b = to_even (q % 2) (omega arith)
  where
    to_even : (i : ℕ) → i ≤ 1 → Half ((q + i) * u) (q * u + r) u
    to_even i l =
        let e = tie tt in
        let s = mul-le-mul_right u l in
        record { most = omega arith; least = omega arith }

closest_half : (n u : ℕ) → 0 < u → Half (closest n u * u) n u
closest_half n u U =
    let t = n % u * 2 in
    subst (λ (i : ℕ). Half (closest n u * u) i u) (div-add-mod' n u)
    (half_of (n / u) (n % u) u (compare t u) (leb→le t u) (nleb→lt t u) (eqb→eq t u) (le_of_lt (mod-lt n U)))

-- ---- g / l is a / c but for one rounding

pub record Once (a c g l : ℕ) : Type 0 where
  pub most : g * c * unit ≤ a * l * over
  pub least : a * l * under ≤ g * c * unit

-- not moved at all
pub unmoved : (a c : ℕ) → Once a c a c
unmoved a c = record { most = omega arith; least = omega arith }

-- n / c, of whose 24 + k digits the leading 24 are kept
kept_once : (n c k : ℕ) → 0 < c → 2 ^ (23 + k) * c ≤ n → Once n c (closest n (c * 2 ^ k) * 2 ^ k) 1
kept_once n c k C b = of (closest n (c * 2 ^ k)) (2 ^ k) (rw (pow-add 2 23 k) at b) (closest_half n (c * 2 ^ k) (mul-pos C (pow_pos k)))
  where
    of : (z u : ℕ) → 2 ^ 23 * u * c ≤ n → Half (z * (c * u)) n (c * u) → Once n c (z * u) 1
    of z u l h = record { most = omega (arith, h.most); least = omega (arith, h.least) }

-- a / c in units of 1 / z
in_units : (a c g z : ℕ) → Once (a * z) c g 1 → Once a c g z
in_units a c g z o = record { most = omega (arith, o.most); least = omega (arith, o.least) }

-- in those of the format's smallest value
pub grid_once : (a c : ℕ) → 0 < c → 2 ^ 23 * c ≤ a * 2 ^ 149 → Once a c (grid binary32 a c) (2 ^ 149)
grid_once a c C h =
    let n = a * 2 ^ 149 in
    let z = size (n / c) in
    let normal = normal_of_fraction binary32 a c C h in
    let long : 2 ^ (23 + (z - 24)) * c ≤ n = (le-div_iff_mul-le C).0 (size_reaches (n / c) (23 + (z - 24)) (omega arith)) in
    in_units a c (grid binary32 a c) (2 ^ 149) (kept_once n c (z - 24) C long)

-- ---- and not at all where it is a value of the format

-- m U / D is m J units of 1 / z, and below B
units_below : (m U D J z B : ℕ) → 0 < z → U * z ≡ J * D → m * U < B * D → m * J < B * z
units_below m U D J z B Z e l =
    lt_of_mul-lt-mul_right D (omega (arith, ap (λ (i : ℕ). m * i) e, mul-lt-mul_of_pos_right {k = z} l Z))

-- m of no more than 24 digits, times 2 ^ j units of the smallest value
stays_at : (m j : ℕ) (e : ℤ) → up e * 2 ^ 149 ≡ 2 ^ j * down e → m < 2 ^ 24 → m * up e < 2 ^ 128 * down e
    → HasValue (round binary32 false (m * up e) (down e)) false (m * up e) (down e)
stays_at m j e is short below =
    round_exact binary32 false (m * up e) (down e) m j (down_pos e) short (units_below m (up e) (down e) (2 ^ j) (2 ^ 149) (2 ^ 128) (lit< tt) is below)
    (mul_assoc m (up e) (2 ^ 149) ∙ ap (λ (i : ℕ). m * i) is ∙ sym (mul_assoc m (2 ^ j) (down e)))

stays_some : (m : ℕ) (e : ℤ) → m < 2 ^ 24 → down e ≤ 2 ^ 149 → m * up e < 2 ^ 128 * down e
    → HasValue (round binary32 false (m * up e) (down e)) false (m * up e) (down e)
stays_some m (pos k) short fine below = stays_at m (k + 149) (pos k) (rw (pow-add 2 k 149, mul-one)) short below
stays_some m (negsuc k) short fine below =
    stays_at m (149 - suc k) (negsuc k) (rw (one-mul, ← pow-add 2 (149 - suc k) (suc k), back 149 (suc k) deep)) short below
  where
    deep : suc k ≤ 149
    deep = lt_of_not-le (λ (g : 149 ≤ k). lt_irrefl (2 ^ 149) (lt_of_lt_of_le (pow-lt {i = 149} {j = suc k} (omega arith)) fine))

pub stays : (m : ℕ) (e : ℤ) → T (fits binary32 (fin false m e)) → HasValue (round binary32 false (m * up e) (down e)) false (m * up e) (down e)
unfolding fits
stays zero e t = rw (zero-mul, round_zero false (down e) (down_pos e)) (refl, omega arith)
stays (suc m) e t =
    let odd = eqb (suc m % 2) 1 in
    let short = ltb (suc m) (2 ^ 24) in
    let fine = leb (down e) (2 ^ 149) in
    let below = ltb (suc m * up e) (2 ^ 128 * down e) in
    let first = and_l (odd && short && fine) below t in
    stays_some (suc m) e (ltb→lt _ _ (and_r odd short (and_l (odd && short) fine first))) (leb→le _ _ (and_r (odd && short) fine first))
    (ltb→lt _ _ (and_r (odd && short && fine) below t))
