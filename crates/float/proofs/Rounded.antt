-- Numbers that are a fraction but for some roundings: `Rounded k p q x` says that x is finite, without a sign, and p / q moved k times by at most
-- its 2 ^ 24th part. One law an operation, over plain fractions first. Assumes nothing.
use mathlib.Core.Path.{◌≡◌, ap}
use mathlib.Core.Logic.{inl, inr}
use mathlib.Core.Bool.{true, false, true≢false}
use borrow.Author.Tests.{ne_eqb}
use Prim.Native.Nat.{ℕ, zero, suc, ◌+◌, ◌-◌, ◌*◌, ◌^◌, ◌≤◌, ◌<◌}
use native.Mathlib.Nat.{le_trans, lt_of_le_of_lt, eq-zero-or-pos, add-zero, add-suc, one-mul, zero-mul, pow-suc, mul-pos}
use native.Mathlib.Nat.{mul-le-mul, mul-le-mul_left, mul-le-mul_right, le_of_mul-le-mul_right}
use native.Mathlib.Omega.{arith}
use lib.Dec.{T, lit<, lit≤}
use lib.Pow.{pow-add}
use lib.IntN.{ℤ, pos}
use lib.Ieee.{Float, nan, inf, fin, up, down, binary32, fits, round, add, mul, div, sum, of_bits}
use lib.Ieee.Exact.{HasValue}
use lib.Ieee.Fits.{down_pos}
use lib.Ieee.Positive.{first_pos}
use lib.Ieee.Scale.{grid, round_same, round_val}
use Rattle.float.specs.Values.{f0, f1}
use Rattle.float.proofs.Order.{no_factor}
use Rattle.float.proofs.Product.{round_zero}
use Rattle.float.proofs.Once.{unit, over, under, Once, unmoved, grid_once, stays}

-- ---- fractions: a / c lies from L / M to H / M times p / q

pub record Between (H M L p q a c : ℕ) : Type 0 where
  pub most : a * q * M ≤ p * c * H
  pub least : p * c * L ≤ a * q * M

module _ {H M L p q a c : ℕ} (h : Between H M L p q a c) where
  -- rounded once more
  once_more : {g l : ℕ} → 0 < c → Once a c g l → Between (H * over) (M * unit) (L * under) p q g l
  once_more {g} {l} C o = record {
    most = le_of_mul-le-mul_right {k = c} (omega (arith, mul-le-mul_right (q * M) o.most, mul-le-mul_right (l * over) h.most)) C;
    least = le_of_mul-le-mul_right {k = c} (omega (arith, mul-le-mul_right (q * M) o.least, mul-le-mul_right (l * under) h.least)) C;
  }

  -- the same number as another fraction
  same_number : {g l : ℕ} → 0 < c → g * c ≡ a * l → Between H M L p q g l
  same_number {g} {l} C e =
      let s = ap (λ (i : ℕ). i * (q * M)) e in
      record {
        most = le_of_mul-le-mul_right {k = c} (omega (arith, s, mul-le-mul_right l h.most)) C;
        least = le_of_mul-le-mul_right {k = c} (omega (arith, s, mul-le-mul_right l h.least)) C;
      }

  -- a sum
  between-sum : {p' b d : ℕ} → Between H M L p' q b d → Between H M L (p + p') q (a * d + b * c) (c * d)
  between-sum {p'} {b} {d} g = record {
    most = omega (arith, mul-le-mul_right d h.most, mul-le-mul_right c g.most);
    least = omega (arith, mul-le-mul_right d h.least, mul-le-mul_right c g.least);
  }

  -- the n-th part
  between-part : (n : ℕ) → Between H M L p (q * n) a (c * n)
  between-part n = record { most = omega (arith, mul-le-mul_right n h.most); least = omega (arith, mul-le-mul_right n h.least) }

  -- a product
  between_product : {H' M' L' p' q' b d : ℕ} → Between H' M' L' p' q' b d
      → Between (H * H') (M * M') (L * L') (p * p') (q * q') (a * b) (c * d)
  between_product g = record { most = omega (arith, mul-le-mul h.most g.most); least = omega (arith, mul-le-mul h.least g.least) }

-- ---- a fraction of which a number near it cannot leave the normal range

pub record Room (p q : ℕ) : Type 0 where
  pub some : 0 < q
  pub few : q ≤ 1024
  pub most : p ≤ 2 ^ 40

pub less-room : {p q : ℕ} (p' : ℕ) → p' ≤ p → Room p q → Room p' q
less-room p' b r = record { some = r.some; few = r.few; most = le_trans b r.most }

-- no more than twice as much, and no less than half
record Modest (H M L : ℕ) : Type 0 where
  some : 0 < M
  twice : H ≤ 2 * M
  half : M ≤ 2 * L

module _ {H M L p q a c : ℕ} (m : Modest H M L) (r : Room p q) (h : Between H M L p q a c) where
  is_zero : p ≡ 0 → a ≡ 0
  is_zero e =
      let none : p * c * H ≡ 0 = rw (e, zero-mul, zero-mul) in
      no_factor a q r.some (no_factor (a * q) M m.some (omega (arith, h.most)))

  is_below : a ≤ 2 ^ 41 * c
  is_below =
      let l : a * q ≤ 2 * p * c = le_of_mul-le-mul_right {k = M} (omega (arith, h.most, mul-le-mul_left (p * c) m.twice)) m.some in
      omega (arith, mul-le-mul_left a r.some, mul-le-mul_right c r.most)

  is-above : 0 < p → c ≤ 2048 * a
  is-above P =
      let s = mul-le-mul_left c m.half in
      let l : c ≤ 2 * (a * q) = le_of_mul-le-mul_right {k = M} (omega (arith, h.least, s, mul-le-mul_right (c * L) P)) m.some in
      omega (arith, mul-le-mul_left a r.few)

-- ---- k roundings

abbrev pub Close : ℕ → ℕ → ℕ → ℕ → ℕ → Type 0
Close k p q a c = Between (over ^ k) (unit ^ k) (under ^ k) p q a c

close-once : (k : ℕ) {p q a c g l : ℕ} → 0 < c → Once a c g l → Close k p q a c → Close (suc k) p q g l
close-once k C o h = rw (pow-suc over k, pow-suc unit k, pow-suc under k) (once_more h C o)

close_more : (k i : ℕ) {p q a c : ℕ} → 0 < c → Close k p q a c → Close (k + i) p q a c
close_more k zero C h = rw add-zero h
close_more k (suc i) {a = a} {c = c} C h = rw add-suc (close-once (k + i) C (unmoved a c) (close_more k i C h))

close_upto : (k n : ℕ) {p q a c : ℕ} → k ≤ n → 0 < c → Close k p q a c → Close n p q a c
close_upto k n b C h =
    let e : k + (n - k) ≡ n = omega arith in
    rw e at (close_more k (n - k) C h)

close_product : (k j : ℕ) {p q a c p' q' b d : ℕ} → Close k p q a c → Close j p' q' b d
    → Close (k + j) (p * p') (q * q') (a * b) (c * d)
close_product k j h g = rw (pow-add over k j, pow-add unit k j, pow-add under k j) (between_product h g)

-- as many as the laws below allow
abbrev pub limit : ℕ
limit = 31

modest : Modest (over ^ limit) (unit ^ limit) (under ^ limit)
modest = record { some = lit< tt; twice = lit≤ tt; half = lit≤ tt }

-- ---- values

pub data Rounded : ℕ → ℕ → ℕ → Float → Type 0 where
  rounded : {k p q m : ℕ} {e : ℤ} → Close k p q (m * up e) (down e) → Rounded k p q (fin false m e)

-- by any fraction that x is
rounded-value : (k p q g l : ℕ) (x : Float) → 0 < l → HasValue x false g l → Close k p q g l → Rounded k p q x
rounded-value k p q g l nan B v h = absurd v
rounded-value k p q g l (inf s) B v h = absurd v
rounded-value k p q g l (fin true m e) B v h = absurd (true≢false v.0)
rounded-value k p q g l (fin false m e) B v h = rounded (same_number h B v.1)

-- a whole number
pub rounded-whole : (n : ℕ) (x : Float) → HasValue x false n 1 → Rounded 0 n 1 x
rounded-whole n x v = rounded-value 0 n 1 n 1 x (lit< tt) v (record { most = omega arith; least = omega arith })

pub rounded_upto : {k p q : ℕ} {x : Float} (n : ℕ) → k ≤ n → Rounded k p q x → Rounded n p q x
rounded_upto {k} n b (rounded {e = e} h) = rounded (close_upto k n b (down_pos e) h)

-- ---- `round`

fits_under : (g c a l h : ℕ) → 0 < c → g * c * unit ≤ a * l * over → a ≤ h * c → g ≤ 2 * (h * l)
fits_under g c a l h C r b = le_of_mul-le-mul_right {k = c} (omega (arith, mul-le-mul_right l b)) C

module _ (k p q a c : ℕ) (b : k ≤ limit) (r : Room p q) (C : 0 < c) (h : Close k p q a c) where
  far : Close limit p q a c
  far = close_upto k limit b C h

  round_none : p ≡ 0 → Rounded (suc k) p q (round binary32 false a c)
  round_none e =
      let z : a ≡ 0 = is_zero modest r far e in
      let none : Close k p q (0 * 1) 1 = same_number h C (omega (arith, z)) in
      rw (z, round_zero false c C) (rounded {e = pos 0} (close-once k (lit< tt) (unmoved (0 * 1) 1) none))

  round_some : 0 < p → Rounded (suc k) p q (round binary32 false a c)
  round_some P =
      let g = grid binary32 a c in
      let large : 2 ^ 23 * c ≤ a * 2 ^ 34 = omega (arith, is-above modest r far P) in
      let normal : 2 ^ 23 * c ≤ a * 2 ^ 149 = le_trans large (mul-le-mul_left a (lit≤ tt)) in
      let o = grid_once a c C normal in
      let finite = lt_of_le_of_lt (fits_under g c a (2 ^ 149) (2 ^ 41) C o.most (is_below modest r far)) (lit< tt) in
      rounded-value (suc k) p q g (2 ^ 149) (round binary32 false a c) (lit< tt) (round_val binary32 a c finite) (close-once k C o h)

  round_rounded : Rounded (suc k) p q (round binary32 false a c)
  round_rounded = elim (eq-zero-or-pos p) [ inl e ↦ round_none e | inr P ↦ round_some P ]

-- ---- the operations

pub add_rounded : (k p p' q : ℕ) {x y : Float} → k ≤ limit → Room (p + p') q → Rounded k p q x → Rounded k p' q y
    → Rounded (suc k) (p + p') q (add binary32 x y)
unfolding add sum
add_rounded k p p' q b r (rounded {m = m} {e = e} h) (rounded {m = n} {e = d} g) =
    round_rounded k (p + p') q (m * up e * down d + n * up d * down e) (down e * down d) b r (mul-pos (down_pos e) (down_pos d)) (between-sum h g)

pub mul_rounded : (k j p q p' q' : ℕ) {x y : Float} → k + j ≤ limit → Room (p * p') (q * q') → Rounded k p q x → Rounded j p' q' y
    → Rounded (suc (k + j)) (p * p') (q * q') (mul binary32 x y)
unfolding mul
mul_rounded k j p q p' q' b r (rounded {m = m} {e = e} h) (rounded {m = n} {e = d} g) =
    round_rounded (k + j) (p * p') (q * q') (m * up e * (n * up d)) (down e * down d) b r (mul-pos (down_pos e) (down_pos d)) (close_product k j h g)

-- by a whole number n
pub div_rounded : (k p q n : ℕ) {x : Float} (y : Float) → k ≤ limit → 0 < n → Room p (q * n) → Rounded k p q x → HasValue y false n 1
    → Rounded (suc k) p (q * n) (div binary32 x y)
unfolding div
div_rounded k p q n nan b N r h v = absurd v
div_rounded k p q n (inf s) b N r h v = absurd v
div_rounded k p q n (fin true i d) b N r h v = absurd (true≢false v.0)
div_rounded k p q n (fin false i d) b N r (rounded {m = m} {e = e} h) v =
    let o : 0 < i * up d = first_pos (i * up d) 1 (rw v.1 (mul-pos N (down_pos d))) in
    let j : 0 < i = first_pos i (up d) o in
    rw (ne_eqb i 0 (λ z. omega arith))
    (round_rounded k p (q * n) (m * up e * down d) (i * up d * down e) b r (mul-pos o (down_pos e))
    (same_number (between-part h n) (mul-pos (down_pos e) N) (omega (arith, ap (λ (z : ℕ). z * (m * up e * down e)) v.1))))

one-rounded : Rounded 0 1 1 f1
unfolding of_bits
one-rounded = rounded (record { most = lit≤ tt; least = lit≤ tt })

-- the reciprocal of n
pub reciprocal_rounded : (n : ℕ) (y : Float) → 0 < n → n ≤ 1024 → HasValue y false n 1 → Rounded 1 1 n (div binary32 f1 y)
reciprocal_rounded n y N b v =
    let r : Room 1 (1 * n) = record { some = omega arith; few = omega arith; most = lit≤ tt } in
    rw one-mul at (div_rounded 0 1 1 n y (lit≤ tt) N r one-rounded v)

-- 0 and a value of the format: nothing is rounded
pub first-rounded : {k p q : ℕ} {x : Float} → T (fits binary32 x) → Rounded k p q x → Rounded k p q (add binary32 f0 x)
unfolding add sum of_bits
first-rounded {k} {p} {q} t (rounded {m = m} {e = e} h) =
    let n = 0 * 1 * down e + m * up e * 1 in
    let C : 0 < 1 * down e = mul-pos (lit< tt) (down_pos e) in
    rw (round_same binary32 false n (1 * down e) (m * up e) (down e) C (down_pos e) (omega arith))
    (rounded-value k p q (m * up e) (down e) _ (down_pos e) (stays m e t) h)
