-- How small and how large a result can be: `Ranged a c n x` says that x is finite, without a sign, at least a / c and at most n.
-- Carried through rounding, a sum, and a product or a quotient by a number that is known. Assumes nothing.
use mathlib.Core.Path.{◌≡◌, refl, sym, ap, ◌∙◌}
use mathlib.Core.Bool.{true, false, true≢false}
use Prim.Native.Nat.{ℕ, ◌+◌, ◌-◌, ◌*◌, ◌^◌, ◌≤◌, ◌<◌}
use native.Mathlib.Nat.{lt_of_lt_of_le, le_of_eq, mul_assoc, mul-one, zero-mul, mul-le-mul_right, le_of_mul-le-mul_right, mul-pos}
use native.Mathlib.Omega.{arith}
use lib.Dec.{T, lit<, lit≤}
use lib.Pow.{pow-add, pow_mono, pow_pos, shl_lt}
use lib.IntN.{ℤ, pos}
use lib.Ieee.{Float, nan, inf, fin, up, down, binary32, round, add, mul, div, sum, le, of_bits}
use lib.Ieee.Fits.{down_pos}
use lib.Ieee.Exact.{HasValue, round_exact}
use lib.Ieee.Order.{round_mono, le_of_values}
use lib.Ieee.Positive.{through, first_pos}
use lib.Ieee.Scale.{round_same, finite}
use borrow.Author.Tests.{ne_eqb}
use Rattle.float.specs.Values.{f0}
use Rattle.float.proofs.Order.{or_le}
use Rattle.float.proofs.Sized.{Sized, sized, Held, round_sized, add_plus}

pub data Ranged : ℕ → ℕ → ℕ → Float → Type 0 where
  ranged : {a c n m : ℕ} {e : ℤ} → a * down e ≤ m * up e * c → m * up e ≤ n * down e → Ranged a c n (fin false m e)

-- the fraction a / c is a value of the format
abbrev pub Exact : ℕ → ℕ → Type 0
Exact a c = HasValue (round binary32 false a c) false a c

pub exact : (k : ℕ) → k ≤ 149 → Exact 1 (2 ^ k)
exact k l =
    let m : 1 + (149 - k) ≤ 277 = omega arith in
    let e : 149 ≡ 149 - k + k = omega arith in
    let h : 1 * 2 ^ (149 - k) < 2 ^ 277 = lt_of_lt_of_le (shl_lt 1 (149 - k) (lit< tt)) (pow_mono m) in
    round_exact binary32 false 1 (2 ^ k) 1 (149 - k) (pow_pos k) (lit< tt) h
    (ap (λ (i : ℕ). 1 * 2 ^ i) e ∙ ap (λ (x : ℕ). 1 * x) (pow-add 2 (149 - k) k) ∙ sym (mul_assoc 1 (2 ^ (149 - k)) (2 ^ k)))

pub ranged_sized : {a c n : ℕ} {x : Float} → Ranged a c n x → Sized false n x
ranged_sized (ranged h k) = sized k

pub ranged_wider : {a c n : ℕ} {x : Float} (a' c' n' : ℕ) → 0 < c → a' * c ≤ a * c' → n ≤ n' → Ranged a c n x → Ranged a' c' n' x
ranged_wider {a} {c} {n} a' c' n' C l u (ranged {m = m} {e = e} h k) =
    ranged {a = a'} {c = c'} {n = n'} {m = m} {e = e}
    (le_of_mul-le-mul_right {k = c} (omega (arith, mul-le-mul_right (down e) l, mul-le-mul_right c' h)) C)
    (omega (arith, mul-le-mul_right (down e) u))

-- as comparisons with values that are a / c and n
pub ranged_least : {a c n : ℕ} {x : Float} (lo : Float) → 0 < c → HasValue lo false a c → Ranged a c n x → T (le lo x)
ranged_least {a} {c} lo C v (ranged {m = m} {e = e} h k) = le_of_values lo (fin false m e) a c (m * up e) (down e) C (down_pos e) v (refl, refl) h

pub ranged_most : {a c n : ℕ} {x : Float} (hi : Float) → HasValue hi false n 1 → Ranged a c n x → T (le x hi)
ranged_most {n = n} hi v (ranged {m = m} {e = e} h k) =
    le_of_values (fin false m e) hi (m * up e) (down e) n 1 (down_pos e) (lit< tt) (refl, refl) v (rw mul-one k)

pub ranged_finite : {a c n : ℕ} {x : Float} → Ranged a c n x → T (finite x)
ranged_finite (ranged h k) = tt

pub ranged_above : {a c n : ℕ} {x : Float} → Ranged a c n x → T (le f0 x)
unfolding of_bits
ranged_above (ranged {m = m} {e = e} h k) =
    le_of_values (fin false 0 (pos 0)) (fin false m e) 0 1 (m * up e) (down e) (lit< tt) (down_pos e) (refl, refl) (refl, refl)
    (omega (arith, zero-mul (down e)))

-- a whole number
pub ranged_whole : (n k : ℕ) (x : Float) → HasValue x false k 1 → 1 ≤ k → k ≤ n → Ranged 1 1 n x
ranged_whole n k nan v a b = absurd v
ranged_whole n k (inf s) v a b = absurd v
ranged_whole n k (fin true m e) v a b = absurd (true≢false v.0)
ranged_whole n k (fin false m e) v a b =
    let h : m * up e * 1 ≡ k * down e = v.1 in
    let u : m * up e * 1 ≡ m * up e = mul-one (m * up e) in
    ranged {a = 1} {c = 1} {n = n} {m = m} {e = e} (omega (arith, mul-le-mul_right (down e) a)) (omega (arith, mul-le-mul_right (down e) b))

-- ---- `round`

from_le : (a c n : ℕ) (lo x : Float) → HasValue lo false a c → T (le lo x) → Sized false n x → Ranged a c n x
unfolding le
from_le a c n nan x v t s = absurd v
from_le a c n (inf b) x v t s = absurd v
from_le a c n (fin true k d) x v t s = absurd (true≢false v.0)
from_le a c n (fin false k d) nan v t s = elim t [ ]
from_le a c n (fin false k d) (inf _) v t s = elim s [ ]
from_le a c n (fin false k d) (fin true m e) v t s = elim s [ ]
from_le a c n (fin false k d) (fin false m e) v t (sized h) =
    ranged
    (through a (k * up d) (m * up e) c (down d) (down e) (down_pos d) (le_of_eq (sym v.1)) (or_le _ _ true t))
    h

-- p / z rounded
module _ (a c n p z : ℕ) (C : 0 < c) (Z : 0 < z) (E : Exact a c) (H : Held n) where
  pub round_ranged : a * z ≤ p * c → p ≤ n * z → Ranged a c n (round binary32 false p z)
  round_ranged l u =
      from_le a c n (round binary32 false a c) (round binary32 false p z) E (round_mono binary32 a c p z C Z l) (round_sized false p z n Z H u)

-- ---- a sum, one of whose terms is at least a / c

module _ (r : ℕ) {a c n q : ℕ} (C : 0 < c) (E : Exact a c) (H : Held r) (l : n + q ≤ r) where
  pub add_left : {x y : Float} → Ranged a c n x → Sized false q y → Ranged a c r (add binary32 x y)
  unfolding add sum
  add_left {x} {y} (ranged {m = m} {e = e} h k) (sized {m = i} {e = d} g) =
      from_le a c r (round binary32 false a c) _ E
      (round_mono binary32 a c (m * up e * down d + i * up d * down e) (down e * down d) C (mul-pos (down_pos e) (down_pos d)) low)
      (add_plus r H l (sized {e = e} k) (sized {e = d} g))
    where
      low : a * (down e * down d) ≤ (m * up e * down d + i * up d * down e) * c
      low = omega (arith, mul-le-mul_right (down d) h)

  pub add_right : {x y : Float} → Sized false n x → Ranged a c q y → Ranged a c r (add binary32 x y)
  unfolding add sum
  add_right {x} {y} (sized {m = m} {e = e} g) (ranged {m = i} {e = d} h k) =
      from_le a c r (round binary32 false a c) _ E
      (round_mono binary32 a c (m * up e * down d + i * up d * down e) (down e * down d) C (mul-pos (down_pos e) (down_pos d)) low)
      (add_plus r H l (sized {e = e} g) (sized {e = d} k))
    where
      low : a * (down e * down d) ≤ (m * up e * down d + i * up d * down e) * c
      low = omega (arith, mul-le-mul_right (down e) h)

-- ---- by a known fraction p / q

module _ (a c n a' c' n' p q : ℕ) (C : 0 < c) (C' : 0 < c') (Q : 0 < q) (E : Exact a' c') (H : Held n')
    (l : a' * (c * q) ≤ a * p * c') (u : n * p ≤ n' * q) where
  part : (m : ℕ) (e : ℤ) → a * down e ≤ m * up e * c → m * up e ≤ n * down e → Ranged a' c' n' (round binary32 false (m * up e * p) (down e * q))
  part m e h k = round_ranged a' c' n' (m * up e * p) (down e * q) C' (mul-pos (down_pos e) Q) E H low high
    where
      low : a' * (down e * q) ≤ m * up e * p * c'
      low = le_of_mul-le-mul_right {k = c} (omega (arith, mul-le-mul_right (down e) l, mul-le-mul_right (p * c') h)) C

      high : m * up e * p ≤ n' * (down e * q)
      high = omega (arith, mul-le-mul_right p k, mul-le-mul_right (down e) u)

  -- times p / q
  pub mul_ranged : {x : Float} (y : Float) → Ranged a c n x → HasValue y false p q → Ranged a' c' n' (mul binary32 x y)
  unfolding mul
  mul_ranged nan r v = absurd v
  mul_ranged (inf s) r v = absurd v
  mul_ranged (fin true i d) r v = absurd (true≢false v.0)
  mul_ranged (fin false i d) (ranged {m = m} {e = e} h k) v =
      rw (round_same binary32 false (m * up e * (i * up d)) (down e * down d) (m * up e * p) (down e * q)
      (mul-pos (down_pos e) (down_pos d)) (mul-pos (down_pos e) Q)
      (omega (arith, ap (λ (z : ℕ). z * (m * up e * down e)) v.1)))
      (part m e h k)

  -- by q / p
  pub div_ranged : {x : Float} (y : Float) → Ranged a c n x → HasValue y false q p → Ranged a' c' n' (div binary32 x y)
  unfolding div
  div_ranged nan r v = absurd v
  div_ranged (inf s) r v = absurd v
  div_ranged (fin true i d) r v = absurd (true≢false v.0)
  div_ranged (fin false i d) (ranged {m = m} {e = e} h k) v =
      let o : 0 < i * up d = first_pos (i * up d) p (rw v.1 (mul-pos Q (down_pos d))) in
      let j : 0 < i = first_pos i (up d) o in
      rw (ne_eqb i 0 (λ z. omega arith))
      (rw (round_same binary32 false (m * up e * down d) (i * up d * down e) (m * up e * p) (down e * q)
      (mul-pos o (down_pos e)) (mul-pos (down_pos e) Q)
      (omega (arith, ap (λ (z : ℕ). z * (m * up e * down e)) v.1)))
      (part m e h k))

-- ---- zero: what is added, multiplied and divided stays zero

zero_is : f0 ≡ fin false 0 (pos 0)
unfolding of_bits
zero_is = refl

round_zero : (c : ℕ) → 0 < c → round binary32 false 0 c ≡ f0
unfolding round of_bits
round_zero c h = round_same binary32 false 0 c 0 1 h (lit< tt) (zero-mul 1 ∙ sym (zero-mul c)) ∙ refl

pub add_zeros : add binary32 f0 f0 ≡ f0
unfolding add of_bits
add_zeros = refl

pub mul_zero_by : (p q : ℕ) (y : Float) → HasValue y false p q → mul binary32 f0 y ≡ f0
unfolding mul of_bits
mul_zero_by p q nan v = absurd v
mul_zero_by p q (inf s) v = absurd v
mul_zero_by p q (fin true i d) v = absurd (true≢false v.0)
mul_zero_by p q (fin false i d) v = rw (zero-mul (i * up d)) (round_zero (1 * down d) (mul-pos (lit< tt) (down_pos d)))

pub div_zero_by : (p q : ℕ) (y : Float) → 0 < q → HasValue y false q p → div binary32 f0 y ≡ f0
unfolding div of_bits
div_zero_by p q nan Q v = absurd v
div_zero_by p q (inf s) Q v = absurd v
div_zero_by p q (fin true i d) Q v = absurd (true≢false v.0)
div_zero_by p q (fin false i d) Q v =
    let o : 0 < i * up d = first_pos (i * up d) p (rw v.1 (mul-pos Q (down_pos d))) in
    let j : 0 < i = first_pos i (up d) o in
    rw (ne_eqb i 0 (λ z. omega arith), zero-mul (down d)) (round_zero (i * up d * 1) (mul-pos o (lit< tt)))

pub zero_sized : Sized false 0 f0
zero_sized = rw zero_is (sized (lit≤ tt))
