-- Exact f32 arithmetic on binary fractions with a sign: `Val k x a b` says that x is finite and is (a - b) / 2^k; a zero of either sign is 0.
-- Sums, differences, products by 0 or 1/2, comparisons, `floor`, `round`, `clamp` and casts keep it below 2^24. Assumes nothing.
use mathlib.Core.Path.{◌≡◌, refl, sym, ap, ◌∙◌}
use mathlib.Core.Bool.{Bool, true, false, cond}
use Prim.Native.Nat.{ℕ, ◌+◌, ◌-◌, ◌*◌, ◌/◌, ◌^◌, ◌≤◌, ◌<◌, min}
use native.Mathlib.Nat.{add_comm, add-mul, sub-add_cancel, mul_assoc, mul_comm, mul_right_comm, zero-mul, mul-pos}
use native.Mathlib.Nat.{mul-le-mul_right, le_of_mul-le-mul_right, eq_of_mul-eq-mul_right, lt_of_lt_of_le, le_of_lt, div-eq_of_lt}
use native.Mathlib.Omega.{arith}
use borrow.Author.Tests.{ltb-true, ltb-false, le-ltb}
use lib.Dec.{ltb, lit<, lit≤}
use lib.Pow.{pow-add, pow_pos, pow_mono, shl_lt}
use lib.IntN.{ℤ, pos}
use lib.Ieee.{Float, nan, inf, fin, up, down, binary32, unlike, round, of_int, to_signed, to_unsigned, neg, sum, add, sub, mul, lt, below}
use lib.Ieee.Fits.{down_pos}
use lib.Ieee.Exact.{HasValue, round_exact}
use lib.Ieee.Back.{round_whole}
use lib.Ieee.Nearest.{div_same}
use Rattle.float.proofs.Order.{no_factor}
use Rattle.as_rust.specs.Machine.{◌⊕◌, ◌⊖◌, ◌⊗◌, floor, rounded, clamp, maxℤ, as_usize, as_f32, to_isize, to_u8}

-- the fraction n / d with the sign s is (a - b) / c
abbrev pub Frac : ℕ → Bool → ℕ → ℕ → ℕ → ℕ → Type 0
Frac c false n d a b = n * c + b * d ≡ a * d
Frac c true n d a b = n * c + a * d ≡ b * d

pub data Val : ℕ → Float → ℕ → ℕ → Type 0 where
  val : {k : ℕ} {s : Bool} {m : ℕ} {e : ℤ} {a b : ℕ} → Frac (2 ^ k) s (m * up e) (down e) a b → Val k (fin s m e) a b

-- ---- `round`

part : (q k n c d : ℕ) → k ≤ 149 → c ≡ 2 ^ k → n * c ≡ q * d → n * 2 ^ 149 ≡ q * 2 ^ (149 - k) * d
part q k n c d l e h =
    let p : 149 ≡ k + (149 - k) = omega arith in
    let s : 2 ^ 149 ≡ c * 2 ^ (149 - k) = ap (λ (i : ℕ). 2 ^ i) p ∙ pow-add 2 k (149 - k) ∙ ap (λ (i : ℕ). i * 2 ^ (149 - k)) (sym e) in
    ap (λ (i : ℕ). n * i) s ∙ sym (mul_assoc n c (2 ^ (149 - k))) ∙ ap (λ (i : ℕ). i * 2 ^ (149 - k)) h ∙ mul_right_comm q d (2 ^ (149 - k))

over : (k : ℕ) (s : Bool) (n d q : ℕ) → k ≤ 149 → 0 < d → q < 2 ^ 24 → n * 2 ^ k ≡ q * d → HasValue (round binary32 s n d) s n d
over k s n d q l D b h =
    let m : 24 + (149 - k) ≤ 277 = omega arith in
    round_exact binary32 s n d q (149 - k) D b (lt_of_lt_of_le (shl_lt 24 (149 - k) b) (pow_mono m)) (part q k n (2 ^ k) d l refl h)

-- the same fraction by another name
moved : (c : ℕ) (s : Bool) (n d p q a b : ℕ) → 0 < d → p * d ≡ n * q → Frac c s n d a b → Frac c s p q a b
moved c false n d p q a b D e h = eq_of_mul-eq-mul_right d D _ _ (omega (arith, ap (λ (z : ℕ). z * c) e, ap (λ (z : ℕ). z * q) h))
moved c true n d p q a b D e h = eq_of_mul-eq-mul_right d D _ _ (omega (arith, ap (λ (z : ℕ). z * c) e, ap (λ (z : ℕ). z * q) h))

from-value : (k : ℕ) (x : Float) (s : Bool) (n d a b : ℕ) → 0 < d → HasValue x s n d → Frac (2 ^ k) s n d a b → Val k x a b
from-value k nan s n d a b D v h = absurd v
from-value k (inf t) s n d a b D v h = absurd v
from-value k (fin t m e) s n d a b D v h = rw v.0 (val (moved (2 ^ k) s n d (m * up e) (down e) a b D v.1 h))

-- (a - b) d = n c
whole : (a b d n : ℕ) → n + b * d ≡ a * d → 0 < d → (b ≤ a) × (n ≡ (a - b) * d)
whole a b d n h D =
    let l : b ≤ a = le_of_mul-le-mul_right {k = d} (omega arith) D in
    let s : (a - b) * d + b * d ≡ a * d = sym (add-mul (a - b) b d) ∙ ap (λ (z : ℕ). z * d) (sub-add_cancel l) in
    (l, omega arith)

-- ---- sums and differences of two fractions with one denominator

less : (m n c : ℕ) → n ≤ m → (m - n) * c + n * c ≡ m * c
less m n c b = sym (add-mul (m - n) n c) ∙ ap (λ (z : ℕ). z * c) (sub-add_cancel b)

plus_frac : (c m n d a b a' b' : ℕ) → m * c + b * d ≡ a * d → n * c + b' * d ≡ a' * d → (m + n) * c + (b + b') * d ≡ (a + a') * d
plus_frac c m n d a b a' b' h g = omega arith

less_frac : (c m n d a b a' b' : ℕ) → n ≤ m → m * c + b * d ≡ a * d → n * c + a' * d ≡ b' * d → (m - n) * c + (b + b') * d ≡ (a + a') * d
less_frac c m n d a b a' b' l h g = go (m - n) (less m n c l)
  where
    go : (z : ℕ) → z * c + n * c ≡ m * c → z * c + (b + b') * d ≡ (a + a') * d
    go z e = omega arith

more_frac : (c m n d a b a' b' : ℕ) → n ≤ m → m * c + b * d ≡ a * d → n * c + a' * d ≡ b' * d → (m - n) * c + (b' + b) * d ≡ (a' + a) * d
more_frac c m n d a b a' b' l h g = rw (add_comm b' b, add_comm a' a) (less_frac c m n d a b a' b' l h g)

module _ (k : ℕ) (l : k ≤ 149) where
  pub round_frac : (s : Bool) (n d a b : ℕ) → 0 < d → a < 2 ^ 24 + b → b < 2 ^ 24 + a → Frac (2 ^ k) s n d a b → Val k (round binary32 s n d) a b
  round_frac false n d a b D u v h =
      let w = whole a b d (n * 2 ^ k) h D in
      from-value k _ false n d a b D (over k false n d (a - b) l D (omega arith) w.1) h
  round_frac true n d a b D u v h =
      let w = whole b a d (n * 2 ^ k) h D in
      from-value k _ true n d a b D (over k true n d (b - a) l D (omega arith) w.1) h

  sum_frac : (s t : Bool) (m n d a b a' b' : ℕ) → 0 < d → a + a' < 2 ^ 24 + (b + b') → b + b' < 2 ^ 24 + (a + a')
      → Frac (2 ^ k) s m d a b → Frac (2 ^ k) t n d a' b' → Val k (sum binary32 s m t n d) (a + a') (b + b')
  unfolding sum
  sum_frac false false m n d a b a' b' D u v h g = round_frac false _ d _ _ D u v (plus_frac (2 ^ k) m n d a b a' b' h g)
  sum_frac true true m n d a b a' b' D u v h g = round_frac true _ d _ _ D u v (plus_frac (2 ^ k) m n d b a b' a' h g)
  sum_frac false true m n d a b a' b' D u v h g = go (ltb m n) refl
    where
      go : (w : Bool) → ltb m n ≡ w → Val k (cond w (round binary32 true (n - m) d) (round binary32 false (m - n) d)) (a + a') (b + b')
      go true e = round_frac true _ d _ _ D u v (more_frac (2 ^ k) n m d b' a' b a (le_of_lt (ltb-true m n e)) g h)
      go false e = round_frac false _ d _ _ D u v (less_frac (2 ^ k) m n d a b a' b' (ltb-false m n e) h g)
  sum_frac true false m n d a b a' b' D u v h g = go (ltb m n) (ltb n m) refl refl
    where
      go : (w z : Bool) → ltb m n ≡ w → ltb n m ≡ z → Val k (cond w (round binary32 false (n - m) d) (round binary32 z (m - n) d)) (a + a') (b + b')
      go true z e f = round_frac false _ d _ _ D u v (more_frac (2 ^ k) n m d a' b' a b (le_of_lt (ltb-true m n e)) g h)
      go false true e f = round_frac true _ d _ _ D u v (less_frac (2 ^ k) m n d b a b' a' (ltb-false m n e) h g)
      go false false e f =
          let i : n ≤ m = ltb-false m n e in
          let j : m ≤ n = ltb-false n m f in
          let o : m - n ≡ n - m = omega arith in
          rw o (round_frac false _ d _ _ D u v (more_frac (2 ^ k) n m d a' b' a b j g h))

  left : (s : Bool) (m d e a b : ℕ) → Frac (2 ^ k) s m d a b → Frac (2 ^ k) s (m * e) (d * e) a b
  left false m d e a b h = omega (arith, ap (λ (z : ℕ). z * e) h)
  left true m d e a b h = omega (arith, ap (λ (z : ℕ). z * e) h)

  right : (s : Bool) (m d e a b : ℕ) → Frac (2 ^ k) s m d a b → Frac (2 ^ k) s (m * e) (e * d) a b
  right false m d e a b h = omega (arith, ap (λ (z : ℕ). z * e) h)
  right true m d e a b h = omega (arith, ap (λ (z : ℕ). z * e) h)

  pub add_val : {x y : Float} {a b a' b' : ℕ} → Val k x a b → Val k y a' b' → a + a' < 2 ^ 24 + (b + b') → b + b' < 2 ^ 24 + (a + a')
      → Val k (x ⊕ y) (a + a') (b + b')
  unfolding add
  add_val (val {s = s} {m = m} {e = e} p) (val {s = t} {m = n} {e = d} q) u v =
      sum_frac s t _ _ (down e * down d) _ _ _ _ (mul-pos (down_pos e) (down_pos d)) u v (left s (m * up e) (down e) (down d) _ _ p)
      (right t (n * up d) (down d) (down e) _ _ q)

  pub neg_val : {x : Float} {a b : ℕ} → Val k x a b → Val k (neg x) b a
  unfolding neg
  neg_val (val {s = false} h) = val h
  neg_val (val {s = true} h) = val h

  pub sub_val : {x y : Float} {a b a' b' : ℕ} → Val k x a b → Val k y a' b' → a + b' < 2 ^ 24 + (b + a') → b + a' < 2 ^ 24 + (a + b')
      → Val k (x ⊖ y) (a + b') (b + a')
  unfolding sub
  sub_val p q u v = add_val p (neg_val q) u v

-- ---- a product by t / 2

half_frac : (c : ℕ) (s : Bool) (m e n d a b t : ℕ) → Frac c s m e a b → n * 2 ≡ t * d → Frac (2 * c) s (m * n) (e * d) (a * t) (b * t)
half_frac c false m e n d a b t h g = omega (arith, ap (λ (z : ℕ). z * (t * d)) h, ap (λ (z : ℕ). z * (m * c)) g)
half_frac c true m e n d a b t h g = omega (arith, ap (λ (z : ℕ). z * (t * d)) h, ap (λ (z : ℕ). z * (m * c)) g)

zero_frac : (c : ℕ) (s : Bool) (d a b : ℕ) → a * d ≡ b * d → Frac c s 0 d a b
zero_frac c false d a b h = omega (arith, zero-mul c)
zero_frac c true d a b h = omega (arith, zero-mul c)

same_sign : (s : Bool) → unlike s false ≡ s
same_sign true = refl
same_sign false = refl

module _ (k : ℕ) (l : k + 1 ≤ 149) where
  pub mul_val : {x y : Float} {a b t : ℕ} → Val k x a b → Val 1 y t 0 → a * t < 2 ^ 24 + b * t → b * t < 2 ^ 24 + a * t
      → Val (k + 1) (x ⊗ y) (a * t) (b * t)
  unfolding mul
  mul_val {a = a} {b = b} {t = t} (val {s = s} {m = m} {e = e} h) (val {s = false} {m = n} {e = d} g) u v =
      let p : 2 ^ (k + 1) ≡ 2 * 2 ^ k = pow-add 2 k 1 ∙ mul_comm (2 ^ k) 2 in
      rw same_sign (round_frac (k + 1) l s _ _ (a * t) (b * t) (mul-pos (down_pos e) (down_pos d)) u v
      (rw p (half_frac (2 ^ k) s (m * up e) (down e) (n * up d) (down d) a b t h (omega (arith, zero-mul (down d))))))
  mul_val {a = a} {b = b} {t = t} (val {s = s} {m = m} {e = e} h) (val {s = true} {m = n} {e = d} g) u v =
      let z : n * up d ≡ 0 = omega (arith, zero-mul (down d)) in
      let t0 : t ≡ 0 = no_factor t (down d) (down_pos d) (omega (arith, zero-mul (down d))) in
      let mz : m * up e * (n * up d) ≡ 0 = ap (λ (j : ℕ). m * up e * j) z ∙ omega arith in
      rw mz (round_frac (k + 1) l (unlike s true) 0 _ (a * t) (b * t) (mul-pos (down_pos e) (down_pos d)) u v
      (zero_frac (2 ^ (k + 1)) (unlike s true) _ _ _
      (ap (λ (j : ℕ). a * j * (down e * down d)) t0 ∙ omega arith ∙ sym (ap (λ (j : ℕ). b * j * (down e * down d)) t0))))

-- ---- the same number in finer units, and with nothing taken away

finer_frac : (c : ℕ) (s : Bool) (m d a b : ℕ) → Frac c s m d a b → Frac (2 * c) s m d (2 * a) (2 * b)
finer_frac c false m d a b h = omega arith
finer_frac c true m d a b h = omega arith

pub finer : {k : ℕ} {x : Float} {a b : ℕ} → Val k x a b → Val (k + 1) x (2 * a) (2 * b)
finer {k} (val {s = s} {m = m} {e = e} {a = a} {b = b} h) =
    let p : 2 ^ (k + 1) ≡ 2 * 2 ^ k = pow-add 2 k 1 ∙ mul_comm (2 ^ k) 2 in
    val {k = k + 1} {s = s} {m = m} {e = e} {a = 2 * a} {b = 2 * b} (rw p (finer_frac (2 ^ k) s (m * up e) (down e) a b h))

net_frac : (c : ℕ) (s : Bool) (m d a b p q : ℕ) → a + q ≡ p + b → Frac c s m d a b → Frac c s m d p q
net_frac c false m d a b p q e h = omega (arith, ap (λ (z : ℕ). z * d) e)
net_frac c true m d a b p q e h = omega (arith, ap (λ (z : ℕ). z * d) e)

pub net : {k : ℕ} {x : Float} {a b : ℕ} (p q : ℕ) → a + q ≡ p + b → Val k x a b → Val k x p q
net {k} p q f (val {s = s} {m = m} {e = e} {a = a} {b = b} h) = val (net_frac (2 ^ k) s (m * up e) (down e) a b p q f h)

-- ---- a comparison

pub not_lt : {k : ℕ} {x y : Float} {a b a' b' : ℕ} → Val k x a b → Val k y a' b' → a + b' ≤ a' + b → lt y x ≡ false
unfolding lt
not_lt {k} (val {s = s} {m = m} {e = e} {a = a} {b = b} h) (val {s = t} {m = n} {e = d} {a = a'} {b = b'} g) l = go s t h g
  where
    c : ℕ
    c = 2 ^ k

    E : ℕ
    E = down e

    D : ℕ
    D = down d

    M : ℕ
    M = m * up e

    N : ℕ
    N = n * up d

    L : (a + b') * (E * D) ≤ (a' + b) * (E * D)
    L = mul-le-mul_right (E * D) l

    go : (s t : Bool) → Frac c s M E a b → Frac c t N D a' b' → below t (N * E) s (M * D) ≡ false
    go false false h g =
        le-ltb (N * E) (M * D) (le_of_mul-le-mul_right {k = c} (omega (arith, L, ap (λ (z : ℕ). z * D) h, ap (λ (z : ℕ). z * E) g)) (pow_pos k))
    go true false h g = refl
    go true true h g =
        le-ltb (M * D) (N * E) (le_of_mul-le-mul_right {k = c} (omega (arith, L, ap (λ (z : ℕ). z * D) h, ap (λ (z : ℕ). z * E) g)) (pow_pos k))
    go false true h g =
        let z : N * E + M * D ≤ 0 = le_of_mul-le-mul_right {k = c} (omega (arith, L, ap (λ (z : ℕ). z * D) h, ap (λ (z : ℕ). z * E) g)) (pow_pos k) in
        le-ltb 0 (N * E + M * D) z

-- between the two ends `clamp` changes nothing
pub clamp-val : {k : ℕ} {x lo hi : Float} {a l u : ℕ} → Val k x a 0 → Val k lo l 0 → Val k hi u 0 → l ≤ a → a ≤ u → clamp x lo hi ≡ x
unfolding clamp
clamp-val v p q b c = rw (not_lt p v (omega arith), not_lt v q (omega arith))

-- ---- whole numbers

pub cast_val : (n : ℕ) → n ≤ 2 ^ 24 → Val 0 (as_f32 n) n 0
unfolding of_int
cast_val n b = from-value 0 _ false n 1 n 0 (lit< tt) (round_whole binary32 false n b) (omega arith)

-- a / 2^k cut, and rounded with halves up, where nothing is below 0
quotient : (c n d a : ℕ) → 0 < c → 0 < d → n * c + 0 * d ≡ a * d → n / d ≡ a / c
quotient c n d a C D h = div_same n d a c D C (omega (arith, zero-mul d))

nothing : (c n d a : ℕ) → 0 < c → 0 < d → n * c + a * d ≡ 0 * d → (n ≡ 0) × (a ≡ 0)
nothing c n d a C D h = (no_factor n c C (omega (arith, zero-mul d)), no_factor a d D (omega (arith, zero-mul d)))

whole_val : (n : ℕ) → n < 2 ^ 24 → Val 0 (round binary32 false n 1) n 0
whole_val n b = round_frac 0 (lit≤ tt) false n 1 n 0 (lit< tt) (omega arith) (omega arith) (omega arith)

none-val : Val 0 (round binary32 true 0 1) 0 0
none-val = round_frac 0 (lit≤ tt) true 0 1 0 0 (lit< tt) (omega arith) (omega arith) refl

pub floor-val : {k : ℕ} {x : Float} {a : ℕ} (q : ℕ) → Val k x a 0 → q < 2 ^ 24 → a / 2 ^ k ≡ q → Val 0 (floor x) q 0
unfolding floor
floor-val {k} q (val {s = false} {m = m} {e = e} {a = a} h) b i =
    rw (quotient (2 ^ k) (m * up e) (down e) a (pow_pos k) (down_pos e) h, i) (whole_val q b)
floor-val {k} q (val {s = true} {m = m} {e = e} {a = a} h) b i =
    let z = nothing (2 ^ k) (m * up e) (down e) a (pow_pos k) (down_pos e) h in
    let n : (m * up e + (down e - 1)) / down e ≡ 0 = div-eq_of_lt (omega (arith, down_pos e)) in
    let o : 0 / 2 ^ k ≡ 0 = div-eq_of_lt (pow_pos k) in
    let j : 0 ≡ q = sym (ap (λ (v : ℕ). v / 2 ^ k) z.1 ∙ o) ∙ i in
    rw (n, ← j) none-val

-- `x.round()` of quarters
pub rounded-val : {x : Float} {a : ℕ} → Val 2 x a 0 → a < 2 ^ 20 → Val 0 (rounded x) ((a + 2) / 4) 0
unfolding rounded
rounded-val (val {s = false} {m = m} {e = e} {a = a} h) b =
    let q : (2 * (m * up e) + down e) / (2 * down e) ≡ (a + 2) / 4 =
    div_same _ (2 * down e) (a + 2) 4 (omega (arith, down_pos e)) (lit< tt) (omega (arith, zero-mul (down e))) in
    rw q (whole_val ((a + 2) / 4) (omega arith))
rounded-val (val {s = true} {m = m} {e = e} {a = a} h) b =
    let z = nothing 4 (m * up e) (down e) a (lit< tt) (down_pos e) h in
    let n : (2 * (m * up e) + down e) / (2 * down e) ≡ 0 = div-eq_of_lt (omega (arith, down_pos e)) in
    let o : (a + 2) / 4 ≡ 0 = omega arith in
    rw (n, o) none-val

-- `(x as isize).max(0) as usize`, `x as u8`
pub usize-val : {x : Float} {n : ℕ} → Val 0 x n 0 → n < 2 ^ 24 → as_usize (maxℤ (to_isize x) (pos 0)) ≡ n
unfolding to_signed
usize-val (val {s = false} {m = m} {e = e} {a = n} h) b =
    let q : m * up e / down e ≡ n / 1 = quotient 1 (m * up e) (down e) n (lit< tt) (down_pos e) h in
    let k : min (m * up e / down e) (2 ^ 63 - 1) ≡ n = omega arith in
    rw (k, le-ltb n 0 (omega arith))
usize-val (val {s = true} {m = m} {e = e} {a = n} h) b =
    let z = nothing 1 (m * up e) (down e) n (lit< tt) (down_pos e) h in
    let q : m * up e / down e ≡ 0 = ap (λ (v : ℕ). v / down e) z.0 ∙ div-eq_of_lt (down_pos e) in
    rw (q, z.1)

pub u8_val : {x : Float} {n : ℕ} → Val 0 x n 0 → n < 256 → to_u8 x ≡ n
unfolding to_unsigned
u8_val (val {s = false} {m = m} {e = e} {a = n} h) b =
    let q : m * up e / down e ≡ n / 1 = quotient 1 (m * up e) (down e) n (lit< tt) (down_pos e) h in
    omega arith
u8_val (val {s = true} {m = m} {e = e} {a = n} h) b = sym (nothing 1 (m * up e) (down e) n (lit< tt) (down_pos e) h).1
