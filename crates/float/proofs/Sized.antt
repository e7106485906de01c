-- How large a result can be: `Sized s n x` says that x is finite, has the sign s and is at most n in size, `Small n x` the same with either sign.
-- Carried through rounding, product, sum and difference, with a value of the format that the exact result cannot pass. Assumes nothing.
use mathlib.Core.Path.{◌≡◌, refl, sym, ap, ◌∙◌, subst}
use mathlib.Core.Bool.{Bool, true, false, not, cond, ◌&&◌, ◌||◌, beq, true≢false}
use Prim.Native.Nat.{ℕ, zero, suc, ◌+◌, ◌-◌, ◌*◌, ◌^◌, ◌≤◌, ◌<◌}
use native.Mathlib.Nat.{le_trans, le_of_eq, le_of_lt, lt_of_lt_of_le, mul_comm, mul_assoc, mul_right_comm, mul-mul-mul_comm}
use native.Mathlib.Nat.{mul-one, zero-mul, add-mul, mul-le-mul, mul-le-mul_right, le_of_mul-le-mul_right, mul-pos}
use native.Mathlib.Omega.{arith}
use lib.Dec.{T, lit<, ltb, eqb, ltb→lt, eqb→eq}
use lib.Pow.{pow-add, pow_mono, shl_lt}
use lib.IntN.{ℤ, pos}
use lib.Ieee.{Float, nan, inf, fin, up, down, binary32, odd, units, round, neg, add, sub, mul, div, sum, le, lt, eq, is_nan, unlike}
use lib.Ieee.Fits.{round_is, down_pos, and_l}
use lib.Ieee.Exact.{HasValue, round_exact}
use lib.Ieee.Order.{round_mono}

-- finite, with the sign s, and at most n in size
pub data Sized : Bool → ℕ → Float → Type 0 where
  sized : {s : Bool} {m n : ℕ} {e : ℤ} → m * up e ≤ n * down e → Sized s n (fin s m e)

-- with either sign
pub data Small : ℕ → Float → Type 0 where
  small : {s : Bool} {n : ℕ} {x : Float} → Sized s n x → Small n x

-- the whole number n is a value of the format
abbrev pub Held : ℕ → Type 0
Held n = HasValue (round binary32 false n 1) false n 1

pub held : (i j : ℕ) → i < 2 ^ 24 → j ≤ 100 → Held (i * 2 ^ j)
held i j b l =
    let m : 24 + (j + 149) ≤ 277 = omega arith in
    round_exact binary32 false (i * 2 ^ j) 1 i (j + 149) (lit< tt) b (lt_of_lt_of_le (shl_lt 24 (j + 149) b) (pow_mono m))
    (mul_assoc i (2 ^ j) (2 ^ 149) ∙ ap (λ (x : ℕ). i * x) (sym (pow-add 2 j 149)) ∙ sym (mul-one _))

-- 2 ^ j
pub power : (j : ℕ) → j ≤ 100 → Held (1 * 2 ^ j)
power j l = held 1 j (lit< tt) l

pub small_mono : {m n : ℕ} {x : Float} → m ≤ n → Small m x → Small n x
small_mono l (small (sized {e = e} h)) = small (sized (le_trans h (mul-le-mul_right (down e) l)))

-- ---- `round`

or_cases : (a b : Bool) {P : Type 0} → (T a → P) → (T b → P) → T (a || b) → P
or_cases true b f g t = f tt
or_cases false b f g t = g t

below : (n m : ℕ) (e : ℤ) (y : Float) → T (le (fin false m e) y) → HasValue y false n 1 → m * up e ≤ n * down e
unfolding le lt eq
below n m e nan t v = absurd v
below n m e (inf s) t v = absurd v
below n m e (fin true k d) t v = absurd (true≢false v.0)
below n m e (fin false k d) t v =
    let a = m * up e * down d in
    let b = k * up d * down e in
    let h : a ≤ b =
    or_cases (ltb a b) (eqb a b && (true || eqb a 0)) (λ u. le_of_lt (ltb→lt a b u)) (λ u. le_of_eq (eqb→eq a b (and_l (eqb a b) true u))) t in
    le_of_mul-le-mul_right {k = down d}
    (le_trans h (le_of_eq (ap (λ (x : ℕ). x * down e) (sym (mul-one _) ∙ v.1) ∙ mul_right_comm n (down d) (down e)))) (down_pos d)

not_inf : (n : ℕ) (y : Float) → T (le (inf false) y) → HasValue y false n 1 → ⊥
unfolding le lt eq
not_inf n nan t v = v
not_inf n (inf s) t v = v
not_inf n (fin s k d) t v = t

units_sized : (s : Bool) (n q k : ℕ) (y : Float) → HasValue y false n 1 → T (le (units binary32 false q k) y) → Sized s n (units binary32 s q k)
unfolding units odd
units_sized s n q k y v = go (ltb (q * 2 ^ k) (2 ^ 277)) q
  where
    go : (b : Bool) (q : ℕ) → T (le (cond b (odd 25 false q k 149) (inf false)) y) → Sized s n (cond b (odd 25 s q k 149) (inf s))
    go true zero t = sized (below n _ _ y t v)
    go true (suc q) t = sized (below n _ _ y t v)
    go false q t = absurd (not_inf n y t v)

pub round_sized : (s : Bool) (a c n : ℕ) → 0 < c → Held n → a ≤ n * c → Sized s n (round binary32 s a c)
round_sized s a c n C v h =
    subst (Sized s n) (sym (round_is binary32 s a c))
    (units_sized s n _ _ (round binary32 false n 1) v
    (subst (λ (x : Float). T (le x (round binary32 false n 1))) (round_is binary32 false a c)
    (round_mono binary32 a c n 1 C (lit< tt) (le_trans (le_of_eq (mul-one a)) h))))

-- ---- the operations: r is a value of the format that the exact result cannot pass

pub mul_sized : {s t : Bool} {p q : ℕ} {x y : Float} (r : ℕ) → Held r → p * q ≤ r → Sized s p x → Sized t q y
    → Sized (unlike s t) r (mul binary32 x y)
unfolding mul
mul_sized {p = p} {q = q} r v l (sized {e = e} h) (sized {e = d} k) =
    round_sized _ _ _ r (mul-pos (down_pos e) (down_pos d)) v
    (le_trans (mul-le-mul h k) (le_trans (le_of_eq (mul-mul-mul_comm p (down e) q (down d))) (mul-le-mul_right (down e * down d) l)))

pub mul_small : {p q : ℕ} {x y : Float} (r : ℕ) → Held r → p * q ≤ r → Small p x → Small q y → Small r (mul binary32 x y)
mul_small r v l (small h) (small k) = small (mul_sized r v l h k)

-- a sum of two fractions a / c and b / c that are at most p and q
module _ (a b c p q r : ℕ) (v : Held r) (C : 0 < c) (A : a ≤ p * c) (B : b ≤ q * c) (l : p + q ≤ r) where
  both : a + b ≤ r * c
  both = omega (arith, add-mul p q c, mul-le-mul_right c l)

  sum-small : (s t : Bool) → Small r (sum binary32 s a t b c)
  unfolding sum
  sum-small s t = go (beq s t) (ltb a b)
    where
      go : (u w : Bool)
          → Small r (cond u (round binary32 s (a + b) c) (cond w (round binary32 t (b - a) c) (round binary32 (s && ltb b a) (a - b) c)))
      go true w = small (round_sized s (a + b) c r C v both)
      go false true = small (round_sized t (b - a) c r C v (omega (arith, both)))
      go false false = small (round_sized (s && ltb b a) (a - b) c r C v (omega (arith, both)))

  sum-plus : Sized false r (sum binary32 false a false b c)
  unfolding sum
  sum-plus = round_sized false (a + b) c r C v both

left : (a p e d : ℕ) → a ≤ p * e → a * d ≤ p * (e * d)
left a p e d h = le_trans (mul-le-mul_right d h) (le_of_eq (mul_assoc p e d))

right : (b q e d : ℕ) → b ≤ q * d → b * e ≤ q * (e * d)
right b q e d h = le_trans (left b q d e h) (le_of_eq (ap (λ (x : ℕ). q * x) (mul_comm d e)))

pub add_small : {p q : ℕ} {x y : Float} (r : ℕ) → Held r → p + q ≤ r → Small p x → Small q y → Small r (add binary32 x y)
unfolding add
add_small {p} {q} r v l (small (sized {s = s} {m = m} {e = e} h)) (small (sized {s = t} {m = n} {e = d} k)) =
    sum-small (m * up e * down d) (n * up d * down e) (down e * down d) p q r v (mul-pos (down_pos e) (down_pos d))
    (left _ p (down e) (down d) h) (right _ q (down e) (down d) k) l s t

pub add_plus : {p q : ℕ} {x y : Float} (r : ℕ) → Held r → p + q ≤ r → Sized false p x → Sized false q y → Sized false r (add binary32 x y)
unfolding add
add_plus {p} {q} r v l (sized {m = m} {e = e} h) (sized {m = n} {e = d} k) =
    sum-plus (m * up e * down d) (n * up d * down e) (down e * down d) p q r v (mul-pos (down_pos e) (down_pos d))
    (left _ p (down e) (down d) h) (right _ q (down e) (down d) k) l

pub neg_small : {n : ℕ} {x : Float} → Small n x → Small n (neg x)
unfolding neg
neg_small (small (sized h)) = small (sized h)

pub sub_small : {p q : ℕ} {x y : Float} (r : ℕ) → Held r → p + q ≤ r → Small p x → Small q y → Small r (sub binary32 x y)
unfolding sub
sub_small r v l h k = add_small r v l h (neg_small k)

-- c x x, from left to right, for a c that is not negative
twice : (s : Bool) → unlike (unlike false s) s ≡ false
twice true = refl
twice false = refl

pub square-plus : {p q : ℕ} {c x : Float} (u r : ℕ) → Held u → Held r → p * q ≤ u → u * q ≤ r → Sized false p c → Small q x
    → Sized false r (mul binary32 (mul binary32 c x) x)
square-plus u r v w l m h (small {s = s} k) = rw twice at (mul_sized r w m (mul_sized u v l h k) k)

-- ---- from a comparison: from 0 to a value hi of the format that is n

zero_left : (a b c : ℕ) → 0 * 1 * c ≡ a * 1 → a ≤ b
zero_left a b c e = omega (arith, simp (zero-mul, mul-one) at e)

pub small_of_le : (n : ℕ) (hi y : Float) → HasValue hi false n 1 → T (le (fin false 0 (pos 0)) y) → T (le y hi) → Small n y
unfolding le lt eq
small_of_le n hi nan v l h = absurd l
small_of_le n hi (inf true) v l h = absurd l
small_of_le n hi (inf false) v l h = absurd (not_inf n hi h v)
small_of_le n hi (fin false m e) v l h = small (sized (below n m e hi h v))
small_of_le n hi (fin true m e) v l h =
    small (sized (zero_left (m * up e) (n * down e) (down e) (eqb→eq _ _ (and_l (eqb (0 * 1 * down e) (m * up e * 1)) _ l))))

-- ---- no NaN

pub small-number : {n : ℕ} {x : Float} → Small n x → T (not (is_nan x))
unfolding is_nan
small-number (small (sized h)) = tt

units_number : (s : Bool) (q k : ℕ) → T (not (is_nan (units binary32 s q k)))
unfolding units odd is_nan
units_number s q k = go (ltb (q * 2 ^ k) (2 ^ 277)) q
  where
    go : (b : Bool) (q : ℕ) → T (not (is_nan (cond b (odd 25 s q k 149) (inf s))))
    go true zero = tt
    go true (suc q) = tt
    go false q = tt

round_number : (s : Bool) (a c : ℕ) → T (not (is_nan (round binary32 s a c)))
round_number s a c = subst (λ (x : Float). T (not (is_nan x))) (sym (round_is binary32 s a c)) (units_number s _ _)

-- a finite number by one that is not 0
abbrev pub zero_float : Float → Bool
zero_float nan = false
zero_float (inf s) = false
zero_float (fin s m e) = eqb m 0

pub div_number : {p q : ℕ} {x y : Float} → Small p x → Small q y → zero_float y ≡ false → T (not (is_nan (div binary32 x y)))
unfolding div
div_number (small (sized {s = s} {m = m} {e = e} h)) (small (sized {s = t} {m = n} {e = d} k)) z =
    rw z (round_number (unlike s t) (m * up e * down d) (n * up d * down e))
