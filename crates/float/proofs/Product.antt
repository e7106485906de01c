-- A product of numbers that are not negative grows with its first factor, zeros of either sign included. Assumes nothing.
use mathlib.Core.Path.{◌≡◌, refl, sym, ap, ◌∙◌}
use mathlib.Core.Logic.{◌⊎◌, inl, inr}
use mathlib.Core.Bool.{Bool, true, false, cond, true≢false}
use borrow.Author.Tests.{eq-eqb}
use Prim.Native.Nat.{ℕ, ◌*◌, ◌≤◌, ◌<◌, zero-le}
use native.Mathlib.Nat.{zero-mul, mul-zero, mul-pos, mul-le-mul_right, mul-mul-mul_comm}
use native.Mathlib.Omega.{arith}
use lib.Dec.{T, lit<, eqb}
use lib.IntN.{pos}
use lib.Ieee.{Float, nan, inf, fin, binary32, up, down, unlike, round, mul, lt, le, of_bits}
use lib.Ieee.Fits.{down_pos, up_pos}
use lib.Ieee.Order.{round_mono}
use lib.Ieee.Positive.{num, den, den_pos}
use lib.Ieee.Scale.{round_same, finite}
use Rattle.float.specs.Values.{f0, f1}
use Rattle.float.proofs.Order.{or_le, both_eq, no_factor, le_lt_trans}

-- finite, and not below zero
abbrev Nonneg : Float → Type 0
Nonneg nan = ⊥
Nonneg (inf s) = ⊥
Nonneg (fin false m e) = Unit {0}
Nonneg (fin true m e) = m ≡ 0

nonneg : (x : Float) → T (finite x) → T (le f0 x) → Nonneg x
unfolding of_bits le
nonneg nan f h = absurd f
nonneg (inf s) f h = absurd f
nonneg (fin false m e) f h = tt
nonneg (fin true m e) f h =
    no_factor m (up e) (up_pos e)
    (no_factor (m * up e) 1 (lit< tt) (sym (both_eq (0 * down e) (m * up e * 1) h).0 ∙ zero-mul (down e)))

pub round_zero : (s : Bool) (c : ℕ) → 0 < c → round binary32 s 0 c ≡ fin s 0 (pos 0)
unfolding round
round_zero s c h = round_same binary32 s 0 c 0 1 h (lit< tt) (zero-mul 1 ∙ sym (zero-mul c)) ∙ refl

-- a product is rounded without a sign, or is -0
prod : (x z : Float) → Nonneg x → Nonneg z
    → (mul binary32 x z ≡ round binary32 false (num x * num z) (den x * den z)) ⊎ ((mul binary32 x z ≡ fin true 0 (pos 0)) × (num x * num z ≡ 0))
unfolding mul
prod nan z p q = absurd p
prod (inf s) z p q = absurd p
prod (fin s m e) nan p q = absurd q
prod (fin s m e) (inf t) p q = absurd q
prod (fin false m e) (fin false n d) p q = inl refl
prod (fin true m e) (fin true n d) p q = inl refl
prod (fin true m e) (fin false n d) p q =
    let z : m * up e * (n * up d) ≡ 0 = rw (p, zero-mul, zero-mul) in
    inr (rw z (round_zero true (down e * down d) (mul-pos (down_pos e) (down_pos d))), z)
prod (fin false m e) (fin true n d) p q =
    let z : m * up e * (n * up d) ≡ 0 = rw (q, zero-mul, mul-zero) in
    inr (rw z (round_zero true (down e * down d) (mul-pos (down_pos e) (down_pos d))), z)

cross : (x y : Float) → Nonneg x → Nonneg y → T (le x y) → num x * den y ≤ num y * den x
unfolding le
cross nan y p q h = absurd p
cross (inf s) y p q h = absurd p
cross (fin s m e) nan p q h = absurd q
cross (fin s m e) (inf t) p q h = absurd q
cross (fin false m e) (fin false n d) p q h = or_le _ _ true h
cross (fin false m e) (fin true n d) p q h = omega (arith, (both_eq (m * up e * down d) (n * up d * down e) h).0)
cross (fin true m e) (fin t n d) p q h =
    let z : m * up e * down d ≡ 0 = rw (p, zero-mul, zero-mul) in
    omega arith

-- what is above the product with the larger factor is above the product with the smaller
lower : (x y z v : Float) → Nonneg x → Nonneg y → Nonneg z → T (le x y) → T (lt (mul binary32 y z) v) → T (lt (mul binary32 x z) v)
unfolding le
lower x y z v p q r h k = go (prod x z p r) (prod y z q r)
  where
    less : num x * num z * (den y * den z) ≤ num y * num z * (den x * den z)
    less =
        rw (mul-mul-mul_comm (num x) (num z) (den y) (den z), mul-mul-mul_comm (num y) (num z) (den x) (den z))
        (mul-le-mul_right (num z * den z) (cross x y p q h))

    D : (a : Float) → 0 < den a * den z
    D a = mul-pos (den_pos a) (den_pos z)

    go : (mul binary32 x z ≡ round binary32 false (num x * num z) (den x * den z)) ⊎ ((mul binary32 x z ≡ fin true 0 (pos 0)) × (num x * num z ≡ 0))
        → (mul binary32 y z ≡ round binary32 false (num y * num z) (den y * den z))
        ⊎ ((mul binary32 y z ≡ fin true 0 (pos 0)) × (num y * num z ≡ 0)) → T (lt (mul binary32 x z) v)
    go (inl a) (inl b) =
        rw a
        (le_lt_trans
        (round binary32 false (num x * num z) (den x * den z))
        (round binary32 false (num y * num z) (den y * den z))
        v
        (round_mono binary32 (num x * num z) (den x * den z) (num y * num z) (den y * den z) (D x) (D y) less)
        (rw b at k))
    go (inl a) (inr b) =
        let e : num y * num z * (den x * den z) ≡ 0 = ap (λ (n : ℕ). n * (den x * den z)) b.1 ∙ zero-mul _ in
        let o : num x * num z ≡ 0 = no_factor (num x * num z) (den y * den z) (D y) (omega (arith, less)) in
        rw (a, o, round_zero false (den x * den z) (D x)) (le_lt_trans (fin false 0 (pos 0)) (fin true 0 (pos 0)) v tt (rw b.0 at k))
    go (inr a) (inl b) =
        let o : T (le (fin false 0 (pos 0)) (round binary32 false (num y * num z) (den y * den z))) =
        rw (round_zero false 1 (lit< tt)) at (round_mono binary32 0 1 (num y * num z) (den y * den z) (lit< tt) (D y) (rw zero-mul (zero-le)))
        in
        rw a.0
        (le_lt_trans (fin true 0 (pos 0)) (fin false 0 (pos 0)) v tt
        (le_lt_trans (fin false 0 (pos 0)) (round binary32 false (num y * num z) (den y * den z)) v o (rw b at k)))
    go (inr a) (inr b) = rw a.0 (rw b.0 at k)

-- what lies between zero and a finite number is finite
finite_under : (x y : Float) → T (le f0 x) → T (le x y) → T (finite y) → T (finite x)
unfolding of_bits le
finite_under nan y h k f = absurd h
finite_under (inf true) y h k f = absurd h
finite_under (inf false) nan h k f = absurd f
finite_under (inf false) (inf t) h k f = absurd f
finite_under (inf false) (fin t n d) h k f = absurd k
finite_under (fin s m e) y h k f = tt

one : T (finite f1)
unfolding of_bits
one = tt

-- two fractions between 0 and 1, of a number that is finite and not negative
pub product_lower : (x y z v : Float) → T (le f0 x) → T (le x y) → T (le f0 y) → T (le y f1) → T (finite z) → T (le f0 z)
    → T (lt (mul binary32 y z) v) → T (lt (mul binary32 x z) v)
product_lower x y z v a b c d f g k =
    let fy : T (finite y) = finite_under y f1 c d one in
    lower x y z v (nonneg x (finite_under x y a b fy) a) (nonneg y fy c) (nonneg z f g) b k

-- ---- of any number that is not negative, infinity included

-- nothing is above an infinite product, or above the NaN that 0 times infinity is
pub infinite_product : (y v : Float) → T (le f0 y) → lt (mul binary32 y (inf false)) v ≡ false
unfolding of_bits le mul lt
infinite_product nan v h = absurd h
infinite_product (inf true) v h = absurd h
infinite_product (inf false) nan h = refl
infinite_product (inf false) (inf t) h = refl
infinite_product (inf false) (fin t n d) h = refl
infinite_product (fin s m e) v h = go s (eqb m 0) refl v h
  where
    go : (s b : Bool) → eqb m 0 ≡ b → (v : Float) → T (le f0 (fin s m e)) → lt (cond b nan (inf (unlike s false))) v ≡ false
    go s true q v h = refl
    go false false q nan h = refl
    go false false q (inf t) h = refl
    go false false q (fin t n d) h = refl
    go true false q v h =
        let z : m ≡ 0 = nonneg (fin true m e) tt h in
        absurd (true≢false (sym (eq-eqb m 0 z) ∙ q))

-- two fractions between 0 and 1: what is above the larger's product is above the smaller's
pub fraction_lower : (x y z v : Float) → T (le f0 x) → T (le x y) → T (le f0 y) → T (le y f1) → T (le f0 z)
    → T (lt (mul binary32 y z) v) → T (lt (mul binary32 x z) v)
unfolding of_bits le
fraction_lower x y nan v a b c d g k = absurd g
fraction_lower x y (inf true) v a b c d g k = absurd g
fraction_lower x y (inf false) v a b c d g k = absurd (rw (infinite_product y v c) at k)
fraction_lower x y (fin s m e) v a b c d g k = product_lower x y (fin s m e) v a b c d tt g k

-- nothing is above a product with 0 that is not above 0
pub zero_product : (x v : Float) → T (le f0 x) → T (le x f1) → lt f0 v ≡ false → lt (mul binary32 x f0) v ≡ false
unfolding of_bits le mul
zero_product nan v h l n = absurd h
zero_product (inf true) v h l n = absurd h
zero_product (inf false) v h l n = absurd l
zero_product (fin s m e) v h l n =
    rw (mul-zero (m * up e), round_zero (unlike s false) (down e * 1) (mul-pos (down_pos e) (lit< tt))) (stays (unlike s false))
  where
    zeros : (t : Bool) → T (le f0 (fin t 0 (pos 0)))
    zeros true = tt
    zeros false = tt

    stays : (t : Bool) → lt (fin t 0 (pos 0)) v ≡ false
    stays t = go (lt (fin t 0 (pos 0)) v) refl
      where
        go : (b : Bool) → lt (fin t 0 (pos 0)) v ≡ b → b ≡ false
        go true y = absurd (rw n at (le_lt_trans f0 (fin t 0 (pos 0)) v (zeros t) (rw y tt)))
        go false y = refl
