-- The order of floats: what is at most y, with y below z, is below z, for every float, both zeros and the infinities included. Assumes nothing.
use mathlib.Core.Path.{◌≡◌, refl, sym, ap, ◌∙◌}
use mathlib.Core.Logic.{◌⊎◌, inl, inr}
use mathlib.Core.Bool.{◌||◌, Bool, true, false, ◌&&◌, or-true, true≢false}
use borrow.Author.Tests.{ltb-false, lt-ltb, le-ltb, eq-eqb}
use Prim.Native.Nat.{ℕ, ◌+◌, ◌*◌, ◌≤◌, ◌<◌}
use native.Mathlib.Nat.{le_of_lt, le_of_eq, mul_right_comm, eq-zero-or-pos, eq-or-lt_of_le}
use native.Mathlib.Nat.{mul-le-mul_right, mul-lt-mul_of_pos_right, lt_of_mul-lt-mul_right, mul-pos}
use native.Mathlib.Nat.{zero-mul}
use native.Mathlib.Omega.{arith}
use lib.Dec.{T, ltb, eqb, eqb→eq, ltb→lt, lt→ltb}
use lib.Ieee.{Float, nan, inf, fin, up, down, lt, le, eq, is_nan}
use lib.Ieee.Fits.{down_pos, and_l, and_r}
use lib.Ieee.Positive.{first_pos}

or_split : (a b : Bool) → T (a || b) → T a ⊎ T b
or_split true b t = inl tt
or_split false b t = inr t

pub or_le : (a b : ℕ) (c : Bool) → T (ltb a b || (eqb a b && c)) → a ≤ b
or_le a b c t = elim (or_split (ltb a b) (eqb a b && c) t) [ inl u ↦ le_of_lt (ltb→lt a b u) | inr u ↦ le_of_eq (eqb→eq a b (and_l (eqb a b) c u)) ]

pub or_ge : (a b : ℕ) (c : Bool) → T (ltb b a || (eqb a b && c)) → b ≤ a
or_ge a b c t = elim (or_split (ltb b a) (eqb a b && c) t) [
  | inl u ↦ le_of_lt (ltb→lt b a u)
  | inr u ↦ le_of_eq (sym (eqb→eq a b (and_l (eqb a b) c u)))
]

pub both_eq : (a b : ℕ) → T (eqb a b && eqb a 0) → (a ≡ b) × (a ≡ 0)
both_eq a b t = (eqb→eq a b (and_l (eqb a b) (eqb a 0) t), eqb→eq a 0 (and_r (eqb a b) (eqb a 0) t))

-- a factor that makes a product zero
pub no_factor : (n u : ℕ) → 0 < u → n * u ≡ 0 → n ≡ 0
no_factor n u h e = elim (eq-zero-or-pos n) [ inl z ↦ z | inr p ↦ absurd (let q : 0 < n * u = mul-pos p h in omega arith) ]

-- X / p, Y / q and Z / r
module _ (X p Y q Z r : ℕ) (P : 0 < p) (Q : 0 < q) (R : 0 < r) where
  up_up : X * q ≤ Y * p → Y * r < Z * q → X * r < Z * p
  up_up h k =
      lt_of_mul-lt-mul_right q
      (let a : X * q * r ≤ Y * p * r = mul-le-mul_right r h in
      let b : Y * r * p < Z * q * p = mul-lt-mul_of_pos_right k P in
      omega (arith, mul_right_comm X r q, mul_right_comm Y p r, mul_right_comm Z q p))

  down-down : Y * p ≤ X * q → Z * q < Y * r → Z * p < X * r
  down-down h k =
      lt_of_mul-lt-mul_right q
      (let a : Y * p * r ≤ X * q * r = mul-le-mul_right r h in
      let b : Z * q * p < Y * r * p = mul-lt-mul_of_pos_right k P in
      omega (arith, mul_right_comm X r q, mul_right_comm Y p r, mul_right_comm Z q p))

  -- X and Y are both zero
  zeros : X * q ≡ Y * p → X * q ≡ 0 → 0 < Y * r + Z * q → X * r < Z * p
  zeros h e k =
      let x : X ≡ 0 = no_factor X q Q e in
      let y : Y ≡ 0 = no_factor Y p P (sym h ∙ e) in
      let a : X * r ≡ 0 = ap (λ (n : ℕ). n * r) x ∙ zero-mul r in
      let b : Y * r ≡ 0 = ap (λ (n : ℕ). n * r) y ∙ zero-mul r in
      let z : 0 < Z * p = mul-pos (first_pos Z q (omega arith)) P in
      omega arith

  zeros_not : X * q ≡ Y * p → X * q ≡ 0 → Z * q < Y * r → ⊥
  zeros_not h e k =
      let y : Y ≡ 0 = no_factor Y p P (sym h ∙ e) in
      let b : Y * r ≡ 0 = ap (λ (n : ℕ). n * r) y ∙ zero-mul r in
      omega arith

  down-up : Y * r < Z * q → 0 < X * r + Z * p
  down-up k =
      let z : 0 < Z * p = mul-pos (first_pos Z q (omega arith)) P in
      omega arith

  down_down_up : Y * p ≤ X * q → 0 < Y * r + Z * q → 0 < X * r + Z * p
  down_down_up h k = elim (eq-zero-or-pos Z) [
    | inl z ↦
        let b : Z * q ≡ 0 = ap (λ (n : ℕ). n * q) z ∙ zero-mul q in
        let c : 0 < Y * p = mul-pos (first_pos Y r (omega arith)) P in
        let x : 0 < X * r = mul-pos (first_pos X q (omega arith)) R in
        omega arith
    | inr z ↦
        let a : 0 < Z * p = mul-pos z P in
        omega arith
  ]

pub le_lt_trans : (x y z : Float) → T (le x y) → T (lt y z) → T (lt x z)
unfolding le
le_lt_trans nan y z h k = absurd h
le_lt_trans (inf s) nan z h k = absurd k
le_lt_trans (inf true) (inf true) z h k = k
le_lt_trans (inf false) (inf true) z h k = absurd h
le_lt_trans (inf s) (inf false) nan h k = absurd k
le_lt_trans (inf s) (inf false) (inf u) h k = absurd k
le_lt_trans (inf s) (inf false) (fin u l g) h k = absurd k
le_lt_trans (inf false) (fin t n d) z h k = absurd h
le_lt_trans (inf true) (fin t n d) nan h k = absurd k
le_lt_trans (inf true) (fin t n d) (inf u) h k = k
le_lt_trans (inf true) (fin t n d) (fin u l g) h k = tt
le_lt_trans (fin s m e) nan z h k = absurd k
le_lt_trans (fin s m e) (inf true) z h k = absurd h
le_lt_trans (fin s m e) (inf false) nan h k = absurd k
le_lt_trans (fin s m e) (inf false) (inf u) h k = absurd k
le_lt_trans (fin s m e) (inf false) (fin u l g) h k = absurd k
le_lt_trans (fin s m e) (fin t n d) nan h k = absurd k
le_lt_trans (fin s m e) (fin t n d) (inf u) h k = k
le_lt_trans (fin false m e) (fin false n d) (fin false l g) h k =
    lt→ltb _ _ (up_up (m * up e) (down e) (n * up d) (down d) (l * up g) (down g) (down_pos e) (down_pos d) (down_pos g)
    (or_le _ _ true h) (ltb→lt _ _ k))
le_lt_trans (fin false m e) (fin false n d) (fin true l g) h k = absurd k
le_lt_trans (fin false m e) (fin true n d) (fin false l g) h k =
    lt→ltb _ _ (zeros (m * up e) (down e) (n * up d) (down d) (l * up g) (down g) (down_pos e) (down_pos d) (down_pos g)
    (both_eq _ _ h).0 (both_eq _ _ h).1 (ltb→lt _ _ k))
le_lt_trans (fin false m e) (fin true n d) (fin true l g) h k =
    absurd (zeros_not (m * up e) (down e) (n * up d) (down d) (l * up g) (down g) (down_pos e) (down_pos d) (down_pos g)
    (both_eq _ _ h).0 (both_eq _ _ h).1 (ltb→lt _ _ k))
le_lt_trans (fin true m e) (fin false n d) (fin false l g) h k =
    lt→ltb _ _ (down-up (m * up e) (down e) (n * up d) (down d) (l * up g) (down g) (down_pos e) (down_pos d) (down_pos g) (ltb→lt _ _ k))
le_lt_trans (fin true m e) (fin false n d) (fin true l g) h k = absurd k
le_lt_trans (fin true m e) (fin true n d) (fin false l g) h k =
    lt→ltb _ _ (down_down_up (m * up e) (down e) (n * up d) (down d) (l * up g) (down g) (down_pos e) (down_pos d) (down_pos g)
    (or_ge _ _ true h) (ltb→lt _ _ k))
le_lt_trans (fin true m e) (fin true n d) (fin true l g) h k =
    lt→ltb _ _ (down-down (m * up e) (down e) (n * up d) (down d) (l * up g) (down g) (down_pos e) (down_pos d) (down_pos g)
    (or_ge _ _ true h) (ltb→lt _ _ k))

pub lt_le : (x y : Float) → T (lt x y) → T (le x y)
unfolding le
lt_le x y t = go (lt x y) (eq x y) t
  where
    go : (b c : Bool) → T b → T (b || c)
    go true c t = tt
    go false c t = absurd t

-- ---- the order is total on numbers

unsigned : (a b : ℕ) → a ≤ b → T (ltb a b || (eqb a b && true))
unsigned a b h = elim (eq-or-lt_of_le h) [ inl e ↦ rw (eq-eqb a b e, or-true) tt | inr l ↦ rw (lt-ltb a b l) tt ]

opposite : (a b : ℕ) → T (ltb 0 (a + b) || (eqb a b && (false || eqb a 0)))
opposite a b = elim (eq-zero-or-pos (a + b)) [
  | inl z ↦
      let p : a ≡ 0 = omega arith in
      let q : b ≡ 0 = omega arith in
      rw (p, q) tt
  | inr l ↦ rw (lt-ltb 0 (a + b) l) tt
]

pub le_of_not_lt : (x y : Float) → is_nan x ≡ false → is_nan y ≡ false → lt y x ≡ false → T (le x y)
unfolding le lt eq is_nan
le_of_not_lt nan y p q h = absurd (true≢false p)
le_of_not_lt (inf s) nan p q h = absurd (true≢false q)
le_of_not_lt (fin s m e) nan p q h = absurd (true≢false q)
le_of_not_lt (inf true) (inf true) p q h = tt
le_of_not_lt (inf true) (inf false) p q h = tt
le_of_not_lt (inf false) (inf true) p q h = absurd (true≢false h)
le_of_not_lt (inf false) (inf false) p q h = tt
le_of_not_lt (inf true) (fin t n d) p q h = tt
le_of_not_lt (inf false) (fin t n d) p q h = absurd (true≢false h)
le_of_not_lt (fin s m e) (inf true) p q h = absurd (true≢false h)
le_of_not_lt (fin s m e) (inf false) p q h = tt
le_of_not_lt (fin false m e) (fin false n d) p q h = unsigned (m * up e * down d) (n * up d * down e) (ltb-false _ _ h)
le_of_not_lt (fin false m e) (fin true n d) p q h =
    let z : n * up d * down e + m * up e * down d ≤ 0 = ltb-false _ _ h in
    let a : m * up e * down d ≡ 0 = omega arith in
    let b : n * up d * down e ≡ 0 = omega arith in
    rw (a, b) tt
le_of_not_lt (fin true m e) (fin false n d) p q h = opposite (m * up e * down d) (n * up d * down e)
le_of_not_lt (fin true m e) (fin true n d) p q h =
    let l : n * up d * down e ≤ m * up e * down d = ltb-false _ _ h in
    elim (eq-or-lt_of_le l) [
      | inl z ↦ rw (eq-eqb (m * up e * down d) (n * up d * down e) (sym z), or-true) tt
      | inr k ↦ rw (lt-ltb _ _ k) tt
    ]

-- nothing is below itself
pub lt_itself : (x : Float) → lt x x ≡ false
unfolding lt
lt_itself nan = refl
lt_itself (inf true) = refl
lt_itself (inf false) = refl
lt_itself (fin true m e) = le-ltb (m * up e * down e) (m * up e * down e) (omega arith)
lt_itself (fin false m e) = le-ltb (m * up e * down e) (m * up e * down e) (omega arith)
