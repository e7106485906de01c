-- A map's values are 0, or from 2^-6 to 2^24: what that gives for comparisons, and for the Rust's floor. Assumes nothing.
use mathlib.Core.Path.{◌≡◌, refl, sym, ap, ◌∙◌}
use mathlib.Core.Logic.{◌⊎◌, inl, inr}
use mathlib.Core.Bool.{Bool, true, false, not, cond}
use mathlib.Core.List.{List, [], ◌∷◌, foldl}
use Prim.Native.Nat.{ℕ, zero, suc, ◌+◌, ◌*◌, ◌^◌, ◌<◌}
use native.Mathlib.Nat.{zero-mul, mul-zero, mul-pos, div-add-mod'}
use native.Mathlib.Omega.{arith}
use borrow.Author.Tests.{le-ltb}
use lib.Dec.{T, lit<, lit≤}
use lib.ListN.{length, get_or}
use lib.IntN.{ℤ, pos, negsuc}
use lib.Ieee.{Float, nan, inf, fin, binary32, up, down, unlike, of_bits, round, is_nan, mul, lt, eq, le}
use lib.Ieee.Exact.{HasValue}
use lib.Ieee.Fits.{up_pos, down_pos, and_i}
use Rattle.float.proofs.Order.{le_lt_trans, le_of_not_lt, lt_itself, both_eq, no_factor}
use Rattle.float.proofs.Sized.{Sized, sized, Small, small, held, small_of_le, mul_sized, mul_small, small-number}
use Rattle.float.proofs.Product.{round_zero}
use Rattle.grid.specs.Fold.{fold}
use Rattle.grid.proofs.Fold.{fold_more, fold_ext}
use Rattle.grid.specs.Plane.{plane}
use Rattle.peak_fit.specs.PeakFit.{greatest, usable}
use Rattle.grid.specs.Ways.{value}
use Rattle.crests.specs.Maximum.{greater, maximum}
use Rattle.as_rust.specs.Machine.{Machine, ◌⊗◌, lit_0, lit_1, neg_infinity, max_f32, is_finite}
use Rattle.as_rust.specs.Detect.{relative_floor, greatest as greatest-of}
use Rattle.as_rust.proofs.Tests.{T_true}

abbrev least : Float
least = fin false 1 (negsuc 5)

abbrev most : Float
most = fin false 1 (pos 24)

abbrev pub Good : Float → Type 0
Good v = (v ≡ lit_0) ⊎ (T (le least v) × T (le v most))

number_of : (x v : Float) → T (le x v) → is_nan v ≡ false
unfolding is_nan le lt eq
number_of x (inf s) t = refl
number_of x (fin s k e) t = refl
number_of nan nan t = absurd t
number_of (inf s) nan t = absurd t
number_of (fin s k e) nan t = absurd t

-- x ≤ y ≤ z, for numbers
le_trans : (x y z : Float) → is_nan x ≡ false → is_nan z ≡ false → T (le x y) → T (le y z) → T (le x z)
le_trans x y z p q a b = le_of_not_lt x z p q (go (lt z x) refl)
  where
    go : (t : Bool) → lt z x ≡ t → t ≡ false
    go true e = absurd (rw (lt_itself x) at (le_lt_trans x y x a (le_lt_trans y z x b (rw e tt))))
    go false e = refl

ends : (is_nan lit_0 ≡ false) × (is_nan most ≡ false) × (is_nan greatest ≡ false) × (is_nan least ≡ false)
unfolding is_nan of_bits
ends = (refl, refl, refl, refl)

orders : T (le lit_0 lit_0) × T (le lit_0 least) × T (le most greatest) × T (le lit_0 most) × (le least lit_0 ≡ false)
unfolding le lt eq of_bits
orders = (tt, tt, tt, tt, refl)

good_least : (v : Float) → Good v → T (le lit_0 v)
good_least v (inl e) = rw e orders.0
good_least v (inr b) = le_trans lit_0 least v ends.0 (number_of least v b.0) orders.1 b.0

good_most : (v : Float) → Good v → T (le v most)
good_most v (inl e) = rw e orders.3
good_most v (inr b) = b.1

pub good_number : (v : Float) → Good v → is_nan v ≡ false
good_number v g = number_of lit_0 v (good_least v g)

good_above : (v : Float) → Good v → (v ≡ lit_0) ⊎ T (lt lit_0 v)
good_above v (inl e) = inl e
good_above v (inr b) = inr (go (lt lit_0 v) refl)
  where
    go : (t : Bool) → lt lit_0 v ≡ t → T t
    go true e = tt
    go false e =
        absurd (rw orders.4 at (le_trans least v lit_0 ends.3 ends.0 b.0 (le_of_not_lt v lit_0 (number_of least v b.0) ends.0 e)))

pub good_usable : (v : Float) → Good v → T (usable v)
unfolding usable
good_usable v g =
    and_i (le lit_0 v) (le v greatest) (good_least v g) (le_trans v most greatest (good_number v g) ends.2 (good_most v g) orders.2)

good_small : (v : Float) → Good v → Small (2 ^ 24) v
unfolding of_bits
good_small v g = small_of_le (2 ^ 24) most v (refl, refl) (good_least v g) (good_most v g)

pub good_finite : {x : Float} → Good x → is_finite x ≡ true
good_finite {x} g = go x (good_least x g) (good_most x g)
  where
    go : (x : Float) → T (le lit_0 x) → T (le x most) → is_finite x ≡ true
    go nan a b = unfold le lt eq of_bits in absurd a
    go (inf true) a b = unfold le lt eq of_bits in absurd a
    go (inf false) a b = unfold le lt eq in absurd b
    go (fin s k e) a b = refl

-- ---- 54-59: the greatest value, from minus infinity and from 0

indexed : (z : Float) (xs : List Float) → foldl greater z xs ≡ fold greater z (λ k. get_or xs k nan) (length xs)
unfolding fold
indexed z [] = refl
indexed z (x ∷ xs) =
    let f : ℕ → Float = λ k. get_or (x ∷ xs) k nan in
    let n : suc (length xs) ≡ 1 + length xs = omega arith in
    indexed (greater z x) xs
    ∙ sym (ap (fold greater z f) n ∙ fold_more greater z f 1 (length xs) ∙ fold_ext greater _ _ _ (length xs)
    (λ k b. let e : 1 + k ≡ suc k = omega arith in rw e))

first-value : (v : Float) → (v ≡ lit_0) ⊎ T (lt lit_0 v) → greater neg_infinity v ≡ greater lit_0 v
unfolding lt of_bits
first-value v (inl e) = rw e
first-value nan (inr t) = absurd t
first-value (inf true) (inr t) = absurd t
first-value (inf false) (inr t) = refl
first-value (fin s k e) (inr t) = rw (T_true (lt lit_0 (fin s k e)) t)

from-below : (f : ℕ → Float) (n : ℕ) → ((k : ℕ) → k < suc n → (f k ≡ lit_0) ⊎ T (lt lit_0 (f k))) → fold greater neg_infinity f (suc n)
    ≡ fold greater lit_0 f (suc n)
unfolding fold
from-below f zero h = first-value (f 0) (h 0 (omega arith))
from-below f (suc n) h = ap (λ (v : Float). greater v (f (suc n))) (from-below f n (λ k b. h k (omega arith)))

good_fold : (f : ℕ → Float) (n : ℕ) → ((k : ℕ) → k < n → Good (f k)) → Good (fold greater lit_0 f n)
unfolding fold
good_fold f zero h = inl refl
good_fold f (suc n) h = one (lt (fold greater lit_0 f n) (f n)) (h n (omega arith)) (good_fold f n (λ k b. h k (omega arith)))
  where
    one : (t : Bool) {x y : Float} → Good x → Good y → Good (cond t x y)
    one true a b = a
    one false a b = b

module _ (vs : List Float) (w h : ℕ) (long : length vs ≡ w * h) (some : 0 < w * h) (good : (k : ℕ) → k < w * h → Good (get_or vs k nan)) where
  flat-is : (k : ℕ) → get_or vs k nan ≡ plane w (value vs w) k
  unfolding plane
  flat-is k = sym (ap (λ (j : ℕ). get_or vs j nan) (div-add-mod' k w))

  pub peak_as_rust : greatest-of vs ≡ maximum w h (value vs w)
  unfolding maximum greatest-of
  peak_as_rust = indexed neg_infinity vs ∙ rw long (go (w * h) refl some)
    where
      go : (n : ℕ) → n ≡ w * h → 0 < n → fold greater neg_infinity (λ k. get_or vs k nan) n ≡ fold greater lit_0 (plane w (value vs w)) n
      go zero e b = absurd (omega arith)
      go (suc n) e b = from-below _ n (λ k c. good_above _ (good k (omega arith))) ∙ fold_ext greater lit_0 _ _ (suc n) (λ k c. flat-is k)

  pub peak_good : Good (maximum w h (value vs w))
  unfolding maximum
  peak_good = good_fold _ (w * h) (λ k b. rw (← flat-is k) (good k b))

-- ---- 151-153: the floor

zero_of : (k : ℕ) (e : ℤ) → T (le lit_0 (fin true k e)) → k ≡ 0
unfolding of_bits le
zero_of k e h = no_factor k (up e) (up_pos e) (no_factor (k * up e) 1 (lit< tt) (sym (both_eq (0 * down e) (k * up e * 1) h).0 ∙ zero-mul (down e)))

plus_not_below : (k : ℕ) (e : ℤ) → lt (fin false k e) lit_0 ≡ false
unfolding lt of_bits
plus_not_below k e = le-ltb (k * up e * 1) (0 * down e) (omega (arith, zero-mul (down e)))

zero_not_below : (s : Bool) (c : ℕ) → 0 < c → lt (round binary32 s 0 c) lit_0 ≡ false
unfolding lt of_bits
zero_not_below true c C = rw (round_zero true c C)
zero_not_below false c C = rw (round_zero false c C)

-- a product of two that are not below 0 is not
product_not_below : (t z : Float) → Small 1 t → Small (2 ^ 24) z → T (le lit_0 t) → T (le lit_0 z) → lt (t ⊗ z) lit_0 ≡ false
unfolding mul
product_not_below t z (small {s = true} (sized {m = m} {e = e} h)) (small {s = s} (sized {m = n} {e = d} k)) a b =
    let o : m * up e * (n * up d) ≡ 0 = rw (zero_of m e a, zero-mul, zero-mul) in
    rw o (zero_not_below (unlike true s) (down e * down d) (mul-pos (down_pos e) (down_pos d)))
product_not_below t z (small {s = false} (sized {m = m} {e = e} h)) (small {s = true} (sized {m = n} {e = d} k)) a b =
    let o : m * up e * (n * up d) ≡ 0 = rw (zero_of n d b, zero-mul, mul-zero) in
    rw o (zero_not_below true (down e * down d) (mul-pos (down_pos e) (down_pos d)))
product_not_below t z (small {s = false} h) (small {s = false} k) a b = not_minus (mul_sized (2 ^ 24) (held 1 24 (lit< tt) (lit≤ tt)) (lit≤ tt) h k)
  where
    not_minus : {x : Float} {n : ℕ} → Sized false n x → lt x lit_0 ≡ false
    not_minus (sized {m = m} {e = e} l) = plus_not_below m e

not_true_false : (b : Bool) → T (not b) → b ≡ false
not_true_false true t = absurd t
not_true_false false t = refl

one-is : HasValue lit_1 false 1 1
unfolding of_bits
one-is = (refl, refl)

zero_is : lit_0 ≡ fin false 0 (pos 0)
unfolding of_bits
zero_is = refl

le_itself : (x : Float) → is_nan x ≡ false → T (le x x)
le_itself x n = le_of_not_lt x x n n (lt_itself x)

module _ (m : Machine) (t z : Float) (a : T (le lit_0 t)) (b : T (le t lit_1)) (g : Good z) where
  t_small : Small 1 t
  t_small = small_of_le 1 lit_1 t one-is (rw zero_is at a) b

  product_number : is_nan (t ⊗ z) ≡ false
  product_number = not_true_false _ (small-number (mul_small (2 ^ 24) (held 1 24 (lit< tt) (lit≤ tt)) (lit≤ tt) t_small (good_small z g)))

  -- the floor is the product or, where that is a zero, a zero: whichever `max` gives, it is as great as the product
  record Level (thr : Float) : Type 0 where
    number : is_nan thr ≡ false
    not_over : T (le thr (t ⊗ z))
    not_under : T (le (t ⊗ z) thr)

  level : Level (relative_floor m t z)
  unfolding relative_floor max_f32
  level =
      let below = product_not_below t z t_small (good_small z g) a (good_least z g) in
      rw (product_number, ends.0, below) (go (lt lit_0 (t ⊗ z)) (m.first (t ⊗ z) lit_0) refl)
    where
      product : Level (t ⊗ z)
      product = record { number = product_number; not_over = le_itself (t ⊗ z) product_number; not_under = le_itself (t ⊗ z) product_number }

      go : (above first : Bool) → lt lit_0 (t ⊗ z) ≡ above → Level (cond above (t ⊗ z) (cond first (t ⊗ z) lit_0))
      go true first e = product
      go false true e = product
      go false false e = record {
        number = ends.0;
        not_over = le_of_not_lt lit_0 (t ⊗ z) ends.0 product_number (product_not_below t z t_small (good_small z g) a (good_least z g));
        not_under = le_of_not_lt (t ⊗ z) lit_0 product_number ends.0 e;
      }

  -- 90: `v <= thr`
  pub above_as_rust : (v : Float) → Good v → le v (relative_floor m t z) ≡ not (lt (t ⊗ z) v)
  above_as_rust v k = go (le v (relative_floor m t z)) (lt (t ⊗ z) v) refl refl
    where
      l : Level (relative_floor m t z)
      l = level

      go : (p q : Bool) → le v (relative_floor m t z) ≡ p → lt (t ⊗ z) v ≡ q → p ≡ not q
      go true true e f =
          absurd (rw (lt_itself v) at
          (le_lt_trans v (relative_floor m t z) v (rw e tt) (le_lt_trans (relative_floor m t z) (t ⊗ z) v l.not_over (rw f tt))))
      go true false e f = refl
      go false true e f = refl
      go false false e f =
          absurd (rw e at
          (le_trans v (t ⊗ z) (relative_floor m t z) (good_number v k) l.number (le_of_not_lt v (t ⊗ z) (good_number v k) product_number f)
          l.not_under))
