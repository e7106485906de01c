-- What other crates may cite of `sqrt` and `ln`: facts on the definitions, whatever the code. Assumes nothing.
use Rattle.std.proofs.Common.{◌≡◌, ℕ, zero, suc, ◌+◌, ◌-◌, ◌*◌, ◌^◌, ◌<◌, ◌≤◌, Bool, true, false, cond, T, leb, sym, refl, ap, ◌∙◌, subst, zero-le, le_trans, le_of_eq, le_refl, lt_of_lt_of_le, lt_of_le_of_lt, le_of_lt, add-le-add, lt_irrefl, mul-le-mul, le_antisymm, lt_of_not-le, not-le_of_lt, arith, lit<, lit≤, le→leb, leb→le}
use native.Mathlib.Nat.{pow-succ'}
use lib.Ieee.{Float, nan, inf, fin, binary32, fits, le, to_bits, of_bits}
use Rattle.scalar.specs.Bits.{from_zero, infinite, val, middle, greatest}
use Rattle.scalar.specs.Root.{middle_squared, fourfold, IsRoot, root_bits, root_of}
use Rattle.scalar.specs.Log.{log_of, Near, difference, units_of, cut_third, lowest, highest, terms, high}
use Rattle.std.specs.Prelude.{Some, None}
use Rattle.scalar.proofs.Patterns.{val_mono, pattern_from_zero, finite_below}
use Rattle.scalar.proofs.Quarters.{scaling, rounded}
use Rattle.scalar.proofs.Nearest.{squared_mono, fourfold_mono, above-middle, is_root, root_is}
use Rattle.scalar.proofs.Close.{AtMost, near, at_most_32, room_here}

-- ---- the square root

-- no other pattern is the nearest root's
pub the_root_is_one : (b c d : ℕ) → IsRoot b c → IsRoot b d → c ≡ d
the_root_is_one b c d x y = le_antisymm (half c d x y) (half d c y x)
  where
    half : (c d : ℕ) → IsRoot b c → IsRoot b d → c ≤ d
    half c d x y = last c d (λ (g : d + 1 ≤ c). lt_irrefl (fourfold b) (lt_of_lt_of_le y.high (le_trans (squared_mono (d + 1) c g) x.low)))
      where
        last : (c d : ℕ) → (d + 1 ≤ c → ⊥) → c ≤ d
        last c d f = down c d (lt_of_not-le f)
          where
            down : (c d : ℕ) → c < d + 1 → c ≤ d
            down c d h = omega arith

-- the pattern of the definition passes the test, and the next does not
greatest-low : (p : ℕ → Bool) (k at : ℕ) → T (p at) → T (p (greatest p k at))
unfolding greatest
greatest-low p zero at y = y
greatest-low p (suc k) at y = greatest-low p k (cond (p (at + 2 ^ k)) (at + 2 ^ k) at) (go (p (at + 2 ^ k)) (λ (t : T (p (at + 2 ^ k))). t))
  where
    go : (t : Bool) → (T t → T (p (at + 2 ^ k))) → T (p (cond t (at + 2 ^ k) at))
    go true f = f tt
    go false f = y

greatest-high : (p : ℕ → Bool) (k at : ℕ) → (T (p (at + 2 ^ k)) → ⊥) → T (p (greatest p k at + 1)) → ⊥
unfolding greatest
greatest-high p zero at n = n
greatest-high p (suc k) at n = greatest-high p k (cond (p (at + 2 ^ k)) (at + 2 ^ k) at) (go (p (at + 2 ^ k)) (λ (t : T (p (at + 2 ^ k))). t))
  where
    twice : (a P : ℕ) → a + P + P ≡ a + 2 * P
    twice a P = omega arith

    go : (t : Bool) → (T (p (at + 2 ^ k)) → T t) → T (p (cond t (at + 2 ^ k) at + 2 ^ k)) → ⊥
    go true f h = n (subst (λ (x : ℕ). T (p x)) (twice at (2 ^ k) ∙ ap (λ (x : ℕ). at + x) (sym (pow-succ' 2 k))) h)
    go false f h = f h

module _ (b : ℕ) (finite : b < infinite) where
  -- the definition's pattern is the nearest root's
  pub the_root_is_nearest : IsRoot b (root_bits b)
  unfolding root_bits
  the_root_is_nearest = record {
    low = leb→le (middle_squared (greatest p 31 0)) (fourfold b) (greatest-low p 31 0 (le→leb (middle_squared 0) (fourfold b) first));
    high =
        lt_of_not-le
        (λ (h : middle_squared (greatest p 31 0 + 1) ≤ fourfold b). greatest-high p 31 0
        (λ (t : T (p 2147483648)). not-le_of_lt last (leb→le (middle_squared 2147483648) (fourfold b) t))
        (le→leb (middle_squared (greatest p 31 0 + 1)) (fourfold b) h));
  }
    where
      p : ℕ → Bool
      p c = leb (middle_squared c) (fourfold b)

      first : middle_squared 0 ≤ fourfold b
      first = unfold middle_squared middle val in zero-le

      last : fourfold b < middle_squared 2147483648
      last = lt_of_le_of_lt (fourfold_mono b infinite (le_of_lt finite)) (unfold middle_squared middle fourfold val in lit< tt)

  -- ties cannot occur: the root of a number above 0 is never on the middle of two neighbours
  pub no_tie : 0 < b → middle_squared (root_bits b) < fourfold b
  no_tie p =
      let s = scaling b p finite in
      let r = rounded s.0 s.2.least s.2.most in
      subst (λ (c : ℕ). middle_squared c < fourfold b)
      (root_is b (s.1 * 8388608 + r.0) (small s.1 r.0 s.2.small r.1.most)
      (is_root b s.0 s.1 r.0 s.2 r.1))
      (above-middle b s.0 s.1 r.0 s.2 r.1)
    where
      small : (h q : ℕ) → h < 200 → q < 16777216 → h * 8388608 + q < 2147483648
      small h q a b = omega arith

  -- the root's pattern is finite too, and above 0 where the number is
  pub root_below : root_bits b < infinite
  root_below =
      lt_of_not-le
      (λ (g : infinite ≤ root_bits b). not-le_of_lt (lt_of_le_of_lt (fourfold_mono b infinite (le_of_lt finite)) edge)
      (le_trans (squared_mono infinite (root_bits b) g) the_root_is_nearest.low))
    where
      edge : fourfold infinite < middle_squared infinite
      edge = unfold middle_squared middle fourfold val in lit< tt

  pub root_above : 0 < b → 0 < root_bits b
  root_above p =
      lt_of_not-le
      (λ (g : root_bits b ≤ 0). not-le_of_lt
      (lt_of_lt_of_le the_root_is_nearest.high (squared_mono (root_bits b + 1) 1 (one (root_bits b) g)))
      (le_trans edge (fourfold_mono 1 b p)))
    where
      one : (c : ℕ) → c ≤ 0 → c + 1 ≤ 1
      one c h = omega arith

      edge : middle_squared 1 ≤ fourfold 1
      edge = unfold middle_squared middle fourfold val in lit≤ tt

  -- every other pattern d is farther from the root: the root is on this side of the middle of the two. No tie is left open.
  pub nearer_than_below : (d : ℕ) → d < root_bits b → (val d + val (root_bits b)) * (val d + val (root_bits b)) < fourfold b
  unfolding middle_squared middle
  nearer_than_below d h = lt_of_le_of_lt (mul-le-mul sum sum) (no_tie above)
    where
      prev : (d c : ℕ) → d < c → d ≤ c - 1
      prev d c h = omega arith

      sum : val d + val (root_bits b) ≤ val (root_bits b - 1) + val (root_bits b)
      sum = add-le-add (val_mono d (root_bits b - 1) (prev d (root_bits b) h)) (le_refl (val (root_bits b)))

      above : 0 < b
      above = lt_of_not-le (λ (z : b ≤ 0). no (zero_is b z) h)
        where
          zero_is : (b : ℕ) → b ≤ 0 → b ≡ 0
          zero_is b h = omega arith

          none : root_bits 0 ≡ 0
          none = unfold root_bits in refl

          no : b ≡ 0 → d < root_bits b → ⊥
          no e l = let k : d < 0 = subst (λ (x : ℕ). d < x) (ap root_bits e ∙ none) l in omega arith

  pub nearer_than_above : (d : ℕ) → root_bits b < d → fourfold b < (val (root_bits b) + val d) * (val (root_bits b) + val d)
  unfolding middle_squared middle
  nearer_than_above d h = lt_of_lt_of_le the_root_is_nearest.high (mul-le-mul sum sum)
    where
      next : (c d : ℕ) → c < d → c + 1 ≤ d
      next c d h = omega arith

      back : (c : ℕ) → c + 1 - 1 ≡ c
      back c = omega arith

      sum : val (root_bits b + 1 - 1) + val (root_bits b + 1) ≤ val (root_bits b) + val d
      sum = add-le-add (le_of_eq (ap val (back (root_bits b)))) (val_mono (root_bits b + 1) d (next (root_bits b) d h))

-- the root of a finite number from +0 up is a value, and that is a finite number from +0 up
pub root_inside : (x : Float) → T (fits binary32 x) → from_zero x ≡ true → (y : Float) × (root_of x ≡ Some y) × (from_zero y ≡ true)
unfolding root_of
root_inside nan f p = absurd (subst T (sym p) tt)
root_inside (inf s) f p = absurd (subst T (sym p) tt)
root_inside (fin true m e) f p = absurd (subst T (sym p) tt)
root_inside (fin false m e) f p =
    let b = to_bits binary32 (fin false m e) in
    (of_bits binary32 (root_bits b), refl, pattern_from_zero (root_bits b) (root_below b (finite_below m e f)))

-- and nothing else has a root
pub root_outside : (x : Float) → from_zero x ≡ false → root_of x ≡ None
unfolding root_of
root_outside nan p = refl
root_outside (inf s) p = refl
root_outside (fin true m e) p = refl
root_outside (fin false m e) p = absurd (subst T p tt)

-- ---- the logarithm

-- an input from 2 ^ -6 to the upper end is never outside
pub log_inside : (N H : ℕ) (x : Float) → le lowest x ≡ true → le x (highest H) ≡ true
    → log_of N H x ≡ Some (difference (units_of N (to_bits binary32 x)) (6 * cut_third N))
unfolding log_of
log_inside N H x l h = simp (l, h)

-- what `ln` gives is within 2 ^ -19 of L, and is finite and at most 32 in size
pub log_near : (x r : Float) → T (fits binary32 x) → log_of terms high x ≡ Some r → Near terms x r
log_near x r = near terms high room_here x r

pub log_size : (x r : Float) → T (fits binary32 x) → log_of terms high x ≡ Some r → AtMost 32 r
log_size x r = at_most_32 terms high room_here x r
