-- The printed numerals are the usual ones: their value is the number, every digit is below the base, no needless zero
-- leads, and so many digits they have. Assumes nothing.
use mathlib.Core.Path.{◌≡◌, refl, sym, ap, ◌∙◌}
use mathlib.Core.Bool.{Bool, true, false, ◌&&◌, and-false}
use mathlib.Core.List.{List, [], ◌∷◌, ◌++◌, map}
use mathlib.Core.Logic.{◌⊎◌, inl, inr}
use Prim.Native.Nat.{ℕ, zero, suc, ◌+◌, ◌-◌, ◌*◌, ◌/◌, ◌%◌, ◌^◌, ◌≤◌, ◌<◌}
use native.Mathlib.Nat.{div-lt_self, div-le_self, div-lt_iff_lt-mul, div-add-mod', le-div_iff_mul-le, mod-lt}
use native.Mathlib.Nat.{pow-zero, pow-suc, zero-mul, one-mul}
use native.Mathlib.Omega.{arith}
use native.Mathlib.Decide.{dec_lt}
use borrow.Author.Tests.{lt-ltb, le-ltb, le-leb, lt-leb, ltb-true, ltb-false, leb-true, leb-false}
use lib.Dec.{ltb, leb}
use lib.ListN.{length, get_or, length-append, get_or-append}
use Rattle.lines.specs.Printed.{digits_in, digits, digit_of, numeral}

-- a single digit is enough
abbrev pub single : ℕ → ℕ → ℕ → Bool
single base least n = ltb n base && leb least 1

pub single_is : (base least n : ℕ) → n < base → least ≤ 1 → single base least n ≡ true
single_is base least n h i = rw (lt-ltb n base h, le-leb least 1 i)

pub not_single : (base least n : ℕ) → ((n < base) × (1 < least)) ⊎ (base ≤ n) → single base least n ≡ false
not_single base least n (inl h) = rw (lt-leb least 1 h.1) (and-false (ltb n base))
not_single base least n (inr h) = rw (le-ltb n base h)

both : (a b : Bool) → a && b ≡ true → (a ≡ true) × (b ≡ true)
both true b e = (refl, e)
both false b e = absurd (let z : ◌≡◌ {A = ℕ} 0 1 = cc in omega arith)

pub single_yes : (base least n : ℕ) → single base least n ≡ true → (n < base) × (least ≤ 1)
single_yes base least n e =
    let h = both (ltb n base) (leb least 1) e in
    (ltb-true n base h.0, leb-true least 1 h.1)

single_no : (base least n : ℕ) → single base least n ≡ false → n < base → 1 < least
single_no base least n e h = go (ltb n base) (leb least 1) refl refl e
  where
    go : (a b : Bool) → ltb n base ≡ a → leb least 1 ≡ b → a && b ≡ false → 1 < least
    go true true p q e = absurd (let z : ◌≡◌ {A = ℕ} 0 1 = cc in omega arith)
    go true false p q e = leb-false least 1 q
    go false b p q e = absurd (let l : base ≤ n = ltb-false n base p in omega arith)

module _ (base : ℕ) (two : 2 ≤ base) where
  -- the digits that are left are of less
  pub falls : (least n : ℕ) → single base least n ≡ false → n / base + (least - 1) < n + least
  falls least n e = go (dec_lt n base)
    where
      go : Dec (n < base) → n / base + (least - 1) < n + least
      go (yes h) = omega (arith, single_no base least n e h, div-le_self n base)
      go (no h) =
          let p : n / base < n = div-lt_self (omega arith) two in
          omega arith

  -- ---- depth does not matter, once it is enough

  in_last : (d least n : ℕ) → single base least n ≡ true → digits_in (suc d) base least n ≡ n ∷ []
  unfolding digits_in
  in_last d least n e = rw (e, digits_in)

  in_more : (d least n : ℕ) → single base least n ≡ false
      → digits_in (suc d) base least n ≡ digits_in d base (least - 1) (n / base) ++ (n % base ∷ [])
  unfolding digits_in
  in_more d least n e = rw (e, digits_in)

  abbrev Same : ℕ → ℕ → ℕ → ℕ → Type 0
  Same d e least n = n + least < d → n + least < e → digits_in d base least n ≡ digits_in e base least n

  enough : (d e least n : ℕ) → Same d e least n
  enough zero e least n p q = absurd (omega arith)
  enough (suc d) zero least n p q = absurd (omega arith)
  enough (suc d) (suc e) least n p q = go (single base least n) refl (enough d e (least - 1) (n / base))
    where
      go : (t : Bool) → single base least n ≡ t → Same d e (least - 1) (n / base)
          → digits_in (suc d) base least n ≡ digits_in (suc e) base least n
      go true h same = in_last d least n h ∙ sym (in_last e least n h)
      go false h same =
          let f = falls least n h in
          in_more d least n h
          ∙ ap (λ (l : List ℕ). l ++ (n % base ∷ [])) (same (omega arith) (omega arith))
          ∙ sym (in_more e least n h)

  pub digits_last : (least n : ℕ) → single base least n ≡ true → digits base least n ≡ n ∷ []
  unfolding digits
  digits_last least n e = in_last (n + least) least n e

  pub digits_more : (least n : ℕ) → single base least n ≡ false
      → digits base least n ≡ digits base (least - 1) (n / base) ++ (n % base ∷ [])
  unfolding digits
  digits_more least n e =
      let left = n / base + (least - 1) in
      let same = enough (n + least) (suc left) (least - 1) (n / base) (falls least n e) (omega arith) in
      in_more (n + least) least n e ∙ ap (λ (l : List ℕ). l ++ (n % base ∷ [])) same

  -- what holds of a single digit, and of a numeral where it holds without the last digit, holds of all
  pub by_digits : (P : ℕ → ℕ → Type 0) → ((least n : ℕ) → single base least n ≡ true → P least n)
      → ((least n : ℕ) → single base least n ≡ false → P (least - 1) (n / base) → P least n)
      → (least n : ℕ) → P least n
  by_digits P one more least n = down (suc (n + least)) least n (omega arith)
    where
      down : (d least n : ℕ) → n + least < d → P least n
      down zero least n h = absurd (omega arith)
      down (suc d) least n h = at (single base least n) refl (down d (least - 1) (n / base))
        where
          at : (t : Bool) → single base least n ≡ t → (n / base + (least - 1) < d → P (least - 1) (n / base))
              → P least n
          at true e f = one least n e
          at false e f = more least n e (f (omega (arith, falls least n e)))

below_more : (l : List ℕ) {b d : ℕ} → ((i : ℕ) → get_or l i 0 < b) → d < b → (i : ℕ) → get_or (l ++ (d ∷ [])) i 0 < b
below_more [] h m zero = m
below_more [] h m (suc i) = omega arith
below_more (c ∷ l) h m zero = h zero
below_more (c ∷ l) h m (suc i) = below_more l (λ j. h (suc j)) m i

pow_one : (n : ℕ) → n ^ 1 ≡ n
pow_one n = pow-suc n 0 ∙ ap (λ (k : ℕ). k * n) (pow-zero n) ∙ one-mul n

-- the value of a list of digits, the highest first
unfoldable pub value_from : ℕ → ℕ → List ℕ → ℕ
value_from base a [] = a
value_from base a (d ∷ l) = value_from base (a * base + d) l

abbrev pub value_of : ℕ → List ℕ → ℕ
value_of base l = value_from base 0 l

value_more : (base a : ℕ) (l : List ℕ) (d : ℕ) → value_from base a (l ++ (d ∷ [])) ≡ value_from base a l * base + d
unfolding value_from
value_more base a [] d = refl
value_more base a (c ∷ l) d = value_more base (a * base + c) l d

module _ (base : ℕ) (two : 2 ≤ base) where
  -- the digits before the last
  abbrev higher : ℕ → ℕ → List ℕ
  higher least n = digits base (least - 1) (n / base)

  -- the value is the number
  abbrev Valued : ℕ → ℕ → Type 0
  Valued least n = value_of base (digits base least n) ≡ n

  pub value_is_number : (least n : ℕ) → Valued least n
  unfolding value_from
  value_is_number = by_digits base two _ one more
    where
      one : (least n : ℕ) → single base least n ≡ true → Valued least n
      one least n e = rw (digits_last base two least n e) (omega (arith, zero-mul base))

      more : (least n : ℕ) → single base least n ≡ false → Valued (least - 1) (n / base) → Valued least n
      more least n e h = rw (digits_more base two least n e, value_more, h) (div-add-mod' n base)

  -- every digit is below the base
  abbrev Below : ℕ → ℕ → Type 0
  Below least n = (i : ℕ) → get_or (digits base least n) i 0 < base

  pub digits-below : (least n : ℕ) → Below least n
  digits-below = by_digits base two _ one more
    where
      one : (least n : ℕ) → single base least n ≡ true → Below least n
      one least n e zero = rw (digits_last base two least n e) (single_yes base least n e).0
      one least n e (suc i) = rw (digits_last base two least n e) (omega arith)

      more : (least n : ℕ) → single base least n ≡ false → Below (least - 1) (n / base) → Below least n
      more least n e h i =
          rw (digits_more base two least n e) (below_more (higher least n) h (mod-lt n (omega arith)) i)

  -- at least so many, and not none
  abbrev Least : ℕ → ℕ → Type 0
  Least least n = (least ≤ length (digits base least n)) × (1 ≤ length (digits base least n))

  pub digits-least : (least n : ℕ) → Least least n
  digits-least = by_digits base two _ one more
    where
      one : (least n : ℕ) → single base least n ≡ true → Least least n
      one least n e = rw (digits_last base two least n e) ((single_yes base least n e).1, omega arith)

      more : (least n : ℕ) → single base least n ≡ false → Least (least - 1) (n / base) → Least least n
      more least n e h = rw (digits_more base two least n e, length-append) (omega arith)

  -- no more than the number needs
  abbrev Most : ℕ → ℕ → Type 0
  Most least n = (k : ℕ) → 1 ≤ k → least ≤ k → n < base ^ k → length (digits base least n) ≤ k

  pub digits-most : (least n : ℕ) → Most least n
  digits-most = by_digits base two _ one more
    where
      one : (least n : ℕ) → single base least n ≡ true → Most least n
      one least n e k a b c = rw (digits_last base two least n e) a

      more : (least n : ℕ) → single base least n ≡ false → Most (least - 1) (n / base) → Most least n
      more least n e h zero a b c = absurd (omega arith)
      more least n e h (suc zero) a b c = absurd (omega (arith, single_no base least n e (rw pow_one at c)))
      more least n e h (suc (suc k)) a b c =
          let up = div-lt_iff_lt-mul {k = base} {x = n} {y = base ^ suc k} (omega arith) in
          let d : n / base < base ^ suc k = up.1 (rw pow-suc at c) in
          rw (digits_more base two least n e, length-append) (omega (arith, h (suc k) (omega arith) (omega arith) d))

  -- no zero leads, where no more digits are asked for than one
  abbrev Leads : ℕ → ℕ → Type 0
  Leads least n = least ≤ 1 → 0 < n → 0 < get_or (digits base least n) 0 0

  pub digits_lead : (least n : ℕ) → Leads least n
  digits_lead = by_digits base two _ one more
    where
      one : (least n : ℕ) → single base least n ≡ true → Leads least n
      one least n e a b = rw (digits_last base two least n e) b

      more : (least n : ℕ) → single base least n ≡ false → Leads (least - 1) (n / base) → Leads least n
      more least n e h a b = go (dec_lt n base)
        where
          go : Dec (n < base) → 0 < get_or (digits base least n) 0 0
          go (yes l) = absurd (omega (arith, single_no base least n e l))
          go (no l) =
              let up = le-div_iff_mul-le {k = base} {x = 1} {y = n} (omega arith) in
              let q : 1 ≤ n / base = up.1 (omega (arith, one-mul base)) in
              let some = (digits-least (least - 1) (n / base)).1 in
              rw (digits_more base two least n e, get_or-append (higher least n) (n % base ∷ []) 0 0 some)
              (h (omega arith) q)

-- ---- in ASCII

map-append : (f : ℕ → ℕ) (l m : List ℕ) → map f (l ++ m) ≡ map f l ++ map f m
map-append f [] m = refl
map-append f (a ∷ l) m = ap (λ (r : List ℕ). f a ∷ r) (map-append f l m)

length-map : (f : ℕ → ℕ) (l : List ℕ) → length (map f l) ≡ length l
length-map f [] = refl
length-map f (a ∷ l) = ap suc (length-map f l)

module _ (base : ℕ) (two : 2 ≤ base) where
  pub numeral_last : (least n : ℕ) → single base least n ≡ true → numeral base least n ≡ digit_of n ∷ []
  unfolding numeral
  numeral_last least n e = ap (map digit_of) (digits_last base two least n e)

  pub numeral_more : (least n : ℕ) → single base least n ≡ false
      → numeral base least n ≡ numeral base (least - 1) (n / base) ++ (digit_of (n % base) ∷ [])
  unfolding numeral
  numeral_more least n e =
      ap (map digit_of) (digits_more base two least n e)
      ∙ map-append digit_of (digits base (least - 1) (n / base)) (n % base ∷ [])

  pub numeral-most : (least n k : ℕ) → 1 ≤ k → least ≤ k → n < base ^ k → length (numeral base least n) ≤ k
  unfolding numeral
  numeral-most least n k a b c =
      omega (arith, length-map digit_of (digits base least n), digits-most base two least n k a b c)

  pub numeral-some : (least n : ℕ) → 1 ≤ length (numeral base least n)
  unfolding numeral
  numeral-some least n =
      omega (arith, length-map digit_of (digits base least n), (digits-least base two least n).1)
