-- Laws of Places in row order: `rect ax ex ay ey` lists each (x, y) with ax ≤ x < ex and ay ≤ y < ey, a row at a time.
use mathlib.Core.Path.{◌≡◌, refl, sym, ap, ◌∙◌}
use Prim.Native.Nat.{ℕ, zero, suc, ◌+◌, ◌-◌, ◌*◌, ◌≤◌, ◌<◌}
use native.Mathlib.Nat.{sub_self, zero-add, suc-add, add-zero, one-mul, mul-le-mul}
use native.Mathlib.Omega.{arith}
use mathlib.Core.List.{List, [], ◌∷◌, ◌++◌, append_assoc, append-nil}
use mathlib.Core.Bool.{Bool, true, false}
use lib.ListN.{length, length-append}
use Rattle.grid.specs.Each.{each, once, keep, count, any}
use Rattle.grid.proofs.Each.{each_append, each-each, each-one, each_none, each_more, length-each, any_yes, any_made, any-each, count_made, count-append, count_most, count_never}
use Rattle.grid.specs.Rect.{Place, place, from, range, line, rect}

from_add : (a n m : ℕ) → from a (n + m) ≡ from a n ++ from (a + n) m
unfolding from
from_add a zero m = rw (zero-add, add-zero)
from_add a (suc n) m = rw suc-add (ap (λ (l : List ℕ). a ∷ l) (from_add (suc a) n m ∙ ap (λ (k : ℕ). from (suc a) n ++ from k m) (omega arith)))

pub range_none : (a : ℕ) → range a a ≡ []
unfolding range from
range_none a = rw sub_self

pub range_split : (a i e : ℕ) → a ≤ i → i ≤ e → range a e ≡ range a i ++ range i e
unfolding range
range_split a i e h k =
    let n : e - a ≡ i - a + (e - i) = omega arith in
    let m : a + (i - a) ≡ i = omega arith in
    rw (n, from_add) (ap (λ (b : ℕ). from a (i - a) ++ from b (e - i)) m)

pub range-one : (i : ℕ) → range i (i + 1) ≡ i ∷ []
unfolding range from
range-one i =
    let n : i + 1 - i ≡ 1 = omega arith in
    rw n

pub range_more : (a i : ℕ) → a ≤ i → range a (i + 1) ≡ range a i ++ (i ∷ [])
range_more a i h = range_split a i (i + 1) h (omega arith) ∙ ap (λ (l : List ℕ). range a i ++ l) (range-one i)

pub range_at : (a i e : ℕ) → a ≤ i → i < e → range a e ≡ range a i ++ (i ∷ range (i + 1) e)
range_at a i e h k =
    range_split a i e h (omega arith)
    ∙ ap (λ (l : List ℕ). range a i ++ l)
    (range_split i (i + 1) e (omega arith) (omega arith) ∙ ap (λ (l : List ℕ). l ++ range (i + 1) e) (range-one i))

-- a number counts only where it stands in the range
module _ {B : Type 0} where
  from_ext : (f g : ℕ → List B) (a n : ℕ) → ((i : ℕ) → a ≤ i → i < a + n → f i ≡ g i) → each f (from a n) ≡ each g (from a n)
  unfolding from each
  from_ext f g a zero h = refl
  from_ext f g a (suc n) h = rw (h a (omega arith) (omega arith), from_ext f g (suc a) n (λ i b c. h i (omega arith) (omega arith)))

  pub range_ext : (f g : ℕ → List B) (a e : ℕ) → ((i : ℕ) → a ≤ i → i < e → f i ≡ g i) → each f (range a e) ≡ each g (range a e)
  unfolding range
  range_ext f g a e h = from_ext f g a (e - a) (λ i b c. h i b (omega arith))

pub count_range_ext : (p q : ℕ → Bool) (a e : ℕ) → ((i : ℕ) → a ≤ i → i < e → p i ≡ q i) → count p (range a e) ≡ count q (range a e)
unfolding count keep
count_range_ext p q a e h = ap length (range_ext _ _ a e (λ i b c. ap (λ (t : Bool). once t i) (h i b c)))

length_from : (a n : ℕ) → length (from a n) ≡ n
unfolding from
length_from a zero = refl
length_from a (suc n) = ap suc (length_from (suc a) n)

-- two stretches, one after the other
pub count_range_on : (p : ℕ → Bool) (a i e : ℕ) → a ≤ i → i ≤ e → count p (range a i) + count p (range i e) ≡ count p (range a e)
count_range_on p a i e h k = sym (ap (count p) (range_split a i e h k) ∙ count-append p (range a i) (range i e))

pub count_range_most : (p : ℕ → Bool) (a e : ℕ) → count p (range a e) ≤ e - a
unfolding range
count_range_most p a e = omega (arith, count_most p (from a (e - a)), length_from a (e - a))

-- none of a stretch
pub count_range_none : (p : ℕ → Bool) (a e : ℕ) → ((i : ℕ) → a ≤ i → i < e → p i ≡ false) → 0 ≡ count p (range a e)
count_range_none p a e h = sym (count_range_ext p (λ i. false) a e h ∙ count_never (range a e))

any-from : (p : ℕ → Bool) (a n : ℕ) → ((i : ℕ) → a ≤ i → i < a + n → p i ≡ false) → any p (from a n) ≡ false
unfolding from any
any-from p a zero h = refl
any-from p a (suc n) h = rw (h a (omega arith) (omega arith), any-from p (suc a) n (λ i b c. h i (omega arith) (omega arith)))

pub any_range_none : (p : ℕ → Bool) (a e : ℕ) → ((i : ℕ) → a ≤ i → i < e → p i ≡ false) → any p (range a e) ≡ false
unfolding range
any_range_none p a e h = any-from p a (e - a) (λ i b c. h i b (omega arith))

-- counted from its first number
from_made : (a b n : ℕ) → from (a + b) n ≡ each (λ k. (a + k) ∷ []) (from b n)
unfolding from each
from_made a b zero = refl
from_made a b (suc n) = ap (λ (l : List ℕ). (a + b) ∷ l) (ap (λ (k : ℕ). from k n) (omega arith) ∙ from_made a (suc b) n)

pub range_made : (a e : ℕ) → range a e ≡ each (λ k. (a + k) ∷ []) (range 0 (e - a))
unfolding range
range_made a e =
    let n : e - a - 0 ≡ e - a = omega arith in
    rw n (ap (λ (k : ℕ). from k (e - a)) (omega arith) ∙ from_made a 0 (e - a))

-- those before (x, y)
unfoldable pub before : ℕ → ℕ → ℕ → ℕ → ℕ → List Place
before ax ex ay x y = rect ax ex ay y ++ line ax x y

pub length-line : (ax ex y : ℕ) → length (line ax ex y) ≡ ex - ax
unfolding line range
length-line ax ex y = length-each 1 (λ x. place x y ∷ []) (λ x. refl) (from ax (ex - ax)) ∙ one-mul _ ∙ length_from ax (ex - ax)

pub length-rect : (ax ex ay ey : ℕ) → length (rect ax ex ay ey) ≡ (ex - ax) * (ey - ay)
unfolding rect range
length-rect ax ex ay ey =
    length-each (ex - ax) (λ y. line ax ex y) (λ y. length-line ax ex y) (from ay (ey - ay))
    ∙ ap (λ (n : ℕ). (ex - ax) * n) (length_from ay (ey - ay))

-- a bound that omega reads where m is a numeral
pub length_before : (m ax ex ay x y : ℕ) → ex ≤ m → length (before ax ex ay x y) ≤ m * y + x
unfolding before
length_before m ax ex ay x y h =
    let a : (ex - ax) * (y - ay) ≤ m * y = mul-le-mul (omega arith) (omega arith) in
    omega (arith, length-append (rect ax ex ay y) (line ax x y), length-rect ax ex ay y, length-line ax x y)

module _ (ax ex ay : ℕ) where
  pub rect-none : rect ax ex ay ay ≡ []
  unfolding rect
  rect-none = rw (range_none, each_none)

  pub before_first : (y : ℕ) → before ax ex ay ax y ≡ rect ax ex ay y
  unfolding before line
  before_first y = rw (range_none, each_none) (append-nil _)

  pub before_more : (x y : ℕ) → ax ≤ x → before ax ex ay (x + 1) y ≡ before ax ex ay x y ++ (place x y ∷ [])
  unfolding before line
  before_more x y h = rw (range_more ax x h, each_more, append_assoc)

  pub before_last : (y : ℕ) → ay ≤ y → before ax ex ay ex y ≡ rect ax ex ay (y + 1)
  unfolding before rect
  before_last y h = rw (range_more ay y h, each_more)

  -- what is left at (x, y)
  abbrev pub after : ℕ → ℕ → ℕ → List Place
  after ey x y = line (x + 1) ex y ++ rect ax ex (y + 1) ey

  pub rect-at : (ey x y : ℕ) → ax ≤ x → x < ex → ay ≤ y → y < ey → rect ax ex ay ey ≡ before ax ex ay x y ++ (place x y ∷ after ey x y)
  unfolding before rect line each
  rect-at ey x y a b c d = rw (range_at ay y ey c d, range_at ax x ex a b) (simp (each_append, append_assoc))

-- a row as the places at ax + k, and what it has
pub line_made : (ax ex y : ℕ) → line ax ex y ≡ each (λ k. place (ax + k) y ∷ []) (range 0 (ex - ax))
unfolding line
line_made ax ex y = rw range_made (each-each _ _ _ ∙ range_ext _ _ 0 (ex - ax) (λ i b c. each-one _ (ax + i)))

pub count-line : (p : Place → Bool) (ax ex y : ℕ) → count p (line ax ex y) ≡ count (λ k. p (place (ax + k) y)) (range 0 (ex - ax))
count-line p ax ex y = rw line_made (count_made (λ k. place (ax + k) y) p (range 0 (ex - ax)))

pub count-columns : (p : Place → Bool) (ax ex y : ℕ) → count p (line ax ex y) ≡ count (λ x. p (place x y)) (range ax ex)
unfolding line
count-columns p ax ex y = count_made (λ x. place x y) p (range ax ex)

-- a row from where a part of it ends
pub before_on : (ax ex ay x i y : ℕ) → ax ≤ x → x ≤ i → before ax ex ay i y ≡ before ax ex ay x y ++ line x i y
unfolding before line
before_on ax ex ay x i y h k = rw (range_split ax x i h k, each_append, append_assoc)

pub any_line_none : (p : Place → Bool) (ax ex y : ℕ) → ((k : ℕ) → k < ex - ax → p (place (ax + k) y) ≡ false) → any p (line ax ex y) ≡ false
any_line_none p ax ex y h = rw line_made (any_made (λ k. place (ax + k) y) p (range 0 (ex - ax)) ∙ any_range_none _ 0 (ex - ax) (λ k b c. h k c))

-- none of the places inside
pub any_rect_none : (p : Place → Bool) (ax ex ay ey : ℕ) → ((x y : ℕ) → ax ≤ x → x < ex → ay ≤ y → y < ey → p (place x y) ≡ false)
    → any p (rect ax ex ay ey) ≡ false
unfolding rect
any_rect_none p ax ex ay ey h =
    any-each p (λ y. line ax ex y) (range ay ey)
    ∙ any_range_none _ ay ey (λ y b c. any_line_none p ax ex y (λ k l. h (ax + k) y (omega arith) (omega arith) b c))

-- only what a test says of the places inside counts
module _ (p q : Place → Bool) where
  pub keep_line_ext : (ax ex y : ℕ) → ((x : ℕ) → ax ≤ x → x < ex → p (place x y) ≡ q (place x y)) → keep p (line ax ex y) ≡ keep q (line ax ex y)
  unfolding line keep
  keep_line_ext ax ex y h =
      each-each _ _ (range ax ex)
      ∙ range_ext _ _ ax ex
      (λ x b c. each-one _ (place x y) ∙ ap (λ (t : Bool). once t (place x y)) (h x b c) ∙ sym (each-one (λ o. once (q o) o) (place x y)))
      ∙ sym (each-each _ _ (range ax ex))

  pub keep_rect_ext : (ax ex ay ey : ℕ) → ((x y : ℕ) → ax ≤ x → x < ex → ay ≤ y → y < ey → p (place x y) ≡ q (place x y))
      → keep p (rect ax ex ay ey) ≡ keep q (rect ax ex ay ey)
  unfolding rect keep
  keep_rect_ext ax ex ay ey h =
      each-each _ _ (range ay ey) ∙ range_ext _ _ ay ey (λ y b c. keep_line_ext ax ex y (λ x d e. h x y d e b c)) ∙ sym (each-each _ _ (range ay ey))

-- ---- the two loops over a rectangle: `S l` says what the loop's variables are once the places l are passed
pub record Down (S : List Place → Type 0) (ax ex ay ey y : ℕ) : Type 0 where
  pub least : ay ≤ y
  pub most : y ≤ ey
  pub holds : S (rect ax ex ay y)

pub record Across (S : List Place → Type 0) (ax ex ay ey y x : ℕ) : Type 0 where
  pub least : ax ≤ x
  pub most : x ≤ ex
  pub low : ay ≤ y
  pub high : y < ey
  pub holds : S (before ax ex ay x y)

module _ (S : List Place → Type 0) (ax ex ay ey : ℕ) where
  pub down-none : ay ≤ ey → S [] → Down S ax ex ay ey ay
  down-none b s = record { least = omega arith; most = b; holds = rw (rect-none ax ex ay) s }

  pub across_none : (y : ℕ) → ax ≤ ex → ay ≤ y → y < ey → S (rect ax ex ay y) → Across S ax ex ay ey y ax
  across_none y b m l s = record { least = omega arith; most = b; low = m; high = l; holds = rw (before_first ax ex ay y) s }

  pub down_more : {y x : ℕ} → Across S ax ex ay ey y x → ex ≤ x → Down S ax ex ay ey (y + 1)
  down_more {y} {x} c l =
      let e : x ≡ ex = omega arith in
      record { least = omega arith; most = omega arith; holds = rw (← before_last ax ex ay y c.low) (rw e at c.holds) }

  pub down_all : {y : ℕ} → Down S ax ex ay ey y → ey ≤ y → S (rect ax ex ay ey)
  down_all {y} r l =
      let e : y ≡ ey = omega arith in
      rw e at r.holds

-- a turn that takes a row whole
pub down-row : (S S' : List Place → Type 0) (ax ex ay ey : ℕ) {y : ℕ} → Down S ax ex ay ey y → y < ey
    → (S (rect ax ex ay y) → S' (rect ax ex ay y ++ line ax ex y)) → Down S' ax ex ay ey (y + 1)
unfolding before
down-row S S' ax ex ay ey {y} r l f = record {
  least = omega arith;
  most = omega arith;
  holds = rw (← before_last ax ex ay y r.least) (f r.holds);
}

-- what holds besides
pub down-map : {S S' : List Place → Type 0} {ax ex ay ey y : ℕ} → ((l : List Place) → S l → S' l) → Down S ax ex ay ey y → Down S' ax ex ay ey y
down-map {ax = ax} {ex = ex} {ay = ay} {y = y} f r = record { least = r.least; most = r.most; holds = f (rect ax ex ay y) r.holds }

-- a turn takes the state S to the state S'
pub across_more : (S S' : List Place → Type 0) (ax ex ay ey : ℕ) {y x : ℕ} → Across S ax ex ay ey y x → x < ex
    → (S (before ax ex ay x y) → S' (before ax ex ay x y ++ (place x y ∷ []))) → Across S' ax ex ay ey y (x + 1)
across_more S S' ax ex ay ey {y} {x} c l f =
    record { least = omega arith; most = omega arith; low = c.low; high = c.high; holds = rw (before_more ax ex ay x y c.least) (f c.holds) }

-- turns that are passed over: the state stays as it is
pub across_skip : (S : List Place → Type 0) (ax ex ay ey : ℕ) (d : ℕ) {y x : ℕ} → Across S ax ex ay ey y x → x + d ≤ ex
    → ((k : ℕ) → x ≤ k → k < x + d → S (before ax ex ay k y) → S (before ax ex ay k y ++ (place k y ∷ []))) → Across S ax ex ay ey y (x + d)
across_skip S ax ex ay ey zero c l f = rw add-zero c
across_skip S ax ex ay ey (suc d) {y} {x} c l f =
    let e : x + suc d ≡ x + d + 1 = omega arith in
    rw e
    (across_more S S ax ex ay ey (across_skip S ax ex ay ey d c (omega arith) (λ k a b. f k a (omega arith))) (omega arith)
    (f (x + d) (omega arith) (omega arith)))

-- what is found at a place inside, the rectangle has
pub any_in : (p : Place → Bool) (ax ex ay ey x y : ℕ) → ax ≤ x → x < ex → ay ≤ y → y < ey → p (place x y) ≡ true → any p (rect ax ex ay ey) ≡ true
any_in p ax ex ay ey x y a b c d e = rw (rect-at ax ex ay ey x y a b c d) (any_yes p (before ax ex ay x y) (place x y) (after ax ex ay ey x y) e)

-- what a turn finds
pub any_at : {S : List Place → Type 0} {ax ex ay ey y x : ℕ} (p : Place → Bool) → Across S ax ex ay ey y x → x < ex
    → p (place x y) ≡ true → any p (rect ax ex ay ey) ≡ true
any_at {ax = ax} {ex = ex} {ay = ay} {ey = ey} {y = y} {x = x} p c l e = any_in p ax ex ay ey x y c.least l c.low c.high e
