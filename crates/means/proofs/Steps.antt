-- The steps of the blur: a window's sum grows by one place of every window at a time, the places before the edge and past it left out; the counts;
-- rows added to the columns' sums; and rows as parts of a map. Assumes nothing.
use mathlib.Core.Path.{◌≡◌, refl, sym, ap, ◌∙◌}
use Prim.Native.Nat.{ℕ, ◌+◌, ◌-◌, ◌*◌, ◌≤◌, ◌<◌, min, max}
use native.Mathlib.Nat.{add-mul, zero-add}
use native.Mathlib.Decide.{dec_le}
use native.Mathlib.Omega.{arith}
use mathlib.Core.List.{List, [], ◌∷◌, ◌++◌}
use lib.ListN.{length, get_or, replicate, take, drop, length-take, length-drop}
use borrow.Author.Tests.{lt-ltb, le-leb}
use lib.IntN.{pos}
use lib.Ieee.{Float, nan, binary32, add, mul, div, of_int}
use Rattle.float.specs.Values.{f0, f1}
use Rattle.grid.specs.Fold.{fsum}
use Rattle.grid.proofs.Fold.{fold-none, fold_on}
use Rattle.grid.specs.Fill.{filled}
use Rattle.grid.proofs.Fill.{filled_zero, filled_ext}
use Rattle.grid.proofs.Part.{fill-part}
use Rattle.grid.specs.Touch.{touched}
use Rattle.grid.proofs.Touch.{touched-on, touched_join, Stage, stage_none, stage_more, stage_all}
use Rattle.means.specs.Means.{value_at, counted, count_of, window_sum, mean_at, column_mean}
use Rattle.means.specs.Kernel.{add_three, rows_from}

-- ---- a buffer of zeros

repeated : (v : Float) (xs : List Float) → filled (length xs) (λ _. v) xs ≡ replicate (length xs) v
unfolding filled
repeated v [] = refl
repeated v (x ∷ xs) = ap (λ (r : List Float). v ∷ r) (repeated v xs)

pub zeroed : (xs : List Float) {ys : List Float} → ys ≡ replicate (length xs) f0 → ys ≡ touched nan 0 (length xs) (λ _ _. f0) xs
unfolding touched
zeroed xs p = p ∙ sym (filled_ext (length xs) _ (λ _. f0) xs (λ j b. rw (lt-ltb j (length xs) b, le-leb 0 j (omega arith))) ∙ repeated f0 xs)

-- of the window about x, the places that are k steps or less from its uncut start
unfoldable pub grown : (ℕ → Float) → ℕ → ℕ → ℕ → ℕ → Float
grown f n r k x = fsum (λ i. f (x - r + i)) (min (x + k - r) n - (x - r))

-- one place more, and which
further : (x k r : ℕ) → r ≤ x + k → x + k - r + 1 - (x - r) ≡ x + k - r - (x - r) + 1
further x k r a = omega arith

placed : (x k r : ℕ) → r ≤ x + k → x + k - r ≡ x - r + (x + k - r - (x - r))
placed x k r a = omega arith

module _ (f : ℕ → Float) (n r : ℕ) where
  pub grown_none : (x : ℕ) → f0 ≡ grown f n r 0 x
  unfolding grown
  grown_none x = fold-none (add binary32) f0 _ _ (omega arith)

  -- the next place, x + k - r, is in the row
  pub grown_more : (k x : ℕ) → r ≤ x + k → x + k < n + r → add binary32 (grown f n r k x) (f (x + k - r)) ≡ grown f n r (k + 1) x
  unfolding grown
  grown_more k x a b =
      let u : min (x + k - r) n ≡ x + k - r = omega arith in
      let v : min (x + (k + 1) - r) n ≡ x + k - r + 1 = omega arith in
      rw (u, v) (fold_on (add binary32) f0 _ (x + k - r - (x - r)) _ (further x k r a) (ap f (placed x k r a)) refl)

  -- or it is before the row's start, or past its end
  pub grown_before : (k x : ℕ) → x + k < r → grown f n r k x ≡ grown f n r (k + 1) x
  unfolding grown
  grown_before k x a =
      let e : min (x + k - r) n ≡ min (x + (k + 1) - r) n = omega arith in
      rw e

  pub grown_past : (k x : ℕ) → n + r ≤ x + k → grown f n r k x ≡ grown f n r (k + 1) x
  unfolding grown
  grown_past k x a =
      let e : min (x + k - r) n ≡ min (x + (k + 1) - r) n = omega arith in
      rw e

  pub grown_all : (k x : ℕ) → k ≡ 2 * r + 1 → grown f n r k x ≡ window_sum f n r x
  unfolding grown window_sum
  grown_all k x e =
      let q : x + k - r ≡ x + r + 1 = omega arith in
      rw q

-- ---- a row's sums

-- which entry of a row's pixels the k-th turn adds, from the ends that code works out
to_left : (w r k j a b : ℕ) → k < r → a ≡ r - k → b ≡ 0 → a ≤ j → j < w - b → (r ≤ j + k) × (j + k < w + r) × (b + (j - a) ≡ j + k - r)
to_left w r k j a b h p q l m = omega arith

to_right : (w r k j a b : ℕ) → r ≤ k → a ≡ 0 → b ≡ k - r → j < w - b → (r ≤ j + k) × (j + k < w + r) × (b + (j - a) ≡ j + k - r)
to_right w r k j a b h p q m = omega arith

module _ (w r k j a b : ℕ) (p : a ≡ min (r - k) w) (q : b ≡ min (k - r) w) where
  reached : a ≤ j → j < w - b → (r ≤ j + k) × (j + k < w + r) × (b + (j - a) ≡ j + k - r)
  reached l m = elim (dec_le r k) [
    | yes h ↦ to_right w r k j a b h (omega arith) (omega arith) m
    | no h ↦ to_left w r k j a b (omega arith) (omega arith) (omega arith) l m
  ]

  before_row : j < w → j < a → j + k < r
  before_row l m = omega arith

  past_row : j < w → w - b ≤ j → w + r ≤ j + k
  past_row l m = omega arith

module _ (src : List Float) (w r : ℕ) where
  -- what each pixel has after k turns
  abbrev pub After : List Float → List Float → ℕ → Type 0
  After = Stage w (grown (λ i. get_or src i nan) w r)

  pub row-none : (xs : List Float) {ys : List Float} → length xs ≡ w → ys ≡ touched nan 0 (length xs) (λ _ _. f0) xs → After ys ys 0
  row-none xs l p = stage_none nan w _ (λ _. f0) 0 xs l p (λ x. grown_none _ w r x)

  pub row_more : (k a b : ℕ) {a' b' : ℕ} {xs ys zs : List Float} → a' ≡ r - k → a ≡ min a' w → b' ≡ k - r → b ≡ min b' w → After xs ys k
      → zs ≡ touched nan a (w - b) (λ x v. add binary32 v (get_or src (b + (x - a)) nan)) ys → After xs zs (k + 1)
  row_more k a b u p' v q' s t =
      stage_more nan w _ a (w - b) _ k (k + 1) s t inside
      (λ j l m. grown_before _ w r k j (before_row w r k j a b p q l m))
      (λ j l m. grown_past _ w r k j (past_row w r k j a b p q l m))
    where
      p : a ≡ min (r - k) w
      p = rw (← u) p'

      q : b ≡ min (k - r) w
      q = rw (← v) q'

      inside : (j : ℕ) → j < w → a ≤ j → j < w - b
          → add binary32 (grown (λ i. get_or src i nan) w r k j) (get_or src (b + (j - a)) nan) ≡ grown (λ i. get_or src i nan) w r (k + 1) j
      inside j _ l m =
          let h = reached w r k j a b p q l m in
          rw h.2 (grown_more (λ i. get_or src i nan) w r k j h.0 h.1)

  pub row_all : (k : ℕ) (xs : List Float) {ys zs : List Float} → length xs ≡ w → ys ≡ touched nan 0 (length xs) (λ _ _. f0) xs → After ys zs k
      → k ≡ 2 * r + 1 → zs ≡ filled w (window_sum (λ i. get_or src i nan) w r) xs
  row_all k xs l p s e = stage_all nan w _ (λ _. f0) k xs l p s ∙ filled_ext w _ _ xs (λ x _. grown_all _ w r k x e)

-- ---- division by the counts

-- between the edges every window is whole
whole : (w r j a e : ℕ) → a ≡ min r w → e ≡ max (w - r) a → a ≤ j → j < e → 2 * r + 1 ≡ counted w r j
whole w r j a e p q l m =
    let u : (r ≤ j) × (j + r < w) = omega arith in
    let v : min (j + r + 1) w ≡ j + r + 1 = omega arith in
    rw v (omega arith)

pub divided : (r w a e : ℕ) (xs : List Float) {d : ℕ} {ys zs us : List Float} → length xs ≡ w → a ≡ min r (length xs) → d ≡ length xs - r
    → e ≡ max d a
    → ys ≡ touched nan 0 a (λ x v. div binary32 v (count_of w r x)) xs
    → zs ≡ touched nan a e (λ _ v. div binary32 v (of_int binary32 (pos (2 * r + 1)))) ys
    → us ≡ touched nan e (length xs) (λ x v. div binary32 v (count_of w r x)) zs
    → us ≡ touched nan 0 w (λ x v. div binary32 v (count_of w r x)) xs
divided r w a e xs {d} {ys} {zs} {us} l p o q A B C =
    touched_join nan 0 e w _ _ xs (omega arith) (omega arith) (λ j v _ _. refl)
    (touched_join nan 0 a e _ _ xs (omega arith) (omega arith) (λ j v u t. rw (whole w r j a e (omega arith) (omega arith) u t)) A B)
    (rw l at C)

-- a row's sums, each divided by its count
pub row_means : (src : List Float) (r w : ℕ) (xs : List Float) {ys zs : List Float} → length xs ≡ w
    → ys ≡ filled w (window_sum (λ k. get_or src k nan) w r) xs
    → zs ≡ touched nan 0 w (λ x v. div binary32 v (count_of w r x)) ys
    → zs ≡ filled w (mean_at (λ k. get_or src k nan) w r) xs
unfolding mean_at
row_means src r w xs {ys} l p q =
    touched-on nan 0 w (λ x v. div binary32 v (count_of w r x)) ys w _ _ xs p q l
    (λ j _ _ _. refl) (λ j _ b. absurd (omega arith)) (λ j b c. absurd (omega arith))

-- ---- a row of columns' sums: the rows from a and below k are added

module _ (src : List Float) (w a : ℕ) where
  abbrev pub Added : List Float → List Float → ℕ → Type 0
  Added = Stage w (rows_from src w a)

  pub column_none : (xs : List Float) {ys : List Float} → length xs ≡ w → ys ≡ touched nan 0 (length xs) (λ _ _. f0) xs → Added ys ys a
  column_none xs l p = stage_none nan w _ (λ _. f0) a xs l p (λ x. fold-none (add binary32) f0 _ _ (omega arith))

  pub column_more : (k : ℕ) {xs ys zs : List Float} → a ≤ k → Added xs ys k
      → zs ≡ touched nan 0 w (λ x v. add binary32 v (get_or src (k * w + x) nan)) ys → Added xs zs (k + 1)
  column_more k l s t = stage_more nan w _ 0 w _ k (k + 1) s t inside (λ j _ b. absurd (omega arith)) (λ j b c. absurd (omega arith))
    where
      inside : (j : ℕ) → j < w → 0 ≤ j → j < w
          → add binary32 (rows_from src w a k j) (get_or src (k * w + j) nan) ≡ rows_from src w a (k + 1) j
      inside j _ _ _ =
          let e : k ≡ a + (k - a) = omega arith in
          fold_on (add binary32) f0 _ (k - a) _ (omega arith) (ap (λ (i : ℕ). value_at src w j i) e) refl

  -- three rows in one pass
  pub column_three : (k : ℕ) {xs ys zs : List Float} → a ≤ k → Added xs ys k
      → zs ≡ touched nan 0 (length ys) (λ x v. add_three v src (length ys) (k * w) x) ys → Added xs zs (k + 3)
  unfolding add_three
  column_three k {ys = ys} l s t =
      stage_more nan w _ 0 w _ k (k + 3) s (rw (s.long ∙ s.size) at t) inside (λ j _ b. absurd (omega arith)) (λ j b c. absurd (omega arith))
    where
      row_at : (m n : ℕ) → n ≡ k + m → k * w + m * w ≡ n * w
      row_at m n e = rw (e, add-mul)

      inside : (j : ℕ) → j < w → 0 ≤ j → j < w → add_three (rows_from src w a k j) src w (k * w) j ≡ rows_from src w a (k + 3) j
      inside j _ _ _ =
          let f : ℕ → Float = λ i. value_at src w j (a + i) in
          let n : ℕ = k - a in
          let u : k * w + j ≡ (a + n) * w + j = omega (arith, row_at 0 (a + n) (omega arith)) in
          let v : k * w + w + j ≡ (a + (n + 1)) * w + j = omega (arith, row_at 1 (a + (n + 1)) (omega arith)) in
          let x : k * w + w + w + j ≡ (a + (n + 1 + 1)) * w + j = omega (arith, row_at 2 (a + (n + 1 + 1)) (omega arith)) in
          let one = fold_on (add binary32) f0 f n (n + 1) refl (ap (λ (i : ℕ). get_or src i nan) u) refl in
          let two = fold_on (add binary32) f0 f (n + 1) (n + 1 + 1) refl (ap (λ (i : ℕ). get_or src i nan) v) one in
          fold_on (add binary32) f0 f (n + 1 + 1) (k + 3 - a) (omega arith) (ap (λ (i : ℕ). get_or src i nan) x) two

  pub column_all : (e : ℕ) {k : ℕ} (xs : List Float) {ys zs : List Float} → length xs ≡ w → ys ≡ touched nan 0 (length xs) (λ _ _. f0) xs
      → Added ys zs k → k ≡ e → zs ≡ filled w (rows_from src w a e) xs
  column_all e xs l p s q = rw q at (stage_all nan w _ (λ _. f0) _ xs l p s)

-- the columns' sums, each times the reciprocal of the count
pub column_means : (src : List Float) (w h r y a e : ℕ) (xs : List Float) {ys zs : List Float} → length xs ≡ w → a ≡ y - r → e ≡ min (y + r + 1) h
    → ys ≡ filled w (rows_from src w a e) xs
    → zs ≡ touched nan 0 w (λ _ v. mul binary32 v (div binary32 f1 (of_int binary32 (pos (e - a))))) ys
    → zs ≡ filled w (λ x. column_mean (value_at src w) h r x y) xs
unfolding column_mean window_sum
column_means src w h r y a e xs {ys} l A E p q =
    touched-on nan 0 w (λ _ v. mul binary32 v (div binary32 f1 (of_int binary32 (pos (e - a))))) ys w (rows_from src w a e) _ xs p q l
    (λ j _ _ _. rw (E, A)) (λ j _ b. absurd (omega arith)) (λ j b c. absurd (omega arith))

-- ---- rows as parts of a map

pub part_length : (i w : ℕ) (xs : List Float) → i + w ≤ length xs → length (take (i + w - i) (drop i xs)) ≡ w
part_length i w xs b = simp (length-take, length-drop) (omega arith)

-- the first n entries are a part, and the others stay
pub first_part : (n : ℕ) (f : ℕ → Float) (xs : List Float) {zs : List Float} → zs ≡ filled n f (take n xs) → zs ++ drop n xs ≡ filled n f xs
first_part n f xs z =
    rw z (fill-part 0 n f f xs (filled_zero f xs) (λ j _. ap f (omega arith))) ∙ ap (λ (m : ℕ). filled m f xs) (zero-add n)
