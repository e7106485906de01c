-- A walk over the disk a row at a time: `for iy in 0..side { for ix in first..end { .. } }`, where first and end are
-- the disk's part of the row, takes the disk's places in their order and no others. `Above` and `Within` are the
-- invariants of the two loops, for any state and any step. Assumes nothing.
use mathlib.Core.Path.{◌≡◌, refl, sym, ap, ◌∙◌}
use mathlib.Core.Bool.{Bool, true, false}
use mathlib.Core.List.{List, [], ◌∷◌, ◌++◌, append_assoc, append-nil, foldl, foldl-append}
use Prim.Native.Nat.{ℕ, zero, suc, ◌+◌, ◌-◌, ◌*◌, ◌≤◌, ◌<◌}
use native.Mathlib.Omega.{arith}
use borrow.Author.Tests.{le-leb, lt-leb, le-ltb, lt-ltb}
use lib.ListN.{get_or}
use lib.Ieee.{Float}
use Rattle.grid.specs.Each.{each, keep}
use Rattle.grid.proofs.Each.{each_append, keep-none, keep_yes}
use Rattle.grid.proofs.Plane.{row_in}
use Rattle.grid.specs.Rect.{Place, place, from, range, line, rect}
use Rattle.grid.proofs.Rect.{range_split, rect-none}
use Rattle.grid.proofs.Rect.{before, before_first, before_more, before_last}
use Rattle.grid.specs.Ways.{pixel}
use Rattle.saddle.specs.Saddle.{side, in_disk, disk, offset, over_disk}
use Rattle.saddle.specs.Steps.{Spans, Around}

-- ---- columns that fail the test leave no place

keep_append : {A : Type 0} (p : A → Bool) (l m : List A) → keep p (l ++ m) ≡ keep p l ++ keep p m
unfolding keep
keep_append p l m = each_append _ l m

module _ (p : Place → Bool) (y : ℕ) where
  none_from : (a n : ℕ) → ((x : ℕ) → a ≤ x → x < a + n → p (place x y) ≡ false)
      → keep p (each (λ x. place x y ∷ []) (from a n)) ≡ []
  unfolding keep each from
  none_from a zero h = refl
  none_from a (suc n) h =
      rw (h a (omega arith) (omega arith)) (none_from (suc a) n (λ x l m. h x (omega arith) (omega arith)))

  -- from column a to column b nothing is passed
  pub skip : (n a b : ℕ) → a ≤ b → ((x : ℕ) → a ≤ x → x < b → p (place x y) ≡ false)
      → keep p (before 0 n 0 b y) ≡ keep p (before 0 n 0 a y)
  unfolding before line
  skip n a b l h =
      let columns : range 0 b ≡ range 0 a ++ range a b = range_split 0 a b (omega arith) l in
      let front = rect 0 n 0 y ++ each (λ x. place x y ∷ []) (range 0 a) in
      rw (columns, each_append, ← append_assoc, keep_append p front, nothing) (append-nil _)
    where
      nothing : keep p (each (λ x. place x y ∷ []) (range a b)) ≡ []
      nothing = unfold range in none_from a (b - a) (λ x u v. h x u (omega arith))

-- ---- the disk's part of a row

module _ {k y a e : ℕ} (s : Spans k y a e) where
  in_span : (x : ℕ) → a ≤ x → x < e → in_disk k (place x y) ≡ true
  in_span x l b = s.is x (omega arith) ∙ rw (le-leb a x l, lt-ltb x e b)

  before_span : (x : ℕ) → x < a → in_disk k (place x y) ≡ false
  before_span x b = s.is x (omega arith) ∙ rw (lt-leb a x b)

  past_span : (x : ℕ) → e ≤ x → x < side k → in_disk k (place x y) ≡ false
  past_span x l b =
      let d : a ≤ x = omega arith in
      s.is x b ∙ rw (le-leb a x d, le-ltb x e l)

-- ---- the two loops

module _ {A : Type 0} (k : ℕ) (step : Place → Float → Float → A → A) (z : A) where
  abbrev turn : A → Place → A
  turn s p = step p (offset k p.x) (offset k p.y) s

  -- the state once the loops have come past the places l
  abbrev past : List Place → A
  past l = foldl turn z (keep (in_disk k) l)

  -- the rows above y are done
  pub record Above (y : ℕ) (s : A) : Type 0 where
    pub most : y ≤ side k
    pub is : s ≡ past (rect 0 (side k) 0 y)

  -- and of row y, of which the disk has columns a to before e and whose offset is dy, the columns before x
  pub record Within (y : ℕ) (dy : Float) (a e x : ℕ) (s : A) : Type 0 where
    pub row : y < side k
    pub high : dy ≡ offset k y
    pub spans : Spans k y a e
    pub least : a ≤ x
    pub most : x ≤ e
    pub is : s ≡ past (before 0 (side k) 0 x y)

  pub above-none : Above 0 z
  above-none = record { most = omega arith; is = rw (rect-none 0 (side k) 0, keep-none) }

  pub within_none : {s : A} {y a e : ℕ} {dy : Float} → Above y s → y < side k → Spans k y a e → dy ≡ offset k y
      → Within y dy a e a s
  within_none {s} {y} {a} {e} r b c g =
      let skipped = skip (in_disk k) y (side k) 0 a (omega arith) (λ x u v. before_span c x v) in
      let first = ap (keep (in_disk k)) (before_first 0 (side k) 0 y) in
      record {
        row = b;
        high = g;
        spans = c;
        least = omega arith;
        most = c.some;
        is = r.is ∙ ap (foldl turn z) (sym (skipped ∙ first));
      }

  module _ {s : A} {y a e x : ℕ} {dy : Float} (r : Within y dy a e x s) where
    pub within_more : {v : A} {dx : Float} → x < e → dx ≡ offset k x → v ≡ step (place x y) dx dy s
        → Within y dy a e (x + 1) v
    within_more b f q =
        let m : x < side k = omega (arith, r.spans.most) in
        let here = keep_yes (in_disk k) (before 0 (side k) 0 x y) (place x y) (in_span r.spans x r.least b) in
        record {
          row = r.row;
          high = r.high;
          spans = r.spans;
          least = omega arith;
          most = omega arith;
          is = q ∙ rw (f, r.high, before_more 0 (side k) 0 x y (omega arith), here)
              (rw (foldl-append turn z (keep (in_disk k) (before 0 (side k) 0 x y)), r.is));
        }

    pub above_more : e ≤ x → Above (y + 1) s
    above_more b =
        let q : x ≤ side k = omega (arith, r.spans.most) in
        let skipped = skip (in_disk k) y (side k) x (side k) q (λ c u v. past_span r.spans c (omega arith) v) in
        let last = ap (keep (in_disk k)) (sym (before_last 0 (side k) 0 y (omega arith))) in
        record { most = omega arith; is = r.is ∙ ap (foldl turn z) (sym (last ∙ skipped)) }

  pub above_all : {s : A} {y : ℕ} → Above y s → side k ≤ y → s ≡ over_disk k step z
  unfolding over_disk disk
  above_all {s} {y} r b =
      let q : y ≡ side k = omega arith in
      rw q at r.is

-- ---- the square around x, y in an image: its row i lies in the buffer, and column j of it is the pixel that is meant

module _ {k n w h x y : ℕ} (r : Around k n w h x y) where
  pub row_room : {i : ℕ} → i < side k → (y - k + i) * w + (x - k) + side k ≤ n
  row_room {i} b =
      let high : y - k + i < h = omega arith in
      omega (arith, row_in w high)

  pub pixel-at : (img : List ℕ) (i j : ℕ)
      → get_or img ((y - k + i) * w + (x - k) + j) 0 ≡ pixel img w (x + j - k) (y + i - k)
  pixel-at img i j =
      let e : y - k + i ≡ y + i - k = omega arith in
      ap (λ (a : ℕ). get_or img a 0) (omega (arith, ap (λ (a : ℕ). a * w) e))
