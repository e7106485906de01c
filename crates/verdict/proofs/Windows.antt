-- The parts of rows that the code takes are the window's rows, and the centre is not counted: the steps behind `neighbors`. Assumes nothing.
use mathlib.Core.Path.{◌≡◌, refl, sym, ap, ◌∙◌}
use mathlib.Core.Logic.{◌⊎◌, inl, inr}
use mathlib.Core.Bool.{Bool, true, false, true≢false, ◌||◌, ◌&&◌, not, and-false, and-true}
use borrow.Author.Tests.{eq-eqb, ne_eqb}
use Prim.Native.Nat.{ℕ, zero, suc, ◌+◌, ◌-◌, ◌*◌, ◌≤◌, ◌<◌}
use native.Mathlib.Omega.{arith}
use mathlib.Core.List.{List, [], ◌∷◌, ◌++◌}
use lib.ListN.{get_or, length, drop, length-take, length-drop}
use lib.Seq.{get_or-take, get_or-drop}
use lib.Dec.{eqb}
use lib.Ieee.{Float, nan, lt}
use Rattle.std.specs.Prelude.{Option, None, Some, unwrap_or, is_none, IfSome}
use Rattle.std.specs.Bool.{MatchBool}
use Rattle.std.specs.List.{range_with_len, fold, sum_by, AllWithin, HoldsAt}
use Rattle.std.proofs.lemmas.List.FromFn.{length-range_with_len, get_or-range_with_len}
use Rattle.float.specs.Values.{f0}
use Rattle.grid.proofs.Plane.{row_in, next_row, row-above}
use Rattle.grid.specs.Each.{any, count}
use Rattle.grid.proofs.Each.{any-each, count-append, count_most, count_none, count_yes, count_no}
use Rattle.grid.specs.Rect.{Place, place, range, rect, line}
use Rattle.grid.proofs.Rect.{before, rect-at, any_in, any_line_none, any_range_none, length-line}
use Rattle.grid.proofs.Rect.{Down, down-none, down-row, down_all, keep_line_ext, keep_rect_ext}
use Rattle.grid.specs.Ways.{value}
use Rattle.crests.specs.Maximum.{entry}
use Rattle.verdict.specs.Window.{at, window, same, beaten, positives}
use Rattle.crests.specs.Crests.{over, above_count, Next}
use Rattle.crests.proofs.Passing.{part-above}
use Rattle.verdict.specs.Room.{Room, Cross, RowRoom, nearest, row_part, positives_there}

-- a row of the window lies within the buffer
pub room_row : {w h r x y n : ℕ} → Room w h r x y n → {yy : ℕ} → yy < y + r + 1 → RowRoom w x r yy n
room_row {w = w} {h = h} m {yy} b =
    let k : yy < h = omega arith in
    record { left = m.left; right = m.right; end = omega (arith, row_in w k) }

-- ---- the four nearest

-- a window that is more than its centre has them
pub cross : {w h r x y n : ℕ} → Room w h r x y n → 0 < r → Cross w x y n
cross {w = w} {y = y} m b = record {
  wide = m.wide;
  high = omega arith;
  left = omega arith;
  right = omega arith;
  above = omega arith;
  up = row-above w (omega arith);
  down = next_row w y;
  end = omega (arith, (room_row m {yy = y + 1} (omega arith)).end, next_row w y);
}

either : (a b : Bool) → (a || b) ≡ true → (a ≡ true) ⊎ (b ≡ true)
either true b h = inl refl
either false b h = inr h

-- some value of the window is greater than v
abbrev Beats : (ℕ → ℕ → Float) → Float → ℕ → ℕ → ℕ → Type 0
Beats f v r x y = any (λ q. lt v (at f q)) (window r (place x y)) ≡ true

-- what is greater nearby is greater in the window
nearest_beats : (f : ℕ → ℕ → Float) (v : Float) {w h r x y n : ℕ} → Room w h r x y n → 0 < r → nearest f v x y ≡ true → Beats f v r x y
nearest_beats f v {r = r} {x = x} {y = y} m b h = elim (either ((a || d) || e) g h) [
  | inl i ↦ elim (either (a || d) e i) [
    | inl j ↦ elim (either a d j) [
      | inl k ↦ any_in _ _ _ _ _ (x - 1) y (omega arith) (omega arith) (omega arith) (omega arith) k
      | inr k ↦ any_in _ _ _ _ _ (x + 1) y (omega arith) (omega arith) (omega arith) (omega arith) k
    ]
    | inr j ↦ any_in _ _ _ _ _ x (y - 1) (omega arith) (omega arith) (omega arith) (omega arith) j
  ]
  | inr i ↦ any_in _ _ _ _ _ x (y + 1) (omega arith) (omega arith) (omega arith) (omega arith) i
]
  where
    a : Bool
    a = lt v (f (x - 1) y)

    d : Bool
    d = lt v (f (x + 1) y)

    e : Bool
    e = lt v (f x (y - 1))

    g : Bool
    g = lt v (f x (y + 1))

-- what the code has found of the value v at x and y
beaten-is : (f : ℕ → ℕ → Float) (r x y : ℕ) {v : Float} {b : Bool} → v ≡ f x y → any (λ q. lt v (at f q)) (window r (place x y)) ≡ b
    → not b ≡ not (beaten f r (place x y))
unfolding beaten
beaten-is f r x y e h = ap not (rw e at (sym h))

-- ---- a row of the window, as a part of the buffer

module _ (s : List Float) {w x r yy : ℕ} (m : RowRoom w x r yy (length s)) {part : List Float} (is : part ≡ row_part s w x r yy) where
  pub part_length : length part ≡ r + r + 1
  part_length = rw is (simp (length-take, length-drop) (omega arith))

  part-value : (k : ℕ) → k < r + r + 1 → entry part k ≡ value s w (x - r + k) yy
  part-value k b =
      let a = yy * w + (x - r) in
      let e : a + k ≡ yy * w + (x - r + k) = omega arith in
      rw is (get_or-take (r + r + 1) (drop a s) k nan b ∙ get_or-drop a s k nan ∙ ap (λ (i : ℕ). get_or s i nan) e)

  -- no value of the part is greater
  part_free : (v : Float) (o : Option ℕ) → Next (over v part) 0 (length part) (unwrap_or o (length part)) → is_none o ≡ true
      → any (λ q. lt v (at (value s w) q)) (line (x - r) (x + r + 1) yy) ≡ false
  part_free v None t b =
      any_line_none _ (x - r) (x + r + 1) yy
      (λ k l. ap (lt v) (sym (part-value k (omega arith))) ∙ t.none k (omega arith) (omega (arith, part_length)))
  part_free v (Some i) t b = absurd (true≢false (sym b))

  -- one is
  part_beats : (v : Float) (y : ℕ) (o : Option ℕ) → y - r ≤ yy → yy < y + r + 1 → Next (over v part) 0 (length part) (unwrap_or o (length part))
      → IfSome o (λ i. i < length part) → is_none o ≡ false → Beats (value s w) v r x y
  part_beats v y None l h t f b = absurd (true≢false b)
  part_beats v y (Some i) l h t f b =
      any_in _ (x - r) (x + r + 1) (y - r) (y + r + 1) (x - r + i) yy (omega arith) (omega (arith, f, part_length)) l h
      (ap (lt v) (sym (part-value i (omega (arith, f, part_length)))) ∙ t.found f)

  part_count : {n : ℕ} → w ≤ 8192 → n ≡ above_count f0 part → n ≡ count (λ q. lt f0 (at (value s w) q)) (line (x - r) (x + r + 1) yy)
  part_count wide u =
      let n : r + r + 1 ≡ x + r + 1 - (x - r) = omega arith in
      part-above f0 (value s w) part (x - r) (x + r + 1) yy (part_length ∙ n) (omega arith) (λ k b. part-value k (omega arith)) u

-- ---- the two loops over the window's rows

-- none of the places passed is greater
abbrev Free : (ℕ → ℕ → Float) → Float → List Place → Type 0
Free f v l = any (λ q. lt v (at f q)) l ≡ false

-- n of them are above zero
abbrev Counted : (ℕ → ℕ → Float) → ℕ → List Place → Type 0
Counted f n l = n ≡ count (λ q. lt f0 (at f q)) l

-- the rows above yy are passed
abbrev Rows : (List Place → Type 0) → ℕ → ℕ → ℕ → ℕ → Type 0
Rows S r x y yy = Down S (x - r) (x + r + 1) (y - r) (y + r + 1) yy

-- row yy of the window has none, or one
abbrev pub RowFree : List Float → ℕ → ℕ → ℕ → ℕ → Float → ℕ → Type 0
RowFree s w x y r v yy = yy < y + r + 1 → Free (value s w) v (line (x - r) (x + r + 1) yy)

unfoldable pub RowBeats : List Float → ℕ → ℕ → ℕ → ℕ → Float → ℕ → Type 0
RowBeats s w x y r v yy = y - r ≤ yy → yy < y + r + 1 → Beats (value s w) v r x y

-- n values of them are above zero: few enough for the machine
pub record CountTo (s : List Float) (w x y r n yy : ℕ) : Type 0 where
  pub rows : Rows (Counted (value s w) n) r x y yy
  pub few : n ≤ 8192 * yy

-- what is said of entry k of the rows from a on
at_place : (P : ℕ → Type 0) (a n k : ℕ) → k < n → P (get_or (range_with_len a n) k 0) → P (a + k)
at_place P a n k b h = rw (get_or-range_with_len a n k 0 b) at h

module _ (s : List Float) {w h r x y : ℕ} (m : Room w h r x y (length s)) where
  module _ {v : Float} (centre : v ≡ value s w x y) where
    pub beaten-near : {b : Bool} → 0 < r → b ≡ nearest (value s w) v x y → b ≡ true → false ≡ not (beaten (value s w) r (place x y))
    beaten-near l e t = beaten-is (value s w) r x y centre (nearest_beats (value s w) v m l (sym e ∙ t))

    -- what is said of all rows, or of one
    pub unbeaten : {b : Bool} → let n = y + r + 1 - (y - r) in let all = range_with_len (y - r) n in
        MatchBool b (AllWithin (RowFree s w x y r v) all 0 (length all)) ((k : ℕ) × (k < length all) × HoldsAt (RowBeats s w x y r v) all k)
        → b ≡ not (beaten (value s w) r (place x y))
    unfolding rect RowBeats
    unbeaten {b = true} h =
        let a = y - r in
        let n = y + r + 1 - a in
        beaten-is (value s w) r x y centre
        (any-each _ (λ yy. line (x - r) (x + r + 1) yy) (range a (y + r + 1))
        ∙ any_range_none _ a (y + r + 1)
        (λ yy b e.
        let o : a + (yy - a) ≡ yy = omega arith in
        rw o at (at_place (RowFree s w x y r v) a n (yy - a) (omega arith) (h (yy - a) 0 (omega arith) (omega (arith, length-range_with_len a n)))) e))
    unbeaten {b = false} h =
        let a = y - r in
        let n = y + r + 1 - a in
        let l : h.0 < n = omega (arith, h.1, length-range_with_len a n) in
        beaten-is (value s w) r x y centre (at_place (RowBeats s w x y r v) a n h.0 l (h.2 0) (omega arith) (omega arith))

  pub row_free : (v : Float) (yy : ℕ) {part : List Float} (o : Option ℕ) {b : Bool} → part ≡ row_part s w x r yy
      → Next (over v part) 0 (length part) (unwrap_or o (length part)) → b ≡ is_none o → b ≡ true → RowFree s w x y r v yy
  row_free v yy o e k i t b = part_free s (room_row m b) e v o k (sym i ∙ t)

  pub row_beats : (v : Float) (yy : ℕ) {part : List Float} (o : Option ℕ) {b : Bool} → part ≡ row_part s w x r yy
      → Next (over v part) 0 (length part) (unwrap_or o (length part)) → IfSome o (λ i. i < length part) → b ≡ is_none o → b ≡ false
      → RowBeats s w x y r v yy
  unfolding RowBeats
  row_beats v yy o e k f i t l b = part_beats s (room_row m b) e v y o l b k f (sym i ∙ t)

  pub count_none_yet : CountTo s w x y r 0 (y - r)
  count_none_yet = record { rows = down-none _ _ _ _ _ (omega arith) (count_none _); few = omega arith }

  module _ {n yy : ℕ} (t : CountTo s w x y r n yy) where
    pub count-row : {part : List Float} {k : ℕ} → yy < y + r + 1 → part ≡ row_part s w x r yy → k ≡ above_count f0 part
        → CountTo s w x y r (n + k) (yy + 1)
    count-row {part} {k} b e u =
        let p : Place → Bool = λ q. lt f0 (at (value s w) q) in
        let row = line (x - r) (x + r + 1) yy in
        let z : k ≡ count p row = part_count s (room_row m b) e m.wide u in
        record {
          rows = down-row _ _ _ _ _ _ t.rows b (λ o. rw (count-append, ← o, ← z));
          few = omega (arith, z, count_most p row, length-line (x - r) (x + r + 1) yy);
        }

    pub count-rows : y + r + 1 ≤ yy → n ≡ positives_there (value s w) r (place x y)
    unfolding positives_there
    count-rows b = down_all _ _ _ _ _ t.rows b

  -- the counts of the rows, together
  abbrev pub row_count : ℕ → ℕ
  row_count yy = above_count f0 (row_part s w x r yy)

  rows_on : (k : ℕ) {n yy : ℕ} → yy + k ≡ y + r + 1 → CountTo s w x y r n yy
      → CountTo s w x y r (fold (λ c i. c + row_count i) n (range_with_len yy k)) (y + r + 1)
  rows_on zero {yy = yy} e t =
      let o : yy ≡ y + r + 1 = omega arith in
      rw o at t
  rows_on (suc k) e t = rows_on k (omega arith) (count-row t (omega arith) refl refl)

  pub all_rows : CountTo s w x y r (sum_by row_count (range_with_len (y - r) (y + r + 1 - (y - r)))) (y + r + 1)
  all_rows = rows_on (y + r + 1 - (y - r)) (omega arith) count_none_yet

  pub counted_all : {n : ℕ} → n ≡ sum_by row_count (range_with_len (y - r) (y + r + 1 - (y - r))) → n ≡ positives_there (value s w) r (place x y)
  counted_all e = e ∙ count-rows all_rows (omega arith)

-- ---- the centre, which is not counted

module _ (f : ℕ → ℕ → Float) (r x y : ℕ) where
  above_zero : Place → Bool
  above_zero q = lt f0 (at f q)

  counted : Place → Bool
  counted q = above_zero q && not (same q (place x y))

  -- a place in another column or row counts as its value says
  beside : (u v : ℕ) → (u ≡ x → ⊥) → above_zero (place u v) ≡ counted (place u v)
  unfolding above_zero counted
  beside u v d = rw (ne_eqb u x d) (sym (and-true _))

  away : (u v : ℕ) → (v ≡ y → ⊥) → above_zero (place u v) ≡ counted (place u v)
  unfolding above_zero counted
  away u v d = rw (ne_eqb v y d, and-false (eqb u x)) (sym (and-true _))

  -- the window without the centre has as many of either
  centre : r ≤ x → r ≤ y → count above_zero (window r (place x y)) + count counted (place x y ∷ [])
      ≡ count counted (window r (place x y)) + count above_zero (place x y ∷ [])
  unfolding count before
  centre a b =
      let ax = x - r in
      let ex = x + r + 1 in
      let ay = y - r in
      let ey = y + r + 1 in
      let p1 = ap length (keep_rect_ext above_zero counted ax ex ay y (λ u v c d e g. away u v (λ q. omega arith))) in
      let p2 = ap length (keep_line_ext above_zero counted ax x y (λ u c d. beside u y (λ q. omega arith))) in
      let p3 = ap length (keep_line_ext above_zero counted (x + 1) ex y (λ u c d. beside u y (λ q. omega arith))) in
      let p4 = ap length (keep_rect_ext above_zero counted ax ex (y + 1) ey (λ u v c d e g. away u v (λ q. omega arith))) in
      rw (rect-at ax ex ay ey x y (omega arith) (omega arith) (omega arith) (omega arith))
      (omega (arith, split above_zero ax ex ay ey, split counted ax ex ay ey, p1, p2, p3, p4))
    where
      split : (p : Place → Bool) (ax ex ay ey : ℕ)
          → count p ((rect ax ex ay y ++ line ax x y) ++ (place x y ∷ (line (x + 1) ex y ++ rect ax ex (y + 1) ey)))
          ≡ count p (rect ax ex ay y) + count p (line ax x y)
          + (count p (place x y ∷ []) + (count p (line (x + 1) ex y) + count p (rect ax ex (y + 1) ey)))
      split p ax ex ay ey =
          let one = line (x + 1) ex y ++ rect ax ex (y + 1) ey in
          omega (
            arith,
            count-append p (rect ax ex ay y ++ line ax x y) (place x y ∷ one),
            count-append p (rect ax ex ay y) (line ax x y),
            count-append p (place x y ∷ []) one,
            count-append p (line (x + 1) ex y) (rect ax ex (y + 1) ey),
          )

  alone : (p : Place → Bool) → p (place x y) ≡ true → 1 ≡ count p (place x y ∷ [])
  alone p e = count_yes p [] (place x y) (count_none p) e

  none : (p : Place → Bool) → p (place x y) ≡ false → 0 ≡ count p (place x y ∷ [])
  none p e = count_no p [] (place x y) (count_none p) e

  itself : counted (place x y) ≡ false
  unfolding counted
  itself = rw (eq-eqb x x refl, eq-eqb y y refl) (and-false (above_zero (place x y)))

  -- the code counts the whole window, and takes the centre off if it is above zero
  module _ {n : ℕ} (a : r ≤ x) (b : r ≤ y) (h : n ≡ positives_there f r (place x y)) where
    pub positives_more : lt f0 (f x y) ≡ true → n ≡ positives f r (place x y) + 1
    unfolding positives positives_there above_zero counted
    positives_more t = omega (arith, h, centre a b, alone above_zero t, none counted itself)

    pub positives-same : lt f0 (f x y) ≡ false → n ≡ positives f r (place x y)
    unfolding positives positives_there above_zero counted
    positives-same t = omega (arith, h, centre a b, none above_zero t, none counted itself)
