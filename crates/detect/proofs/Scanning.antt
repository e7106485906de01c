-- What is told of a candidate, a turn of the scan, and a row: the steps behind `peaks`. Assumes nothing.
use mathlib.Core.Path.{◌≡◌, refl, sym, ap, ◌∙◌}
use mathlib.Core.Logic.{◌⊎◌, inl, inr}
use mathlib.Core.Bool.{Bool, true, false, not, ◌&&◌, true≢false}
use Prim.Native.Nat.{ℕ, zero, suc, ◌+◌, ◌-◌, ◌*◌, ◌/◌, ◌≤◌, ◌<◌, ◌^◌}
use native.Mathlib.Omega.{arith}
use mathlib.Core.List.{List, [], ◌∷◌}
use borrow.Author.Tests.{ltb-false, ne_eqb}
use native.Mathlib.Nat.{add-zero, div-add-mod'}
use lib.ListN.{length, get_or, take, drop, length-take, length-drop}
use lib.Seq.{sets, length-take-le, get_or-take, get_or-drop}
use lib.Dec.{T, ltb, leb, eqb, le→leb}
use lib.IntN.{pos}
use lib.Ieee.{Float, nan, binary32, lt, mul, in_float}
use Rattle.std.specs.Bool.{then_some}
use Rattle.std.specs.Prelude.{unwrap_or}
use Rattle.float.specs.Values.{f0}
use Rattle.grid.proofs.Fold.{fold_ext}
use Rattle.grid.specs.Plane.{plane}
use Rattle.grid.proofs.Plane.{row_in}
use Rattle.grid.specs.Each.{count}
use Rattle.grid.proofs.Each.{count_most}
use Rattle.grid.specs.Rect.{Place, place, line}
use Rattle.grid.proofs.Rect.{before_on, keep_line_ext, count-columns, count_range_ext, count_range_most, count_range_none}
use Rattle.grid.proofs.Rect.{any_in, length-line, down_more, Across, across_none, across_more, across_skip}
use Rattle.grid.specs.Ways.{pixel, value}
use Rattle.grid.specs.Over.{Onward}
use Rattle.grid.proofs.Over.{onward-none, onward_no, onward_full, onward-put}
use Rattle.sizes.proofs.Fitting.{Square}
use Rattle.params.specs.declared.answers.Verdicts.{Verdicts}
use Rattle.params.specs.declared.settings.RadonDetectorParams.{RadonDetectorParams}
use Rattle.params.specs.Settings.{ray_of}
use Rattle.saddle.specs.declared.SaddleTest.{SaddleTest}
use Rattle.saddle.specs.declared.Saddle.{Saddle}
use Rattle.saddle.specs.declared.Saddle.TheVariants.{Yes, Flat, Curved}
use Rattle.verdict.specs.declared.Verdict.{Verdict}
use Rattle.verdict.specs.declared.Verdict.TheVariants.{NotAbove, Beaten}
use Rattle.verdict.specs.declared.Scan.{Scan}
use Rattle.saddle.specs.Saddle.{saddle_numbers}
use Rattle.saddle.specs.Steps.{Around}
use Rattle.saddle.proofs.Fitting.{numbers_plain}
use Rattle.crests.specs.Maximum.{entry, greater, greatest_of, maximum}
use Rattle.verdict.specs.Window.{at, beaten, positives}
use Rattle.crests.specs.Crests.{over, above_from, crest, Sought}
use Rattle.crests.proofs.Passing.{sought_plain, not_worth}
use Rattle.detect.specs.Corners.{floor_of, stride, numbers}
use Rattle.verdict.specs.Verdict.{first_failing, is_saddle, is_kept, rank, same_verdict, verdict}
use Rattle.verdict.specs.Judged.{judged_in}
use Rattle.verdict.specs.Room.{Cross}
use Rattle.detect.specs.Scan.{scan_of, floor_in, verdict_in, kept_in, ranked, above_in, numbers_in, fitted_at, border_in, rows_above}
use Rattle.detect.specs.Scan.{Tally, plus, Tallied, Asked, Judging, Candidate, Finding, NextInRow, Entered, RowFound}
use Rattle.detect.proofs.Tally.{early_dropped, wider, tally-plus, kept_more, kept_same, counts_more, counts_passed}
use Rattle.verdict.proofs.Windows.{cross}
use Rattle.verdict.proofs.Rules.{room, judged_plain}

-- ---- a candidate lies far enough inside

module _ {s : Scan} {x y resp image : ℕ} (c : Candidate s x y resp image) where
  -- for all squares up to radius r, in a buffer of n entries
  inner : (r n : ℕ) → r ≤ border_in s → s.w * s.h ≤ n → Square r n s.w s.h x y
  inner r n b room =
      let a = c.judging.asked in
      record {
        map = record { wide = a.wide; high = a.high; inside = room };
        left = omega arith;
        right = omega arith;
        above = omega arith;
        below = omega arith;
      }

  -- its suppression window
  window-room : Square s.params.nms_radius resp s.w s.h x y
  window-room = inner s.params.nms_radius resp (omega arith) c.judging.asked.response

  -- the disk of the saddle test
  disk-room : Around (ray_of s.params.ray_radius) image s.w s.h x y
  disk-room =
      let a = c.judging.asked in
      record {
        small = omega (arith, a.ray);
        wide = a.wide;
        high = a.high;
        inside = record { left = omega arith; right = omega arith; above = omega arith; below = omega arith };
        room = a.working;
      }

  -- its nearest
  pub near : Cross s.w x y resp
  near = cross (room (inner 1 resp (omega arith) c.judging.asked.response)) (omega arith)

-- so what is told of it is its verdict
pub judged-is : (s : Scan) (resp : List Float) (image : List ℕ) (x y : ℕ) {v : Verdict} → Candidate s x y (length resp) (length image)
    → v ≡ judged_in s resp image x y → v ≡ verdict_in s resp image (place x y)
judged-is s resp image x y c e = judged_plain s resp image x y (window-room c) (disk-room c) c.judging.test e

-- ---- a corner's numbers, stored

-- a coordinate is a float as it is
pub coordinate : (n : ℕ) → n ≤ 8192 → T (in_float binary32 (pos n))
unfolding in_float
coordinate n h = le→leb n (2 ^ 24) (omega arith)

pub numbers-long : (s : RadonDetectorParams) (f : ℕ → ℕ → Float) (p : Place) → length (numbers s f p) ≡ stride
unfolding numbers
numbers-long s f p = refl

module _ (s : Scan) (l r : List Float) (n x y : ℕ) (k : Cross s.w x y (length r)) where
  -- the entry of (x, y)
  abbrev centre : ℕ
  centre = y * s.w + x

  pub stored : {a b : Float} {new : List Float}
      → a ≡ fitted_at s.params r centre 1 (entry r centre) x → b ≡ fitted_at s.params r centre s.w (entry r centre) y
      → new ≡ sets l (stride * n) (a ∷ b ∷ entry r centre ∷ []) → new ≡ sets l (stride * n) (numbers_in s r (place x y))
  unfolding numbers
  stored e1 e2 all =
      let i : centre - 1 ≡ y * s.w + (x - 1) = omega arith in
      let j : centre + 1 ≡ y * s.w + (x + 1) = omega arith in
      let u : centre - s.w ≡ (y - 1) * s.w + x = omega arith in
      let d : centre + s.w ≡ (y + 1) * s.w + x = omega arith in
      rw (e1, e2, i, j, u, d) at all

-- ---- a candidate that is judged, by what was said of it: v is its verdict, `kept` whether it is kept, r its rank, and t the tally before

module _ (s : Scan) (resp : List Float) (image : List ℕ) (x y : ℕ) (mid : List Float) (t : Verdicts) {v : Verdict} {kept : Bool}
    (is : v ≡ verdict_in s resp image (place x y)) (keeps : kept ≡ is_kept v) where
  said : {b : Bool} → kept ≡ b → kept_in s resp image (place x y) ≡ b
  said e = ap is_kept (sym is) ∙ sym keeps ∙ e

  tallied : plus t v 1 ≡ plus t (verdict_in s resp image (place x y)) 1
  tallied = ap (λ (u : Verdict). plus t u 1) is

  -- dropped
  pub entered_no : kept ≡ false → Entered s resp image x y mid t mid (plus t v 1)
  entered_no e = record {
    onward = λ l. rw (kept_same t v (sym keeps ∙ e)) (onward_no _ _ _ _ _ _ _ _ (onward-none _ _ _ _ _ _) (said e));
    tally = tallied;
  }

  -- kept, and there is no room
  pub entered_full : kept ≡ true → length mid / stride ≤ t.kept → Entered s resp image x y mid t mid (plus t v 1)
  entered_full e b = record {
    onward = λ l. rw (kept_more t v (sym keeps ∙ e)) (onward_full _ _ _ _ _ _ _ _ (onward-none _ _ _ _ _ _) (said e) b);
    tally = tallied;
  }

  -- kept, and stored
  pub entered_put : {new : List Float} → kept ≡ true → t.kept < length mid / stride → new ≡ sets mid (stride * t.kept) (numbers_in s resp (place x y))
      → Entered s resp image x y mid t new (plus t v 1)
  entered_put e b put = record {
    onward = λ l. rw (kept_more t v (sym keeps ∙ e))
        (onward-put _ _ _ _ _ _ _ _ (numbers-long s.params (value resp s.w)) (onward-none _ _ _ _ _ _) (said e) b put);
    tally = tallied;
  }

-- ---- a run of places that pass at most one test

low_out : (s : RadonDetectorParams) (floor : Float) (f : ℕ → ℕ → Float) (g : ℕ → ℕ → ℕ) (p : Place) → lt floor (at f p) ≡ false
    → rank (verdict s floor f g p) ≤ 1
unfolding verdict
low_out s floor f g p e = rw e (omega arith)

beaten_out : (s : RadonDetectorParams) (floor : Float) (f : ℕ → ℕ → Float) (g : ℕ → ℕ → ℕ) (p : Place) → beaten f s.nms_radius p ≡ true
    → rank (verdict s floor f g p) ≤ 1
unfolding verdict
beaten_out s floor f g p e = rw e (go (lt floor (at f p)))
  where
    go : (a : Bool) → rank (first_failing a false (leb s.min_cluster_size (positives f s.nms_radius p)) (is_saddle s g p)) ≤ 1
    go true = omega arith
    go false = omega arith

-- "not above" is the first rule's no
first_fails : (a m e : Bool) (d : Saddle) → same_verdict (first_failing a m e d) NotAbove ≡ not a
first_fails false m e d = refl
first_fails true false e d = refl
first_fails true true false d = refl
first_fails true true true Yes = refl
first_fails true true true Flat = refl
first_fails true true true Curved = refl

pub not_above_is : (s : RadonDetectorParams) (floor : Float) (f : ℕ → ℕ → Float) (g : ℕ → ℕ → ℕ) (p : Place)
    → same_verdict (verdict s floor f g p) NotAbove ≡ not (lt floor (at f p))
unfolding verdict
not_above_is s floor f g p = first_fails (lt floor (at f p)) _ _ _

-- so who passes at most one test passes one just where it is above
one-above : (r : ℕ) (a : Bool) → r ≤ 1 → eqb r 0 ≡ not a → eqb r 1 ≡ a
one-above zero false l e = refl
one-above zero true l e = absurd (true≢false e)
one-above (suc zero) true l e = refl
one-above (suc zero) false l e = absurd (true≢false (sym e))
one-above (suc (suc r)) a l e = absurd (omega arith)

-- three tests of which one fails
fails : (a l r : Bool) → (a && (not l && not r)) ≡ false → (a ≡ false) ⊎ ((l ≡ true) ⊎ (r ≡ true))
fails false l r h = inl refl
fails true true r h = inr (inl refl)
fails true false true h = inr (inr refl)
fails true false false h = absurd (true≢false h)

-- row y, as a part of the map
abbrev row_of : List Float → ℕ → ℕ → List Float
row_of r w y = take (y * w + w - y * w) (drop (y * w) r)

module _ (r : List Float) (w y : ℕ) (fits : y * w + w ≤ length r) where
  pub row-length : length (row_of r w y) ≡ w
  row-length = simp (length-take, length-drop) (omega arith)

  row-value : (k : ℕ) → k < w → entry (row_of r w y) k ≡ value r w k y
  row-value k l = get_or-take (y * w + w - y * w) (drop (y * w) r) k nan (omega arith) ∙ get_or-drop (y * w) r k nan

module _ (s : Scan) (resp : List Float) (y : ℕ) (fits : y * s.w + s.w ≤ length resp) where
  abbrev row : List Float
  row = row_of resp s.w y

  -- the window of radius r has it
  beats : (r k i : ℕ) → k - r ≤ i → i < k + r + 1 → k < s.w → i < s.w → lt (entry row k) (entry row i) ≡ true
      → beaten (value resp s.w) r (place k y) ≡ true
  unfolding beaten
  beats r k i a b u v e =
      any_in _ _ _ _ _ i y a b (omega arith) (omega arith) (rw (row-value resp s.w y fits k u, row-value resp s.w y fits i v) at e)

  -- not above the floor, or less than a neighbour that the window has
  passed_out : (image : List ℕ) (k : ℕ) → 0 < k → k + 1 < s.w
      → (over s.floor row k ≡ false) ⊎ ((0 < s.params.nms_radius) × (crest s.floor row k ≡ false)) → rank (verdict_in s resp image (place k y)) ≤ 1
  passed_out image k h l c = elim c [
    | inl z ↦ low z
    | inr z ↦ elim (fails (over s.floor row k) (lt (entry row k) (entry row (k - 1))) (lt (entry row k) (entry row (k + 1))) z.1) [
      | inl t ↦ low t
      | inr t ↦ beaten_out s.params s.floor (value resp s.w) (pixel image s.w) (place k y) (elim t [
        | inl u ↦ beats s.params.nms_radius k (k - 1) (omega (arith, z.0)) (omega arith) (omega arith) (omega arith) u
        | inr u ↦ beats s.params.nms_radius k (k + 1) (omega arith) (omega (arith, z.0)) (omega arith) l u
      ])
    ]
  ]
    where
      low : over s.floor row k ≡ false → rank (verdict_in s resp image (place k y)) ≤ 1
      low t =
          low_out s.params s.floor (value resp s.w) (pixel image s.w) (place k y)
          (rw (row-value resp s.w y fits k (omega arith)) at t)

  -- how many it has above the floor from a to below i
  above_in_lem : (a i : ℕ) → i ≤ s.w → above_from s.floor row a i ≡ count (above_in s resp) (line a i y)
  above_in_lem a i l =
      count_range_ext _ _ a i (λ k _ b. ap (lt s.floor) (row-value resp s.w y fits k (omega arith))) ∙ sym (count-columns (above_in s resp) a i y)

  pub next_is : {a e i n : ℕ} {t u : Verdicts} → 1 ≤ a → a ≤ e → e < s.w → Sought s.params.nms_radius s.floor row a e i n
      → u ≡ plus t Beaten n → NextInRow s resp y a e i t u
  next_is {a} {i = i} {t = t} b h l q e =
      let found = sought_plain b h (omega (arith, row-length resp s.w y fits)) q in
      let n = found.0 in
      record {
        least = n.least;
        most = n.most;
        none = λ image k u v. passed_out image k (omega arith) (omega arith) (not_worth s.params.nms_radius s.floor row k (n.none k u v));
        tally = e ∙ ap (plus t Beaten) (found.1 ∙ above_in_lem a i (omega (arith, n.most)));
      }

  -- no more than the row has
  pub next_few : {a e i n : ℕ} → 1 ≤ a → a ≤ e → e < s.w → Sought s.params.nms_radius s.floor row a e i n → n ≤ s.w
  next_few {a} {i = i} b h l q =
      let found = sought_plain b h (omega (arith, row-length resp s.w y fits)) q in
      omega (arith, found.1, found.0.most, count_range_most (over s.floor row) a i)

-- none before the end is the end
pub end_or : (i e : ℕ) → i ≤ e → unwrap_or (then_some (ltb i e) i) e ≡ i
end_or i e l = go (ltb i e) refl
  where
    go : (b : Bool) → ltb i e ≡ b → unwrap_or (then_some b i) e ≡ i
    go true u = refl
    go false u = let m : e ≤ i = ltb-false i e u in omega arith

-- a row of a map that is scanned lies in its buffer
pub row-fits : {s : Scan} {y resp image : ℕ} → Judging s resp image → y < s.h → y * s.w + s.w ≤ resp
row-fits {s = s} j l = omega (arith, j.asked.response, row_in s.w l)

-- two stretches, one after the other
onward-on : {A B : Type 0} {k : ℕ} {f : A → List B} {p : A → Bool} {mid out new : List B} {m n r : ℕ} {l₀ l l' : List A}
    → Onward k f p mid m l₀ out n l → Onward k f p out n l new r l' → Onward k f p mid m l₀ new r l'
onward-on a b = record { on = λ old h. b.on old (a.on old h); same = b.same ∙ a.same }

-- ---- a stretch of row y that is passed over: what it adds to the tally

module _ (s : Scan) (resp : List Float) (image : List ℕ) (x i y : ℕ)
    (early : (k : ℕ) → x ≤ k → k < i → rank (verdict_in s resp image (place k y)) ≤ 1) where
  -- those above the floor have passed one test
  passed_one_test : count (above_in s resp) (line x i y) ≡ count (ranked s resp image 1) (line x i y)
  unfolding count
  passed_one_test =
      ap length (keep_line_ext (above_in s resp) (ranked s resp image 1) x i y (λ k a b. sym (one-above _ _ (early k a b)
      (not_above_is s.params s.floor (value resp s.w) (pixel image s.w) (place k y)))))

  -- and none has passed more
  passed_no_more : (j : ℕ) → 2 ≤ j → count (ranked s resp image j) (line x i y) ≡ 0
  passed_no_more j l =
      count-columns (ranked s resp image j) x i y
      ∙ sym (count_range_none _ x i (λ k a b. ne_eqb _ j (λ e. absurd (omega (arith, early k a b)))))

-- ---- the scan at x of row y: `mid` and t are the list and the tally with which the row began

-- what has become of them over the places l
abbrev Onwards : Scan → List Float → List ℕ → ℕ → List Float → Verdicts → List Float → Verdicts → List Place → Type 0
Onwards s resp image y mid t out u l =
    Onward stride (numbers_in s resp) (kept_in s resp image) mid t.kept (rows_above s y) out u.kept l × Tallied s resp image t (rows_above s y) u l

pub record Scanned (s : Scan) (resp : List Float) (image : List ℕ) (y : ℕ) (mid : List Float) (t : Verdicts) (out : List Float) (u : Verdicts) (x : ℕ) : Type 0 where
  pub across : Across (Onwards s resp image y mid t out u) (border_in s) (s.w - border_in s) (border_in s) (s.h - border_in s) y x
  pub tally : Tally u (8192 * y + x)

module _ {s : Scan} {resp : List Float} {image : List ℕ} {y : ℕ} {t₀ : Verdicts} (f : Finding s y t₀ (length resp) (length image))
    {b : ℕ} (border : b ≡ border_in s) where
  pub scan_none : {mid : List Float} → Scanned s resp image y mid t₀ mid t₀ b
  scan_none =
      let inner = f.judging.asked.wider in
      rw border (record {
        across = across_none _ _ _ _ _ y (omega arith) f.above (omega arith) (onward-none _ _ _ _ _ _, record { on = λ k _ e. e });
        tally = wider t₀ f.tally (omega arith);
      })

  module _ {mid : List Float} {t : Verdicts} {out : List Float} {u : Verdicts} {x : ℕ} (c : Scanned s resp image y mid t out u x) where
    -- the search goes on to i
    pub scan_on : {i : ℕ} {v : Verdicts} → NextInRow s resp y x (s.w - b) i u v → Scanned s resp image y mid t out v i
    scan_on {i} {v} n =
        let o : x + (i - x) ≡ i = omega arith in
        let B = border_in s in
        let m = count (above_in s resp) (line x i y) in
        let few : m ≤ i - x = omega (arith, count_most (above_in s resp) (line x i y), length-line x i y) in
        let early : (k : ℕ) → x ≤ k → k < i → rank (verdict_in s resp image (place k y)) ≤ 1 = n.none image in
        let listed : Across (Onward stride (numbers_in s resp) (kept_in s resp image) mid t.kept (rows_above s y) out u.kept) B _ B _ y x = record {
          least = c.across.least;
          most = c.across.most;
          low = c.across.low;
          high = c.across.high;
          holds = c.across.holds.0;
        } in
        let there = rw o at (across_skip _ _ _ _ _ (i - x) listed (omega arith)
        (λ k a e p. onward_no _ _ _ _ _ _ _ _ p (early_dropped (verdict_in s resp image (place k y)) (early k a (omega arith))))) in
        record {
          across = record {
            least = there.least;
            most = there.most;
            low = there.low;
            high = there.high;
            holds = rw n.tally (
              rw (add-zero u.kept) there.holds,
              record {
                on = λ j g h. rw (before_on B (s.w - B) B x i y c.across.least n.least)
                    (counts_passed (verdict_in s resp image) j u _ (line x i y) g (passed_one_test s resp image x i y early)
                    (passed_no_more s resp image x i y early (rank j)) (c.across.holds.1.on j g h));
              },
            );
          };
          tally = rw n.tally (wider _ (tally-plus u Beaten m c.tally) (omega arith));
        }

    -- the tally is small enough for the machine
    pub small : Tally u (8192 * 8192)
    small =
        let a = f.judging.asked in
        wider u c.tally (omega (arith, a.wide, a.high, f.below, c.across.most))

    pub candidate : x < s.w - b → Candidate s x y (length resp) (length image) × Tally u (8192 * 8192)
    candidate l = (
      record { judging = f.judging; left = c.across.least; right = omega arith; above = f.above; below = f.below; row = f.row },
      small,
    )

    -- it is judged
    pub scan_turn : {new : List Float} {v : Verdicts} → x < s.w - b → Entered s resp image x y out u new v → Scanned s resp image y mid t new v (x + 1)
    scan_turn {v = v} l e = record {
      across = across_more _ _ _ _ _ _ c.across (omega arith) (λ p. (
        onward-on p.0 (e.onward _),
        record { on = λ k g h. rw e.tally (counts_more (verdict_in s resp image) k u _ (place x y) (p.1.on k g h)) },
      ));
      tally = rw e.tally (wider _ (tally-plus u (verdict_in s resp image (place x y)) 1 c.tally) (omega arith));
    }

    pub scan_all : s.w - b ≤ x → RowFound s resp image y mid t out u
    scan_all l =
        let rows = (down_more _ _ _ _ _ c.across (omega arith)).holds in
        record { onward = rows.0; tallied = rows.1; tally = wider u c.tally (omega (arith, c.across.most, f.judging.asked.wide)) }

-- ---- what the scan goes by

maximum-is : (r : List Float) (w h : ℕ) → w * h ≤ length r → greatest_of (take (w * h) r) ≡ maximum w h (value r w)
unfolding maximum plane
maximum-is r w h l =
    let n : length (take (w * h) r) ≡ w * h = length-take-le (w * h) r l in
    rw n (fold_ext greater f0 _ _ (w * h) (λ k b. get_or-take (w * h) r k nan b ∙ ap (λ (i : ℕ). get_or r i nan) (sym (div-add-mod' k w))))

pub floor-is : (s : RadonDetectorParams) (r : List Float) (w h : ℕ) {m : Float} → w * h ≤ length r → m ≡ greatest_of (take (w * h) r)
    → mul binary32 s.threshold_rel m ≡ floor_of s w h (value r w)
unfolding floor_of
floor-is s r w h l e = ap (mul binary32 s.threshold_rel) (e ∙ maximum-is r w h l)

pub scan_is : (s : RadonDetectorParams) (r : List Float) (w h : ℕ) {m : Float} {k : ℕ} {t : SaddleTest}
    → w * h ≤ length r → m ≡ greatest_of (take (w * h) r)
    → s.ray_radius ≤ 7 → k ≡ ray_of s.ray_radius → t ≡ saddle_numbers k
    → ◌≡◌ {A = Scan} (record { w = w; h = h; params = s; test = t; floor = mul binary32 s.threshold_rel m }) (scan_of s w h r)
scan_is s r w h l e b k t = rw (t, k, numbers_plain (ray_of s.ray_radius) (omega arith) (omega arith), floor-is s r w h l e)

pub judging : (s : RadonDetectorParams) (w h : ℕ) (resp : List Float) (image : List ℕ) {c : Scan}
    → c ≡ scan_of s w h resp → Asked s w h (length resp) (length image)
    → Judging c (length resp) (length image) × (c.floor ≡ floor_in c resp)
judging s w h resp image e a = rw e (record { asked = a; test = refl }, refl)
