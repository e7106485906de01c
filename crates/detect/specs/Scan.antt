-- What the scan's private functions ask and hand each other.
use Rattle.std.specs.Prelude.{◌≡◌, Bool, cond, ℕ, ◌+◌, ◌-◌, ◌*◌, ◌≤◌, ◌<◌, List, [], ◌∷◌, ◌++◌, length, eqb, Float}
use Rattle.std.specs.Float.Ieee.{lt}
use Rattle.grid.specs.Each.{count}
use Rattle.grid.specs.Rect.{Place, place, rect, line}
use Rattle.grid.specs.Ways.{pixel, value}
use Rattle.grid.specs.Over.{written, Onward}
use Rattle.params.specs.declared.answers.Verdicts.{Verdicts}
use Rattle.params.specs.declared.settings.RadonDetectorParams.{RadonDetectorParams}
use Rattle.params.specs.Settings.{ray_of, border_of}
use Rattle.verdict.specs.declared.Verdict.{Verdict}
use Rattle.verdict.specs.declared.Verdict.TheVariants.{NotAbove, Beaten, TooFew, TooFlat, WrongCurvature, Kept}
use Rattle.verdict.specs.declared.Scan.{Scan}
use Rattle.saddle.specs.Saddle.{saddle_of}
use Rattle.peak_fit.specs.PeakFit.{fit_of}
use Rattle.crests.specs.Maximum.{entry}
use Rattle.verdict.specs.Window.{at}
use Rattle.verdict.specs.Verdict.{is_kept, rank, same_verdict, verdict}
use Rattle.detect.specs.Corners.{floor_of, corners, verdicts_of, stride, input_at, numbers}

-- ---- what a scan goes by, and what that says of a place over the map and the image in two buffers

abbrev pub scan_of : RadonDetectorParams → ℕ → ℕ → List Float → Scan
scan_of s w h resp = record {
  w = w;
  h = h;
  params = s;
  test = saddle_of (ray_of s.ray_radius);
  floor = floor_of s w h (value resp w);
}

abbrev pub floor_in : Scan → List Float → Float
floor_in c resp = floor_of c.params c.w c.h (value resp c.w)

abbrev pub verdict_in : Scan → List Float → List ℕ → Place → Verdict
verdict_in c resp image p = verdict c.params c.floor (value resp c.w) (pixel image c.w) p

abbrev pub kept_in : Scan → List Float → List ℕ → Place → Bool
kept_in c resp image p = is_kept (verdict_in c resp image p)

-- whether it has passed just k of the five tests
abbrev pub ranked : Scan → List Float → List ℕ → ℕ → Place → Bool
ranked c resp image k p = eqb (rank (verdict_in c resp image p)) k

-- whether it is above the floor
abbrev pub above_in : Scan → List Float → Place → Bool
above_in c resp p = lt c.floor (at (value resp c.w) p)

abbrev pub numbers_in : Scan → List Float → Place → List Float
numbers_in c resp p = numbers c.params (value resp c.w) p

-- along one axis, the place of a peak of value v at entry c and pixel `p`, from the entries `step` before and after
abbrev pub fitted_at : RadonDetectorParams → List Float → ℕ → ℕ → Float → ℕ → Float
fitted_at s resp c step v p = input_at s.image_upsample p (fit_of s.peak_fit (entry resp (c - step)) v (entry resp (c + step)))

-- the corners of the map and the image, and the counts by verdict
abbrev pub verdicts_in : Scan → List Float → List ℕ → Verdicts
verdicts_in c resp image = verdicts_of c.params c.w c.h (value resp c.w) (pixel image c.w)

abbrev pub corners_in : Scan → List Float → List ℕ → List Place
corners_in c resp image = corners c.params c.w c.h (value resp c.w) (pixel image c.w)

abbrev pub border_in : Scan → ℕ
border_in c = border_of c.params

-- the candidates of the rows above y
abbrev pub rows_above : Scan → ℕ → List Place
rows_above c y = rect (border_in c) (c.w - border_in c) (border_in c) y

-- ---- the tally: how many candidates have each verdict, but for those that are not above the floor: nothing is said of their count, which is not read

-- no count above a bound
pub record Tally (t : Verdicts) (most : ℕ) : Type 0 where
  pub not_above : t.not_above ≤ most
  pub beaten : t.beaten ≤ most
  pub too_few : t.too_few ≤ most
  pub too_flat : t.too_flat ≤ most
  pub wrong_curvature : t.wrong_curvature ≤ most
  pub kept : t.kept ≤ most

-- how many have the verdict
abbrev pub count_of : Verdict → Verdicts → ℕ
count_of NotAbove t = t.not_above
count_of Beaten t = t.beaten
count_of TooFew t = t.too_few
count_of TooFlat t = t.too_flat
count_of WrongCurvature t = t.wrong_curvature
count_of Kept t = t.kept

-- n more that have the verdict v: what they add to the count of u
abbrev pub more : Verdict → Verdict → ℕ → ℕ
more v u n = cond (same_verdict v u) n 0

abbrev pub plus : Verdicts → Verdict → ℕ → Verdicts
plus t v n = record {
  not_above = t.not_above + more v NotAbove n;
  beaten = t.beaten + more v Beaten n;
  too_few = t.too_few + more v TooFew n;
  too_flat = t.too_flat + more v TooFlat n;
  wrong_curvature = t.wrong_curvature + more v WrongCurvature n;
  kept = t.kept + more v Kept n;
}

-- from where t had counted the places l₀, u has counted the places l, by each verdict that passes a test
pub record Tallied (c : Scan) (resp : List Float) (image : List ℕ) (t : Verdicts) (l₀ : List Place) (u : Verdicts) (l : List Place) : Type 0 where
  pub on : (v : Verdict) → 1 ≤ rank v → count_of v t ≡ count (ranked c resp image (rank v)) l₀ → count_of v u ≡ count (ranked c resp image (rank v)) l

-- all that are above the floor
abbrev pub above_of : Verdicts → ℕ
above_of t = t.beaten + t.too_few + t.too_flat + t.wrong_curvature + t.kept

-- the six counts of `all` candidates
abbrev pub by_subtraction : ℕ → Verdicts → Verdicts
by_subtraction all t = record {
  not_above = all - above_of t;
  beaten = t.beaten;
  too_few = t.too_few;
  too_flat = t.too_flat;
  wrong_curvature = t.wrong_curvature;
  kept = t.kept;
}

-- ---- what is asked

-- sizes, settings and buffers that fit, with candidates inside the border
pub record Asked (s : RadonDetectorParams) (w h resp image : ℕ) : Type 0 where
  pub wide : w ≤ 8192
  pub high : h ≤ 8192
  pub ray : s.ray_radius ≤ 7
  pub suppression : s.nms_radius ≤ 32
  pub wider : 2 * border_of s < w
  pub higher : 2 * border_of s < h
  pub response : w * h ≤ resp
  pub working : w * h ≤ image

-- and the saddle numbers are those of the settings
pub record Judging (c : Scan) (resp image : ℕ) : Type 0 where
  pub asked : Asked c.params c.w c.h resp image
  pub test : c.test ≡ saddle_of (ray_of c.params.ray_radius)

-- x and y are a candidate, whose row the map has
pub record Candidate (c : Scan) (x y resp image : ℕ) : Type 0 where
  pub judging : Judging c resp image
  pub left : border_in c ≤ x
  pub right : x + border_in c < c.w
  pub above : border_in c ≤ y
  pub below : y + border_in c < c.h
  pub row : y * c.w + c.w ≤ resp

-- y is a row of candidates, with those above it tallied
pub record Finding (c : Scan) (y : ℕ) (t : Verdicts) (resp image : ℕ) : Type 0 where
  pub judging : Judging c resp image
  pub above : border_in c ≤ y
  pub below : y + border_in c < c.h
  pub row : y * c.w + c.w ≤ resp
  pub tally : Tally t (8192 * y)

-- ---- what is handed on

-- i is the next place of row y from a on, and at most e, that may pass the first two tests, whatever the image has; those before it that are above
-- the floor are tallied as beaten
pub record NextInRow (c : Scan) (resp : List Float) (y a e i : ℕ) (t u : Verdicts) : Type 0 where
  pub least : a ≤ i
  pub most : i ≤ e
  pub none : (image : List ℕ) (x : ℕ) → a ≤ x → x < i → rank (verdict_in c resp image (place x y)) ≤ 1
  pub tally : u ≡ plus t Beaten (count (above_in c resp) (line a i y))

-- with (x, y) judged and tallied, the list `mid` has become `out`, whatever the places l before were
pub record Entered (c : Scan) (resp : List Float) (image : List ℕ) (x y : ℕ) (mid : List Float) (t : Verdicts) (out : List Float) (u : Verdicts) : Type 0 where
  pub onward : (l : List Place) → Onward stride (numbers_in c resp) (kept_in c resp image) mid t.kept l out u.kept (l ++ (place x y ∷ []))
  pub tally : u ≡ plus t (verdict_in c resp image (place x y)) 1

-- with row y scanned, those of the rows above y have become those of the rows above y + 1
pub record RowFound (c : Scan) (resp : List Float) (image : List ℕ) (y : ℕ) (mid : List Float) (t : Verdicts) (out : List Float) (u : Verdicts) : Type 0 where
  pub onward : Onward stride (numbers_in c resp) (kept_in c resp image) mid t.kept (rows_above c y) out u.kept (rows_above c (y + 1))
  pub tallied : Tallied c resp image t (rows_above c y) u (rows_above c (y + 1))
  pub tally : Tally u (8192 * (y + 1))

-- all rows are scanned: r are the counts, and the list holds what fits of the corners
pub record Found (c : Scan) (resp : List Float) (image : List ℕ) (old : List Float) (r : Verdicts) (out : List Float) : Type 0 where
  pub verdicts : r ≡ verdicts_in c resp image
  pub count : r.kept ≡ length (corners_in c resp image)
  pub list : out ≡ written stride (numbers_in c resp) (corners_in c resp image) old
