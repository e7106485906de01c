-- Document 01, "Rules of the list": the verdict on a candidate.
-- A map f and an image g are functions: f x y and g x y are what column x of row y has.
use Rattle.std.specs.Prelude.{Bool, true, false, not, ℕ, leb, eqb, Float}
use Rattle.std.specs.Float.Ieee.{lt}
use Rattle.grid.specs.Rect.{Place}
use Rattle.params.specs.declared.settings.RadonDetectorParams.{RadonDetectorParams}
use Rattle.params.specs.Settings.{ray_of}
use Rattle.saddle.specs.declared.Saddle.{Saddle}
use Rattle.saddle.specs.declared.Saddle.TheVariants.{Yes, Flat, Curved}
use Rattle.saddle.specs.Saddle.{saddle_of, saddle_at}
use Rattle.verdict.specs.declared.Verdict.{Verdict}
use Rattle.verdict.specs.declared.Verdict.TheVariants.{NotAbove, Beaten, TooFew, TooFlat, WrongCurvature, Kept}
use Rattle.verdict.specs.Window.{at, beaten, positives}

-- ---- the verdict: the first rule that fails, or kept

abbrev pub by_saddle : Saddle → Verdict
by_saddle Yes = Kept
by_saddle Flat = TooFlat
by_saddle Curved = WrongCurvature

-- "its value is above the floor, no value in its square suppression window is greater, the positive values there .. reach the least count,
-- and the saddle test says yes"
abbrev pub first_failing : Bool → Bool → Bool → Saddle → Verdict
first_failing false greatest enough t = NotAbove
first_failing true false enough t = Beaten
first_failing true true false t = TooFew
first_failing true true true t = by_saddle t

abbrev pub is_saddle : RadonDetectorParams → (ℕ → ℕ → ℕ) → Place → Saddle
is_saddle s g p = saddle_at (saddle_of (ray_of s.ray_radius)) (ray_of s.ray_radius) g p.x p.y

unfoldable pub verdict : RadonDetectorParams → Float → (ℕ → ℕ → Float) → (ℕ → ℕ → ℕ) → Place → Verdict
verdict s floor f g p =
    first_failing (lt floor (at f p)) (not (beaten f s.nms_radius p)) (leb s.min_cluster_size (positives f s.nms_radius p))
    (is_saddle s g p)

abbrev pub is_kept : Verdict → Bool
is_kept NotAbove = false
is_kept Beaten = false
is_kept TooFew = false
is_kept TooFlat = false
is_kept WrongCurvature = false
is_kept Kept = true

-- how many of the five tests are passed before one fails: above, not beaten, enough, not flat, curved both ways. It numbers the verdicts in
-- document 02's order
abbrev pub rank : Verdict → ℕ
rank NotAbove = 0
rank Beaten = 1
rank TooFew = 2
rank TooFlat = 3
rank WrongCurvature = 4
rank Kept = 5

-- whether two verdicts are the same
abbrev pub same_verdict : Verdict → Verdict → Bool
same_verdict v u = eqb (rank v) (rank u)
