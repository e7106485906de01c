-- Document 01, "Rules of the list": the candidates, the floor, the corners in row order, and the numbers of each.
-- A map f and an image g are functions: f x y and g x y are what column x of row y has.
use Rattle.std.specs.Prelude.{ℕ, ◌+◌, ◌-◌, List, [], ◌∷◌, pos, Float}
use Rattle.std.specs.Float.{binary32}
use Rattle.std.specs.Float.Ieee.{add, mul, of_int}
use Rattle.grid.specs.Each.{keep, count}
use Rattle.grid.specs.Rect.{Place, rect}
use Rattle.params.specs.declared.answers.Verdicts.{Verdicts}
use Rattle.params.specs.declared.settings.RadonDetectorParams.{RadonDetectorParams}
use Rattle.params.specs.Settings.{border_of}
use Rattle.params.specs.Coordinates.{to_input}
use Rattle.peak_fit.specs.PeakFit.{fit_of}
use Rattle.verdict.specs.Window.{at}
use Rattle.verdict.specs.declared.Verdict.{Verdict}
use Rattle.verdict.specs.declared.Verdict.TheVariants.{NotAbove, Beaten, TooFew, TooFlat, WrongCurvature, Kept}
use Rattle.verdict.specs.Verdict.{is_kept, same_verdict, verdict}
use Rattle.crests.specs.Maximum.{maximum}

-- ---- "Candidates inside go in row order": at least b from every edge. The border is `border_of` of params/Settings; frames with none inside are refused, 15

abbrev pub candidates : ℕ → ℕ → ℕ → List Place
candidates w h b = rect b (w - b) b (h - b)

-- ---- "the floor (fraction times the map's maximum, one product)"

unfoldable pub floor_of : RadonDetectorParams → ℕ → ℕ → (ℕ → ℕ → Float) → Float
floor_of s w h f = mul binary32 s.threshold_rel (maximum w h f)

-- ---- the corners

-- the corners: the candidates that are kept, in row order
unfoldable pub corners : RadonDetectorParams → ℕ → ℕ → (ℕ → ℕ → Float) → (ℕ → ℕ → ℕ) → List Place
corners s w h f g = keep (λ p. is_kept (verdict s (floor_of s w h f) f g p)) (candidates w h (border_of s))

-- ---- why a candidate was dropped: document 02, ticket 6

-- "the number of candidates for which that is the first failing rule", or that are kept
unfoldable pub having : RadonDetectorParams → ℕ → ℕ → (ℕ → ℕ → Float) → (ℕ → ℕ → ℕ) → Verdict → ℕ
having s w h f g v = count (λ p. same_verdict (verdict s (floor_of s w h f) f g p) v) (candidates w h (border_of s))

-- "six counts over the candidates: not above the floor, beaten by a neighbour, too few positive neighbours, too flat, wrong curvature, kept"
unfoldable pub verdicts_of : RadonDetectorParams → ℕ → ℕ → (ℕ → ℕ → Float) → (ℕ → ℕ → ℕ) → Verdicts
verdicts_of s w h f g = record {
  not_above = having s w h f g NotAbove;
  beaten = having s w h f g Beaten;
  too_few = having s w h f g TooFew;
  too_flat = having s w h f g TooFlat;
  wrong_curvature = having s w h f g WrongCurvature;
  kept = having s w h f g Kept;
}

-- ---- the numbers of a corner

-- "The list takes three f32 a corner: x, y, strength"
abbrev pub stride : ℕ
stride = 3

-- "Peak fit: as `fit_peak_frac`, per axis"
abbrev pub offsetX : RadonDetectorParams → (ℕ → ℕ → Float) → Place → Float
offsetX s f p = fit_of s.peak_fit (f (p.x - 1) p.y) (f p.x p.y) (f (p.x + 1) p.y)

abbrev pub offsetY : RadonDetectorParams → (ℕ → ℕ → Float) → Place → Float
offsetY s f p = fit_of s.peak_fit (f p.x (p.y - 1)) (f p.x p.y) (f p.x (p.y + 1))

-- "Place is (pixel + offset) times 1 or 0.5"
unfoldable pub input_at : ℕ → ℕ → Float → Float
input_at up c offset = (to_input (record { 0 = add binary32 (of_int binary32 (pos c)) offset }) up).0

-- x, y, and "strength is the map value"
unfoldable pub numbers : RadonDetectorParams → (ℕ → ℕ → Float) → Place → List Float
numbers s f p = input_at s.image_upsample p.x (offsetX s f p) ∷ input_at s.image_upsample p.y (offsetY s f p) ∷ at f p ∷ []
