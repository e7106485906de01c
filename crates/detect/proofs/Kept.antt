-- Facts of the list that a plain reading of the rules gives: the count is the number of candidates that are kept, equal plateau maxima are all kept,
-- and the floor finds what the source's floor finds. Assumes nothing.
use mathlib.Core.Path.{◌≡◌, refl, sym, ap}
use mathlib.Core.Bool.{true, false}
use Prim.Native.Nat.{ℕ, ◌+◌, ◌-◌, ◌*◌, ◌/◌, ◌%◌, ◌≤◌, ◌<◌}
use borrow.Author.Tests.{eq-eqb}
use mathlib.Core.List.{List}
use lib.ListN.{length}
use lib.Dec.{T, leb}
use lib.Ieee.{Float, inf, lt, le}
use Rattle.float.specs.Values.{f0, f1}
use Rattle.float.proofs.Order.{lt_itself}
use Rattle.float.proofs.Product.{infinite_product, zero_product}
use Rattle.grid.specs.Fold.{fold}
use Rattle.grid.proofs.Fold.{fold_keeps}
use Rattle.grid.specs.Plane.{plane}
use Rattle.grid.specs.Each.{count}
use Rattle.grid.proofs.Each.{keep_ext}
use Rattle.grid.specs.Rect.{Place, place}
use Rattle.grid.proofs.Rect.{any_rect_none}
use Rattle.params.specs.declared.settings.RadonDetectorParams.{RadonDetectorParams}
use Rattle.params.specs.Settings.{border_of}
use Rattle.params.specs.Answers.{number_of}
use Rattle.saddle.specs.declared.Saddle.TheVariants.{Yes}
use Rattle.verdict.specs.declared.Verdict.TheVariants.{NotAbove, Kept}
use Rattle.crests.specs.Maximum.{greater, maximum}
use Rattle.verdict.specs.Window.{at, beaten, positives}
use Rattle.detect.specs.Corners.{candidates, floor_of, corners, having, verdicts_of}
use Rattle.verdict.specs.Verdict.{is_saddle, is_kept, verdict}
use Rattle.detect.specs.Detected.{refusal_for, peaks_outcome}
use Rattle.grid.specs.Ways.{pixel, value}
use Rattle.crests.proofs.Greatest.{greatest_nonneg}
use Rattle.detect.proofs.Tally.{kept_last}

-- ---- the count

pub count-is_kept : (s : RadonDetectorParams) (w h : ℕ) (resp : List Float) (image : List ℕ) (len : ℕ) → number_of (refusal_for s w h resp image) ≡ 0
    → (peaks_outcome s w h resp image len).count
    ≡ count (λ p. is_kept (verdict s (floor_of s w h (value resp w)) (value resp w) (pixel image w) p)) (candidates w h (border_of s))
unfolding peaks_outcome count corners
count-is_kept s w h resp image len e = rw (eq-eqb _ 0 e)

-- "kept" is the count of the corners
pub kept_is_found : (s : RadonDetectorParams) (w h : ℕ) (f : ℕ → ℕ → Float) (g : ℕ → ℕ → ℕ) → (verdicts_of s w h f g).kept ≡ length (corners s w h f g)
unfolding verdicts_of having corners count
kept_is_found s w h f g = ap length (keep_ext _ _ (λ p. sym (kept_last (verdict s (floor_of s w h f) f g p))) (candidates w h (border_of s)))

-- ---- a plateau

-- where no value of the window is greater, none beats the candidate: equal ones least of all
pub level : (f : ℕ → ℕ → Float) (r x y : ℕ)
    → ((u v : ℕ) → x - r ≤ u → u < x + r + 1 → y - r ≤ v → v < y + r + 1 → lt (f x y) (f u v) ≡ false) → beaten f r (place x y) ≡ false
unfolding beaten
level f r x y h = any_rect_none _ (x - r) (x + r + 1) (y - r) (y + r + 1) h

pub equal : (f : ℕ → ℕ → Float) (x y u v : ℕ) → f u v ≡ f x y → lt (f x y) (f u v) ≡ false
equal f x y u v e = rw e (lt_itself (f x y))

-- so each candidate of a plateau is kept, if the other rules pass it
pub plateau : (s : RadonDetectorParams) (floor : Float) (f : ℕ → ℕ → Float) (g : ℕ → ℕ → ℕ) (x y : ℕ) → lt floor (f x y) ≡ true
    → ((u v : ℕ) → x - s.nms_radius ≤ u → u < x + s.nms_radius + 1 → y - s.nms_radius ≤ v → v < y + s.nms_radius + 1 → f u v ≡ f x y)
    → leb s.min_cluster_size (positives f s.nms_radius (place x y)) ≡ true → is_saddle s g (place x y) ≡ Yes
    → verdict s floor f g (place x y) ≡ Kept
unfolding verdict
plateau s floor f g x y a h n t = rw (a, level f s.nms_radius x y (λ u v b c d e. equal f x y u v (h u v b c d e)), n, t)

-- ---- the maximum and the floor

pub maximum_nonneg : (w h : ℕ) (f : ℕ → ℕ → Float) → T (le f0 (maximum w h f))
unfolding maximum
maximum_nonneg w h f = greatest_nonneg (plane w f) (w * h)

-- An infinite maximum, at which the source returns nothing: no candidate is above the floor.
pub infinite-none : (s : RadonDetectorParams) (w h : ℕ) (f : ℕ → ℕ → Float) (g : ℕ → ℕ → ℕ) (p : Place)
    → T (le f0 s.threshold_rel) → maximum w h f ≡ inf false
    → verdict s (floor_of s w h f) f g p ≡ NotAbove
unfolding verdict floor_of
infinite-none s w h f g p a e = rw (e, infinite_product s.threshold_rel (at f p) a)

-- No value above 0: the maximum is 0 here and at most 0 in the source, whose floor is then 0. No candidate is above either.
pub flat-none : (s : RadonDetectorParams) (w h : ℕ) (f : ℕ → ℕ → Float) (g : ℕ → ℕ → ℕ) (p : Place)
    → T (le f0 s.threshold_rel) → T (le s.threshold_rel f1)
    → ((x y : ℕ) → lt f0 (f x y) ≡ false) → verdict s (floor_of s w h f) f g p ≡ NotAbove
unfolding verdict floor_of maximum plane
flat-none s w h f g p a b e =
    let z : fold greater f0 (plane w f) (w * h) ≡ f0 =
    fold_keeps greater f0 (λ n m. m ≡ f0) (plane w f) refl (λ n m q. rw (q, e (n % w) (n / w))) (w * h) in
    rw (z, zero_product s.threshold_rel (at f p) a b (e p.x p.y))
