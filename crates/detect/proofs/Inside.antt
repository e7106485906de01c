-- The list depends only on what map and image have inside W by H: two maps and two images that agree there have the same corners with the
-- same numbers, and the same counts by verdict. Assumes nothing.
use mathlib.Core.Path.{◌≡◌, ap, ◌∙◌}
use mathlib.Core.Bool.{Bool, not, ◌&&◌}
use mathlib.Core.List.{List}
use Prim.Native.Nat.{ℕ, ◌+◌, ◌-◌, ◌*◌, ◌/◌, ◌≤◌, ◌<◌}
use native.Mathlib.Omega.{arith}
use lib.ListN.{length, take}
use lib.Dec.{leb}
use lib.Ieee.{Float, binary32, lt, mul}
use Rattle.float.specs.Values.{f0}
use Rattle.grid.proofs.Fold.{fold_ext}
use Rattle.grid.specs.Plane.{plane}
use Rattle.grid.proofs.Plane.{column_in, row-number_in}
use Rattle.grid.specs.Each.{each, keep, count}
use Rattle.grid.specs.Rect.{Place, place}
use Rattle.grid.specs.Ways.{Inside as Clear}
use Rattle.grid.specs.Over.{over, written}
use Rattle.grid.proofs.All.{All, all_map, all_keep, all_take, all_rect, Between, InRect, each_same, keep_same, any_same}
use Rattle.params.specs.declared.settings.RadonDetectorParams.{RadonDetectorParams}
use Rattle.params.specs.Settings.{ray_of, border_of}
use Rattle.saddle.specs.Saddle.{saddle_of}
use Rattle.saddle.proofs.Inside.{saddle_same}
use Rattle.crests.specs.Maximum.{greater, maximum}
use Rattle.verdict.specs.Window.{at, window, same, beaten, positives}
use Rattle.verdict.specs.declared.Verdict.{Verdict}
use Rattle.verdict.specs.declared.Verdict.TheVariants.{NotAbove, Beaten, TooFew, TooFlat, WrongCurvature, Kept}
use Rattle.verdict.specs.Verdict.{first_failing, is_kept, same_verdict, verdict}
use Rattle.detect.specs.Corners.{candidates, floor_of, corners, having, verdicts_of, numbers, stride}

-- ---- the window

module _ (f g : ℕ → ℕ → Float) (w h r x y : ℕ) (m : Clear w h r x y) (e : (x y : ℕ) → x < w → y < h → f x y ≡ g x y) where
  here : f x y ≡ g x y
  here = e x y (omega arith) (omega arith)

  -- the places of the window, with what the two have there
  abbrev Alike : Place → Type 0
  Alike q = at f q ≡ at g q

  window_same : All Alike (window r (place x y))
  window_same =
      all_map (InRect (x - r) (x + r + 1) (y - r) (y + r + 1)) Alike (λ q b. e q.x q.y (omega arith) (omega arith)) (window r (place x y))
      (all_rect (x - r) (x + r + 1) (y - r) (y + r + 1))

  beaten-same : beaten f r (place x y) ≡ beaten g r (place x y)
  unfolding beaten
  beaten-same =
      any_same _ _ _
      (all_map Alike (λ q. lt (f x y) (at f q) ≡ lt (g x y) (at g q)) (λ q b. λ i. lt (here i) (b i)) (window r (place x y)) window_same)

  -- a value v at q counts as a positive neighbour
  abbrev counts : Place → Float → Bool
  counts q v = lt f0 v && not (same q (place x y))

  positives-same : positives f r (place x y) ≡ positives g r (place x y)
  unfolding positives count
  positives-same =
      ap length
      (keep_same _ _ _
      (all_map Alike (λ q. counts q (at f q) ≡ counts q (at g q)) (λ q b. ap (counts q) b) (window r (place x y)) window_same))

-- ---- the list

module _ (s : RadonDetectorParams) (w h : ℕ) (f g : ℕ → ℕ → Float) (a b : ℕ → ℕ → ℕ)
    (e : (x y : ℕ) → x < w → y < h → f x y ≡ g x y) (d : (x y : ℕ) → x < w → y < h → a x y ≡ b x y) where
  pub maximum-same : maximum w h f ≡ maximum w h g
  unfolding maximum plane
  maximum-same = fold_ext greater f0 _ _ (w * h) (λ i l. e _ _ (column_in w h l) (row-number_in w h l))

  pub floor-same : floor_of s w h f ≡ floor_of s w h g
  unfolding floor_of
  floor-same = ap (mul binary32 s.threshold_rel) maximum-same

  -- a candidate is clear of the edges by the suppression radius, by the ray radius and by one
  verdict-same : (floor : Float) (x y : ℕ) → Clear w h s.nms_radius x y → Clear w h (ray_of s.ray_radius) x y
      → verdict s floor f a (place x y) ≡ verdict s floor g b (place x y)
  unfolding verdict
  verdict-same floor x y m n = λ i.
      first_failing (lt floor (here f g w h s.nms_radius x y m e i)) (not (beaten-same f g w h s.nms_radius x y m e i))
      (leb s.min_cluster_size (positives-same f g w h s.nms_radius x y m e i))
      (saddle_same (saddle_of (ray_of s.ray_radius)) (ray_of s.ray_radius) a b w h x y n d i)

  -- the candidates are in the map, with a place to each side
  abbrev Candidate : Place → Type 0
  Candidate p = Between (border_of s) (w - border_of s) p.x × Between (border_of s) (h - border_of s) p.y

  clear : (k : ℕ) → k ≤ ray_of s.ray_radius + s.nms_radius → (p : Place) → Candidate p → Clear w h k p.x p.y
  clear k l p c = record { left = omega arith; right = omega arith; above = omega arith; below = omega arith }

  -- the candidates whose verdict is one of those that t takes
  picked_same : (t : Verdict → Bool) → keep (λ p. t (verdict s (floor_of s w h f) f a p)) (candidates w h (border_of s))
      ≡ keep (λ p. t (verdict s (floor_of s w h g) g b p)) (candidates w h (border_of s))
  picked_same t =
      ap (λ floor. keep (λ p. t (verdict s floor f a p)) (candidates w h (border_of s))) floor-same
      ∙ keep_same _ _ (candidates w h (border_of s))
      (all_map Candidate (λ p. t (verdict s (floor_of s w h g) f a p) ≡ t (verdict s (floor_of s w h g) g b p))
      (λ p c. ap t (verdict-same (floor_of s w h g) p.x p.y
      (clear s.nms_radius (omega arith) p c) (clear (ray_of s.ray_radius) (omega arith) p c)))
      (candidates w h (border_of s))
      (all_rect (border_of s) (w - border_of s) (border_of s) (h - border_of s)))

  pub corners-same : corners s w h f a ≡ corners s w h g b
  unfolding corners
  corners-same = picked_same is_kept

  pub having-same : (v : Verdict) → having s w h f a v ≡ having s w h g b v
  unfolding having count
  having-same v = ap length (picked_same (λ u. same_verdict u v))

  pub verdicts-same : verdicts_of s w h f a ≡ verdicts_of s w h g b
  unfolding verdicts_of
  verdicts-same = λ i. record {
    not_above = having-same NotAbove i;
    beaten = having-same Beaten i;
    too_few = having-same TooFew i;
    too_flat = having-same TooFlat i;
    wrong_curvature = having-same WrongCurvature i;
    kept = having-same Kept i;
  }

  numbers-at : (p : Place) → Candidate p → numbers s f p ≡ numbers s g p
  unfolding numbers
  numbers-at p c =
      let u : (x y : ℕ) → x < w → y < h → f x y ≡ g x y = e in
      rw (
        u p.x p.y (omega arith) (omega arith),
        u (p.x - 1) p.y (omega arith) (omega arith),
        u (p.x + 1) p.y (omega arith) (omega arith),
        u p.x (p.y - 1) (omega arith) (omega arith),
        u p.x (p.y + 1) (omega arith) (omega arith),
      )

  all_candidates : All Candidate (corners s w h g b)
  unfolding corners
  all_candidates = all_keep Candidate _ _ (all_rect (border_of s) (w - border_of s) (border_of s) (h - border_of s))

  -- and so the lists that are written
  pub list_same : (old : List Float) → written stride (numbers s f) (corners s w h f a) old ≡ written stride (numbers s g) (corners s w h g b) old
  unfolding written
  list_same old =
      let n = length old / stride in
      let l = corners s w h g b in
      ap (λ l. over (each (numbers s f) (take n l)) old) corners-same
      ∙ ap (λ v. over v old) (each_same (numbers s f) (numbers s g) (take n l)
      (all_map Candidate (λ p. numbers s f p ≡ numbers s g p) numbers-at (take n l) (all_take Candidate n l all_candidates)))
