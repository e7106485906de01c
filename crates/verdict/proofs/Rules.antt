-- A candidate's verdict, from what each callee ensures and what the test of it said; and the plain verdict where all fits. Assumes nothing.
use mathlib.Core.Path.{◌≡◌, refl, sym, ◌∙◌}
use mathlib.Core.Bool.{Bool, true, false, not, cond}
use Prim.Native.Nat.{ℕ, ◌≤◌, ◌<◌}
use native.Mathlib.Omega.{arith}
use borrow.Author.Tests.{le-leb, lt-leb}
use mathlib.Core.List.{List}
use lib.ListN.{length}
use lib.Dec.{leb}
use lib.Ieee.{Float, lt}
use Rattle.grid.proofs.Plane.{row_in}
use Rattle.grid.specs.Rect.{Place, place}
use Rattle.grid.specs.Ways.{pixel, value}
use Rattle.sizes.proofs.Fitting.{Square, square-fitting, square_so}
use Rattle.params.specs.Settings.{ray_of}
use Rattle.saddle.specs.declared.Saddle.{Saddle}
use Rattle.saddle.specs.declared.Saddle.TheVariants.{Flat}
use Rattle.saddle.specs.Saddle.{saddle_of, saddle_at, disk_fits}
use Rattle.saddle.specs.Steps.{Around}
use Rattle.saddle.proofs.Fitting.{accepts_plain}
use Rattle.verdict.specs.declared.Verdict.{Verdict}
use Rattle.verdict.specs.declared.Verdict.TheVariants.{NotAbove, Beaten, TooFew, TooFlat, WrongCurvature, Kept}
use Rattle.verdict.specs.declared.Scan.{Scan}
use Rattle.verdict.specs.Window.{beaten, positives}
use Rattle.verdict.specs.Verdict.{by_saddle, first_failing, rank, verdict}
use Rattle.verdict.specs.Judged.{window_fits, saddle_in, first_failing_in, judged_in}
use Rattle.verdict.specs.Room.{Room}

-- ---- a window that fits lies in the map

pub room : {r n w h x y : ℕ} → Square r n w h x y → Room w h r x y n
room {w = w} {h = h} {y = y} s =
    let l : y < h = omega arith in
    record {
      wide = s.map.wide;
      high = s.map.high;
      left = s.left;
      right = s.right;
      above = s.above;
      below = s.below;
      holds = s.map.inside;
      row = omega (arith, s.map.inside, row_in w l);
    }

pub window-room : (c : Scan) (n x y : ℕ) → window_fits c n x y ≡ true → Room c.w c.h c.params.nms_radius x y n
window-room c n x y e = room (square-fitting c.params.nms_radius n c.w c.h x y e)

-- ---- the rules, in their order

module _ (s : Scan) (resp : List Float) (image : List ℕ) (x y : ℕ) where
  abbrev here : Place
  here = place x y

  abbrev map : ℕ → ℕ → Float
  map = value resp s.w

  -- the four rules' answers a, m, e and d, of which those that are not reached may be any
  rules : {a m e : Bool} {d : Saddle} {r : Verdict} → lt s.floor (map x y) ≡ a → not (beaten map s.params.nms_radius here) ≡ m
      → leb s.params.min_cluster_size (positives map s.params.nms_radius here) ≡ e
      → saddle_in s image x y ≡ d → r ≡ first_failing a m e d → r ≡ first_failing_in s resp image x y
  unfolding first_failing_in
  rules a m e d r = rw (a, m, e, d) r

  pub not_above_lem : lt s.floor (map x y) ≡ false → NotAbove ≡ first_failing_in s resp image x y
  not_above_lem a = rules a refl refl refl refl

  module _ (a : lt s.floor (map x y) ≡ true) {m : Bool} (b : m ≡ not (beaten map s.params.nms_radius here)) where
    pub is-beaten : m ≡ false → Beaten ≡ first_failing_in s resp image x y
    is-beaten t = rules a (sym b ∙ t) refl refl refl

    module _ (t : m ≡ true) {n : ℕ} (c : n ≡ positives map s.params.nms_radius here) where
      enough : {e : Bool} → leb s.params.min_cluster_size n ≡ e
          → leb s.params.min_cluster_size (positives map s.params.nms_radius here) ≡ e
      enough u = rw (← c) u

      pub too_few : n < s.params.min_cluster_size → TooFew ≡ first_failing_in s resp image x y
      too_few u = rules a (sym b ∙ t) (enough (lt-leb _ _ u)) refl refl

      pub as_saddle : {k : ℕ} {d : Saddle} {r : Verdict} → s.params.min_cluster_size ≤ n → k ≡ ray_of s.params.ray_radius
          → d ≡ cond (disk_fits k (length image) s.w s.h x y) (saddle_at s.test k (pixel image s.w) x y) Flat
          → r ≡ by_saddle d → r ≡ first_failing_in s resp image x y
      as_saddle {d = q} u g d r = rules {d = q} a (sym b ∙ t) (enough (le-leb _ _ u)) (sym (rw g at d)) r

  -- ---- the window and the disk fit, and the numbers are those of the settings: so the plain verdict

  pub judged_plain : {v : Verdict} → Square s.params.nms_radius (length resp) s.w s.h x y
      → Around (ray_of s.params.ray_radius) (length image) s.w s.h x y → s.test ≡ saddle_of (ray_of s.params.ray_radius)
      → v ≡ judged_in s resp image x y → v ≡ verdict s.params s.floor map (pixel image s.w) here
  unfolding first_failing_in verdict
  judged_plain w d t e = rw (square_so w, accepts_plain d s.test (pixel image s.w) refl, t) at e

-- ---- ranks

pub rank_most : (v : Verdict) → rank v < 6
rank_most NotAbove = omega arith
rank_most Beaten = omega arith
rank_most TooFew = omega arith
rank_most TooFlat = omega arith
rank_most WrongCurvature = omega arith
rank_most Kept = omega arith
