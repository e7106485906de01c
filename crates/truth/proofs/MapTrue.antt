-- What is said of the map's buffers that a call leaves, `ResponseTrue`, and the steps to it: from the definitions' map to the lent buffers.
-- Assumes nothing.
use mathlib.Core.Path.{◌≡◌, refl}
use mathlib.Core.Bool.{false}
use Prim.Native.Nat.{ℕ, ◌*◌, ◌^◌, ◌≤◌, ◌<◌}
use native.Mathlib.Nat.{le_trans}
use native.Mathlib.Omega.{arith}
use lib.Dec.{T, lit≤}
use lib.Ieee.{binary32, fits}
use lib.Ieee.Exact.{HasValue}
use Rattle.float.proofs.Rounded.{Rounded, rounded-whole}
use Rattle.grid.specs.Ways.{pixel, value}
use Rattle.params.specs.declared.settings.RadonDetectorParams.{RadonDetectorParams}
use Rattle.params.specs.Settings.{factor_of, ray_of}
use Rattle.upsample.specs.Upsample.{work_at}
use Rattle.upsample.proofs.RoundedQuarter.{work_most}
use Rattle.response.specs.Map.{Buffers, raw_at, map_at, side_of, work_of, mapped}
use Rattle.response.proofs.Runs.{Runs}
use Rattle.response.proofs.Places.{unblurred, map-fits}
use Rattle.radon.proofs.Cases.{map_at_lem, work_at_lem}
use Rattle.truth.specs.Truth.{whole_at, TrueTo}
use Rattle.truth.proofs.Windows.{window_ext}
use Rattle.truth.proofs.Strengths.{whole_ext, whole-most, whole_is}
use Rattle.truth.proofs.Blurred.{roundings_most, blur_rounded}
use Rattle.truth.proofs.Fifteen.{fifteen_true}

-- the unblurred response, in whole numbers, of the working image in these buffers
abbrev pub whole_in : Buffers → ℕ → ℕ → RadonDetectorParams → ℕ → ℕ → ℕ
whole_in left w h p = whole_at (pixel left.working (side_of w p)) (side_of w p) (side_of h p) (ray_of p.ray_radius)

-- "For every .. pixel": each value of the response in them is true to it
abbrev pub ResponseTrue : Buffers → ℕ → ℕ → RadonDetectorParams → Type 0
ResponseTrue left w h p = (x y : ℕ) → x < side_of w p → y < side_of h p
    → TrueTo (whole_in left w h p) (side_of w p) (side_of h p) p.response_blur_radius x y (value left.response (side_of w p) x y)

-- ---- the definitions' map of an eight-bit image

module _ (factor ray : ℕ) (f : ℕ → ℕ → ℕ) (w h : ℕ) (most : (x y : ℕ) → f x y ≤ 255) (l : ray ≤ 7) where
  abbrev W : ℕ
  W = factor * w

  abbrev H : ℕ
  H = factor * h

  abbrev work : ℕ → ℕ → ℕ
  work = work_at factor f w h

  bright : (x y : ℕ) → work x y ≤ 255
  bright x y = work_most factor f w h x y 255 most

  pub raw_is : (x y : ℕ) → HasValue (raw_at factor ray f w h x y) false (whole_at work W H ray x y) 1
  unfolding raw_at
  raw_is = whole_is work W H ray bright l

  raw_fits : (x y : ℕ) → T (fits binary32 (raw_at factor ray f w h x y))
  raw_fits x y = rw (unblurred factor ray f w h x y refl) at (map-fits factor ray 0 f w h x y)

  map_true : (blur x y : ℕ) → blur ≤ 3 → x < W → y < H → TrueTo (whole_at work W H ray) W H blur x y (map_at factor ray blur f w h x y)
  unfolding map_at
  map_true blur x y b u v =
      let below : (i j : ℕ) → whole_at work W H ray i j ≤ 2 ^ 32 = λ i j. le_trans (whole-most work W H ray bright l i j) (lit≤ tt) in
      let is : (i j : ℕ) → Rounded 0 (whole_at work W H ray i j) 1 (raw_at factor ray f w h i j) = λ i j. rounded-whole _ _ (raw_is i j) in
      fifteen_true (omega (arith, roundings_most blur b))
      (blur_rounded 0 (lit≤ tt) (raw_at factor ray f w h) (whole_at work W H ray) W H below raw_fits is blur x y b u v)

-- ---- the lent buffers after the map's passes, beside the working image that these left

module _ (f : ℕ → ℕ → ℕ) (w h : ℕ) (p : RadonDetectorParams) (image : ℕ) (b : Buffers) (most : (x y : ℕ) → f x y ≤ 255)
    (ran : Runs (factor_of p.image_upsample) (ray_of p.ray_radius) p.response_blur_radius w h image b) where
  pub whole-left : (x y : ℕ)
      → whole_in (mapped f w h p b) w h p x y ≡ whole_at (work_of f w h p) (side_of w p) (side_of h p) (ray_of p.ray_radius) x y
  whole-left x y = whole_ext _ _ _ _ _ x y (work_at_lem f w h p b ran.working-room ran.response-room)

  pub mapped_true : ResponseTrue (mapped f w h p b) w h p
  mapped_true x y u v =
      let blur = p.response_blur_radius in
      let same = window_ext (side_of w p) (side_of h p) blur x y (whole_in (mapped f w h p b) w h p) _ (λ i j _ _. whole-left i j) in
      rw (map_at_lem f w h p b ran.working-room ran.response-room x y u v, same)
      (map_true (factor_of p.image_upsample) (ray_of p.ray_radius) f w h most ran.ray-most blur x y ran.blur_most u v)
