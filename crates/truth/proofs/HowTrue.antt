-- How true the blurred map is, as theorems about what a call leaves, for every eight-bit frame, all settings and all buffers: every value of the
-- response, and every strength of the list, is its window's whole-number total by its window's pixels, but for a 2 ^ 20th part. `ResponseTrue` is
-- said in MapTrue. Assumes nothing.
use mathlib.Core.Path.{◌≡◌, refl, ◌∙◌}
use mathlib.Core.Bool.{false}
use mathlib.Core.List.{List}
use Prim.Native.Nat.{ℕ, ◌*◌, ◌^◌, ◌<◌}
use native.Mathlib.Nat.{mul-le-mul_right}
use native.Mathlib.Omega.{arith}
use borrow.Author.Tests.{eq-eqb}
use lib.ListN.{length, get_or}
use lib.Ieee.{Float}
use lib.Ieee.Exact.{HasValue}
use lib.Ieee.Positive.{num, den, den_pos}
use Rattle.grid.specs.Ways.{pixel}
use Rattle.grid.specs.Rect.{place}
use Rattle.params.specs.declared.settings.RadonDetectorParams.{RadonDetectorParams}
use Rattle.params.specs.Settings.{factor_of, ray_of}
use Rattle.params.specs.Answers.{number_of}
use Rattle.response.specs.Map.{Buffers as MapBuffers, side_of, map_buffers_of, answered as mapAnswered}
use Rattle.response.proofs.Runs.{runs_of}
use Rattle.response.proofs.Places.{unblurred}
use Rattle.detect.proofs.Places.{Inner}
use Rattle.radon.specs.Finder.{Buffers, Bytes, buffers_of}
use Rattle.radon.proofs.Left.{Accepted, map_left, list_left, runs, map_is, response-is, byte-most}
use Rattle.radon.proofs.Lists.{corners_left, written_by, strength_of, corner_inner, strength_left}
use Rattle.truth.specs.Truth.{apart, Truthful, TrueTo}
use Rattle.truth.proofs.MapTrue.{whole_in, ResponseTrue, raw_is, whole-left, mapped_true}

-- ---- "For every eight-bit frame, every pixel and blur radius 0 to 3": the response that an accepted call leaves, of the finder or of the map alone

module _ (img : List ℕ) (w h : ℕ) (p : RadonDetectorParams) (bytes : Bytes img) where
  pub response_true : (b : Buffers) → Accepted img w h p b → ResponseTrue (buffers_of img w h p b).map w h p
  response_true b accepted =
      rw (map_is img w h p b accepted) (mapped_true (pixel img w) w h p (length img) b.map (byte-most img w bytes) (runs img w h p b accepted))

  pub map_entry_true : (b : MapBuffers) → number_of (mapAnswered img w h p b) ≡ 0 → ResponseTrue (map_buffers_of img w h p b) w h p
  unfolding map_buffers_of
  map_entry_true b accepted =
      rw (eq-eqb (number_of (mapAnswered img w h p b)) 0 accepted)
      (mapped_true (pixel img w) w h p (length img) b (byte-most img w bytes) (runs_of w h p (length img) b refl refl refl accepted))

  -- "strength is the map value": that of corner i is true to the window about the corner's pixel
  pub strength_true : (b : Buffers) → Accepted img w h p b → (i : ℕ) → i < written_by img w h p b
      → let q = get_or (corners_left img w h p b) i (place 0 0) in
      TrueTo (whole_in (buffers_of img w h p b).map w h p) (side_of w p) (side_of h p) p.response_blur_radius q.x q.y
      (strength_of (list_left img w h p b) i)
  strength_true b accepted i l =
      let q = get_or (corners_left img w h p b) i (place 0 0) in
      let inner : Inner p (side_of w p) (side_of h p) q = corner_inner img w h p b accepted i l in
      rw (strength_left img w h p b accepted i l) (response_true b accepted q.x q.y (omega arith) (omega arith))

-- ---- "unblurred responses": what E sums are the values that the same call without a blur leaves, and these are whole numbers

-- the same settings without a blur
abbrev pub without_blur : RadonDetectorParams → RadonDetectorParams
without_blur p = record {
  ray_radius = p.ray_radius;
  image_upsample = p.image_upsample;
  response_blur_radius = 0;
  peak_fit = p.peak_fit;
  threshold_rel = p.threshold_rel;
  nms_radius = p.nms_radius;
  min_cluster_size = p.min_cluster_size;
}

module _ (img : List ℕ) (w h : ℕ) (p : RadonDetectorParams) (bytes : Bytes img) (b c : Buffers)
    (blurred : Accepted img w h p b) (plain : Accepted img w h (without_blur p) c) where
  pub unblurred_whole : (x y : ℕ) → x < side_of w p → y < side_of h p
      → HasValue (map_left img w h (without_blur p) c x y) false (whole_in (buffers_of img w h p b).map w h p x y) 1
  unblurred_whole x y u v =
      let ray = ray_of p.ray_radius in
      let factor = factor_of p.image_upsample in
      let ran = runs img w h p b blurred in
      let value-is = response-is img w h (without_blur p) c plain x y u v ∙ unblurred factor ray (pixel img w) w h x y refl in
      let whole_is = whole-left (pixel img w) w h p (length img) b.map (byte-most img w bytes) ran x y in
      rw (value-is, map_is img w h p b blurred, whole_is) (raw_is factor ray (pixel img w) w h (byte-most img w bytes) ran.ray-most x y)

-- ---- where E is below 2 ^ 19 it is the whole number nearest to v · N, so the f32 gives it back: twice their difference is below 1

pub total_back : {E N : ℕ} {v : Float} → Truthful E N v → E < 2 ^ 19 → 2 * apart (num v * N) (E * den v) < den v
total_back {E} {N} {v} t l = omega (arith, t.close, den_pos v, mul-le-mul_right (den v) l)
