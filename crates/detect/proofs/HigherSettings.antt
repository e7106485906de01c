-- Demand 3, "higher threshold fraction, higher least count, or both": what is found is exactly the lower's corners that pass the higher
-- floor and count, in order and bit for bit, for every map: values that are infinite or no number included. Assumes nothing.
use mathlib.Core.Path.{◌≡◌, refl, sym, ap, ◌∙◌}
use mathlib.Core.Bool.{Bool, true, false, not, ◌&&◌, and-false}
use Prim.Native.Nat.{ℕ, ◌*◌, ◌/◌, ◌≤◌}
use native.Mathlib.Omega.{arith}
use borrow.Author.Tests.{eq-eqb}
use mathlib.Core.List.{List}
use lib.ListN.{length, take}
use lib.Seq.{take-length}
use lib.Dec.{T, leb, leb→le, le→leb}
use lib.Ieee.{Float, lt, le}
use Rattle.float.specs.Values.{f0, f1}
use Rattle.float.proofs.Product.{fraction_lower}
use Rattle.grid.specs.Each.{each, keep, count}
use Rattle.grid.proofs.Each.{keep-keep, keep_ext, count_most}
use Rattle.grid.specs.Rect.{Place}
use Rattle.grid.specs.Over.{written}
use Rattle.grid.proofs.Over.{opening}
use Rattle.grid.specs.Ways.{pixel, value}
use Rattle.params.specs.declared.settings.RadonDetectorParams.{RadonDetectorParams}
use Rattle.params.specs.Settings.{border_of}
use Rattle.params.specs.Answers.{number_of}
use Rattle.params.specs.Refusals.{list_refusal, map_refusal}
use Rattle.params.proofs.Accepted.{ListPasses, both_pass, list_passes}
use Rattle.saddle.specs.declared.Saddle.{Saddle}
use Rattle.saddle.specs.declared.Saddle.TheVariants.{Yes, Flat, Curved}
use Rattle.verdict.specs.Window.{at, beaten, positives}
use Rattle.crests.specs.Maximum.{maximum}
use Rattle.detect.specs.Corners.{candidates, floor_of, corners, numbers, stride}
use Rattle.verdict.specs.Verdict.{first_failing, is_saddle, is_kept, verdict}
use Rattle.detect.specs.Detected.{working_refusal, peaks_refusal, refusal_for, found_in, list_of}
use Rattle.detect.proofs.Scanning.{numbers-long}
use Rattle.detect.proofs.Kept.{maximum_nonneg}

-- the same settings with another fraction and another least count
abbrev pub raised : RadonDetectorParams → Float → ℕ → RadonDetectorParams
raised s t n = record {
  ray_radius = s.ray_radius;
  image_upsample = s.image_upsample;
  response_blur_radius = s.response_blur_radius;
  peak_fit = s.peak_fit;
  threshold_rel = t;
  nms_radius = s.nms_radius;
  min_cluster_size = n;
}

-- a place passes the higher floor and the higher count
abbrev pub passes_higher : RadonDetectorParams → ℕ → ℕ → (ℕ → ℕ → Float) → Place → Bool
passes_higher s w h f p = lt (floor_of s w h f) (at f p) && leb s.min_cluster_size (positives f s.nms_radius p)

-- of the four rules the first and the third are sharper
narrower : (a a' m e e' : Bool) (t : Saddle) → (T a' → T a) → (T e' → T e)
    → is_kept (first_failing a' m e' t) ≡ is_kept (first_failing a m e t) && (a' && e')
narrower a false m e e' t f g = rw and-false
narrower a true false e false t f g = rw and-false
narrower a true true e false t f g = rw and-false
narrower false true m e true t f g = absurd (f tt)
narrower true true m false true t f g = absurd (g tt)
narrower true true false true true t f g = refl
narrower true true true true true Yes f g = refl
narrower true true true true true Flat f g = refl
narrower true true true true true Curved f g = refl

module _ (s : RadonDetectorParams) (t : Float) (n w h : ℕ) (f : ℕ → ℕ → Float) where
  -- a higher fraction gives no lower floor
  pub higher-floor : T (le f0 s.threshold_rel) → T (le s.threshold_rel t) → T (le f0 t) → T (le t f1)
      → (v : Float) → T (lt (floor_of (raised s t n) w h f) v) → T (lt (floor_of s w h f) v)
  unfolding floor_of
  higher-floor a b c d v k = fraction_lower s.threshold_rel t (maximum w h f) v a b c d (maximum_nonneg w h f) k

  -- and a higher count asks no less
  pub higher-count : s.min_cluster_size ≤ n → (m : ℕ) → T (leb n m) → T (leb s.min_cluster_size m)
  higher-count l m k = le→leb s.min_cluster_size m (omega (arith, leb→le n m k))

  pub higher-corners : (g : ℕ → ℕ → ℕ) → T (le f0 s.threshold_rel) → T (le s.threshold_rel t) → T (le f0 t) → T (le t f1)
      → s.min_cluster_size ≤ n
      → corners (raised s t n) w h f g ≡ keep (passes_higher (raised s t n) w h f) (corners s w h f g)
  unfolding corners verdict
  higher-corners g a b c d l =
      keep_ext _ _ (λ p. narrower (lt (floor_of s w h f) (at f p)) (lt (floor_of (raised s t n) w h f) (at f p)) (not (beaten f s.nms_radius p))
      (leb s.min_cluster_size (positives f s.nms_radius p)) (leb n (positives f s.nms_radius p)) (is_saddle s g p)
      (higher-floor a b c d (at f p)) (higher-count l (positives f s.nms_radius p))) (candidates w h (border_of s))
      ∙ sym (keep-keep (λ p. is_kept (verdict s (floor_of s w h f) f g p)) (passes_higher (raised s t n) w h f) (candidates w h (border_of s)))

-- ---- the same of what `detect_peaks_from_radon` writes

module _ (s : RadonDetectorParams) (w h : ℕ) (resp : List Float) (image : List ℕ) where
  -- the call with these settings is accepted
  abbrev Accepted : Type 0
  Accepted = number_of (refusal_for s w h resp image) ≡ 0

  -- the numbers of all its corners, one after the other
  abbrev all_numbers : List Float
  all_numbers = each (numbers s (value resp w)) (found_in s w h resp image)

  -- the entries that they take
  abbrev whole : ℕ
  whole = stride * length (found_in s w h resp image)

  pub accepted_list : (old : List Float) → Accepted
      → list_of s w h resp image old ≡ written stride (numbers s (value resp w)) (found_in s w h resp image) old
  unfolding list_of
  accepted_list old e = rw (eq-eqb _ 0 e)

  -- an accepted call with room writes all that it finds
  pub whole-list : (old : List Float) → Accepted → length (found_in s w h resp image) ≤ length old / stride
      → take whole (list_of s w h resp image old) ≡ all_numbers
  whole-list old e r =
      let f = numbers s (value resp w) in
      let l = found_in s w h resp image in
      rw (accepted_list old e) (opening stride f (numbers-long s (value resp w)) l (length l) old r (omega arith) ∙ ap (each f) (take-length l))

  -- settings that are accepted are in range
  in_range : Accepted → ListPasses w h s
  unfolding peaks_refusal
  in_range e = list_passes w h s (both_pass (list_refusal w h s) _ (both_pass (map_refusal s) _ (both_pass (working_refusal w h) _ e).1).1).0

most : (p : Place → Bool) (l : List Place) → length (keep p l) ≤ length l
unfolding count
most p l = count_most p l

-- Both calls are accepted, the fraction and the least count are no lower, and both lists have room for all of the lower's: the higher's list
-- is the lower's, filtered.
module _ (s : RadonDetectorParams) (t : Float) (n w h : ℕ) (resp : List Float) (image : List ℕ) (low high : List Float) where
  -- the lower's corners that pass the higher floor and count
  abbrev passing : List Place
  passing = keep (passes_higher (raised s t n) w h (value resp w)) (found_in s w h resp image)

  pub record Filtered : Type 0 where
    pub lower : take (whole s w h resp image) (list_of s w h resp image low) ≡ all_numbers s w h resp image
    pub found : found_in (raised s t n) w h resp image ≡ passing
    pub higher : take (whole (raised s t n) w h resp image) (list_of (raised s t n) w h resp image high) ≡ each (numbers s (value resp w)) passing

  pub higher-list : Accepted s w h resp image → Accepted (raised s t n) w h resp image → T (le s.threshold_rel t) → s.min_cluster_size ≤ n
      → length (found_in s w h resp image) ≤ length low / stride → length (found_in s w h resp image) ≤ length high / stride → Filtered
  unfolding numbers
  higher-list a b c d e r =
      let f = value resp w in
      let p = in_range s w h resp image a in
      let q = in_range (raised s t n) w h resp image b in
      let same = higher-corners s t n w h f (pixel image w) p.least c q.least q.most d in
      let fewer : length (found_in (raised s t n) w h resp image) ≤ length (found_in s w h resp image) = rw same (most _ (found_in s w h resp image)) in
      record {
        lower = whole-list s w h resp image low a e;
        found = same;
        higher = whole-list (raised s t n) w h resp image high b (omega arith) ∙ ap (each (numbers s f)) same;
      }
