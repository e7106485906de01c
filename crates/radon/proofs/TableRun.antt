-- Document 01's "Run" numbers that the definitions decide, and document 02's of frames too small to judge and of the defaults, as one claim: what
-- the table of answers says, a frame without a corner, and the frame's own corner. Assumes nothing.
use mathlib.Core.Path.{◌≡◌, refl}
use mathlib.Core.List.{List, [], ◌∷◌}
use Prim.Native.Nat.{ℕ, ◌*◌}
use lib.ListN.{length}
use lib.Ieee.{is_nan, binary32, of_bits, to_bits, of_int, add, sub, mul, div, le, lt, round, units, odd, size, span, climb}
use Rattle.grid.specs.Fold.{fold}
use Rattle.grid.specs.Plane.{plane}
use Rattle.grid.specs.Each.{each, keep, any, count}
use Rattle.grid.specs.Rect.{from, range, line, rect}
use Rattle.grid.specs.Ways.{ray}
use Rattle.scalar.specs.Root.{root_of}
use Rattle.params.specs.declared.settings.PeakFitMode.TheVariants.{Parabolic}
use Rattle.params.specs.declared.settings.RadonDetectorParams.{RadonDetectorParams}
use Rattle.params.specs.Settings.{defaults, existing_sites}
use Rattle.params.specs.Coordinates.{to_input}
use Rattle.params.specs.Answers.{number_of}
use Rattle.params.specs.Refusals.{size_refusal, map_refusal, list_refusal, room_refusal, refusal_of, map_refusal_of}
use Rattle.upsample.specs.Upsample.{work_at}
use Rattle.rays.specs.Response.{ray_spread, square, response_at}
use Rattle.blur.specs.Blur.{blur_at}
use Rattle.response.specs.Map.{raw_at, map_at, side_of, map_of}
use Rattle.verdict.specs.Window.{beaten, positives}
use Rattle.saddle.specs.Saddle.{saddle_of, saddle_at, disk}
use Rattle.peak_fit.specs.PeakFit.{fit_of}
use Rattle.crests.specs.Maximum.{maximum}
use Rattle.verdict.specs.Verdict.{verdict}
use Rattle.detect.specs.Corners.{corners, floor_of, input_at, numbers}
use Rattle.detect.specs.Detected.{working_refusal, peaks_refusal}
use Rattle.radon.specs.Finder.{found}
use Rattle.radon.proofs.TableP.{frame}

-- parabolic settings by their numbers, in the document's order, and the threshold by its pattern
abbrev pub parabolic : ℕ → ℕ → ℕ → ℕ → ℕ → ℕ → RadonDetectorParams
parabolic ray factor blur threshold suppression least = record {
  ray_radius = ray;
  image_upsample = factor;
  response_blur_radius = blur;
  peak_fit = Parabolic;
  threshold_rel = of_bits binary32 threshold;
  nms_radius = suppression;
  min_cluster_size = least;
}

-- the frame's settings, with radii and threshold to choose: "upsampling 1 .. parabolic .. least count 2"
abbrev pub settings : ℕ → ℕ → ℕ → ℕ → RadonDetectorParams
settings ray blur suppression threshold = parabolic ray 1 blur threshold suppression 2

-- "ray 1 .. blur 0 .. suppression 1 .. threshold 3E8F5C29"
abbrev pub fraction : ℕ
fraction = 0x3e8f_5c29

abbrev pub framed : RadonDetectorParams
framed = settings 1 0 1 fraction

-- the answer's number for an image of w by h pixels over buffers with an entry for each working pixel
abbrev pub answer_to : ℕ → ℕ → RadonDetectorParams → ℕ
answer_to w h p = number_of (refusal_of w h (w * h) p (side_of w p * side_of h p))

-- the same of the map's own entry, and of the list's own for a map and an image of w by h working pixels
abbrev pub map_answer_to : ℕ → ℕ → RadonDetectorParams → ℕ
map_answer_to w h p = number_of (map_refusal_of w h (w * h) p (side_of w p * side_of h p))

abbrev pub list_answer_to : ℕ → ℕ → RadonDetectorParams → ℕ
list_answer_to w h p = number_of (peaks_refusal w h p (w * h))

-- "radii 7, 3, 32": the border is 40
abbrev widest : RadonDetectorParams
widest = settings 7 3 32 fraction

-- the numbers of the corners in the frame's first w columns and h rows, by their patterns
abbrev pub listed : ℕ → ℕ → RadonDetectorParams → List ℕ
listed w h p = each (λ v. to_bits binary32 v ∷ []) (each (numbers p (map_of frame w h p)) (found frame w h p))

-- what the definitions compute
abbrev pub computed : List ℕ
computed =
    -- 4,096 by 2,048 and 4,096 by 2,049, at factor 1
    answer_to 4096 2048 framed ∷ answer_to 4096 2049 framed
    -- radii 7, 3, 32; then 8, 4, 33, one at a time
    ∷ answer_to 81 81 widest
    ∷ answer_to 81 81 (settings 8 3 32 fraction) ∷ answer_to 81 81 (settings 7 4 32 fraction) ∷ answer_to 81 81 (settings 7 3 33 fraction)
    -- a threshold of NaN
    ∷ answer_to 7 7 (settings 1 0 1 0x7fc0_0000)
    -- the frame cut to 6 by 6, and by one side alone; sides of 0; a side of 80 at the widest radii; 3 by 4 and 4 by 4 at factor 2
    ∷ answer_to 6 6 framed ∷ answer_to 6 7 framed ∷ answer_to 7 6 framed
    ∷ answer_to 0 0 framed ∷ answer_to 0 7 framed ∷ answer_to 7 0 framed
    ∷ answer_to 80 81 widest ∷ answer_to 81 80 widest
    ∷ answer_to 3 4 (parabolic 1 2 0 fraction 1 2) ∷ answer_to 4 4 (parabolic 1 2 0 fraction 1 2)
    -- ray 0 counts as 1
    ∷ answer_to 6 6 (settings 0 0 1 fraction) ∷ answer_to 7 7 (settings 0 0 1 fraction)
    -- 6 by 6 with a threshold of NaN, and with no room; 7 by 7 with no room
    ∷ answer_to 6 6 (settings 1 0 1 0x7fc0_0000) ∷ number_of (refusal_of 6 6 36 framed 0) ∷ number_of (refusal_of 7 7 49 framed 0)
    -- the map's own entry, on 6 by 6 and on sides of 0
    ∷ map_answer_to 6 6 framed ∷ map_answer_to 0 0 framed
    -- the list's own, on 6 by 6, on sides of 0, with no room, and on 7 by 7
    ∷ list_answer_to 6 6 framed ∷ list_answer_to 0 0 framed ∷ number_of (peaks_refusal 6 6 framed 0) ∷ list_answer_to 7 7 framed
    -- the defaults, on sides of 11 and 12 pixels; by the list's own entry on 22 by 22 and 23 by 23 working pixels
    ∷ answer_to 11 11 defaults ∷ answer_to 11 12 defaults ∷ answer_to 12 11 defaults ∷ answer_to 12 12 defaults
    ∷ list_answer_to 22 22 defaults ∷ list_answer_to 23 23 defaults
    -- the existing sites' settings, on sides of 9 and 10 pixels
    ∷ answer_to 9 9 existing_sites ∷ answer_to 9 10 existing_sites ∷ answer_to 10 10 existing_sites
    -- how many numbers the list has at threshold 1.0
    ∷ length (listed 7 7 (settings 1 0 1 0x3f80_0000))
    -- the frame's own list
    ∷ listed 7 7 framed

-- what the documents state
abbrev pub stated : List ℕ
stated =
    -- passes, answers 4
    0 ∷ 4
    -- pass; 5, 6, 7
    ∷ 0
    ∷ 5 ∷ 6 ∷ 7
    -- 8
    ∷ 8
    -- 15, but for 4 by 4, which passes
    ∷ 15 ∷ 15 ∷ 15
    ∷ 15 ∷ 15 ∷ 15
    ∷ 15 ∷ 15
    ∷ 15 ∷ 0
    -- 15, passes
    ∷ 15 ∷ 0
    -- "after 8 and before 9"
    ∷ 8 ∷ 15 ∷ 9
    -- takes both
    ∷ 0 ∷ 0
    -- 15, 15, 15, passes
    ∷ 15 ∷ 15 ∷ 15 ∷ 0
    -- 15 up to twice 4 + 6 + 1 working pixels
    ∷ 15 ∷ 15 ∷ 15 ∷ 0
    ∷ 15 ∷ 0
    -- 15 up to twice 4 + 4 + 1
    ∷ 15 ∷ 15 ∷ 0
    -- finds none
    ∷ 0
    -- "40400000 40400000 481C4000"
    ∷ 0x4040_0000 ∷ 0x4040_0000 ∷ 0x481c_4000 ∷ []

pub Run : computed ≡ stated
unfolding refusal_of map_refusal_of peaks_refusal size_refusal working_refusal map_refusal list_refusal room_refusal is_nan
    found corners verdict floor_of maximum plane fold beaten positives any count keep each rect line range from
    map_at raw_at work_at blur_at response_at square ray_spread ray frame
    saddle_at saddle_of disk root_of numbers input_at to_input fit_of
    of_bits to_bits of_int add sub mul div le lt round units odd size span climb
Run = refl
