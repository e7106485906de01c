-- What a call's numbers mean, and what it reports in numbers. Corners, map and buffers are those of the crates beneath.
use Rattle.std.specs.Prelude.{List, [], ◌∷◌, ℕ, Float, Result, Ok, Err}
use Rattle.params.specs.declared.settings.PeakFitMode.{PeakFitMode}
use Rattle.params.specs.declared.settings.RadonDetectorParams.{RadonDetectorParams}
use Rattle.params.specs.declared.answers.Answer.{Answer}
use Rattle.params.specs.declared.answers.Answer.TheVariants.{Complete}
use Rattle.params.specs.declared.answers.Verdicts.{Verdicts}
use Rattle.params.specs.declared.answers.Outcome.{Outcome}
use Rattle.params.specs.Settings.{defaults, mode_numbered}
use Rattle.params.specs.Answers.{number_of, refused}
use Rattle.response.specs.declared.Sides.{Sides}
use Rattle.detect.specs.Detected.{peaks_outcome, list_of}
use Rattle.radon.specs.Finder.{Buffers, outcome_of, buffers_of}

-- ---- numbers in

-- a mode that is known, or "14 mode above 1"
abbrev pub settings_by : (PeakFitMode → RadonDetectorParams) → Result PeakFitMode Answer → Result RadonDetectorParams Answer
settings_by p (Ok fit) = Ok (p fit)
settings_by p (Err answer) = Err answer

-- the settings in the order of their record
abbrev pub settings_of : ℕ → ℕ → ℕ → ℕ → Float → ℕ → ℕ → Result RadonDetectorParams Answer
settings_of ray up blur fit threshold nms least =
    settings_by (λ m. record {
      ray_radius = ray;
      image_upsample = up;
      response_blur_radius = blur;
      peak_fit = m;
      threshold_rel = threshold;
      nms_radius = nms;
      min_cluster_size = least;
    }) (mode_numbered fit)

-- the map's own entry takes the three settings that a map goes by: the others are the defaults
abbrev pub map_settings : ℕ → ℕ → ℕ → RadonDetectorParams
map_settings ray up blur = record {
  ray_radius = ray;
  image_upsample = up;
  response_blur_radius = blur;
  peak_fit = defaults.peak_fit;
  threshold_rel = defaults.threshold_rel;
  nms_radius = defaults.nms_radius;
  min_cluster_size = defaults.min_cluster_size;
}

-- ---- numbers out

pub record Told : Type 0 where
  pub number : ℕ
  pub count : ℕ
  pub w : ℕ
  pub h : ℕ

abbrev pub reported : ℕ → ℕ → ℕ → ℕ → Told
reported number count w h = record { number = number; count = count; w = w; h = h }

abbrev pub told : Outcome → Told
told o = reported (number_of o.answer) o.count o.w o.h

-- the six counts in document 02's order
abbrev pub verdict_numbers : Verdicts → List ℕ
verdict_numbers v = v.not_above ∷ v.beaten ∷ v.too_few ∷ v.too_flat ∷ v.wrong_curvature ∷ v.kept ∷ []

-- "for each of up to eight cameras answer, count, W, H", and the six counts
abbrev pub camera_numbers : Outcome → List ℕ
camera_numbers o = number_of o.answer ∷ o.count ∷ o.w ∷ o.h ∷ verdict_numbers o.verdicts

pub record MapTold : Type 0 where
  pub number : ℕ
  pub w : ℕ
  pub h : ℕ

abbrev pub map_reported : ℕ → ℕ → ℕ → MapTold
map_reported number w h = record { number = number; w = w; h = h }

-- 0, W and H, or a refusal's number, 0 and 0
abbrev pub map_told : Result Sides Answer → MapTold
map_told (Ok sides) = map_reported (number_of Complete) sides.w sides.h
map_told (Err answer) = map_reported (number_of answer) 0 0

-- ---- what a call comes to: the finder's or the list's own, or answer 14, which comes before 2 to 9 and 15, with zeros, and "no buffer changes"

abbrev pub called_outcome : Result RadonDetectorParams Answer → List ℕ → ℕ → ℕ → Buffers → Outcome
called_outcome (Ok p) img w h b = outcome_of img w h p b
called_outcome (Err answer) img w h b = refused answer

abbrev pub called_buffers : Result RadonDetectorParams Answer → List ℕ → ℕ → ℕ → Buffers → Buffers
called_buffers (Ok p) img w h b = buffers_of img w h p b
called_buffers (Err answer) img w h b = b

abbrev pub called_peaks : Result RadonDetectorParams Answer → ℕ → ℕ → List Float → List ℕ → ℕ → Outcome
called_peaks (Ok p) w h response image len = peaks_outcome p w h response image len
called_peaks (Err answer) w h response image len = refused answer

abbrev pub called_list : Result RadonDetectorParams Answer → ℕ → ℕ → List Float → List ℕ → List Float → List Float
called_list (Ok p) w h response image old = list_of p w h response image old
called_list (Err answer) w h response image old = old
