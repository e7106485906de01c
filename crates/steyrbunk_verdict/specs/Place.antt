-- What a call is told of one place, by how many of the five tests it passes: 0 not above the floor, 1 beaten, 2 too few, 3 too flat, 4 wrong
-- curvature, 5 kept. The floor is the caller's. The rules are those of crates/verdict.
use Rattle.std.specs.Prelude.{List, ℕ, Float}
use Rattle.float.specs.Values.{f0}
use Rattle.params.specs.declared.settings.PeakFitMode.TheVariants.{Gaussian}
use Rattle.params.specs.declared.settings.RadonDetectorParams.{RadonDetectorParams}
use Rattle.params.specs.Settings.{ray_of}
use Rattle.saddle.specs.Saddle.{saddle_numbers}
use Rattle.verdict.specs.Verdict.{rank}
use Rattle.verdict.specs.Judged.{judged_in}

-- the settings that it goes by; it does not go by the others
abbrev pub place_settings : ℕ → ℕ → ℕ → RadonDetectorParams
place_settings ray nms least = record {
  ray_radius = ray;
  image_upsample = 1;
  response_blur_radius = 0;
  peak_fit = Gaussian;
  threshold_rel = f0;
  nms_radius = nms;
  min_cluster_size = least;
}

unfoldable pub place_verdict : List Float → List ℕ → ℕ → ℕ → ℕ → ℕ → ℕ → Float → ℕ → ℕ → ℕ
place_verdict response image w h ray nms least floor x y =
    rank (judged_in
    (record { w = w; h = h; params = place_settings ray nms least; test = saddle_numbers (ray_of ray); floor = floor })
    response image x y)
