-- Document 01, "Settings and sizes": what a factor or radius counts as, the mode by its number, and the defaults, with document 02's
-- seventh request; and the border of "Rules of the list", by which frames are judged too small.
use Rattle.std.specs.Prelude.{cond, ℕ, ◌+◌, max, min, eqb, Result, Ok, Err}
use Rattle.std.specs.Float.{binary32}
use Rattle.std.specs.Float.Ieee.{of_bits}
use Rattle.params.specs.declared.settings.PeakFitMode.TheVariants.{Parabolic, Gaussian}
use Rattle.params.specs.declared.settings.PeakFitMode.{PeakFitMode}
use Rattle.params.specs.declared.settings.RadonDetectorParams.{RadonDetectorParams}
use Rattle.params.specs.declared.answers.Answer.{Answer}
use Rattle.params.specs.declared.answers.Answer.TheVariants.{Mode}

-- "Upsampling 0 counts as 1, and 3 or more as 2"
abbrev pub factor_of : ℕ → ℕ
factor_of u = max 1 (min u 2)

-- "Ray radius is 0 to 7, where 0 counts as 1"
abbrev pub ray_of : ℕ → ℕ
ray_of r = max 1 r

-- "The border is ray + suppression radius + 1"
abbrev pub border_of : RadonDetectorParams → ℕ
border_of p = ray_of p.ray_radius + p.nms_radius + 1

-- "The mode is parabolic or Gaussian"; by its number, "mode (0 parabolic, 1 Gaussian)" and "14 mode above 1"
abbrev pub mode_numbered : ℕ → Result PeakFitMode Answer
mode_numbered n = cond (eqb n 0) (Ok Parabolic) (cond (eqb n 1) (Ok Gaussian) (Err Mode))

-- "ray 4, upsampling 2, blur 1, Gaussian, 0.28, suppression 4, count 2", with the suppression to choose: 0.28 is the nearest f32, 3E8F5C29
abbrev pub start_up : ℕ → RadonDetectorParams
start_up suppression = record {
  ray_radius = 4;
  image_upsample = 2;
  response_blur_radius = 1;
  peak_fit = Gaussian;
  threshold_rel = of_bits binary32 0x3e8f_5c29;
  nms_radius = suppression;
  min_cluster_size = 2;
}

-- document 02: "The default suppression radius becomes 6"
abbrev pub defaults : RadonDetectorParams
defaults = start_up 6

-- "the existing sites' start-up settings", which "depended on 4": document 01's own defaults
abbrev pub existing_sites : RadonDetectorParams
existing_sites = start_up 4
