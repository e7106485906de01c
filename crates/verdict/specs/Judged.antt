-- What `judge_at` tells of a place: the verdict by a scan's own numbers, over the map and the image in two buffers.
use Rattle.std.specs.Prelude.{Bool, not, cond, ℕ, List, length, leb, Float}
use Rattle.std.specs.Float.Ieee.{lt}
use Rattle.grid.specs.Rect.{place}
use Rattle.grid.specs.Ways.{pixel, value}
use Rattle.sizes.specs.Fits.{square_fits}
use Rattle.params.specs.Settings.{ray_of}
use Rattle.saddle.specs.declared.Saddle.{Saddle}
use Rattle.saddle.specs.declared.Saddle.TheVariants.{Flat}
use Rattle.saddle.specs.Saddle.{saddle_at, disk_fits}
use Rattle.verdict.specs.declared.Verdict.{Verdict}
use Rattle.verdict.specs.declared.Verdict.TheVariants.{NotAbove}
use Rattle.verdict.specs.declared.Scan.{Scan}
use Rattle.verdict.specs.Window.{beaten, positives}
use Rattle.verdict.specs.Verdict.{first_failing}

-- its window lies in the map, and the map in a buffer of n entries
abbrev pub window_fits : Scan → ℕ → ℕ → ℕ → Bool
window_fits c n x y = square_fits c.params.nms_radius n c.w c.h x y

-- what the saddle test says with the scan's numbers, and where the disk does not fit
abbrev pub saddle_in : Scan → List ℕ → ℕ → ℕ → Saddle
saddle_in c image x y =
    cond (disk_fits (ray_of c.params.ray_radius) (length image) c.w c.h x y)
    (saddle_at c.test (ray_of c.params.ray_radius) (pixel image c.w) x y)
    Flat

unfoldable pub first_failing_in : Scan → List Float → List ℕ → ℕ → ℕ → Verdict
first_failing_in c resp image x y =
    first_failing (lt c.floor (value resp c.w x y)) (not (beaten (value resp c.w) c.params.nms_radius (place x y)))
    (leb c.params.min_cluster_size (positives (value resp c.w) c.params.nms_radius (place x y)))
    (saddle_in c image x y)

-- what is told of a place: where its window does not lie in the map, that it is not above the floor
abbrev pub judged_in : Scan → List Float → List ℕ → ℕ → ℕ → Verdict
judged_in c resp image x y = cond (window_fits c (length resp) x y) (first_failing_in c resp image x y) NotAbove
