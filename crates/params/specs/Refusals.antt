-- Document 01's table of answers, with document 02's 15: which refusal is given, "exactly when", the lowest number first,
-- but 15 "after 8 and before 9". The chain stands here and nowhere else.
use Rattle.std.specs.Prelude.{Bool, not, ◌||◌, cond, ℕ, ◌*◌, ltb, leb, eqb, Float, Result, Ok, Err}
use Rattle.std.specs.Float.Ieee.{lt, is_nan}
use Rattle.float.specs.Values.{f0, f1}
use Rattle.params.specs.declared.answers.Answer.{Answer}
use Rattle.params.specs.declared.answers.Answer.TheVariants as answer
use Rattle.params.specs.declared.settings.RadonDetectorParams.{RadonDetectorParams}
use Rattle.params.specs.Settings.{factor_of, border_of}
use Rattle.params.specs.Answers.{number_of}

-- a where it refuses, and b where it does not
abbrev pub or_else : Answer → Answer → Answer
or_else a b = cond (eqb (number_of a) 0) b a

-- what a judge gives: nothing where the answer refuses nothing, and the refusal where it does
abbrev pub as_result : Answer → Result (Unit {0}) Answer
as_result a = cond (eqb (number_of a) 0) (Ok tt) (Err a)

-- "width or height over 4,096"
abbrev pub side_over : ℕ → ℕ → Bool
side_over width height = ltb 4096 width || ltb 4096 height

-- "Working width W and height H are the input's times that factor"
abbrev pub working_of : ℕ → ℕ → ℕ
working_of side up = factor_of up * side

-- W·H
abbrev pub pixels_of : ℕ → ℕ → ℕ → ℕ
pixels_of width height up = working_of width up * working_of height up

-- 2 width or height over 4,096; 3 image length differs from width times height; 4 W·H over 8,388,608
unfoldable pub size_refusal : ℕ → ℕ → ℕ → ℕ → Answer
size_refusal width height image up =
    cond (side_over width height) answer.SideTooLong
    (cond (not (eqb image (width * height))) answer.ImageLength
    (cond (ltb 8388608 (pixels_of width height up)) answer.TooManyPixels
    answer.Complete))

-- 5 ray radius over 7; 6 blur radius over 3
unfoldable pub map_refusal : RadonDetectorParams → Answer
map_refusal p =
    cond (ltb 7 p.ray_radius) answer.RayRadius
    (cond (ltb 3 p.response_blur_radius) answer.BlurRadius
    answer.Complete)

-- "threshold NaN, below 0 or above 1"
abbrev pub out_of_range : Float → Bool
out_of_range t = is_nan t || (lt t f0 || lt f1 t)

-- "working width or height is at most twice the border"
abbrev pub too_small : ℕ → ℕ → RadonDetectorParams → Bool
too_small w h p = leb w (2 * border_of p) || leb h (2 * border_of p)

-- 7 suppression radius over 32; 8 threshold NaN, below 0 or above 1; 15 W or H at most twice the border
unfoldable pub list_refusal : ℕ → ℕ → RadonDetectorParams → Answer
list_refusal w h p =
    cond (ltb 32 p.nms_radius) answer.SuppressionRadius
    (cond (out_of_range p.threshold_rel) answer.Threshold
    (cond (too_small w h p) answer.FrameTooSmall
    answer.Complete))

-- 9 a lent buffer other than the list is too short: room is the length of the shortest
unfoldable pub room_refusal : ℕ → ℕ → Answer
room_refusal pixels room = cond (ltb room pixels) answer.BufferTooShort answer.Complete

-- "The lowest number that applies is given": the stages in their order. `list` is what is said for the list
abbrev pub stages_of : ℕ → ℕ → ℕ → RadonDetectorParams → Answer → ℕ → Answer
stages_of width height image p list room =
    or_else (size_refusal width height image p.image_upsample)
    (or_else (map_refusal p)
    (or_else list
    (room_refusal (pixels_of width height p.image_upsample) room)))

-- the whole table
unfoldable pub refusal_of : ℕ → ℕ → ℕ → RadonDetectorParams → ℕ → Answer
unfolding size_refusal map_refusal list_refusal room_refusal
refusal_of width height image p room =
    let up = p.image_upsample in
    stages_of width height image p (list_refusal (working_of width up) (working_of height up) p) room

-- as far as it concerns the map: 2, 3, 4, 5, 6 and 9. Nothing is said for the list, so frames too small for it are taken
unfoldable pub map_refusal_of : ℕ → ℕ → ℕ → RadonDetectorParams → ℕ → Answer
unfolding size_refusal map_refusal room_refusal
map_refusal_of width height image p room = stages_of width height image p answer.Complete room
