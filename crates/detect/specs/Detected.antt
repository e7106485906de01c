-- What `detect_peaks_from_radon` promises: the answer, and what the list holds at the end. The documents' numbers, for a working size.
use Rattle.std.specs.Prelude.{◌||◌, cond, ℕ, ◌*◌, ◌/◌, min, List, length, ltb, leb, eqb, Float}
use Rattle.grid.specs.Ways.{pixel, value}
use Rattle.grid.specs.Rect.{Place}
use Rattle.grid.specs.Over.{written}
use Rattle.params.specs.declared.answers.Answer.{Answer}
use Rattle.params.specs.declared.answers.Answer.TheVariants.{Complete, ListFull, SideTooLong, TooManyPixels}
use Rattle.params.specs.declared.answers.Outcome.{Outcome}
use Rattle.params.specs.declared.settings.RadonDetectorParams.{RadonDetectorParams}
use Rattle.params.specs.Answers.{number_of, refused}
use Rattle.params.specs.Refusals.{or_else, map_refusal, list_refusal, room_refusal}
use Rattle.detect.specs.Corners.{corners, verdicts_of, numbers, stride}

-- 2 a working side over 8,192, twice the input's 4,096; 4 W·H over 8,388,608
unfoldable pub working_refusal : ℕ → ℕ → Answer
working_refusal w h =
    cond (ltb 8192 w || ltb 8192 h) SideTooLong
    (cond (ltb 8388608 (w * h)) TooManyPixels
    Complete)

-- "The lowest number that applies is given": 2 and 4; 5 and 6, and 7, 8 and 15 as for every call with settings; 9 response or image shorter than W·H
unfoldable pub peaks_refusal : ℕ → ℕ → RadonDetectorParams → ℕ → Answer
unfolding working_refusal map_refusal list_refusal room_refusal
peaks_refusal w h s room = or_else (working_refusal w h) (or_else (map_refusal s) (or_else (list_refusal w h s) (room_refusal (w * h) room)))

abbrev pub refusal_for : RadonDetectorParams → ℕ → ℕ → List Float → List ℕ → Answer
refusal_for s w h resp image = peaks_refusal w h s (min (length resp) (length image))

-- what is found in two buffers w wide
abbrev pub found_in : RadonDetectorParams → ℕ → ℕ → List Float → List ℕ → List Place
found_in s w h resp image = corners s w h (value resp w) (pixel image w)

-- 0 "accepted, all corners fit", 1 "accepted, more corners than room"
abbrev pub full_or : ℕ → ℕ → Answer
full_or found room = cond (leb found room) Complete ListFull

-- the answer, with "found" as its count and the six counts; "its room is its length divided by three, rounded down"
unfoldable pub peaks_outcome : RadonDetectorParams → ℕ → ℕ → List Float → List ℕ → ℕ → Outcome
unfolding peaks_refusal
peaks_outcome s w h resp image len =
    cond (eqb (number_of (refusal_for s w h resp image)) 0)
    (record {
      answer = full_or (length (found_in s w h resp image)) (len / stride);
      count = length (found_in s w h resp image);
      w = w;
      h = h;
      verdicts = verdicts_of s w h (value resp w) (pixel image w);
    })
    (refused (refusal_for s w h resp image))

-- "the list gets as many whole corners as fit. Entries beyond stay"; with a refusal "no buffer changes"
unfoldable pub list_of : RadonDetectorParams → ℕ → ℕ → List Float → List ℕ → List Float → List Float
unfolding peaks_refusal
list_of s w h resp image old =
    cond (eqb (number_of (refusal_for s w h resp image)) 0)
    (written stride (numbers s (value resp w)) (found_in s w h resp image) old)
    old
