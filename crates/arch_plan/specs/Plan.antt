-- Document 02, ticket 2, "All cameras of an arch at once": where each camera's frame stands, how large its share is, and which calls are refused.
use Rattle.std.specs.Prelude.{cond, List, [], ℕ, zero, suc, ◌+◌, ◌*◌, ◌/◌, ltb, length, drop, Result, Ok, Err}
use Rattle.big_endian.specs.BigEndian.{word_at}
use Rattle.params.specs.declared.answers.Answer.{Answer}
use Rattle.params.specs.declared.answers.Answer.TheVariants.{Complete, FileTooShort, StatedLength, Cameras}
use Rattle.detect.specs.Corners.{stride}

-- ---- "that many frame files laid end to end in one slice": `rest` is what is left of the slice from where a camera's frame begins

-- "Where that length runs past the end, that frame answers 13, whatever else is wrong with it; with under five bytes left it answers 11". A frame
-- that lies whole in the slice has the five bytes and its stated length
unfoldable pub due_in : List ℕ → Result ℕ Answer
due_in rest =
    cond (ltb (length rest) 5) (Err FileTooShort)
    (cond (ltb (length rest) (5 + word_at rest 1)) (Err StatedLength)
    (Ok (5 + word_at rest 1)))

-- "the next begins after its stated length", whatever the frame is answered; "either way the later ones answer 11": nothing is left for them
abbrev pub behind : List ℕ → Result ℕ Answer → List ℕ
behind rest (Ok n) = drop n rest
behind rest (Err answer) = []

-- what is left for camera i, counted from 0
unfoldable pub rest_at : List ℕ → ℕ → List ℕ
rest_at frames zero = frames
rest_at frames (suc i) = behind (rest_at frames i) (due_in (rest_at frames i))

-- ---- "one list in which each frame gets an equal share of whole corners, the remainder unused"

-- how many numbers a share has
abbrev pub share_size : ℕ → ℕ → ℕ
share_size cameras numbers = stride * (numbers / stride / cameras)

-- ---- "Refusals: 21", before any frame is read

-- "21, a camera count not 2 to 8 or a list too short for one corner a camera", of which `numbers` is the length
unfoldable pub arch_refusal : ℕ → ℕ → Answer
arch_refusal cameras numbers =
    cond (ltb cameras 2) Cameras
    (cond (ltb 8 cameras) Cameras
    (cond (ltb (numbers / stride) cameras) Cameras
    Complete))
