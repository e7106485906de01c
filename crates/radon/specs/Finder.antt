-- What the finder promises: the table of answers, the map and the list put together, in one answer and one equation of all eight buffers.
use Rattle.std.specs.Prelude.{cond, List, ℕ, ◌/◌, ◌<◌, length, get_or, Float}
use Rattle.grid.specs.Ways.{pixel}
use Rattle.grid.specs.Rect.{Place}
use Rattle.grid.specs.Over.{written}
use Rattle.params.specs.declared.settings.RadonDetectorParams.{RadonDetectorParams}
use Rattle.params.specs.declared.answers.Answer.{Answer}
use Rattle.params.specs.declared.answers.Verdicts.{Verdicts}
use Rattle.params.specs.declared.answers.Outcome.{Outcome}
use Rattle.params.specs.Answers.{refused}
use Rattle.params.specs.Refusals.{refusal_of}
use Rattle.response.specs.Map.{Buffers as MapBuffers, map_lent, room_of, side_of, work_of, map_of, mapped, accepts}
use Rattle.response.specs.declared.WorkBuffers.{WorkBuffers}
use Rattle.response.specs.Work.{map_now}
use Rattle.detect.specs.Corners.{corners, verdicts_of, numbers, stride}
use Rattle.detect.specs.Detected.{full_or}

-- the eight lent buffers: the map's seven, and the list
pub record Buffers : Type 0 where
  pub map : MapBuffers
  pub list : List Float

-- in the order in which they are lent
abbrev pub lent : List ℕ → List ℕ → List ℕ → List ℕ → List ℕ → List Float → List Float → List Float → Buffers
lent working row col falling rising response scratch list =
    record { map = map_lent working row col falling rising response scratch; list = list }

-- what the seven and the list hold
abbrev pub lent_now : WorkBuffers → List Float → Buffers
lent_now work list = record { map = map_now work; list = list }

-- an image of bytes, which every lent `&[u8]` is: the theorems that need it ask for it
abbrev pub Bytes : List ℕ → Type 0
Bytes img = (i : ℕ) → get_or img i 0 < 256

-- the table of answers: 2 to 8, 15 and 9, the first that applies; 9 is not judged on the list
abbrev pub answered : List ℕ → ℕ → ℕ → RadonDetectorParams → Buffers → Answer
answered img w h p b = refusal_of w h (length img) p (room_of b.map)

-- the corners of an image f: the kept candidates of its map over its working image, in row order
unfoldable pub found : (ℕ → ℕ → ℕ) → ℕ → ℕ → RadonDetectorParams → List Place
found f w h p = corners p (side_of w p) (side_of h p) (map_of f w h p) (work_of f w h p)

-- what became of its candidates: how many have each verdict
unfoldable pub judged : (ℕ → ℕ → ℕ) → ℕ → ℕ → RadonDetectorParams → Verdicts
judged f w h p = verdicts_of p (side_of w p) (side_of h p) (map_of f w h p) (work_of f w h p)

-- 0 or 1 with what was found, W and H, and the six counts; or a refusal with zeros
unfoldable pub outcome_of : List ℕ → ℕ → ℕ → RadonDetectorParams → Buffers → Outcome
outcome_of img w h p b =
    cond (accepts (answered img w h p b))
    (record {
      answer = full_or (length (found (pixel img w) w h p)) (length b.list / stride);
      count = length (found (pixel img w) w h p);
      w = side_of w p;
      h = side_of h p;
      verdicts = judged (pixel img w) w h p;
    })
    (refused (answered img w h p b))

-- the map's buffers as the map has them, and "the list gets as many whole corners as fit. Entries beyond stay"; with a refusal "no buffer changes"
unfoldable pub buffers_of : List ℕ → ℕ → ℕ → RadonDetectorParams → Buffers → Buffers
buffers_of img w h p b =
    cond (accepts (answered img w h p b))
    (record {
      map = mapped (pixel img w) w h p b.map;
      list = written stride (numbers p (map_of (pixel img w) w h p)) (found (pixel img w) w h p) b.list;
    })
    b
