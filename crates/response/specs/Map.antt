-- The map of one call: document 01's working image, tables, response and blur put together, and what the map's own entry promises.
use Rattle.std.specs.Prelude.{Bool, cond, List, ℕ, ◌*◌, min, eqb, length, Float, Result, Ok, Err}
use Rattle.grid.specs.Fill.{filled}
use Rattle.grid.specs.Plane.{plane}
use Rattle.grid.specs.Ways.{pixel, along, down, fall, rise}
use Rattle.params.specs.declared.settings.RadonDetectorParams.{RadonDetectorParams}
use Rattle.params.specs.declared.answers.Answer.{Answer}
use Rattle.params.specs.Settings.{factor_of, ray_of}
use Rattle.params.specs.Answers.{number_of}
use Rattle.params.specs.Refusals.{working_of, map_refusal_of}
use Rattle.upsample.specs.Upsample.{work_at}
use Rattle.cumsums.specs.Tables.{table_of}
use Rattle.rays.specs.Response.{response_at}
use Rattle.blur.specs.Blur.{blur_at, scratched}
use Rattle.response.specs.declared.Sides.{Sides}

-- ---- the map of an image f, w wide and h high, at a factor, a ray radius and a blur radius.
-- "Working width W and height H are the input's times that factor": factor * w and factor * h

-- the unblurred response
unfoldable pub raw_at : ℕ → ℕ → (ℕ → ℕ → ℕ) → ℕ → ℕ → ℕ → ℕ → Float
raw_at factor ray f w h x y = response_at (work_at factor f w h) (factor * w) (factor * h) ray x y

-- the map
unfoldable pub map_at : ℕ → ℕ → ℕ → (ℕ → ℕ → ℕ) → ℕ → ℕ → ℕ → ℕ → Float
map_at factor ray blur f w h x y = blur_at (raw_at factor ray f w h) (factor * w) (factor * h) blur x y

-- the seven lent buffers
pub record Buffers : Type 0 where
  pub working : List ℕ
  pub row : List ℕ
  pub col : List ℕ
  pub falling : List ℕ
  pub rising : List ℕ
  pub response : List Float
  pub scratch : List Float

-- in the order in which they are lent
abbrev pub map_lent : List ℕ → List ℕ → List ℕ → List ℕ → List ℕ → List Float → List Float → Buffers
map_lent working row col falling rising response scratch = record {
  working = working;
  row = row;
  col = col;
  falling = falling;
  rising = rising;
  response = response;
  scratch = scratch;
}

-- the length of the shortest
abbrev pub room_of : Buffers → ℕ
room_of b =
    min (length b.working)
    (min (min (min (length b.row) (length b.col)) (min (length b.falling) (length b.rising)))
    (min (length b.response) (length b.scratch)))

-- "the first W·H entries of working image, tables and response are written, those of the scratch too if blur radius and
-- W·H are not 0 .. Entries beyond stay."
unfoldable pub mapped_by : ℕ → ℕ → ℕ → (ℕ → ℕ → ℕ) → ℕ → ℕ → Buffers → Buffers
mapped_by factor ray blur f w h b =
    let W = factor * w in
    let H = factor * h in
    let work = work_at factor f w h in
    record {
      working = filled (W * H) (plane W work) b.working;
      row = table_of along work W H b.row;
      col = table_of down work W H b.col;
      falling = table_of fall work W H b.falling;
      rising = table_of rise work W H b.rising;
      response = filled (W * H) (plane W (map_at factor ray blur f w h)) b.response;
      scratch = scratched (raw_at factor ray f w h) W H blur b.scratch;
    }

-- ---- by the settings

abbrev pub side_of : ℕ → RadonDetectorParams → ℕ
side_of n p = working_of n p.image_upsample

abbrev pub work_of : (ℕ → ℕ → ℕ) → ℕ → ℕ → RadonDetectorParams → ℕ → ℕ → ℕ
work_of f w h p = work_at (factor_of p.image_upsample) f w h

abbrev pub map_of : (ℕ → ℕ → ℕ) → ℕ → ℕ → RadonDetectorParams → ℕ → ℕ → Float
map_of f w h p = map_at (factor_of p.image_upsample) (ray_of p.ray_radius) p.response_blur_radius f w h

abbrev pub mapped : (ℕ → ℕ → ℕ) → ℕ → ℕ → RadonDetectorParams → Buffers → Buffers
mapped f w h p b = mapped_by (factor_of p.image_upsample) (ray_of p.ray_radius) p.response_blur_radius f w h b

-- ---- what `radon_response_u8` promises

-- 2, 3, 4, 5, 6 and 9: a frame that is too small for a list, 15 there, has its map
abbrev pub answered : List ℕ → ℕ → ℕ → RadonDetectorParams → Buffers → Answer
answered img w h p b = map_refusal_of w h (length img) p (room_of b)

abbrev pub accepts : Answer → Bool
accepts a = eqb (number_of a) 0

-- W and H, or a refusal
unfoldable pub mapped_of : List ℕ → ℕ → ℕ → RadonDetectorParams → Buffers → Result Sides Answer
mapped_of img w h p b =
    cond (accepts (answered img w h p b))
    (Ok (record { w = side_of w p; h = side_of h p }))
    (Err (answered img w h p b))

-- the buffers at the end: "no buffer changes" with a refusal
unfoldable pub map_buffers_of : List ℕ → ℕ → ℕ → RadonDetectorParams → Buffers → Buffers
map_buffers_of img w h p b = cond (accepts (answered img w h p b)) (mapped (pixel img w) w h p b) b
