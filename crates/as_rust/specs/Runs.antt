-- What is claimed: a call of ours and a run of the Rust's two functions, over any buffers of the Rust's, leave the same. Ours is what the contracts
-- say (crates/radon/specs/Finder, crates/response/specs/Map); the Rust's is the text of this folder.
use Rattle.std.specs.Prelude.{◌≡◌, List, [], ◌∷◌, map, ℕ, ◌+◌, ◌-◌, ◌*◌, ◌<◌, T, length, take, pos, Float, Some}
use Rattle.std.specs.Float.Ieee.{lt}
use Rattle.grid.specs.Ways.{pixel}
use Rattle.grid.specs.Each.{each}
use Rattle.grid.specs.Rect.{Place}
use Rattle.grid.specs.Over.{written}
use Rattle.params.specs.declared.settings.RadonDetectorParams.{RadonDetectorParams}
use Rattle.params.specs.declared.answers.Outcome.{Outcome}
use Rattle.params.specs.Settings.{factor_of}
use Rattle.scalar.specs.Log.{log_of, terms, high}
use Rattle.response.specs.Map.{Buffers, side_of, map_of}
use Rattle.detect.specs.Corners.{stride}
use Rattle.as_rust.specs.Machine.{Machine, ◌⊕◌, ◌⊗◌, ◌⊘◌, lit_0, lit_1, as_f32}
use Rattle.as_rust.specs.Primitives.{fit_peak_frac}
use Rattle.as_rust.specs.Response.{RadonBuffers, view}
use Rattle.as_rust.specs.Detect.{detect_peaks_from_radon}

-- The first n = W·H entries of our buffers are the Rust's, which has no more; the tables as numbers; the scratch where there is a blur.
pub record SameMap (w h blur : ℕ) (ours : Buffers) (rust : RadonBuffers) : Type 0 where
  pub width : rust.working_w ≡ w
  pub height : rust.working_h ≡ h
  pub working : take (w * h) ours.working ≡ rust.working
  pub row : map pos (take (w * h) ours.row) ≡ rust.row_cumsum
  pub col : map pos (take (w * h) ours.col) ≡ rust.col_cumsum
  pub falling : map pos (take (w * h) ours.falling) ≡ rust.diag_pos_cumsum
  pub rising : map pos (take (w * h) ours.rising) ≡ rust.diag_neg_cumsum
  pub response : take (w * h) ours.response ≡ rust.response
  pub scratch : 0 < blur → take (w * h) ours.scratch ≡ rust.blur_scratch

-- A corner's numbers as the Rust's text has them, at a place of a map f: 103-116 of detect.rs, with the machine's logarithm.
unfoldable pub numbers_by : Machine → RadonDetectorParams → (ℕ → ℕ → Float) → Place → List Float
numbers_by m p f q =
    let x = q.x in
    let y = q.y in
    let inv-up = lit_1 ⊘ as_f32 (factor_of p.image_upsample) in
    ((as_f32 x ⊕ fit_peak_frac m (f (x - 1) y) (f x y) (f (x + 1) y) p.peak_fit) ⊗ inv-up)
    ∷ ((as_f32 y ⊕ fit_peak_frac m (f x (y - 1)) (f x y) (f x (y + 1)) p.peak_fit) ⊗ inv-up)
    ∷ f x y ∷ []

-- Whatever the machine's logarithm: our count, W and H are the Rust's, and its corners stand at our places with our strengths, in our order.
-- Only the two coordinates, and in Gaussian mode alone, turn on the logarithm.
pub record SameFound (o : Outcome) (places : List Place) (numbers : Place → List Float) (rust : RadonBuffers)
    (found : List (List Float)) : Type 0 where
  pub count : o.count ≡ length found
  pub width : o.w ≡ rust.working_w
  pub height : o.h ≡ rust.working_h
  pub corners : found ≡ each (λ q. numbers q ∷ []) places

-- Our list is the old one with the Rust's corners written over its beginning, three numbers each, as many as fit whole.
abbrev pub SameList : List Float → List Float → List (List Float) → Type 0
SameList old list found = list ≡ written stride (λ corner. corner) found old

-- the machine's logarithm is ours wherever it is asked: on the map's values above 0
abbrev pub LogIsOurs : Machine → List ℕ → ℕ → ℕ → RadonDetectorParams → Type 0
LogIsOurs m img w h p = (x y : ℕ) → x < side_of w p → y < side_of h p → T (lt lit_0 (map_of (pixel img w) w h p x y))
    → log_of terms high (map_of (pixel img w) w h p x y) ≡ Some (m.ln (map_of (pixel img w) w h p x y))

-- the Rust's list from the buffers that its map's function left
abbrev pub found_by : Machine → RadonDetectorParams → RadonBuffers → List (List Float)
found_by m p rust = detect_peaks_from_radon m (view rust) p

-- two runs of the Rust that leave the same, the scratch where there is a blur
pub record SameRun (blur : ℕ) (a b : RadonBuffers) : Type 0 where
  pub width : a.working_w ≡ b.working_w
  pub height : a.working_h ≡ b.working_h
  pub working : a.working ≡ b.working
  pub row : a.row_cumsum ≡ b.row_cumsum
  pub col : a.col_cumsum ≡ b.col_cumsum
  pub falling : a.diag_pos_cumsum ≡ b.diag_pos_cumsum
  pub rising : a.diag_neg_cumsum ≡ b.diag_neg_cumsum
  pub response : a.response ≡ b.response
  pub scratch : 0 < blur → a.blur_scratch ≡ b.blur_scratch
