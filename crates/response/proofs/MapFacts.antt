-- Facts about the map: a raised frame has the same one, its values lie in the logarithm's range, and old contents change nothing that is written.
-- Assumes nothing.
use mathlib.Core.Path.{◌≡◌, ◌∙◌}
use mathlib.Core.Logic.{◌⊎◌, inl, inr}
use mathlib.Core.Bool.{false}
use mathlib.Core.List.{List}
use Prim.Native.Nat.{ℕ, ◌+◌, ◌*◌, ◌^◌, ◌≤◌, ◌<◌}
use native.Mathlib.Nat.{le_trans}
use lib.Dec.{T, lit≤}
use lib.IntN.{pos, negsuc}
use lib.ListN.{take}
use lib.Ieee.{fin, le}
use lib.Ieee.Scale.{finite}
use Rattle.float.specs.Values.{f0}
use Rattle.grid.proofs.Fill.{written_same}
use Rattle.params.specs.declared.settings.RadonDetectorParams.{RadonDetectorParams}
use Rattle.upsample.specs.Upsample.{work_at}
use Rattle.upsample.proofs.RoundedQuarter.{work_most, work_raised, work_ext}
use Rattle.rays.proofs.Inner.{response_raised, response_ext}
use Rattle.rays.proofs.SpreadExact.{response-values}
use Rattle.blur.proofs.BlurLaws.{blur_at_ext, same-scratch}
use Rattle.blur.proofs.BlurRange.{ZeroOr, whole_in, blur_eight, blur_number}
use Rattle.response.specs.Map.{raw_at, map_at, Buffers, mapped_by, mapped_of, room_of}
use Rattle.response.proofs.Runs.{Runs}

-- ---- "A frame raised evenly by some grey steps .. has the same map, bit for bit"

module _ (factor ray blur : ℕ) (two : factor ≤ 2) (f g : ℕ → ℕ → ℕ) (step w h : ℕ) (raised : (x y : ℕ) → x < w → y < h → g x y ≡ f x y + step) where
  raw_raised : (x y : ℕ) → raw_at factor ray g w h x y ≡ raw_at factor ray f w h x y
  unfolding raw_at
  raw_raised x y =
      response_ext (work_at factor g w h) (λ x y. work_at factor f w h x y + step) (factor * w) (factor * h) ray x y
      (λ x y a b. work_ext factor g w h x y (λ x y. f x y + step) two a b raised ∙ work_raised factor f w h x y step)
      ∙ response_raised (work_at factor f w h) step (factor * w) (factor * h) ray x y

  pub raised_frame : (x y : ℕ) → x < factor * w → y < factor * h → map_at factor ray blur g w h x y ≡ map_at factor ray blur f w h x y
  unfolding map_at
  raised_frame x y a b =
      blur_at_ext (raw_at factor ray g w h) (raw_at factor ray f w h) (factor * w) (factor * h) blur x y a b
      (λ i j c d. raw_raised i j)

-- ---- eight bits: a map value is 0, or from 2^-6 to 2^24

module _ (factor ray blur : ℕ) (f : ℕ → ℕ → ℕ) (w h : ℕ) (most : (x y : ℕ) → f x y ≤ 255) (r : ray ≤ 7) (b : blur ≤ 3) (x y : ℕ)
    (u : x < factor * w) (v : y < factor * h) where
  -- before the blur it is 0, or a whole number up to 255 * 15 squared
  raw_level : (i j : ℕ) → ZeroOr 1 1 (15 * 2 ^ 20) (raw_at factor ray f w h i j)
  unfolding raw_at
  raw_level i j = elim (response-values (work_at factor f w h) (factor * w) (factor * h) ray i j (λ x y. work_most factor f w h x y 255 most) r) [
    | inl p ↦ inl p
    | inr q ↦ whole_in (15 * 2 ^ 20) q.n _ q.is q.least (le_trans q.greatest (lit≤ tt))
  ]

  pub map_range : (map_at factor ray blur f w h x y ≡ f0)
      ⊎ (T (le (fin false 1 (negsuc 5)) (map_at factor ray blur f w h x y)) × T (le (map_at factor ray blur f w h x y) (fin false 1 (pos 24))))
  unfolding map_at
  map_range = blur_eight (raw_at factor ray f w h) (factor * w) (factor * h) blur x y b u v (λ i j c d. raw_level i j)

  -- and a number, not below zero
  pub map-number : T (finite (map_at factor ray blur f w h x y)) × T (le f0 (map_at factor ray blur f w h x y))
  unfolding map_at
  map-number = blur_number 20 (lit≤ tt) (raw_at factor ray f w h) (factor * w) (factor * h) blur x y b u v (λ i j c d. raw_level i j)

-- ---- "Two calls alike in image, settings and buffer lengths, over buffers with different old contents, give the same
-- answer and the same written parts"

pub same_answer : (img : List ℕ) (w h : ℕ) (p : RadonDetectorParams) (b c : Buffers) → room_of b ≡ room_of c
    → mapped_of img w h p b ≡ mapped_of img w h p c
unfolding mapped_of
same_answer img w h p b c e = rw e

-- the first n entries of each buffer that is written
pub record SameWritten (n blur : ℕ) (b c : Buffers) : Type 0 where
  pub working : take n b.working ≡ take n c.working
  pub row : take n b.row ≡ take n c.row
  pub col : take n b.col ≡ take n c.col
  pub falling : take n b.falling ≡ take n c.falling
  pub rising : take n b.rising ≡ take n c.rising
  pub response : take n b.response ≡ take n c.response
  pub scratch : 0 < blur → take n b.scratch ≡ take n c.scratch

pub same-written : (factor ray blur : ℕ) (f : ℕ → ℕ → ℕ) (w h image : ℕ) (b c : Buffers)
    → Runs factor ray blur w h image b → Runs factor ray blur w h image c
    → SameWritten (factor * w * (factor * h)) blur (mapped_by factor ray blur f w h b) (mapped_by factor ray blur f w h c)
unfolding mapped_by
same-written factor ray blur f w h image b c p q =
    let n = factor * w * (factor * h) in
    record {
      working = written_same n _ b.working c.working p.working-room q.working-room;
      row = written_same n _ b.row c.row p.row_room q.row_room;
      col = written_same n _ b.col c.col p.col-room q.col-room;
      falling = written_same n _ b.falling c.falling p.falling-room q.falling-room;
      rising = written_same n _ b.rising c.rising p.rising-room q.rising-room;
      response = written_same n _ b.response c.response p.response-room q.response-room;
      scratch = same-scratch (raw_at factor ray f w h) (factor * w) (factor * h) blur b.scratch c.scratch p.scratch-room q.scratch-room;
    }
