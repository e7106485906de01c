-- What an accepted call leaves, by name, and the steps to it from the definitions: which entry has which pixel or map value. Assumes nothing.
use mathlib.Core.Path.{◌≡◌, refl, ap, ◌∙◌}
use mathlib.Core.Logic.{◌⊎◌}
use mathlib.Core.Bool.{Bool, true, false}
use mathlib.Core.List.{List}
use Prim.Native.Nat.{ℕ, ◌+◌, ◌*◌, ◌/◌, ◌%◌, ◌≤◌, ◌<◌}
use native.Mathlib.Nat.{div-add-mod'}
use native.Mathlib.Omega.{arith}
use borrow.Author.Tests.{eq-eqb}
use lib.Dec.{T}
use lib.ListN.{length, get_or, take}
use lib.Ieee.{Float, nan, le}
use Rattle.float.specs.Values.{f0}
use Rattle.grid.proofs.Fill.{written_same}
use Rattle.grid.proofs.Plane.{pixel_in, column_in, row-number_in, plane_ext}
use Rattle.grid.specs.Ways.{pixel}
use Rattle.grid.specs.Over.{written}
use Rattle.scalar.specs.Log.{high, lowest, highest}
use Rattle.params.specs.declared.settings.RadonDetectorParams.{RadonDetectorParams}
use Rattle.params.specs.Settings.{factor_of, ray_of}
use Rattle.params.specs.Answers.{number_of}
use Rattle.response.specs.Map.{Buffers as MapBuffers, side_of, work_of, map_of, mapped, mapped_by}
use Rattle.response.proofs.Runs.{Runs}
use Rattle.response.proofs.MapFacts.{raised_frame, map_range}
use Rattle.grid.specs.Ways.{value}
use Rattle.detect.specs.Corners.{numbers, stride}
use Rattle.radon.specs.Finder.{Buffers, Bytes, answered, found, buffers_of}
use Rattle.radon.proofs.Cases.{runs_by, map_at_lem, work_at_lem}

-- none of the refusals 2 to 9 and 15 applies: the answer is 0 or 1. So W and H are above twice the border
abbrev pub Accepted : List ℕ → ℕ → ℕ → RadonDetectorParams → Buffers → Type 0
Accepted img w h p b = number_of (answered img w h p b) ≡ 0

-- the response and the working image that a call left, by column and row, and its list
abbrev pub map_left : List ℕ → ℕ → ℕ → RadonDetectorParams → Buffers → ℕ → ℕ → Float
map_left img w h p b = value (buffers_of img w h p b).map.response (side_of w p)

abbrev pub image_left : List ℕ → ℕ → ℕ → RadonDetectorParams → Buffers → ℕ → ℕ → ℕ
image_left img w h p b = pixel (buffers_of img w h p b).map.working (side_of w p)

abbrev pub list_left : List ℕ → ℕ → ℕ → RadonDetectorParams → Buffers → List Float
list_left img w h p b = (buffers_of img w h p b).list

pub is_true : (t : Bool) → T t → t ≡ true
is_true true u = refl
is_true false u = absurd u

-- a frame of bytes has no pixel above 255
pub byte-most : (img : List ℕ) (w : ℕ) → Bytes img → (x y : ℕ) → pixel img w x y ≤ 255
byte-most img w bytes x y = omega (arith, bytes (y * w + x))

-- ---- one accepted call

module _ (img : List ℕ) (w h : ℕ) (p : RadonDetectorParams) (b : Buffers) (accepted : Accepted img w h p b) where
  abbrev W : ℕ
  W = side_of w p

  abbrev H : ℕ
  H = side_of h p

  pub runs : Runs (factor_of p.image_upsample) (ray_of p.ray_radius) p.response_blur_radius w h (length img) b.map
  runs = runs_by w h p (length img) b.map accepted

  -- without the case of a refusal
  pub left_is : ◌≡◌ {A = Buffers} (buffers_of img w h p b) (record {
    map = mapped (pixel img w) w h p b.map;
    list = written stride (numbers p (map_of (pixel img w) w h p)) (found (pixel img w) w h p) b.list;
  })
  unfolding buffers_of
  left_is = rw (eq-eqb (number_of (answered img w h p b)) 0 accepted)

  pub map_is : (buffers_of img w h p b).map ≡ mapped (pixel img w) w h p b.map
  map_is = ap (λ (o : Buffers). o.map) left_is

  pub working-is : (x y : ℕ) → x < W → y < H → image_left img w h p b x y ≡ work_of (pixel img w) w h p x y
  working-is x y u v = rw map_is (work_at_lem (pixel img w) w h p b.map runs.working-room runs.response-room x y u v)

  pub response-is : (x y : ℕ) → x < W → y < H → map_left img w h p b x y ≡ map_of (pixel img w) w h p x y
  response-is x y u v = rw map_is (map_at_lem (pixel img w) w h p b.map runs.working-room runs.response-room x y u v)

  -- by the entry's number
  pub entry-is : (i : ℕ) → i < W * H → get_or (buffers_of img w h p b).map.response i nan ≡ map_of (pixel img w) w h p (i % W) (i / W)
  entry-is i l = rw (div-add-mod' i W) at (response-is (i % W) (i / W) (column_in W H l) (row-number_in W H l))

  -- 0, or from 2^-6 to 2^24
  pub entry-range : Bytes img → (i : ℕ) → i < W * H
      → let v = map_of (pixel img w) w h p (i % W) (i / W) in (v ≡ f0) ⊎ (T (le lowest v) × T (le v (highest high)))
  entry-range bytes i l =
      map_range (factor_of p.image_upsample) (ray_of p.ray_radius) p.response_blur_radius (pixel img w) w h (byte-most img w bytes)
      runs.ray-most runs.blur_most (i % W) (i / W) (column_in W H l) (row-number_in W H l)

-- ---- two accepted calls, on a frame and on the same frame raised

module _ (img up : List ℕ) (step w h : ℕ) (p : RadonDetectorParams) (raised : (i : ℕ) → i < w * h → get_or up i 0 ≡ get_or img i 0 + step) where
  abbrev n : ℕ
  n = side_of w p * side_of h p

  same_places : (x y : ℕ) → x < side_of w p → y < side_of h p → map_of (pixel up w) w h p x y ≡ map_of (pixel img w) w h p x y
  same_places =
      raised_frame (factor_of p.image_upsample) (ray_of p.ray_radius) p.response_blur_radius (two p.image_upsample)
      (pixel img w) (pixel up w) step w h (λ x y a c. raised (y * w + x) (pixel_in a c))
    where
      two : (u : ℕ) → factor_of u ≤ 2
      two u = omega arith

  pub same-response : (b c : MapBuffers) → n ≤ length b.response → n ≤ length c.response
      → take n (mapped (pixel up w) w h p c).response ≡ take n (mapped (pixel img w) w h p b).response
  unfolding mapped_by
  same-response b c k l =
      written_same n _ c.response b.response l k
      ∙ ap (take n) (plane_ext (side_of w p) (side_of h p) (map_of (pixel up w) w h p) (map_of (pixel img w) w h p) b.response same_places)
