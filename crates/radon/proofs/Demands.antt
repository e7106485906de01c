-- The three demands as theorems, in the user's order: D1 old contents and refusals, D2 what the result is, D3 higher settings, shorter lists,
-- raised frames. They speak of what a call leaves: by its contract `radon_corners_u8` answers `outcome_of img w h p b` and leaves the buffers
-- `buffers_of img w h p b` (specs/Finder), for every image img and sides w, h, all settings p and all buffers b. Left.antt names what is left,
-- and Lists.antt has what is said of a list: `ListIs`, `Filtered`, `Opens`. Assumes nothing.
use mathlib.Core.Path.{◌≡◌, refl, sym, ap, ◌∙◌}
use mathlib.Core.Logic.{◌⊎◌, inl, inr}
use mathlib.Core.Bool.{true, false, or-true}
use mathlib.Core.List.{List}
use Prim.Native.Nat.{ℕ, ◌+◌, ◌*◌, ◌/◌, ◌%◌, ◌≤◌, ◌<◌}
use native.Mathlib.Omega.{arith}
use borrow.Author.Tests.{ne_eqb, le-leb}
use lib.Dec.{T, leb}
use lib.ListN.{length, get_or, take, drop}
use lib.Ieee.{Float, nan, binary32, of_bits, is_nan, fits, le, lt}
use lib.Ieee.Exact.{HasValue}
use lib.Ieee.Scale.{finite}
use Rattle.float.specs.Values.{f0}
use Rattle.grid.specs.Ways.{pixel, Inside}
use Rattle.scalar.specs.Log.{log_of, terms, high, lowest, highest, Near}
use Rattle.std.specs.Prelude.{Some}
use Rattle.scalar.proofs.Facts.{log_near, log_inside}
use Rattle.params.specs.declared.settings.RadonDetectorParams.{RadonDetectorParams}
use Rattle.params.specs.declared.answers.Answer.TheVariants.{FrameTooSmall}
use Rattle.params.specs.Settings.{defaults, factor_of, ray_of, border_of}
use Rattle.params.specs.Answers.{number_of, refused}
use Rattle.params.specs.Refusals.{out_of_range, too_small}
use Rattle.params.proofs.Accepted.{SizesPass, MapPasses, all_accepted, small-answered}
use Rattle.response.specs.Map.{room_of, side_of}
use Rattle.upsample.specs.Kernel.{quarter, near}
use Rattle.rays.specs.Response.{ray_spread}
use Rattle.response.proofs.MapFacts.{SameWritten, same-written}
use Rattle.upsample.proofs.RoundedQuarter.{work_doubled, work_copied}
use Rattle.response.proofs.Places.{raw_squared, raw_border, unblurred, map-fits}
use Rattle.response.proofs.Beyond.{Stays, stays}
use Rattle.crests.specs.Maximum.{entry}
use Rattle.detect.specs.Corners.{stride}
use Rattle.detect.proofs.HigherSettings.{raised}
use Rattle.detect.proofs.HigherCounts.{HigherCounts, HigherLeast}
use Rattle.detect.proofs.Places.{OnFrame}
use Rattle.radon.specs.Finder.{Buffers, Bytes, answered, outcome_of, buffers_of}
use Rattle.radon.proofs.Left.{Accepted, map_left, image_left, list_left, runs, map_is, working-is, response-is, entry-is}
use Rattle.radon.proofs.Left.{entry-range, same-response, byte-most, is_true}
use Rattle.radon.proofs.Lists.{written_by, room_in, x_of, y_of, strength_of, ListIs, Filtered, Opens}
use Rattle.radon.proofs.Lists as lists

-- W·H
abbrev pub pixels : ℕ → ℕ → RadonDetectorParams → ℕ
pixels w h p = side_of w p * side_of h p

-- ---- D1. "Bad input gets a numbered refusal, a count of zero and untouched buffers." `refused` has count, W and H 0, and six zeros

module _ (img : List ℕ) (w h : ℕ) (p : RadonDetectorParams) (b : Buffers) where
  pub refusal_leaves_all : (Accepted img w h p b → ⊥)
      → (outcome_of img w h p b ≡ refused (answered img w h p b)) × (buffers_of img w h p b ≡ b)
  unfolding outcome_of buffers_of
  refusal_leaves_all z = rw (ne_eqb (number_of (answered img w h p b)) 0 z) (refl, refl)

  -- "A frame whose working width or height is at most twice the border shall be refused, sides of 0 included", where none of 2 to 8 applies and
  -- whatever is lent, so before 9; and what is accepted is larger
  pub small_frame_refused : SizesPass w h (length img) p.image_upsample → MapPasses p → p.nms_radius ≤ 32
      → out_of_range p.threshold_rel ≡ false → too_small (side_of w p) (side_of h p) p ≡ true
      → (outcome_of img w h p b ≡ refused FrameTooSmall) × (buffers_of img w h p b ≡ b)
  small_frame_refused sizes map suppression range small =
      let is : answered img w h p b ≡ FrameTooSmall = small-answered w h (length img) p (room_of b.map) sizes map suppression range small in
      let r = refusal_leaves_all (λ z. let n : ◌≡◌ {A = ℕ} 15 0 = sym (ap number_of is) ∙ z in absurd (omega arith)) in
      (r.0 ∙ ap refused is, r.1)

  pub accepted_is_larger : Accepted img w h p b → (2 * border_of p < side_of w p) × (2 * border_of p < side_of h p)
  accepted_is_larger z =
      let l = (all_accepted w h (length img) p (room_of b.map) z).2 in
      (l.wider, l.higher)

  -- "Entries beyond stay"
  pub map_beyond_stays : Accepted img w h p b → Stays (pixels w h p) p.response_blur_radius b.map (buffers_of img w h p b).map
  map_beyond_stays z =
      rw (map_is img w h p b z)
      (stays (factor_of p.image_upsample) (ray_of p.ray_radius) p.response_blur_radius (pixel img w) w h b.map)

  pub list_beyond_stays : Accepted img w h p b
      → drop (stride * written_by img w h p b) (list_left img w h p b) ≡ drop (stride * written_by img w h p b) b.list
  list_beyond_stays z = (lists.list_is_corners img w h p b z).beyond

-- At the defaults the border is 4 + 6 + 1: a frame of 22 working pixels a side is refused, and what is accepted is larger
module _ (img : List ℕ) (w h : ℕ) (b : Buffers) where
  pub default_small_refused : SizesPass w h (length img) defaults.image_upsample → (side_of w defaults ≤ 22) ⊎ (side_of h defaults ≤ 22)
      → (outcome_of img w h defaults b ≡ refused FrameTooSmall) × (buffers_of img w h defaults b ≡ b)
  default_small_refused sizes s =
      small_frame_refused img w h defaults b sizes (record { ray = omega arith; blur = omega arith }) (omega arith) range (small s)
    where
      range : out_of_range defaults.threshold_rel ≡ false
      range = unfold is_nan lt of_bits in refl

      small : (side_of w defaults ≤ 22) ⊎ (side_of h defaults ≤ 22) → too_small (side_of w defaults) (side_of h defaults) defaults ≡ true
      small (inl l) = rw (le-leb (side_of w defaults) 22 l)
      small (inr l) = rw (le-leb (side_of h defaults) 22 l, or-true (leb (side_of w defaults) 22))

  pub default_accepted_larger : Accepted img w h defaults b → (22 < side_of w defaults) × (22 < side_of h defaults)
  default_accepted_larger = accepted_is_larger img w h defaults b

-- "What a buffer held before the call changes no answer and no written number."
module _ (img : List ℕ) (w h : ℕ) (p : RadonDetectorParams) (b c : Buffers)
    (room : room_of b.map ≡ room_of c.map) (list : length b.list ≡ length c.list) where
  pub same_answer : outcome_of img w h p b ≡ outcome_of img w h p c
  unfolding outcome_of
  same_answer = rw (room, list)

  -- the map's buffers
  pub same_map : Accepted img w h p b
      → SameWritten (pixels w h p) p.response_blur_radius (buffers_of img w h p b).map (buffers_of img w h p c).map
  same_map z =
      let y : Accepted img w h p c = rw room at z in
      rw (map_is img w h p b z, map_is img w h p c y)
      (same-written _ _ _ (pixel img w) w h (length img) b.map c.map (runs img w h p b z) (runs img w h p c y))

  -- the list
  pub same-list : Accepted img w h p b
      → take (stride * written_by img w h p b) (list_left img w h p b) ≡ take (stride * written_by img w h p b) (list_left img w h p c)
  same-list z = (lists.shorter_list img w h p b c z (rw room at z) (omega arith)).opening_corners

-- ---- D2. What an accepted call leaves: x, y of the working image and of the response is entry y * W + x of the buffer

-- v lies from 2^-6 to 2^24; its logarithm is defined, and within 2^-19 of L
pub record Logged (v : Float) : Type 0 where
  pub least : T (le lowest v)
  pub most : T (le v (highest high))
  pub log : Float
  pub defined : log_of terms high v ≡ Some log
  pub close : Near terms v log

logged : (v : Float) → T (fits binary32 v) → T (le lowest v) → T (le v (highest high)) → Logged v
logged v f l m =
    let d = log_inside terms high v (is_true (le lowest v) l) (is_true (le v (highest high)) m) in
    record { least = l; most = m; log = _; defined = d; close = log_near v _ f d }

module _ (img : List ℕ) (w h : ℕ) (p : RadonDetectorParams) (b : Buffers) (accepted : Accepted img w h p b) where
  abbrev W : ℕ
  W = side_of w p

  abbrev H : ℕ
  H = side_of h p

  abbrev factor : ℕ
  factor = factor_of p.image_upsample

  abbrev ray : ℕ
  ray = ray_of p.ray_radius

  abbrev image : ℕ → ℕ → ℕ
  image = pixel img w

  abbrev working : ℕ → ℕ → ℕ
  working = image_left img w h p b

  abbrev response : ℕ → ℕ → Float
  response = map_left img w h p b

  -- of the four directly summed rays of that working image
  abbrev spread : ℕ → ℕ → ℕ
  spread = ray_spread working ray

  -- "upsampling is a rounded quarter-sum": the four pixels are named
  pub upsampling_is_quarter_sum : factor ≡ 2 → (x y : ℕ) → x < W → y < H
      → working x y ≡ quarter (image (x / 2) (y / 2)) (image (near w x) (y / 2)) (image (x / 2) (near h y)) (image (near w x) (near h y))
  upsampling_is_quarter_sum e x y u v = working-is img w h p b accepted x y u v ∙ work_doubled factor image w h x y e

  -- "Factor 1 copies"
  pub factor_one_copies : factor ≡ 1 → (x y : ℕ) → x < W → y < H → working x y ≡ image x y
  factor_one_copies e x y u v = working-is img w h p b accepted x y u v ∙ work_copied factor image w h x y e

  -- "the unblurred response is the squared spread of four directly summed rays", exactly that whole number
  pub response_is_squared_spread : Bytes img → p.response_blur_radius ≡ 0 → (x y : ℕ) → Inside W H ray x y
      → HasValue (response x y) false (spread x y * spread x y) 1
  response_is_squared_spread bytes e x y m =
      rw (response-is img w h p b accepted x y (omega arith) (omega arith) ∙ unblurred factor ray image w h x y e)
      (raw_squared factor ray image w h x y (byte-most img w bytes) (runs img w h p b accepted).ray-most m working (working-is img w h p b accepted))

  -- "zero on the border"
  pub border_is_zero : p.response_blur_radius ≡ 0 → (x y : ℕ) → x < W → y < H → (Inside W H ray x y → ⊥) → response x y ≡ f0
  border_is_zero e x y u v n =
      response-is img w h p b accepted x y u v ∙ unblurred factor ray image w h x y e ∙ raw_border factor ray image w h x y n

  -- "their logarithm has a stated bound": blurred or not, a value of the response is 0, or has its logarithm
  pub values_have_logarithms : Bytes img → (i : ℕ) → i < W * H
      → let v = get_or (buffers_of img w h p b).map.response i nan in (v ≡ f0) ⊎ Logged v
  values_have_logarithms bytes i l =
      rw (entry-is img w h p b accepted i l)
      (elim (entry-range img w h p b accepted bytes i l) [
        | inl z ↦ inl z
        | inr k ↦ inr (logged _ (map-fits factor ray p.response_blur_radius image w h (i % W) (i / W)) k.0 k.1)
      ])

  -- "corners in row order": count, answer, W and H, the six counts, and the list's numbers, from the response and the working image that were left
  pub list_is_corners : ListIs img w h p b
  list_is_corners = lists.list_is_corners img w h p b accepted

  -- every number that is written is finite, and every place lies from 0 to the frame's sides, so from 0 to 4,096
  pub list_finite : Bytes img → (k : ℕ) → k < stride * written_by img w h p b → T (finite (entry (list_left img w h p b) k))
  list_finite = lists.list_finite img w h p b accepted

  pub list_on_frame : Bytes img → (i : ℕ) → i < written_by img w h p b
      → OnFrame w h (x_of (list_left img w h p b) i) (y_of (list_left img w h p b) i) (strength_of (list_left img w h p b) i)
  list_on_frame = lists.list_on_frame img w h p b accepted

-- ---- D3. "The higher setting's list is exactly those of the lower's corners that pass the higher floor and count, in order, bits unchanged."
-- p with a fraction t and a least count n is `raised p t n`; each list has room for all of the lower's corners

pub higher_setting : (img : List ℕ) (w h : ℕ) (p : RadonDetectorParams) (t : Float) (n : ℕ) (low high : Buffers)
    → Accepted img w h p low → Accepted img w h (raised p t n) high → T (le p.threshold_rel t) → p.min_cluster_size ≤ n
    → (outcome_of img w h p low).count ≤ room_in low → (outcome_of img w h p low).count ≤ room_in high
    → Filtered img w h p t n low high
higher_setting = lists.higher_setting

-- The six counts of the two, whatever room their lists have: "not above" is no less, each but "too few" and it is no more, and none is lost.
pub higher_setting_counts : (img : List ℕ) (w h : ℕ) (p : RadonDetectorParams) (t : Float) (n : ℕ) (low high : Buffers)
    → Accepted img w h p low → Accepted img w h (raised p t n) high → T (le p.threshold_rel t) → p.min_cluster_size ≤ n
    → HigherCounts (outcome_of img w h p low).verdicts (outcome_of img w h (raised p t n) high).verdicts
higher_setting_counts = lists.higher-verdicts

-- With a higher fraction alone "too few" is no more either: only "not above" grows, by what the others lose.
pub higher_fraction_counts : (img : List ℕ) (w h : ℕ) (p : RadonDetectorParams) (t : Float) (low high : Buffers) → let n = p.min_cluster_size in
    Accepted img w h p low → Accepted img w h (raised p t n) high → T (le p.threshold_rel t)
    → (outcome_of img w h (raised p t n) high).verdicts.too_few ≤ (outcome_of img w h p low).verdicts.too_few
higher_fraction_counts img w h p t low high y z e = lists.fewer_too_few img w h p t _ low high y z e refl

-- With a higher least count alone "not above" and "beaten" are as they were, and only "too few" grows.
pub higher_least_counts : (img : List ℕ) (w h : ℕ) (p : RadonDetectorParams) (n : ℕ) (low high : Buffers) → let q = raised p p.threshold_rel n in
    Accepted img w h p low → Accepted img w h q high → p.min_cluster_size ≤ n
    → HigherLeast (outcome_of img w h p low).verdicts (outcome_of img w h q high).verdicts
higher_least_counts img w h p n low high y z e = lists.higher_least_verdicts img w h p _ n low high y z refl e

-- "A shorter list holds the opening corners of a longer one, with the same total."
pub shorter_list : (img : List ℕ) (w h : ℕ) (p : RadonDetectorParams) (short long : Buffers)
    → Accepted img w h p short → Accepted img w h p long → length short.list ≤ length long.list → Opens img w h p short long
shorter_list = lists.shorter_list

-- "A frame raised evenly by some grey steps, no pixel past 255, has the same map, bit for bit": up is img raised, and the response holds the map.
-- Both have w * h entries, since both calls are accepted.
pub raised_frame_same_map : (img up : List ℕ) (step w h : ℕ) (p : RadonDetectorParams) (b c : Buffers)
    → Accepted img w h p b → Accepted up w h p c → ((i : ℕ) → i < length img → get_or up i 0 ≡ get_or img i 0 + step)
    → take (pixels w h p) (buffers_of up w h p c).map.response ≡ take (pixels w h p) (buffers_of img w h p b).map.response
raised_frame_same_map img up step w h p b c y z e =
    let r = runs img w h p b y in
    rw (map_is img w h p b y, map_is up w h p c z)
    (same-response img up step w h p (λ i l. e i (rw r.whole l)) b.map c.map r.response-room (runs up w h p c z).response-room)
