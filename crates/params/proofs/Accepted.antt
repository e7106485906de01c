-- What a call that is not refused has passed: each row of the table of answers, the other way round. Assumes nothing.
use mathlib.Core.Path.{◌≡◌, refl, sym, ◌∙◌}
use mathlib.Core.Bool.{Bool, true, false, ◌||◌, cond, true≢false}
use Prim.Native.Nat.{ℕ, ◌*◌, ◌≤◌, ◌<◌}
use native.Mathlib.Nat.{mul-le-mul}
use borrow.Author.Tests.{le-ltb, ltb-false, leb-false, eqb-true, eq-eqb, not-false}
use lib.Dec.{T, eqb}
use lib.Ieee.{le, is_nan, of_bits}
use Rattle.float.specs.Values.{f0, f1}
use Rattle.float.proofs.Order.{le_of_not_lt}
use Rattle.params.specs.declared.answers.Answer.{Answer}
use Rattle.params.specs.declared.answers.Answer.TheVariants.{Complete, FrameTooSmall}
use Rattle.params.specs.declared.settings.RadonDetectorParams.{RadonDetectorParams}
use Rattle.params.specs.Settings.{border_of}
use Rattle.params.specs.Answers.{number_of}
use Rattle.params.specs.Refusals.{or_else, side_over, pixels_of, size_refusal, map_refusal, list_refusal, room_refusal}
use Rattle.params.specs.Refusals.{working_of, out_of_range, too_small, stages_of, refusal_of, map_refusal_of}

pub record SizesPass (width height image up : ℕ) : Type 0 where
  pub wide : width ≤ 4096
  pub high : height ≤ 4096
  pub whole : image ≡ width * height
  pub pixels : pixels_of width height up ≤ 8388608

pub record MapPasses (p : RadonDetectorParams) : Type 0 where
  pub ray : p.ray_radius ≤ 7
  pub blur : p.response_blur_radius ≤ 3

-- w and h are the working sides
pub record ListPasses (w h : ℕ) (p : RadonDetectorParams) : Type 0 where
  pub suppression : p.nms_radius ≤ 32
  pub least : T (le f0 p.threshold_rel)
  pub most : T (le p.threshold_rel f1)
  pub wider : 2 * border_of p < w
  pub higher : 2 * border_of p < h

-- ---- one step of a chain

pub past : (t : Bool) (x y : Answer) → eqb (number_of x) 0 ≡ false → number_of (cond t x y) ≡ 0
    → (t ≡ false) × (number_of y ≡ 0)
past true x y e h = absurd (true≢false (sym (eq-eqb (number_of x) 0 h) ∙ e))
past false x y e h = (refl, h)

pub neither : (a b : Bool) → a || b ≡ false → (a ≡ false) × (b ≡ false)
neither true b e = absurd (true≢false e)
neither false b e = (refl, e)

-- the first stage passes, and so does the rest
pub both_pass : (a b : Answer) → number_of (or_else a b) ≡ 0 → (number_of a ≡ 0) × (number_of b ≡ 0)
both_pass a b e = go (eqb (number_of a) 0) refl e
  where
    go : (t : Bool) → eqb (number_of a) 0 ≡ t → number_of (cond t b a) ≡ 0 → (number_of a ≡ 0) × (number_of b ≡ 0)
    go true q h = (eqb-true (number_of a) 0 q, h)
    go false q h = absurd (true≢false (sym (eq-eqb (number_of a) 0 h) ∙ q))

-- ---- sides that are not too long

module _ (width height : ℕ) (short : side_over width height ≡ false) where
  pub sides_within : (width ≤ 4096) × (height ≤ 4096)
  sides_within =
      let sides = neither _ _ short in
      (ltb-false _ _ sides.0, ltb-false _ _ sides.1)

  -- nor are the working sides, f being the factor
  pub working-within : {f : ℕ} → f ≤ 2 → (f * width ≤ 8192) × (f * height ≤ 8192)
  working-within two = (mul-le-mul two sides_within.0, mul-le-mul two sides_within.1)

  -- W·H is the number that the code has for it
  pub pixels_exact : (up : ℕ) {n : ℕ}
      → n ≡ cond (side_over width height) 0 (pixels_of width height up) → n ≡ pixels_of width height up
  pixels_exact up e = rw short at e

-- ---- the stages

pub sides_pass : (width height image up : ℕ) → number_of (size_refusal width height image up) ≡ 0
    → side_over width height ≡ false
unfolding size_refusal
sides_pass width height image up e = (past _ _ _ refl e).0

pub sizes_pass : (width height image up : ℕ) → number_of (size_refusal width height image up) ≡ 0
    → SizesPass width height image up
unfolding size_refusal
sizes_pass width height image up e =
    let a = past _ _ _ refl e in
    let sides = sides_within width height a.0 in
    let b = past _ _ _ refl a.1 in
    let c = past _ _ _ refl b.1 in
    record {
      wide = sides.0;
      high = sides.1;
      whole = eqb-true _ _ (not-false _ b.0);
      pixels = ltb-false _ _ c.0;
    }

pub map_passes : (p : RadonDetectorParams) → number_of (map_refusal p) ≡ 0 → MapPasses p
unfolding map_refusal
map_passes p e =
    let a = past _ _ _ refl e in
    let b = past _ _ _ refl a.1 in
    record { ray = ltb-false _ _ a.0; blur = ltb-false _ _ b.0 }

number_zero : is_nan f0 ≡ false
unfolding is_nan of_bits
number_zero = refl

number-one : is_nan f1 ≡ false
unfolding is_nan of_bits
number-one = refl

pub list_passes : (w h : ℕ) (p : RadonDetectorParams) → number_of (list_refusal w h p) ≡ 0 → ListPasses w h p
unfolding list_refusal
list_passes w h p e =
    let a = past _ _ _ refl e in
    let b = past _ _ _ refl a.1 in
    let c = past _ _ _ refl b.1 in
    let number = neither _ _ b.0 in
    let inside = neither _ _ number.1 in
    let sides = neither _ _ c.0 in
    record {
      suppression = ltb-false _ _ a.0;
      least = le_of_not_lt f0 p.threshold_rel number_zero number.0 inside.0;
      most = le_of_not_lt p.threshold_rel f1 number.0 number-one inside.1;
      wider = leb-false _ _ sides.0;
      higher = leb-false _ _ sides.1;
    }

pub room_passes : (pixels room : ℕ) → number_of (room_refusal pixels room) ≡ 0 → pixels ≤ room
unfolding room_refusal
room_passes pixels room e = ltb-false _ _ (past _ _ _ refl e).0

-- ---- the whole tables

module _ (width height image : ℕ) (p : RadonDetectorParams) (room : ℕ) where
  -- the stages of both: what is said for the list is a parameter
  stages_pass : (list : Answer) → number_of (stages_of width height image p list room) ≡ 0
      → SizesPass width height image p.image_upsample × MapPasses p × (number_of list ≡ 0)
      × (pixels_of width height p.image_upsample ≤ room)
  stages_pass list e =
      let up = p.image_upsample in
      let last = room_refusal (pixels_of width height up) room in
      let a = both_pass (size_refusal width height image up) (or_else (map_refusal p) (or_else list last)) e in
      let b = both_pass (map_refusal p) (or_else list last) a.1 in
      let c = both_pass list last b.1 in
      let enough = room_passes (pixels_of width height up) room c.1 in
      (sizes_pass width height image up a.0, map_passes p b.0, c.0, enough)

  pub map_accepted : number_of (map_refusal_of width height image p room) ≡ 0
      → SizesPass width height image p.image_upsample × MapPasses p
      × (pixels_of width height p.image_upsample ≤ room)
  unfolding map_refusal_of
  map_accepted e =
      let s = stages_pass Complete e in
      (s.0, s.1, s.3)

  -- 15 is given where none of 2 to 8 applies and a working side is at most twice the border: the room is not asked for
  pub small-answered : SizesPass width height image p.image_upsample → MapPasses p → p.nms_radius ≤ 32
      → out_of_range p.threshold_rel ≡ false
      → too_small (working_of width p.image_upsample) (working_of height p.image_upsample) p ≡ true
      → refusal_of width height image p room ≡ FrameTooSmall
  unfolding refusal_of size_refusal map_refusal list_refusal
  small-answered sizes map suppression range small =
      let up = p.image_upsample in
      rw (
        le-ltb 4096 width sizes.wide,
        le-ltb 4096 height sizes.high,
        eq-eqb image (width * height) sizes.whole,
        le-ltb 8388608 (pixels_of width height up) sizes.pixels,
        le-ltb 7 p.ray_radius map.ray,
        le-ltb 3 p.response_blur_radius map.blur,
        le-ltb 32 p.nms_radius suppression,
        range,
        small,
      )

  pub all_accepted : number_of (refusal_of width height image p room) ≡ 0
      → SizesPass width height image p.image_upsample × MapPasses p
      × ListPasses (working_of width p.image_upsample) (working_of height p.image_upsample) p
      × (pixels_of width height p.image_upsample ≤ room)
  unfolding refusal_of
  all_accepted e =
      let up = p.image_upsample in
      let s = stages_pass (list_refusal (working_of width up) (working_of height up) p) e in
      (s.0, s.1, list_passes (working_of width up) (working_of height up) p s.2, s.3)
