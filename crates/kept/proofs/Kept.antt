-- A list that the finder wrote, kept as a corner record: it is never answered 19, it is written wherever the output has room,
-- and it comes back. Of the finder this takes what its own theorems say (radon/proofs/Demands: every number that is written is
-- finite), of the record what is said in record/proofs/KeptLists. Assumes nothing.
use mathlib.Core.Path.{◌≡◌, ap, ◌∙◌}
use mathlib.Core.List.{List}
use Prim.Native.Nat.{ℕ, ◌-◌, ◌*◌, ◌≤◌, ◌<◌}
use native.Mathlib.Nat.{le_trans, mul-le-mul}
use native.Mathlib.Omega.{arith}
use lib.Dec.{lit<}
use lib.Ieee.{Float, nan}
use lib.ListN.{length, take}
use lib.Seq.{length-take-le, get_or-take}
use Rattle.grid.specs.Each.{count}
use Rattle.grid.specs.Over.{written}
use Rattle.grid.proofs.Each.{count_most}
use Rattle.grid.proofs.Over.{length_over}
use Rattle.grid.proofs.Rect.{length-rect}
use Rattle.params.specs.declared.answers.Answer.TheVariants.{NotFinite}
use Rattle.params.specs.declared.settings.RadonDetectorParams.{RadonDetectorParams}
use Rattle.params.specs.declared.answers.Outcome.{Outcome}
use Rattle.params.specs.Settings.{border_of}
use Rattle.params.proofs.Accepted.{SizesPass, all_accepted}
use Rattle.response.specs.Map.{room_of, side_of}
use Rattle.response.proofs.Runs.{side-most}
use Rattle.detect.specs.Corners.{candidates, corners, stride}
use Rattle.radon.specs.Finder.{Buffers, Bytes}
use Rattle.radon.proofs.Left.{Accepted, map_left, image_left, list_left, runs, left_is}
use Rattle.radon.proofs.Lists.{written_by}
use Rattle.radon.proofs.Demands.{list_finite}
use Rattle.record.specs.Record.{version, most, corners_in, whole_of, read_back}
use Rattle.record.proofs.Chains.{Finite, Takes, complete, wrote_is}
use Rattle.record.proofs.RoundTrip.{F32s, corners_of, whole_of_lem}
use Rattle.record.proofs.KeptLists.{wrote, read, size_of, record_left, never_not_finite, comes_back}

-- no more corners than places
fewer : (p : RadonDetectorParams) (w h : ℕ) (f : ℕ → ℕ → Float) (g : ℕ → ℕ → ℕ) → length (corners p w h f g) ≤ w * h
unfolding corners count
fewer p w h f g =
    let b = border_of p in
    let inner : length (candidates w h b) ≡ (w - b - b) * (h - b - b) = length-rect b (w - b) b (h - b) in
    let less : (w - b - b) * (h - b - b) ≤ w * h = mul-le-mul (omega arith) (omega arith) in
    le_trans (count_most _ (candidates w h b)) (omega arith)

-- an accepted call
module _ (img : List ℕ) (w h : ℕ) (p : RadonDetectorParams) (b : Buffers) (accepted : Accepted img w h p b) where
  abbrev W : ℕ
  W = side_of w p

  abbrev H : ℕ
  H = side_of h p

  -- how many corners it stored, and their numbers
  abbrev pub stored : ℕ
  stored = written_by img w h p b

  abbrev pub kept : List Float
  kept = take (stride * stored) (list_left img w h p b)

  as_long : length (list_left img w h p b) ≡ length b.list
  unfolding written
  as_long = ap (λ (o : Buffers). length o.list) (left_is img w h p b accepted) ∙ length_over _ b.list

  kept_long : length kept ≡ stride * stored
  kept_long = length-take-le (stride * stored) (list_left img w h p b) (omega (arith, as_long))

  kept_corners : corners_in stride kept ≡ stored
  kept_corners = corners_of stride stored kept (lit< tt) kept_long

  kept_whole : whole_of stride kept ≡ kept
  kept_whole = whole_of_lem stride stored kept (lit< tt) kept_long

  sizes : SizesPass w h (length img) p.image_upsample
  sizes = (all_accepted w h (length img) p (room_of b.map) accepted).0

  -- two bytes hold a side
  pub sides_fit : (W < 65536) × (H < 65536)
  sides_fit =
      let r = runs img w h p b accepted in
      let u : W ≤ 8192 = side-most r.two r.wide in
      let v : H ≤ 8192 = side-most r.two r.high in
      omega arith

  -- and the corners are not too many for a record
  few : stored ≤ most
  few = omega (arith, fewer p W H (map_left img w h p b) (image_left img w h p b), sizes.pixels)

  module _ (bytes : Bytes img) where
    -- by the finder's own theorem
    kept_finite : Finite (stride * corners_in stride kept) kept
    kept_finite i l =
        let m : i < stride * stored = rw kept_corners at l in
        rw (get_or-take (stride * stored) (list_left img w h p b) i nan m) (list_finite img w h p b accepted bytes i m)

    pub never_answered_19 : (out : List ℕ) → (wrote stride W H kept out).answer ≡ NotFinite → ⊥
    never_answered_19 out = never_not_finite stride W H kept out kept_finite

    takes : (out : List ℕ) → size_of stride stored ≤ length out → Takes stride kept (length out)
    takes out room = record { few = rw kept_corners few; numbers = kept_finite; fits = rw kept_corners room }

    -- all of them are written where there is room
    pub written_where_room : (out : List ℕ) → size_of stride stored ≤ length out → wrote stride W H kept out ≡ complete stored W H
    written_where_room out room = wrote_is version stride W H kept out (takes out room) ∙ ap (λ (n : ℕ). complete n W H) kept_corners

    -- and come back, each number as it was; the numbers of a lent list are f32
    pub dawn_comes_back : F32s kept → (out : List ℕ) (old : List Float) → size_of stride stored ≤ length out → stride * stored ≤ length old
        → let file = record_left version stride W H kept out in
        (read version stride file old ≡ complete stored W H) × (take (stride * stored) (read_back version stride file old) ≡ kept)
    dawn_comes_back f32s out old room enough =
        let written = ap (λ (o : Outcome). o.answer) (written_where_room out room) in
        let back = comes_back version stride W H kept out old f32s written (rw kept_corners enough) in
        let told = back.0 ∙ ap (λ (n : ℕ). complete n W H) kept_corners in
        (told, rw told at (back.1 ∙ kept_whole))
