-- The two cases of the finder's promise: a call that is refused, and one whose map and list follow. Assumes nothing.
use Rattle.std.specs.Prelude.{Result, Ok, Err, eqb}
use mathlib.Core.Path.{◌≡◌, refl, ap, ◌∙◌}
use mathlib.Core.Bool.{true}
use mathlib.Core.List.{List}
use Prim.Native.Nat.{ℕ, ◌*◌, ◌≤◌, ◌<◌, min}
use native.Mathlib.Nat.{le-min}
use native.Mathlib.Omega.{arith}
use borrow.Author.Tests.{eq-eqb, le-ltb}
use lib.ListN.{length}
use lib.Ieee.{Float, nan}
use Rattle.grid.proofs.Fill.{length-filled}
use Rattle.grid.proofs.Plane.{getD_plane, pixel_in}
use Rattle.grid.specs.Ways.{pixel}
use Rattle.grid.specs.Over.{written}
use Rattle.params.specs.declared.settings.RadonDetectorParams.{RadonDetectorParams}
use Rattle.params.specs.declared.answers.Answer.{Answer}
use Rattle.params.specs.declared.answers.Outcome.{Outcome}
use Rattle.params.specs.Settings.{factor_of, ray_of}
use Rattle.params.specs.Answers.{number_of, refused}
use Rattle.params.specs.Refusals.{or_else, size_refusal, map_refusal, list_refusal, room_refusal, pixels_of, refusal_of, map_refusal_of, as_result}
use Rattle.params.proofs.Judged.{ok_zero, err_is}
use Rattle.params.proofs.Accepted.{both_pass, sizes_pass}
use Rattle.response.specs.declared.Sides.{Sides}
use Rattle.response.specs.Map.{Buffers as MapBuffers, room_of, side_of, work_of, map_of, mapped, mapped_by, mapped_of, map_buffers_of}
use Rattle.response.proofs.Runs.{Runs, runs_of, side-most}
use Rattle.grid.specs.Ways.{value}
use Rattle.detect.specs.Corners.{verdicts_of, numbers, stride}
use Rattle.detect.specs.Detected.{working_refusal, peaks_refusal, found_in, peaks_outcome, list_of}
use Rattle.detect.proofs.Inside.{corners-same, verdicts-same, list_same}
use Rattle.radon.specs.Finder.{Buffers, answered, found, judged, outcome_of, buffers_of}

-- ---- numbers of chains: where every stage passes, the chain does

room_zero : (pixels room : ℕ) → pixels ≤ room → number_of (room_refusal pixels room) ≡ 0
unfolding room_refusal
room_zero pixels room l = rw (le-ltb room pixels l)

both_zero : (a b : Answer) → number_of a ≡ 0 → number_of b ≡ 0 → number_of (or_else a b) ≡ 0
both_zero a b p q = rw (eq-eqb (number_of a) 0 p) q

module _ (w h image : ℕ) (p : RadonDetectorParams) (room : ℕ) (e : number_of (refusal_of w h image p room) ≡ 0) where
  abbrev sizes : Answer
  sizes = size_refusal w h image p.image_upsample

  abbrev list : Answer
  list = list_refusal (side_of w p) (side_of h p) p

  abbrev last : Answer
  last = room_refusal (pixels_of w h p.image_upsample) room

  -- each stage of the table passes
  pub stages : (number_of sizes ≡ 0) × (number_of (map_refusal p) ≡ 0) × (number_of list ≡ 0) × (number_of last ≡ 0)
  unfolding refusal_of
  stages =
      let a = both_pass sizes (or_else (map_refusal p) (or_else list last)) e in
      let b = both_pass (map_refusal p) (or_else list last) a.1 in
      let c = both_pass list last b.1 in
      (a.0, b.0, c.0, c.1)

  -- so the map's table does
  pub map_zero : number_of (map_refusal_of w h image p room) ≡ 0
  unfolding map_refusal_of
  map_zero = both_zero sizes (or_else (map_refusal p) last) stages.0 (both_zero (map_refusal p) last stages.1 stages.3)

  working_zero : number_of (working_refusal (side_of w p) (side_of h p)) ≡ 0
  unfolding working_refusal
  working_zero =
      let s = sizes_pass w h image p.image_upsample stages.0 in
      let two : factor_of p.image_upsample ≤ 2 = factor_most p.image_upsample in
      rw (
        le-ltb 8192 (side_of w p) (side-most two s.wide),
        le-ltb 8192 (side_of h p) (side-most two s.high),
        le-ltb 8388608 (side_of w p * side_of h p) s.pixels,
      )
    where
      factor_most : (up : ℕ) → factor_of up ≤ 2
      factor_most up = omega arith

  -- and the list's, where map and image have room
  pub peaks_zero : (have : ℕ) → side_of w p * side_of h p ≤ have → number_of (peaks_refusal (side_of w p) (side_of h p) p have) ≡ 0
  unfolding peaks_refusal
  peaks_zero have l =
      let end = room_refusal (side_of w p * side_of h p) have in
      both_zero (working_refusal (side_of w p) (side_of h p)) (or_else (map_refusal p) (or_else list end)) working_zero
      (both_zero (map_refusal p) (or_else list end) stages.1
      (both_zero list end stages.2 (room_zero (side_of w p * side_of h p) have l)))

-- ---- what the map's entry leaves, for the list

module _ (f : ℕ → ℕ → ℕ) (w h : ℕ) (p : RadonDetectorParams) (b : MapBuffers)
    (working-room : side_of w p * side_of h p ≤ length b.working) (response-room : side_of w p * side_of h p ≤ length b.response)
  where
    abbrev W : ℕ
    W = side_of w p

    abbrev H : ℕ
    H = side_of h p

    abbrev left : MapBuffers
    left = mapped f w h p b

    pub map_at_lem : (x y : ℕ) → x < W → y < H → value left.response W x y ≡ map_of f w h p x y
    unfolding mapped_by
    map_at_lem x y u v = getD_plane u (W * H) (map_of f w h p) b.response y nan (pixel_in u v) response-room

    pub work_at_lem : (x y : ℕ) → x < W → y < H → pixel left.working W x y ≡ work_of f w h p x y
    unfolding mapped_by
    work_at_lem x y u v = getD_plane u (W * H) (work_of f w h p) b.working y 0 (pixel_in u v) working-room

    -- the corners, the counts and the list over the two buffers are those of the map over the working image
    pub found-is : found_in p W H left.response left.working ≡ found f w h p
    unfolding found
    found-is = corners-same p W H _ _ _ _ map_at_lem work_at_lem

    pub judged-is : verdicts_of p W H (value left.response W) (pixel left.working W) ≡ judged f w h p
    unfolding judged
    judged-is = verdicts-same p W H _ _ _ _ map_at_lem work_at_lem

    pub list-is : (old : List Float) → written stride (numbers p (value left.response W)) (found_in p W H left.response left.working) old
        ≡ written stride (numbers p (map_of f w h p)) (found f w h p) old
    unfolding found
    list-is old = list_same p W H _ _ _ _ map_at_lem work_at_lem old

    pub long : W * H ≤ min (length left.response) (length left.working)
    unfolding mapped_by
    long = le-min (rw length-filled response-room) (rw length-filled working-room)

-- what the passes had, from the whole table
pub runs_by : (w h : ℕ) (p : RadonDetectorParams) (image : ℕ) (b : MapBuffers) → number_of (refusal_of w h image p (room_of b)) ≡ 0
    → Runs (factor_of p.image_upsample) (ray_of p.ray_radius) p.response_blur_radius w h image b
runs_by w h p image b e = runs_of w h p image b refl refl refl (map_zero w h image p (room_of b) e)

-- ---- the whole call

module _ (img : List ℕ) (w h : ℕ) (p : RadonDetectorParams) (b : Buffers) where
  pub when_refused : {a : Answer} → Err a ≡ as_result (answered img w h p b) → {o : Outcome} → o ≡ refused a
      → (o ≡ outcome_of img w h p b) × (b ≡ buffers_of img w h p b)
  unfolding outcome_of buffers_of
  when_refused j q =
      let i = err_is (answered img w h p b) refl j in
      rw i.1 (q ∙ ap refused i.0, refl)

  module _ (j : Ok tt ≡ as_result (answered img w h p b)) where
    zero_answered : number_of (answered img w h p b) ≡ 0
    zero_answered = ok_zero (answered img w h p b) refl j

    runs : Runs (factor_of p.image_upsample) (ray_of p.ray_radius) p.response_blur_radius w h (length img) b.map
    runs = runs_by w h p (length img) b.map zero_answered

    -- the map's table passes too
    map-accepts : eqb (number_of (map_refusal_of w h (length img) p (room_of b.map))) 0 ≡ true
    map-accepts =
        eq-eqb (number_of (map_refusal_of w h (length img) p (room_of b.map))) 0
        (map_zero w h (length img) p (room_of b.map) zero_answered)

    -- so the map's entry does not refuse
    pub map-not-refused : {a : Answer} → Err a ≡ mapped_of img w h p b.map → ⊥
    unfolding mapped_of
    map-not-refused u = err-not-ok (rw map-accepts at u)
      where
        err-not-ok : {a : Answer} {s : Sides} → ◌≡◌ {A = Result Sides Answer} (Err a) (Ok s) → ⊥
        err-not-ok e = cc

    -- what it reported and left
    map_accepted_by : {m : Sides} {after : MapBuffers} → Ok m ≡ mapped_of img w h p b.map → after ≡ map_buffers_of img w h p b.map
        → (m.w ≡ side_of w p) × (m.h ≡ side_of h p) × (after ≡ mapped (pixel img w) w h p b.map)
    unfolding mapped_of map_buffers_of
    map_accepted_by u v =
        let m-is = ok-inj (rw map-accepts at u) in
        (ap (λ (m : Sides). m.w) m-is, ap (λ (m : Sides). m.h) m-is, rw map-accepts at v)
      where
        ok-inj : {m s : Sides} → ◌≡◌ {A = Result Sides Answer} (Ok m) (Ok s) → m ≡ s
        ok-inj e = cc

    pub when_accepted : {m : Sides} {after : MapBuffers} {o : Outcome} {list : List Float} → Ok m ≡ mapped_of img w h p b.map
        → after ≡ map_buffers_of img w h p b.map
        → o ≡ peaks_outcome p m.w m.h after.response after.working (length b.list)
        → list ≡ list_of p m.w m.h after.response after.working b.list
        → (o ≡ outcome_of img w h p b) × (◌≡◌ {A = Buffers} (record { map = after; list = list }) (buffers_of img w h p b))
    unfolding outcome_of buffers_of peaks_outcome list_of
    when_accepted {m} {after} {o} {list} u v s l =
        let c = map_accepted_by u v in
        let f = pixel img w in
        let M = mapped f w h p b.map in
        let have = long f w h p b.map runs.working-room runs.response-room in
        let t = eq-eqb (number_of (answered img w h p b)) 0 zero_answered in
        let q =
        eq-eqb (number_of (peaks_refusal (side_of w p) (side_of h p) p (min (length M.response) (length M.working)))) 0
        (peaks_zero w h (length img) p (room_of b.map) zero_answered _ have) in
        let s1 =
        rw (
          c.0,
          c.1,
          c.2,
          q,
          found-is f w h p b.map runs.working-room runs.response-room,
          judged-is f w h p b.map runs.working-room runs.response-room,
        ) at s in
        let l1 = rw (c.0, c.1, c.2, q, list-is f w h p b.map runs.working-room runs.response-room b.list) at l in
        (rw t s1, rw t (λ i. record { map = c.2 i; list = l1 i }))
