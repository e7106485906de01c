-- A single call over two sets of buffers that are as long: it tells the same, writes the same entries and leaves those beyond, and it changes no
-- length. First the finder's, then that of a file which was read as r. Assumes nothing.
use Rattle.std.specs.Prelude.{Result, Ok, Err}
use Rattle.frame.specs.declared.Header.{Header}
use Rattle.params.specs.declared.answers.Answer.{Answer}
use mathlib.Core.Path.{◌≡◌, refl, sym, ap, ◌∙◌}
use mathlib.Core.Bool.{Bool, true, false, cond}
use mathlib.Core.List.{List}
use Prim.Native.Nat.{ℕ, zero, suc, ◌*◌, ◌/◌, ◌<◌, min}
use native.Mathlib.Decide.{ℕ_discrete}
use native.Mathlib.Omega.{arith}
use borrow.Author.Tests.{eq-eqb}
use lib.Dec.{leb}
use lib.Ieee.{Float}
use lib.ListN.{length, drop}
use Rattle.grid.specs.Ways.{pixel}
use Rattle.grid.specs.Over.{written}
use Rattle.grid.proofs.Fill.{length-filled}
use Rattle.grid.proofs.Over.{length_over}
use Rattle.params.specs.declared.answers.Answer.TheVariants.{Complete, ListFull}
use Rattle.params.specs.declared.answers.Outcome.{Outcome}
use Rattle.params.specs.declared.settings.RadonDetectorParams.{RadonDetectorParams}
use Rattle.params.specs.Answers.{number_of, refused}
use Rattle.response.specs.Map.{room_of, mapped_by}
use Rattle.blur.specs.Blur.{scratched}
use Rattle.detect.specs.Corners.{stride}
use Rattle.radon.specs.Finder.{Buffers, answered, found, outcome_of, buffers_of}
use Rattle.radon.proofs.Left.{Accepted, left_is}
use Rattle.radon.proofs.Demands.{refusal_leaves_all, map_beyond_stays, list_beyond_stays, same_answer, same_map}
use Rattle.radon.proofs.Demands.{list_is_corners, shorter_list}
use Rattle.frame_runner.specs.FileAnswer.{outcome_for, buffers_for}
use Rattle.arch.proofs.Cameras.{SameLengths, same_lengths}
use Rattle.arch_facts.proofs.Parts.{Wrote, wrote_none}
use Rattle.arch_facts.proofs.Work.{Writes, writes_none, in_scratch, none_in_scratch, writes_by, rooms_same}

-- ---- the finder's

scratch-long : (g : ℕ → ℕ → Float) (w h r : ℕ) (old : List Float) → length (scratched g w h r old) ≡ length old
unfolding scratched
scratch-long g w h zero old = refl
scratch-long g w h (suc r) old = length-filled (w * h) _ old

-- W·H
abbrev pub area : Outcome → ℕ
area o = o.w * o.h

-- how many numbers of a list with `size` are written
abbrev pub listed : Outcome → ℕ → ℕ
listed o size = stride * min o.count (size / stride)

none_listed : (size : ℕ) → stride * min 0 (size / stride) ≡ 0
none_listed size = omega arith

full_most : (t : Bool) → 1 < number_of (cond t Complete ListFull) → ⊥
full_most true l = omega arith
full_most false l = omega arith

abbrev list_in : Buffers → List Float
list_in b = b.list

module _ (img : List ℕ) (w h : ℕ) (p : RadonDetectorParams) where
  accepted_long : (b : Buffers) → Accepted img w h p b → SameLengths b (buffers_of img w h p b)
  unfolding mapped_by written
  accepted_long b z = rw (left_is img w h p b z) (record {
    working = length-filled _ _ _;
    row = length-filled _ _ _;
    col = length-filled _ _ _;
    falling = length-filled _ _ _;
    rising = length-filled _ _ _;
    response = length-filled _ _ _;
    scratch = scratch-long _ _ _ p.response_blur_radius _;
    list = length_over _ _;
  })

  finder_long : (b : Buffers) → SameLengths b (buffers_of img w h p b)
  finder_long b = by (ℕ_discrete (number_of (answered img w h p b)) 0)
    where
      by : Dec (Accepted img w h p b) → SameLengths b (buffers_of img w h p b)
      by (yes z) = accepted_long b z
      by (no z) = rw (refusal_leaves_all img w h p b z).1 (same_lengths b)

  module _ (b c : Buffers) (same : SameLengths b c) where
    abbrev o : Outcome
    o = outcome_of img w h p b

    abbrev blur : ℕ
    blur = p.response_blur_radius

    abbrev rooms : room_of b.map ≡ room_of c.map
    rooms = rooms_same same

    abbrev lists : length b.list ≡ length c.list
    lists = sym same.list

    -- what it writes, and what it leaves in the lists
    abbrev Leaves : Buffers → Buffers → Type 0
    Leaves d e =
        Writes (area o) (in_scratch blur (area o)) b.map c.map d.map e.map
        × Wrote (listed o (length b.list)) b.list c.list d.list e.list

    accepted_writes : Accepted img w h p b → Accepted img w h p c → Leaves (buffers_of img w h p b) (buffers_of img w h p c)
    accepted_writes z y =
        let is = list_is_corners img w h p b z in
        let opens = shorter_list img w h p b c z y (omega arith) in
        rw (is.wide, is.high, is.count) (
          writes_by _ blur (same_map img w h p b c rooms lists z) (map_beyond_stays img w h p b z) (map_beyond_stays img w h p c y),
          record {
            same = opens.opening_corners;
            stays = is.beyond;
            stays_too = rw (opens.same-corners, lists) (list_beyond_stays img w h p c y);
          },
        )

    finder_writes : Leaves (buffers_of img w h p b) (buffers_of img w h p c)
    finder_writes = by (ℕ_discrete (number_of (answered img w h p b)) 0)
      where
        by : Dec (Accepted img w h p b) → Leaves (buffers_of img w h p b) (buffers_of img w h p c)
        by (yes z) = accepted_writes z (rw rooms at z)
        by (no z) =
            let f = refusal_leaves_all img w h p b z in
            let g = refusal_leaves_all img w h p c (λ e. z (rw rooms e)) in
            rw (f.0, f.1, g.1, none_in_scratch blur) (writes_none, wrote_none _ (none_listed (length b.list)))

  -- over the same list it leaves the same list, whatever the work buffers hold
  finder_list : (b c : Buffers) → room_of b.map ≡ room_of c.map → b.list ≡ c.list
      → (buffers_of img w h p b).list ≡ (buffers_of img w h p c).list
  finder_list b c rooms e = by (ℕ_discrete (number_of (answered img w h p b)) 0)
    where
      by : Dec (Accepted img w h p b) → (buffers_of img w h p b).list ≡ (buffers_of img w h p c).list
      by (yes z) =
          ap list_in (left_is img w h p b z)
          ∙ ap (written stride _ _) e
          ∙ sym (ap list_in (left_is img w h p c (rw rooms at z)))
      by (no z) =
          ap list_in (refusal_leaves_all img w h p b z).1
          ∙ e
          ∙ sym (ap list_in (refusal_leaves_all img w h p c (λ y. z (rw rooms y))).1)

  -- an answer above 1 is a refusal: with zeros, and no buffer changes
  finder_refuses : (b : Buffers) → 1 < number_of (outcome_of img w h p b).answer
      → (outcome_of img w h p b ≡ refused (outcome_of img w h p b).answer) × (buffers_of img w h p b ≡ b)
  unfolding outcome_of
  finder_refuses b l = by (ℕ_discrete (number_of (answered img w h p b)) 0)
    where
      by : Dec (Accepted img w h p b) → (outcome_of img w h p b ≡ refused (outcome_of img w h p b).answer) × (buffers_of img w h p b ≡ b)
      by (yes z) =
          let all = leb (length (found (pixel img w) w h p)) (length b.list / stride) in
          absurd (full_most all (rw (eq-eqb (number_of (answered img w h p b)) 0 z) at l))
      by (no z) =
          let f = refusal_leaves_all img w h p b z in
          (f.0 ∙ ap refused (sym (ap (λ (o : Outcome). o.answer) f.0)), f.1)

-- ---- that of a file which was read as r

-- W·H where the scratch is used
abbrev pub blurred_area : Result Header Answer → Outcome → ℕ
blurred_area (Err a) o = 0
blurred_area (Ok h) o = in_scratch h.params.response_blur_radius (area o)

module _ (file : List ℕ) where
  pub read_long : (r : Result Header Answer) (b : Buffers) → SameLengths b (buffers_for file b r)
  read_long (Err a) b = same_lengths b
  read_long (Ok h) b = finder_long (drop 20 file) h.width h.height h.params b

  pub read_list : (r : Result Header Answer) (b c : Buffers) → room_of b.map ≡ room_of c.map → b.list ≡ c.list
      → (buffers_for file b r).list ≡ (buffers_for file c r).list
  read_list (Err a) b c rooms e = e
  read_list (Ok h) b c rooms e = finder_list (drop 20 file) h.width h.height h.params b c rooms e

  pub read_refuses : (r : Result Header Answer) (b : Buffers) → 1 < number_of (outcome_for file b r).answer
      → (outcome_for file b r ≡ refused (outcome_for file b r).answer) × (buffers_for file b r ≡ b)
  read_refuses (Err a) b l = (refl, refl)
  read_refuses (Ok h) b l = finder_refuses (drop 20 file) h.width h.height h.params b l

  module _ (b c : Buffers) (same : SameLengths b c) where
    pub read_told : (r : Result Header Answer) → outcome_for file b r ≡ outcome_for file c r
    read_told (Err a) = refl
    read_told (Ok h) = same_answer (drop 20 file) h.width h.height h.params b c (rooms_same same) (sym same.list)

    pub read_writes : (r : Result Header Answer)
        → let o = outcome_for file b r in
        Writes (area o) (blurred_area r o) b.map c.map (buffers_for file b r).map (buffers_for file c r).map
        × Wrote (listed o (length b.list)) b.list c.list (buffers_for file b r).list (buffers_for file c r).list
    read_writes (Err a) = (writes_none, wrote_none _ (none_listed (length b.list)))
    read_writes (Ok h) = finder_writes (drop 20 file) h.width h.height h.params b c same
