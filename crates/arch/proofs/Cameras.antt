-- The loop over the cameras: what holds after the first i of them, where it starts, its turn and its end. Assumes nothing.
use mathlib.Core.Path.{◌≡◌, refl, ap, ◌∙◌}
use mathlib.Core.List.{List, ◌++◌}
use Prim.Native.Nat.{ℕ, ◌+◌, ◌-◌, ◌*◌, ◌≤◌, ◌<◌}
use native.Mathlib.Nat.{le_antisymm}
use native.Mathlib.Numerals.{add-one}
use native.Mathlib.Omega.{arith}
use lib.Ieee.{Float}
use lib.ListN.{length, set, take, drop, replicate, length-drop, length-append, length-take}
use lib.Seq.{take_all}
use Rattle.grid.specs.Fill.{filled}
use Rattle.grid.proofs.Fill.{filled_zero, fill_step}
use Rattle.params.specs.declared.answers.Outcome.{Outcome}
use Rattle.radon.specs.Finder.{Buffers}
use Rattle.arch_plan.specs.Plan.{due_in, behind, rest_at}
use Rattle.arch.specs.Arch.{camera_outcome, camera_buffers, lent_to, back_from, left_by, told, no_frame}
use Rattle.arch_plan.specs.Gone.{gone_by}
use Rattle.arch_plan.proofs.Frames.{next_rest}
use Rattle.arch_plan.proofs.InList.{share_in}

-- a call changes no length
pub record SameLengths (b c : Buffers) : Type 0 where
  pub working : length c.map.working ≡ length b.map.working
  pub row : length c.map.row ≡ length b.map.row
  pub col : length c.map.col ≡ length b.map.col
  pub falling : length c.map.falling ≡ length b.map.falling
  pub rising : length c.map.rising ≡ length b.map.rising
  pub response : length c.map.response ≡ length b.map.response
  pub scratch : length c.map.scratch ≡ length b.map.scratch
  pub list : length c.list ≡ length b.list

pub same_lengths : (b : Buffers) → SameLengths b b
same_lengths b = record {
  working = refl;
  row = refl;
  col = refl;
  falling = refl;
  rising = refl;
  response = refl;
  scratch = refl;
  list = refl;
}

-- of buffers c, as long as b, a call was lent the work buffers with some list, and left d of that
pub lengths_on : {b c d : Buffers} {some l : List Float} → SameLengths b c → SameLengths (record { map = c.map; list = some }) d
    → length l ≡ length b.list → SameLengths b (record { map = d.map; list = l })
lengths_on s t e = record {
  working = t.working ∙ s.working;
  row = t.row ∙ s.row;
  col = t.col ∙ s.col;
  falling = t.falling ∙ s.falling;
  rising = t.rising ∙ s.rising;
  response = t.response ∙ s.response;
  scratch = t.scratch ∙ s.scratch;
  list = e;
}

-- a part of a list is replaced by one as long
length_back : {A : Type 0} (a k : ℕ) (l z : List A) → length z ≡ length (take k (drop a l))
    → length (take a l ++ (z ++ drop k (drop a l))) ≡ length l
length_back a k l z e =
    simp length-append
    (omega (arith, length-take a l, length-drop a l, length-take k (drop a l), length-drop k (drop a l)))

-- b is what was lent, and c what it is after the first i cameras, of which `out` has what they were told; `rest` is left of the frames
pub record Ran (frames : List ℕ) (size cameras : ℕ) (b c : Buffers) (out : List Outcome) (rest : List ℕ) (i : ℕ) : Type 0 where
  pub eight : cameras ≤ 8
  pub room : cameras * size ≤ length b.list
  pub most : i ≤ cameras
  pub due : rest ≡ rest_at frames i
  pub left : c ≡ left_by frames size b i
  pub tells : out ≡ filled i (told frames size b) (replicate 8 no_frame)
  pub long : length c.list ≡ length b.list

module _ (frames : List ℕ) (size cameras : ℕ) (b : Buffers) where
  pub ran_none : {none : Outcome} → none ≡ no_frame → (cameras ≤ 8) × (cameras * size ≤ length b.list)
      → Ran frames size cameras b b (replicate 8 none) frames 0
  unfolding rest_at left_by
  ran_none is (eight, room) = record {
    eight = eight;
    room = room;
    most = omega arith;
    due = refl;
    left = refl;
    tells = ap (replicate 8) is ∙ filled_zero _ _;
    long = refl;
  }

  -- camera i's share lies in the list
  pub share_room : {c : Buffers} {out : List Outcome} {rest : List ℕ} {i : ℕ} → Ran frames size cameras b c out rest i → i < cameras
      → (i < 8) × (i * size + size ≤ length c.list)
  share_room ran goes = (omega arith, omega (arith, share_in size goes ran.room, ran.long))

  -- a turn: camera i was told o and left d of what it was lent, and its frame took n bytes
  module _ {c : Buffers} {out : List Outcome} {rest : List ℕ} {i : ℕ} (ran : Ran frames size cameras b c out rest i) (goes : i < cameras)
      {o : Outcome} {d : Buffers} {n : ℕ}
      (tell : o ≡ camera_outcome rest (due_in rest) (lent_to size i c))
      (leave : d ≡ camera_buffers rest (due_in rest) (lent_to size i c))
      (gone : n ≡ gone_by (due_in rest) (length rest)) where
    told_next : o ≡ told frames size b i
    unfolding told
    told_next = tell ∙ (λ k. camera_outcome (ran.due k) (due_in (ran.due k)) (lent_to size i (ran.left k)))

    left_next : back_from size i c d ≡ left_by frames size b (i + 1)
    unfolding left_by
    left_next =
        rw (add-one i)
        (ap (back_from size i c) leave
        ∙ (λ k. back_from size i (ran.left k) (camera_buffers (ran.due k) (due_in (ran.due k)) (lent_to size i (ran.left k)))))

    due_next : drop n rest ≡ rest_at frames (i + 1)
    unfolding rest_at
    due_next = rw (add-one i) (next_rest rest gone ∙ ap (λ (l : List ℕ). behind l (due_in l)) ran.due)

    ran_more : length (back_from size i c d).list ≡ length b.list → Ran frames size cameras b (back_from size i c d) (set out i o) (drop n rest) (i + 1)
    ran_more long = record {
      eight = ran.eight;
      room = ran.room;
      most = omega arith;
      due = due_next;
      left = left_next;
      tells = fill_step _ _ i ran.tells told_next;
      long = long;
    }

  -- the same as the code has it: `&rest[n..]` goes to the end of what is left, `&mut list[a..e]` with e = a + size
  module _ {c : Buffers} {out : List Outcome} {rest : List ℕ} {i : ℕ} (ran : Ran frames size cameras b c out rest i) (goes : i < cameras) where
    abbrev part : ℕ
    part = i * size + size - i * size

    abbrev given : Buffers
    given = record { map = c.map; list = take part (drop (i * size) c.list) }

    abbrev returned : Buffers → Buffers
    returned d = record { map = d.map; list = take (i * size) c.list ++ (d.list ++ drop part (drop (i * size) c.list)) }

    long_back : (d : Buffers) → length d.list ≡ length given.list → length (returned d).list ≡ length b.list
    long_back d s = length_back (i * size) part c.list d.list s ∙ ran.long

    pub ran_turn : {o : Outcome} {d : Buffers} {n : ℕ} → o ≡ camera_outcome rest (due_in rest) given → d ≡ camera_buffers rest (due_in rest) given
        → n ≡ gone_by (due_in rest) (length rest) → length d.list ≡ length given.list
        → Ran frames size cameras b (returned d) (set out i o) (take (length rest - n) (drop n rest)) (i + 1)
    ran_turn {d = d} {n = n} tell leave gone long =
        let whole : part ≡ size = omega arith in
        let all : take (length rest - n) (drop n rest) ≡ drop n rest = take_all (length rest - n) (drop n rest) (omega (arith, length-drop n rest)) in
        rw (whole, all)
        (ran_more ran goes (rw whole at tell) (rw whole at leave) gone (rw whole at (long_back d long)))

  pub ran_all : {c : Buffers} {out : List Outcome} {rest : List ℕ} {i : ℕ} → Ran frames size cameras b c out rest i → cameras ≤ i
      → (out ≡ filled cameras (told frames size b) (replicate 8 no_frame)) × (c ≡ left_by frames size b cameras)
  ran_all ran done =
      let last : _ ≡ cameras = le_antisymm ran.most done in
      (rw (← last) ran.tells, rw (← last) ran.left)
