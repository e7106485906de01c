-- Document 02's ticket 2 as theorems. They speak of what a call for an arch tells and leaves: by its contract `run_arch` answers
-- `arch_outcome n frames b` and leaves the buffers `arch_buffers n frames b` (arch/specs/Arch), for every camera count n, every slice `frames` and all
-- buffers b. Left.antt names what is told and left: of camera i, counted from 0, `told_to`, `share_left`, and `single`, what the like single call is
-- lent. Assumes nothing.
use Rattle.std.specs.Prelude.{Result, Ok, Err}
use mathlib.Core.Path.{◌≡◌, refl, sym, ap, ◌∙◌}
use mathlib.Core.List.{List, [], ◌++◌, flatten}
use Prim.Native.Nat.{ℕ, suc, ◌+◌, ◌*◌, ◌/◌, ◌≤◌, ◌<◌}
use native.Mathlib.Decide.{dec_lt}
use native.Mathlib.Omega.{arith}
use borrow.Author.Tests.{le-ltb, ne_eqb}
use lib.Dec.{T}
use lib.Ieee.{Float, le}
use lib.ListN.{length, get_or, take, drop, replicate}
use Rattle.grid.proofs.All.{All}
use Rattle.big_endian.specs.BigEndian.{word_at}
use Rattle.params.specs.declared.answers.Answer.{Answer}
use Rattle.params.specs.declared.answers.Answer.TheVariants.{Complete, FileTooLong, FileTooShort, StatedLength, Cameras}
use Rattle.params.specs.declared.answers.Outcome.{Outcome}
use Rattle.params.specs.declared.settings.RadonDetectorParams.{RadonDetectorParams}
use Rattle.params.specs.Answers.{number_of, refused}
use Rattle.detect.specs.Corners.{stride}
use Rattle.detect.proofs.HigherSettings.{raised}
use Rattle.detect.proofs.HigherCounts.{HigherCounts}
use Rattle.frame.specs.declared.Header.{Header}
use Rattle.frame.specs.FrameFile.{read_of}
use Rattle.radon.specs.Finder.{Buffers, outcome_of, buffers_of}
use Rattle.radon.proofs.Left.{Accepted as FinderAccepted}
use Rattle.radon.proofs.Lists.{room_in, ListFiltered, ListOpens}
use Rattle.radon.proofs.Demands.{pixels, higher_setting, higher_setting_counts, shorter_list, raised_frame_same_map}
use Rattle.frame_runner.specs.FileAnswer.{outcome_for, file_outcome, buffers_for, file_buffers}
use Rattle.arch.specs.declared.ArchOutcome.{ArchOutcome}
use Rattle.arch_plan.specs.Plan.{rest_at, due_in, arch_refusal}
use Rattle.arch.specs.Arch.{left_by, no_frame, arch_outcome, arch_buffers}
use Rattle.arch_plan.proofs.Frames.{too_short, past_the_end, lies_whole}
use Rattle.arch_plan.proofs.Judged.{Takes, takes}
use Rattle.arch.proofs.Cameras.{SameLengths, same_lengths}
use Rattle.arch_facts.proofs.Work.{Writes, rooms_same}
use Rattle.arch_facts.proofs.Single.{read_refuses, read_told, read_list}
use Rattle.arch_facts.proofs.Fold.{file_in, read_in, file_at, read_at, drop-lent, share_long}
use Rattle.arch_facts.proofs.Left.{Accepted, size, told_to, share_lent, share_left, work_before, single, WholeAt, whole_long, file_is, read_is}
use Rattle.arch_facts.proofs.Left.{written_to, work_reach, scratch_reach, LeavesAll, room, outcome_is, buffers_are}
use Rattle.arch_facts.proofs.Left.{told_due, share_due, work_due, told_beyond}
use Rattle.arch_facts.proofs.Left.{by_files, told_alike, shares_alike, work_alike, alone, single_long, alone_long}
use Rattle.arch_facts.proofs.Lists.{Finds, filtered, opens}
use Rattle.arch_facts.proofs.Laid.{next_begins, later_ones, Stated, laid}
use Rattle.arch_facts.proofs.Ten.{same_reading, told_not_ten, due_not_ten}

-- ---- 1. "The answer, count and share of every frame that lies whole in the slice equal those of a single call with that share as its list, with
-- the work buffers as the earlier frames left them."

-- "one list in which each frame gets an equal share of whole corners"
pub equal_shares : (n : ℕ) (b : Buffers) (i : ℕ) → i < n → length (share_lent n b i) ≡ size n b
equal_shares n b i l = share_long (size n b) n i b.list (room n b) l

-- a limit that a file is not over changes nothing of a single call
pub any-limit : (limit : ℕ) (file : List ℕ) (c : Buffers) → length file ≤ limit
    → (file_outcome limit file c ≡ file_outcome (length file) file c) × (file_buffers limit file c ≡ file_buffers (length file) file c)
unfolding file_outcome file_buffers
any-limit limit file c within =
    (ap (outcome_for file c) (same_reading limit file within), ap (buffers_for file c) (same_reading limit file within))

module _ (n : ℕ) (frames : List ℕ) (b : Buffers) (accepted : Accepted n b) where
  module _ (i : ℕ) (goes : i < n) {k : ℕ} {file : List ℕ} (whole : WholeAt frames i k file) where
    pub camera_is_single_call :
        (told_to n frames b i ≡ file_outcome k file (single n frames b i))
        × (share_left n frames b i ≡ (file_buffers k file (single n frames b i)).list)
    unfolding file_outcome file_buffers
    camera_is_single_call =
        let c = single n frames b i in (
          told_due n frames b accepted i goes ∙ (λ j. outcome_for (file_is whole j) c (read_is whole j)),
          share_due n frames b accepted i goes ∙ (λ j. (buffers_for (file_is whole j) c (read_is whole j)).list),
        )

    -- under any limit that the file is not over: k is its length
    pub camera_under_limit : (limit : ℕ) → k ≤ limit
        → (told_to n frames b i ≡ file_outcome limit file (single n frames b i))
        × (share_left n frames b i ≡ (file_buffers limit file (single n frames b i)).list)
    camera_under_limit limit l =
        let call = camera_is_single_call in
        let long = whole_long whole in
        let same = any-limit limit file (single n frames b i) (omega arith) in (
          call.0 ∙ sym (rw long at same.0),
          call.1 ∙ sym (ap (λ (c : Buffers). c.list) (rw long at same.1)),
        )

    -- "the work buffers as the earlier frames left them": what it leaves of them is what the next one is lent
    pub work_is_single_call : work_before n frames b (suc i) ≡ (file_buffers k file (single n frames b i)).map
    unfolding file_buffers
    work_is_single_call =
        work_due n frames b accepted i goes
        ∙ (λ j. (buffers_for (file_is whole j) (single n frames b i) (read_is whole j)).map)

    -- by the finder, where the file is read as a frame
    module _ (h : Header) (read : read_of k file ≡ Ok h) where
      pub camera_is_finder_call :
          (told_to n frames b i ≡ outcome_of (drop 20 file) h.width h.height h.params (single n frames b i))
          × (share_left n frames b i ≡ (buffers_of (drop 20 file) h.width h.height h.params (single n frames b i)).list)
      unfolding file_outcome file_buffers
      camera_is_finder_call =
          let call = camera_is_single_call in (
            call.0 ∙ ap (outcome_for file (single n frames b i)) read,
            call.1 ∙ ap (λ r. (buffers_for file (single n frames b i) r).list) read,
          )

  -- the first is lent the work buffers as they were, and after the last they are those that the call leaves
  pub work_first : work_before n frames b 0 ≡ b.map
  unfolding left_by
  work_first = refl

  pub work_last : (arch_buffers n frames b).map ≡ work_before n frames b n
  work_last = ap (λ (c : Buffers). c.map) (buffers_are n frames b accepted)

  -- "and 10 isn't given here"
  pub never_ten : (i : ℕ) → i < 8 → (told_to n frames b i).answer ≡ FileTooLong → ⊥
  never_ten i l e = by (dec_lt i n)
    where
      number : (o : Outcome) → o.answer ≡ FileTooLong → number_of o.answer ≡ 10
      number o e = ap number_of e

      by : Dec (i < n) → ⊥
      by (yes m) =
          told_not_ten (file_at frames i) (single n frames b i) (read_at frames i) (due_not_ten (rest_at frames i))
          (sym (ap (λ (o : Outcome). number_of o.answer) (told_due n frames b accepted i m)) ∙ number (told_to n frames b i) e)
      by (no m) =
          let ten = number (told_to n frames b i) e in
          let none = ap (λ (o : Outcome). number_of o.answer) (told_beyond n frames b accepted i (omega arith) l) in
          omega arith

-- ---- 2. Frames that are not whole, and how they stand

module _ (n : ℕ) (frames : List ℕ) (b : Buffers) (accepted : Accepted n b) where
  module _ (i : ℕ) (goes : i < n) where
    pub not_whole : (a : Answer) → due_in (rest_at frames i) ≡ Err a → LeavesAll n frames b i a
    not_whole a e =
        let c = single n frames b i in
        let rest = rest_at frames i in
        record {
          told = told_due n frames b accepted i goes ∙ ap (λ (d : Result ℕ Answer). outcome_for (file_in rest d) c (read_in rest d)) e;
          share = share_due n frames b accepted i goes ∙ ap (λ (d : Result ℕ Answer). (buffers_for (file_in rest d) c (read_in rest d)).list) e;
          work = work_due n frames b accepted i goes ∙ ap (λ (d : Result ℕ Answer). (buffers_for (file_in rest d) c (read_in rest d)).map) e;
        }

    -- "with under five bytes left it answers 11"
    pub under_five_bytes : length (rest_at frames i) < 5 → LeavesAll n frames b i FileTooShort
    under_five_bytes l = not_whole FileTooShort (sym (too_short (rest_at frames i) l))

    -- "Where that length runs past the end, that frame answers 13, whatever else is wrong with it"
    pub runs_past_the_end : let rest = rest_at frames i in
        5 ≤ length rest → length rest < 5 + word_at rest 1 → LeavesAll n frames b i StatedLength
    runs_past_the_end five l = not_whole StatedLength (sym (past_the_end (rest_at frames i) refl five (omega arith)))

  -- "either way the later ones answer 11"
  pub later_ones_too : (i j : ℕ) (a : Answer) → due_in (rest_at frames i) ≡ Err a → i < j → j < n → LeavesAll n frames b j FileTooShort
  later_ones_too i j a e l m = not_whole j m FileTooShort (later_ones frames j i e l)

  -- an entry beyond the camera count reads as a camera for which nothing is left
  pub entries_beyond : (i : ℕ) → n ≤ i → i < 8 → told_to n frames b i ≡ no_frame
  entries_beyond = told_beyond n frames b accepted

-- all others are whole: a frame with the five bytes and its stated length
pub whole_frame : (frames : List ℕ) (i : ℕ) → let rest = rest_at frames i in
    5 ≤ length rest → 5 + word_at rest 1 ≤ length rest → WholeAt frames i (5 + word_at rest 1) (take (5 + word_at rest 1) rest)
whole_frame frames i five fits = record { due = sym (lies_whole (rest_at frames i) refl five (omega arith)); is = refl }

-- "A refused frame stops nobody: the next begins after its stated length", whatever the frame is answered
pub next_after_stated_length : (frames : List ℕ) (i : ℕ) {k : ℕ} {file : List ℕ} → WholeAt frames i k file
    → rest_at frames (suc i) ≡ drop k (rest_at frames i)
next_after_stated_length frames i whole = next_begins frames i whole.due

-- "that many frame files laid end to end in one slice": each is whole, and is the frame of the camera of its place
module _ (files : List (List ℕ)) (stated : All Stated files) where
  pub laid_end_to_end : (more : List ℕ) (i : ℕ) → i < length files
      → WholeAt (flatten files ++ more) i (length (get_or files i [])) (get_or files i [])
  laid_end_to_end more i l = laid files more stated i l

  -- "Bytes after the last frame aren't read"
  pub behind_not_read : (n : ℕ) → n ≤ length files → (b : Buffers) (more other : List ℕ)
      → (arch_outcome n (flatten files ++ more) b ≡ arch_outcome n (flatten files ++ other) b)
      × (arch_buffers n (flatten files ++ more) b ≡ arch_buffers n (flatten files ++ other) b)
  behind_not_read n l b more other =
      by_files n (flatten files ++ more) (flatten files ++ other) b
      (λ i m. file_is (laid_end_to_end more i (omega arith)) ∙ sym (file_is (laid_end_to_end other i (omega arith))))
      (λ i m. read_is (laid_end_to_end more i (omega arith)) ∙ sym (read_is (laid_end_to_end other i (omega arith))))

-- ---- 3. Demand 1. "Bad input gets a numbered refusal, a count of zero and untouched buffers. What a buffer held before the call changes no answer
-- and no written number."

-- "Refusals: 21, a camera count not 2 to 8 or a list too short for one corner a camera, before any frame is read: all counts 0, no buffer changed."
pub accepted_where : (n : ℕ) (b : Buffers) → Takes n (length b.list) → Accepted n b
unfolding arch_refusal
accepted_where n b t = rw (le-ltb n 2 t.two, le-ltb 8 n t.eight, le-ltb (length b.list / stride) n t.corner)

pub accepted_only : (n : ℕ) (b : Buffers) → Accepted n b → Takes n (length b.list)
accepted_only n b z = (takes n (length b.list) z).1

module _ (n : ℕ) (frames : List ℕ) (b : Buffers) where
  pub arch_refusal_leaves_all : (Accepted n b → ⊥)
      → ◌≡◌ {A = ArchOutcome} (arch_outcome n frames b) (record { answer = Cameras; cameras = replicate 8 (refused Cameras) })
      × (arch_buffers n frames b ≡ b)
  unfolding arch_outcome arch_buffers
  arch_refusal_leaves_all z = rw (ne_eqb (number_of (arch_refusal n (length b.list))) 0 z) (refl, refl)

  -- otherwise the call's own answer is 0
  pub own_answer : Accepted n b → (arch_outcome n frames b).answer ≡ Complete
  own_answer z = ap (λ (o : ArchOutcome). o.answer) (outcome_is n frames b z)

  -- "A refused frame stops nobody": a camera with an answer above 1 is told zeros, and leaves all as it was
  pub refused_camera_leaves_all : (z : Accepted n b) (i : ℕ) → i < n → 1 < number_of (told_to n frames b i).answer
      → LeavesAll n frames b i (told_to n frames b i).answer
  refused_camera_leaves_all z i l above =
      let t = told_due n frames b z i l in
      let f = read_refuses (file_at frames i) (read_at frames i) (single n frames b i) (rw t at above) in
      record {
        told = rw t f.0;
        share = share_due n frames b z i l ∙ ap (λ (c : Buffers). c.list) f.1;
        work = work_due n frames b z i l ∙ ap (λ (c : Buffers). c.map) f.1;
      }

  -- "Entries beyond stay": the rest of a share, and "the remainder unused" behind the last one
  pub share_beyond_stays : Accepted n b → (i : ℕ) → i < n
      → drop (written_to n frames b i) (share_left n frames b i) ≡ drop (written_to n frames b i) (share_lent n b i)
  share_beyond_stays z i l = (shares_alike n frames b b z (same_lengths b) i l).stays

  pub remainder_stays : Accepted n b → drop (n * size n b) (arch_buffers n frames b).list ≡ drop (n * size n b) b.list
  remainder_stays z =
      rw (buffers_are n frames b z)
      (drop-lent frames (size n b) b n (room n b) n n (omega arith) (omega arith))

-- Two calls over buffers with the same lengths, whatever these held before
module _ (n : ℕ) (frames : List ℕ) (b c : Buffers) (same : SameLengths b c) where
  pub same_answers : arch_outcome n frames b ≡ arch_outcome n frames c
  same_answers = told_alike n frames b c same

  pub same_shares : Accepted n b → (i : ℕ) → i < n
      → take (written_to n frames b i) (share_left n frames b i) ≡ take (written_to n frames b i) (share_left n frames c i)
  same_shares z i l = (shares_alike n frames b c z same i l).same

  -- the first W·H entries of each work buffer, W·H being the greatest of the cameras', are the same in both, and those beyond are as they were: of
  -- the scratch the greatest of those with a blur (`Writes` has a field for each of the seven)
  pub same_work : Accepted n b
      → Writes (work_reach n frames b) (scratch_reach n frames b) b.map c.map (arch_buffers n frames b).map (arch_buffers n frames c).map
  same_work z = work_alike n frames b c z same

-- ---- 4. Others change nothing: camera i is told and leaves what a call on its own would, over the work buffers as they were lent

module _ (n : ℕ) (frames : List ℕ) (b : Buffers) (accepted : Accepted n b) (i : ℕ) (goes : i < n)
    {k : ℕ} {file : List ℕ} (whole : WholeAt frames i k file) where
  pub camera_alone :
      (told_to n frames b i ≡ file_outcome k file (alone n b i)) × (share_left n frames b i ≡ (file_buffers k file (alone n b i)).list)
  unfolding file_outcome file_buffers
  camera_alone =
      let call = camera_is_single_call n frames b accepted i goes whole in
      let same = single_long n frames b accepted i goes in
      (call.0 ∙ sym (read_told file _ _ same (read_of k file)), call.1 ∙ sym (read_list file (read_of k file) _ _ (rooms_same same) refl))

-- so whatever else stands in the slice, and whatever the other shares and the work buffers hold, it is told and leaves the same: "A refused frame
-- stops nobody"
pub others_change_nothing : (n : ℕ) (frames others : List ℕ) (b c : Buffers) → Accepted n b → SameLengths b c → (i : ℕ) → i < n
    → share_lent n b i ≡ share_lent n c i → {k : ℕ} {file : List ℕ} → WholeAt frames i k file → WholeAt others i k file
    → (told_to n frames b i ≡ told_to n others c i) × (share_left n frames b i ≡ share_left n others c i)
unfolding file_outcome file_buffers
others_change_nothing n frames others b c z same i l lent {k} {file} whole again =
    let one = camera_alone n frames b z i l whole in
    let two = camera_alone n others c (rw same.list z) i l again in
    let as_long = alone_long n b c same i lent in (
      one.0 ∙ read_told file _ _ as_long (read_of k file) ∙ sym two.0,
      one.1 ∙ read_list file (read_of k file) _ _ (rooms_same as_long) lent ∙ sym two.1,
    )

-- for files laid end to end: of two slices with the same file i, whatever the other files are
pub other_files_change_nothing : (n : ℕ) (files others : List (List ℕ)) (more rest : List ℕ) (b : Buffers) → Accepted n b
    → All Stated files → All Stated others → (i : ℕ) → i < n → i < length files → i < length others → get_or files i [] ≡ get_or others i []
    → (told_to n (flatten files ++ more) b i ≡ told_to n (flatten others ++ rest) b i)
    × (share_left n (flatten files ++ more) b i ≡ share_left n (flatten others ++ rest) b i)
other_files_change_nothing n files others more rest b z stated stated-too i l u v same =
    others_change_nothing n (flatten files ++ more) (flatten others ++ rest) b b z (same_lengths b) i l refl
    (laid_end_to_end files stated more i u) (rw same (laid_end_to_end others stated-too rest i v))

-- ---- 5. "Where 21 isn't given, demand 3 holds frame by frame, its map clause for the map of the like single call."

-- camera i of a call has a whole frame that is read as the pixels img, w wide and h high, with the settings p; and the finder takes it
pub record Reads (n : ℕ) (frames : List ℕ) (b : Buffers) (i : ℕ) (img : List ℕ) (w h : ℕ) (p : RadonDetectorParams) : Type 0 where
  pub accepted : Accepted n b
  pub goes : i < n
  pub k : ℕ
  pub file : List ℕ
  pub whole : WholeAt frames i k file
  pub header : Header
  pub read : read_of k file ≡ Ok header
  pub pixels_are : drop 20 file ≡ img
  pub wide : header.width ≡ w
  pub high : header.height ≡ h
  pub settings : header.params ≡ p
  pub takes : FinderAccepted img w h p (single n frames b i)

module _ {n : ℕ} {frames : List ℕ} {b : Buffers} {i : ℕ} {img : List ℕ} {w h : ℕ} {p : RadonDetectorParams} (r : Reads n frames b i img w h p) where
  finds : Finds img w h p (single n frames b i) (told_to n frames b i) (share_left n frames b i)
  finds =
      let c = single n frames b i in
      let call = camera_is_finder_call n frames b r.accepted i r.goes r.whole r.header r.read in
      record {
        told = call.0 ∙ (λ j. outcome_of (r.pixels_are j) (r.wide j) (r.high j) (r.settings j) c);
        left = call.1 ∙ (λ j. (buffers_of (r.pixels_are j) (r.wide j) (r.high j) (r.settings j) c).list);
      }

  room-is : room_in (single n frames b i) ≡ size n b / stride
  room-is = ap (λ (m : ℕ). m / stride) (equal_shares n b i r.goes)

-- camera i of one call and camera j of another, or of the same one
module _ (n : ℕ) (frames : List ℕ) (b : Buffers) (i : ℕ) (m : ℕ) (others : List ℕ) (c : Buffers) (j : ℕ) (w h : ℕ) (p : RadonDetectorParams) where
  -- "The higher setting's list is exactly those of the lower's corners that pass the higher floor and count, in order, bits unchanged.", with room
  -- in both shares for all corners of the lower
  pub higher_setting_by_frame : (img : List ℕ) (t : Float) (least : ℕ) → Reads n frames b i img w h p → Reads m others c j img w h (raised p t least)
      → T (le p.threshold_rel t) → p.min_cluster_size ≤ least
      → (told_to n frames b i).count ≤ size n b / stride → (told_to n frames b i).count ≤ size m c / stride
      → ListFiltered img w h p t least (single n frames b i) (single m others c j)
      (told_to n frames b i) (told_to m others c j) (share_left n frames b i) (share_left m others c j)
  higher_setting_by_frame img t least low high above more fits fits-too =
      let count = ap (λ (o : Outcome). o.count) (finds low).told in
      filtered (finds low) (finds high)
      (higher_setting img w h p t least (single n frames b i) (single m others c j) low.takes high.takes above more
      (omega (arith, room-is low)) (omega (arith, room-is high)))

  -- the six counts of the two, whatever room the shares have
  pub higher_counts_by_frame : (img : List ℕ) (t : Float) (least : ℕ) → Reads n frames b i img w h p → Reads m others c j img w h (raised p t least)
      → T (le p.threshold_rel t) → p.min_cluster_size ≤ least
      → HigherCounts (told_to n frames b i).verdicts (told_to m others c j).verdicts
  higher_counts_by_frame img t least low high above more =
      rw ((finds low).told, (finds high).told)
      (higher_setting_counts img w h p t least (single n frames b i) (single m others c j) low.takes high.takes above more)

  -- "A shorter list holds the opening corners of a longer one, with the same total."
  pub shorter_list_by_frame : (img : List ℕ) → Reads n frames b i img w h p → Reads m others c j img w h p → size n b ≤ size m c
      → ListOpens img w h p (single n frames b i) (single m others c j)
      (told_to n frames b i) (told_to m others c j) (share_left n frames b i) (share_left m others c j)
  shorter_list_by_frame img short long l =
      opens (finds short) (finds long)
      (shorter_list img w h p (single n frames b i) (single m others c j) short.takes long.takes
      (omega (arith, equal_shares n b i short.goes, equal_shares m c j long.goes)))

  -- "A frame raised evenly by some grey steps, no pixel past 255, has the same map, bit for bit": the map of the like single calls
  pub raised_frame_by_frame : (img up : List ℕ) (step : ℕ) → Reads n frames b i img w h p → Reads m others c j up w h p
      → ((x : ℕ) → x < length img → get_or up x 0 ≡ get_or img x 0 + step)
      → take (pixels w h p) (buffers_of up w h p (single m others c j)).map.response
      ≡ take (pixels w h p) (buffers_of img w h p (single n frames b i)).map.response
  raised_frame_by_frame img up step r s e =
      raised_frame_same_map img up step w h p (single n frames b i) (single m others c j) r.takes s.takes e
