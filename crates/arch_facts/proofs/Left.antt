-- What a call for an arch tells and leaves, by name, and the steps to it from the definitions. Assumes nothing.
use Rattle.std.specs.Prelude.{Ok}
use mathlib.Core.Path.{◌≡◌, refl, sym, ap, ◌∙◌}
use mathlib.Core.List.{List}
use Prim.Native.Nat.{ℕ, suc, ◌*◌, ◌≤◌, ◌<◌, max}
use native.Mathlib.Omega.{arith}
use borrow.Author.Tests.{eq-eqb}
use lib.Ieee.{Float}
use lib.ListN.{length, get_or, take, replicate, get_or-replicate}
use lib.Seq.{length-take-le}
use Rattle.grid.specs.Fill.{filled}
use Rattle.grid.specs.Fold.{fold}
use Rattle.grid.proofs.Fold.{fold_ext}
use Rattle.grid.proofs.Fill.{getD_filled, get_d_beyond, filled_ext}
use Rattle.params.specs.declared.answers.Answer.{Answer}
use Rattle.params.specs.declared.answers.Answer.TheVariants.{Complete}
use Rattle.params.specs.declared.answers.Outcome.{Outcome}
use Rattle.params.specs.Answers.{number_of, refused}
use Rattle.response.specs.Map.{Buffers as MapBuffers}
use Rattle.detect.specs.Corners.{stride}
use Rattle.frame.specs.FrameFile.{read_of}
use Rattle.radon.specs.Finder.{Buffers}
use Rattle.frame_runner.specs.FileAnswer.{outcome_for, buffers_for}
use Rattle.arch.specs.declared.ArchOutcome.{ArchOutcome}
use Rattle.arch_plan.specs.Plan.{due_in, rest_at, share_size, arch_refusal}
use Rattle.arch.specs.Arch.{share_of, left_by, told, no_frame, arch_outcome, arch_buffers}
use Rattle.arch_plan.proofs.Frames.{whole_in}
use Rattle.arch_plan.proofs.Judged.{takes}
use Rattle.arch.proofs.Cameras.{SameLengths}
use Rattle.arch_plan.proofs.InList.{shares_in}
use Rattle.arch_facts.proofs.Parts.{Wrote}
use Rattle.arch_facts.proofs.Work.{Writes, with_lists}
use Rattle.arch_facts.proofs.Single.{area, blurred_area, listed}
use Rattle.arch_facts.proofs.Fold.{file_in, read_in, file_at, read_at, long, told_single, share_single, map_single}
use Rattle.arch_facts.proofs.Fold.{told_by_files, left_by_files, told_same, share_writes, reach, blurred_reach, work_writes}

-- 21 is not given to a call for n cameras over the buffers b
abbrev pub Accepted : ℕ → Buffers → Type 0
Accepted n b = number_of (arch_refusal n (length b.list)) ≡ 0

-- how many numbers of the list each camera gets
abbrev pub size : ℕ → Buffers → ℕ
size n b = share_size n (length b.list)

-- what camera i is told
abbrev pub told_to : ℕ → List ℕ → Buffers → ℕ → Outcome
told_to n frames b i = get_or (arch_outcome n frames b).cameras i no_frame

-- its share, as it was lent and as the call leaves it
abbrev pub share_lent : ℕ → Buffers → ℕ → List Float
share_lent n b i = share_of (size n b) i b.list

abbrev pub share_left : ℕ → List ℕ → Buffers → ℕ → List Float
share_left n frames b i = share_of (size n b) i (arch_buffers n frames b).list

-- "the work buffers as the earlier frames left them"
abbrev pub work_before : ℕ → List ℕ → Buffers → ℕ → MapBuffers
work_before n frames b i = (left_by frames (size n b) b i).map

-- what the like single call is lent: "that share as its list", with those work buffers
abbrev pub single : ℕ → List ℕ → Buffers → ℕ → Buffers
single n frames b i = record { map = work_before n frames b i; list = share_lent n b i }

-- what a call on its own is lent: the share, and the work buffers as they were lent to all
abbrev pub alone : ℕ → Buffers → ℕ → Buffers
alone n b i = record { map = b.map; list = share_lent n b i }

-- how far the work buffers are written: the greatest W·H of the cameras, and for the scratch the greatest of those whose blur radius is not 0. Those
-- that are refused are told a W and an H of 0
abbrev pub work_reach : ℕ → List ℕ → Buffers → ℕ
work_reach n frames b = fold max 0 (λ i. area (told_to n frames b i)) n

abbrev pub scratch_reach : ℕ → List ℕ → Buffers → ℕ
scratch_reach n frames b = fold max 0 (λ i. blurred_area (read_at frames i) (told_to n frames b i)) n

-- how many numbers of its share are written: those of as many corners as fit
abbrev pub written_to : ℕ → List ℕ → Buffers → ℕ → ℕ
written_to n frames b i = listed (told_to n frames b i) (size n b)

-- frame i lies whole in the slice: it has k bytes, and they are those of the file
pub record WholeAt (frames : List ℕ) (i k : ℕ) (file : List ℕ) : Type 0 where
  pub due : due_in (rest_at frames i) ≡ Ok k
  pub is : take k (rest_at frames i) ≡ file

module _ {frames file : List ℕ} {i k : ℕ} (whole : WholeAt frames i k file) where
  pub whole_long : length file ≡ k
  whole_long = sym (ap length whole.is) ∙ length-take-le k (rest_at frames i) (whole_in (rest_at frames i) whole.due)

  pub file_is : file_at frames i ≡ file
  file_is = ap (file_in (rest_at frames i)) whole.due ∙ whole.is

  pub read_is : read_at frames i ≡ read_of k file
  read_is = ap (read_in (rest_at frames i)) whole.due ∙ ap (read_of k) whole.is

-- camera i is refused with the answer a, and leaves its share and the work buffers as they were
pub record LeavesAll (n : ℕ) (frames : List ℕ) (b : Buffers) (i : ℕ) (a : Answer) : Type 0 where
  pub told : told_to n frames b i ≡ refused a
  pub share : share_left n frames b i ≡ share_lent n b i
  pub work : work_before n frames b (suc i) ≡ work_before n frames b i

-- ---- a call that is not answered 21

-- the shares lie in the list
pub room : (n : ℕ) (b : Buffers) → n * size n b ≤ length b.list
room n b = shares_in stride n (length b.list)

module _ (n : ℕ) (frames : List ℕ) (b : Buffers) (accepted : Accepted n b) where
  pub outcome_is : ◌≡◌ {A = ArchOutcome} (arch_outcome n frames b) (record {
    answer = Complete;
    cameras = filled n (told frames (size n b) b) (replicate 8 no_frame);
  })
  unfolding arch_outcome
  outcome_is = rw (eq-eqb (number_of (arch_refusal n (length b.list))) 0 accepted)

  pub buffers_are : arch_buffers n frames b ≡ left_by frames (size n b) b n
  unfolding arch_buffers
  buffers_are = rw (eq-eqb (number_of (arch_refusal n (length b.list))) 0 accepted)

  module _ (i : ℕ) (goes : i < n) where
    pub told_is : told_to n frames b i ≡ told frames (size n b) b i
    told_is =
        ap (λ (o : ArchOutcome). get_or o.cameras i no_frame) outcome_is
        ∙ getD_filled n (told frames (size n b) b) (replicate 8 no_frame) i no_frame goes (omega (arith, (takes n (length b.list) accepted).1))

    -- by the frame that is due
    pub told_due : told_to n frames b i ≡ outcome_for (file_at frames i) (single n frames b i) (read_at frames i)
    told_due = told_is ∙ told_single frames (size n b) b n (room n b) i goes

    pub share_due : share_left n frames b i ≡ (buffers_for (file_at frames i) (single n frames b i) (read_at frames i)).list
    share_due = ap (λ (c : Buffers). share_of (size n b) i c.list) buffers_are ∙ share_single frames (size n b) b n (room n b) i goes

    pub work_due : work_before n frames b (suc i) ≡ (buffers_for (file_at frames i) (single n frames b i) (read_at frames i)).map
    work_due = map_single frames (size n b) b n (room n b) i goes

    -- what it is lent is as long as what was lent to all
    pub single_long : SameLengths (alone n b i) (single n frames b i)
    single_long = with_lists (long frames (size n b) b n (room n b) i (omega arith)) _ _ refl

  -- an entry beyond the camera count
  pub told_beyond : (i : ℕ) → n ≤ i → i < 8 → told_to n frames b i ≡ no_frame
  told_beyond i l m =
      ap (λ (o : ArchOutcome). get_or o.cameras i no_frame) outcome_is
      ∙ get_d_beyond n (told frames (size n b) b) (replicate 8 no_frame) i no_frame l
      ∙ get_or-replicate 8 i no_frame no_frame m

-- what is told and left depends on the slice by the files that are due
pub by_files : (n : ℕ) (frames others : List ℕ) (b : Buffers)
    → ((i : ℕ) → i < n → file_at frames i ≡ file_at others i) → ((i : ℕ) → i < n → read_at frames i ≡ read_at others i)
    → (arch_outcome n frames b ≡ arch_outcome n others b) × (arch_buffers n frames b ≡ arch_buffers n others b)
unfolding arch_outcome arch_buffers
by_files n frames others b files reads = (
  rw (filled_ext n _ _ (replicate 8 no_frame) (told_by_files frames others (size n b) n b files reads)),
  rw (left_by_files frames others (size n b) n b files reads n (omega arith)),
)

-- ---- two calls over buffers that are as long

module _ (n : ℕ) (frames : List ℕ) (b c : Buffers) where
  abbrev s : ℕ
  s = size n b

  pub told_alike : SameLengths b c → arch_outcome n frames b ≡ arch_outcome n frames c
  unfolding arch_outcome
  told_alike same =
      let tells = told_same frames s n b c (room n b) same in
      rw (same.list, filled_ext n (told frames s b) (told frames s c) (replicate 8 no_frame) tells)

  module _ (accepted : Accepted n b) (same : SameLengths b c) where
    too : Accepted n c
    too = rw same.list accepted

    left_too : arch_buffers n frames c ≡ left_by frames s c n
    left_too = rw same.list at (buffers_are n frames c too)

    pub shares_alike : (i : ℕ) → i < n
        → Wrote (written_to n frames b i) (share_lent n b i) (share_lent n c i) (share_left n frames b i) (share_left n frames c i)
    shares_alike i l =
        rw (told_is n frames b accepted i l, buffers_are n frames b accepted, left_too, same.list)
        (share_writes frames s n b c (room n b) same i l)

    work_reach_lem : work_reach n frames b ≡ reach frames s b n
    work_reach_lem = fold_ext max 0 _ _ n (λ i l. ap area (told_is n frames b accepted i l))

    scratch_reach_lem : scratch_reach n frames b ≡ blurred_reach frames s b n
    scratch_reach_lem = fold_ext max 0 _ _ n (λ i l. ap (blurred_area (read_at frames i)) (told_is n frames b accepted i l))

    pub work_alike :
        Writes (work_reach n frames b) (scratch_reach n frames b) b.map c.map (arch_buffers n frames b).map (arch_buffers n frames c).map
    work_alike =
        rw (buffers_are n frames b accepted, left_too, work_reach_lem, scratch_reach_lem)
        (work_writes frames s n b c (room n b) same n (omega arith))

-- the same share of two sets of buffers that are as long
pub alone_long : (n : ℕ) (b c : Buffers) → SameLengths b c → (i : ℕ) → share_lent n b i ≡ share_lent n c i
    → SameLengths (alone n b i) (alone n c i)
alone_long n b c same i lent = with_lists same _ _ (sym (ap length lent))
