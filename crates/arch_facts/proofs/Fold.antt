-- Camera after camera: what the first of them leave of the lengths, the shares and the work buffers, each camera being a single call on the frame
-- that is due. Assumes nothing.
use Rattle.std.specs.Prelude.{Result, Ok, Err}
use Rattle.frame.specs.declared.Header.{Header}
use Rattle.params.specs.declared.answers.Answer.{Answer}
use mathlib.Core.Path.{◌≡◌, refl, sym, ap, ◌∙◌}
use mathlib.Core.List.{List, []}
use Prim.Native.Nat.{ℕ, zero, suc, ◌+◌, ◌*◌, ◌≤◌, ◌<◌, max}
use native.Mathlib.Nat.{le_refl}
use native.Mathlib.Decide.{dec_lt}
use native.Mathlib.Omega.{arith}
use lib.Ieee.{Float}
use lib.ListN.{length, take, drop, length-take, length-drop}
use lib.Seq.{length-take-le}
use Rattle.grid.specs.Fold.{fold}
use Rattle.frame.specs.FrameFile.{read_of}
use Rattle.radon.specs.Finder.{Buffers}
use Rattle.frame_runner.specs.FileAnswer.{outcome_for, file_outcome, buffers_for, file_buffers}
use Rattle.arch_plan.specs.Plan.{due_in, rest_at}
use Rattle.arch.specs.Arch.{camera_outcome, camera_buffers, share_of, lent_to, back_from, left_by, told}
use Rattle.arch.proofs.Cameras.{SameLengths, same_lengths, lengths_on}
use Rattle.arch_plan.proofs.InList.{share_in}
use Rattle.arch_facts.proofs.Parts.{put-long, part-put, drop-put, part_before_put, Wrote}
use Rattle.arch_facts.proofs.Work.{Writes, writes_none, writes_then, with_lists, lengths_over}
use Rattle.arch_facts.proofs.Single.{area, blurred_area, listed}
use Rattle.arch_facts.proofs.Single.{read_long, read_told, read_writes}

-- ---- a camera is a single call: the file that is due and how it reads. One that is not whole reads as a refusal

abbrev pub file_in : List ℕ → Result ℕ Answer → List ℕ
file_in rest (Ok n) = take n rest
file_in rest (Err a) = []

abbrev pub read_in : List ℕ → Result ℕ Answer → Result Header Answer
read_in rest (Ok n) = read_of n (take n rest)
read_in rest (Err a) = Err a

camera_told : (rest : List ℕ) (d : Result ℕ Answer) (b : Buffers) → camera_outcome rest d b ≡ outcome_for (file_in rest d) b (read_in rest d)
unfolding file_outcome
camera_told rest (Ok n) b = refl
camera_told rest (Err a) b = refl

camera_left : (rest : List ℕ) (d : Result ℕ Answer) (b : Buffers) → camera_buffers rest d b ≡ buffers_for (file_in rest d) b (read_in rest d)
unfolding file_buffers
camera_left rest (Ok n) b = refl
camera_left rest (Err a) b = refl

-- those of camera i
abbrev pub file_at : List ℕ → ℕ → List ℕ
file_at frames i = file_in (rest_at frames i) (due_in (rest_at frames i))

abbrev pub read_at : List ℕ → ℕ → Result Header Answer
read_at frames i = read_in (rest_at frames i) (due_in (rest_at frames i))

-- ---- lengths

lent_lengths : (size i : ℕ) {b c : Buffers} → SameLengths b c → SameLengths (lent_to size i b) (lent_to size i c)
lent_lengths size i s = with_lists s _ _ (simp (length-take, length-drop) (rw s.list))

pub share_long : (size n i : ℕ) (l : List Float) → n * size ≤ length l → i < n → length (share_of size i l) ≡ size
share_long size n i l room goes =
    let inside : i * size + size ≤ length l = share_in size goes room in
    length-take-le size (drop (i * size) l) (omega (arith, length-drop (i * size) l))

-- ---- over buffers b

module _ (frames : List ℕ) (size : ℕ) (b : Buffers) where
  -- all buffers as the first i cameras left them, what camera i is lent of that, and what it leaves
  abbrev now : ℕ → Buffers
  now i = left_by frames size b i

  abbrev lent_at : ℕ → Buffers
  lent_at i = lent_to size i (now i)

  abbrev after : ℕ → Buffers
  after i = buffers_for (file_at frames i) (lent_at i) (read_at frames i)

  -- the list among them, and what the like single call is lent
  abbrev list_now : ℕ → List Float
  list_now i = (now i).list

  abbrev single_at : ℕ → Buffers
  single_at i = record { map = (now i).map; list = share_of size i b.list }

  pub told_is : (i : ℕ) → told frames size b i ≡ outcome_for (file_at frames i) (lent_at i) (read_at frames i)
  unfolding told
  told_is i = camera_told (rest_at frames i) (due_in (rest_at frames i)) (lent_at i)

  pub next_is : (i : ℕ) → now (suc i) ≡ back_from size i (now i) (after i)
  unfolding left_by
  next_is i = ap (back_from size i (now i)) (camera_left (rest_at frames i) (due_in (rest_at frames i)) (lent_at i))

  -- ---- n shares of its list

  module _ (n : ℕ) (room : n * size ≤ length b.list) where
    list_next : (i : ℕ) → list_now (suc i) ≡ (back_from size i (now i) (after i)).list
    list_next i = ap (λ (c : Buffers). c.list) (next_is i)

    -- ---- where share i stands: inside the list, which is as long as it was

    module _ (i : ℕ) (goes : i < n) (long : length (list_now i) ≡ length b.list) where
      share_fits : i * size + size ≤ length (list_now i)
      share_fits = share_in size goes (omega arith)

      after-long : length (after i).list ≡ size
      after-long = (read_long (file_at frames i) (read_at frames i) (lent_at i)).list ∙ share_long size n i (list_now i) (omega arith) goes

      -- a camera changes no length,
      list-long : length (list_now (suc i)) ≡ length b.list
      list-long = ap length (list_next i) ∙ put-long (i * size) size (after i).list (list_now i) after-long share_fits ∙ long

      -- its share is what it left,
      share_itself : share_of size i (list_now (suc i)) ≡ (after i).list
      share_itself = rw (list_next i) (part-put (i * size) size (after i).list (list_now i) after-long share_fits)

      -- and it touches no other
      share_before : (j : ℕ) → j < i → share_of size j (list_now (suc i)) ≡ share_of size j (list_now i)
      share_before j l =
          rw (list_next i)
          (part_before_put (i * size) size (after i).list (list_now i) after-long share_fits (j * size) size (share_in size l (le_refl _)))

      drop_later : (j : ℕ) → i < j → drop (j * size) (list_now (suc i)) ≡ drop (j * size) (list_now i)
      drop_later j l =
          rw (list_next i)
          (drop-put (i * size) size (after i).list (list_now i) after-long share_fits (j * size) (share_in size l (le_refl _)))

    -- ---- after all of them

    pub long : (i : ℕ) → i ≤ n → SameLengths b (now i)
    unfolding left_by
    long zero l = same_lengths b
    long (suc i) l =
        let s = long i (omega arith) in
        let t = read_long (file_at frames i) (read_at frames i) (lent_at i) in
        rw (next_is i) (lengths_on s t (rw (list_next i) at (list-long i l s.list)))

    as_long : (i : ℕ) → i < n → length (list_now i) ≡ length b.list
    as_long i l = (long i (omega arith)).list

    -- from a later share on the list is as it was lent
    pub drop-lent : (i j : ℕ) → i ≤ n → i ≤ j → drop (j * size) (list_now i) ≡ drop (j * size) b.list
    unfolding left_by
    drop-lent zero j l m = refl
    drop-lent (suc i) j l m = drop_later i l (as_long i l) j m ∙ drop-lent i j (omega arith) (omega arith)

    -- and a share, once its camera has left it, stays
    pub share_left : (j i : ℕ) → i < j → j ≤ n → share_of size i (list_now j) ≡ (after i).list
    share_left zero i l m = absurd (omega arith)
    share_left (suc j) i l m = by (dec_lt i j) (λ k. share_left j i k (omega arith))
      where
        by : Dec (i < j) → (i < j → share_of size i (list_now j) ≡ (after i).list) → share_of size i (list_now (suc j)) ≡ (after i).list
        by (yes k) e = share_before j m (as_long j m) i k ∙ e k
        by (no k) f =
            let e : i ≡ j = omega arith in
            rw e (share_itself j m (as_long j m))

    -- ---- camera i by the share that was lent at the call

    lent_is : (i : ℕ) → i < n → lent_at i ≡ single_at i
    lent_is i l = λ k. record { map = (now i).map; list = take size (drop-lent i i (omega arith) (omega arith) k) }

    pub told_single : (i : ℕ) → i < n → told frames size b i ≡ outcome_for (file_at frames i) (single_at i) (read_at frames i)
    told_single i l = told_is i ∙ ap (λ (c : Buffers). outcome_for (file_at frames i) c (read_at frames i)) (lent_is i l)

    pub share_single : (i : ℕ) → i < n → share_of size i (list_now n) ≡ (buffers_for (file_at frames i) (single_at i) (read_at frames i)).list
    share_single i l =
        share_left n i l (omega arith)
        ∙ ap (λ (c : Buffers). (buffers_for (file_at frames i) c (read_at frames i)).list) (lent_is i l)

    -- the work buffers behind it
    pub map_single : (i : ℕ) → i < n → (now (suc i)).map ≡ (buffers_for (file_at frames i) (single_at i) (read_at frames i)).map
    map_single i l =
        ap (λ (c : Buffers). c.map) (next_is i)
        ∙ ap (λ (c : Buffers). (buffers_for (file_at frames i) c (read_at frames i)).map) (lent_is i l)

-- what is told and left depends on the slice by the files that are due
module _ (frames others : List ℕ) (size n : ℕ) (b : Buffers)
    (files : (i : ℕ) → i < n → file_at frames i ≡ file_at others i) (reads : (i : ℕ) → i < n → read_at frames i ≡ read_at others i) where
  pub left_by_files : (i : ℕ) → i ≤ n → left_by frames size b i ≡ left_by others size b i
  unfolding left_by
  left_by_files zero l = refl
  left_by_files (suc i) l =
      let e = left_by_files i (omega arith) in
      next_is frames size b i
      ∙ (λ k. back_from size i (e k) (buffers_for (files i l k) (lent_to size i (e k)) (reads i l k)))
      ∙ sym (next_is others size b i)

  pub told_by_files : (i : ℕ) → i < n → told frames size b i ≡ told others size b i
  told_by_files i l =
      told_is frames size b i
      ∙ (λ k. outcome_for (files i l k) (lent_to size i (left_by_files i (omega arith) k)) (reads i l k))
      ∙ sym (told_is others size b i)

-- how far the first i cameras wrote: the greatest W·H of them, and the greatest of those that used the scratch
abbrev pub reach : List ℕ → ℕ → Buffers → ℕ → ℕ
reach frames size b i = fold max 0 (λ j. area (told frames size b j)) i

abbrev pub blurred_reach : List ℕ → ℕ → Buffers → ℕ → ℕ
blurred_reach frames size b i = fold max 0 (λ j. blurred_area (read_at frames j) (told frames size b j)) i

-- ---- over two sets of buffers that are as long

module _ (frames : List ℕ) (size n : ℕ) (b c : Buffers) (room : n * size ≤ length b.list) (same : SameLengths b c) where
  abbrev room_too : n * size ≤ length c.list
  room_too = rw same.list room

  now_same : (i : ℕ) → i ≤ n → SameLengths (left_by frames size b i) (left_by frames size c i)
  now_same i l = lengths_over same (long frames size b n room i l) (long frames size c n room_too i l)

  lent_same : (i : ℕ) → i ≤ n → SameLengths (lent_to size i (left_by frames size b i)) (lent_to size i (left_by frames size c i))
  lent_same i l = lent_lengths size i (now_same i l)

  pub told_same : (i : ℕ) → i < n → told frames size b i ≡ told frames size c i
  told_same i l =
      told_is frames size b i
      ∙ read_told (file_at frames i) _ _ (lent_same i (omega arith)) (read_at frames i)
      ∙ sym (told_is frames size c i)

  abbrev Reached : ℕ → Type 0
  Reached i =
      Writes (reach frames size b i) (blurred_reach frames size b i) b.map c.map
      (left_by frames size b i).map (left_by frames size c i).map

  work_next : (i : ℕ) → i < n → Reached i → Reached (suc i)
  unfolding fold
  work_next i l before =
      let call = read_writes (file_at frames i) _ _ (lent_same i (omega arith)) (read_at frames i) in
      rw (next_is frames size b i, next_is frames size c i, told_is frames size b i)
      (writes_then _ _ _ _ before call.0)

  pub work_writes : (i : ℕ) → i ≤ n → Reached i
  unfolding fold left_by
  work_writes zero l = writes_none
  work_writes (suc i) l = work_next i l (work_writes i (omega arith))

  pub share_writes : (i : ℕ) → i < n
      → Wrote (listed (told frames size b i) size) (share_of size i b.list) (share_of size i c.list)
      (share_of size i (left_by frames size b n).list) (share_of size i (left_by frames size c n).list)
  share_writes i l =
      let lent = rw (lent_is frames size b n room i l, lent_is frames size c n room_too i l) at (lent_same i (omega arith)) in
      let call = read_writes (file_at frames i) _ _ lent (read_at frames i) in
      rw (told_single frames size b n room i l, share_single frames size b n room i l, share_single frames size c n room_too i l)
      (rw (share_long size n i b.list room l) at call.1)
