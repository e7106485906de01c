-- Where the frames stand in the slice: behind a whole one the next begins, behind one that is not whole nothing is left, and files laid end to end
-- are found whole, each as it is. Assumes nothing.
use Rattle.std.specs.Prelude.{Result, Ok, Err}
use mathlib.Core.Path.{◌≡◌, refl, sym, ap, ◌∙◌}
use mathlib.Core.List.{List, [], ◌++◌, flatten, append_assoc}
use Prim.Native.Nat.{ℕ, zero, suc, ◌+◌, ◌≤◌, ◌<◌}
use native.Mathlib.Decide.{dec_lt}
use native.Mathlib.Omega.{arith}
use lib.ListN.{length, get_or, drop, length-append, get_or-append}
use lib.Seq.{drop-cons, take-append_seam, drop-append_seam}
use Rattle.grid.proofs.All.{All}
use Rattle.grid.proofs.Entries.{all_at}
use Rattle.big_endian.specs.BigEndian.{word_at}
use Rattle.params.specs.declared.answers.Answer.{Answer}
use Rattle.params.specs.declared.answers.Answer.TheVariants.{FileTooShort}
use Rattle.arch_plan.specs.Plan.{due_in, behind, rest_at}
use Rattle.arch_plan.proofs.Frames.{lies_whole}
use Rattle.arch_facts.proofs.Left.{WholeAt}

-- ---- the next frame

module _ (frames : List ℕ) where
  -- behind camera i
  next : (i : ℕ) {d : Result ℕ Answer} → due_in (rest_at frames i) ≡ d → rest_at frames (suc i) ≡ behind (rest_at frames i) d
  unfolding rest_at
  next i e = ap (behind (rest_at frames i)) e

  pub next_begins : (i : ℕ) {k : ℕ} → due_in (rest_at frames i) ≡ Ok k → rest_at frames (suc i) ≡ drop k (rest_at frames i)
  next_begins i e = next i e

  none_due : {rest : List ℕ} → rest ≡ [] → due_in rest ≡ Err FileTooShort
  unfolding due_in
  none_due e = rw e

  pub later_ones : (j i : ℕ) {a : Answer} → due_in (rest_at frames i) ≡ Err a → i < j → due_in (rest_at frames j) ≡ Err FileTooShort
  later_ones zero i e l = absurd (omega arith)
  later_ones (suc j) i {a} e l = by (dec_lt i j) (λ k. later_ones j i e k)
    where
      by : Dec (i < j) → (i < j → due_in (rest_at frames j) ≡ Err FileTooShort) → due_in (rest_at frames (suc j)) ≡ Err FileTooShort
      by (yes k) f = none_due (next j (f k))
      by (no k) f =
          let same : i ≡ j = omega arith in
          none_due (next j (rw same at e))

-- ---- files laid end to end

-- a file that has its stated length
abbrev pub Stated : List ℕ → Type 0
Stated file = length file ≡ 5 + word_at file 1

-- whatever stands behind it
stated_due : (file more : List ℕ) → Stated file → due_in (file ++ more) ≡ Ok (length file)
stated_due file more stated =
    let long : length (file ++ more) ≡ length file + length more = length-append file more in
    let word : word_at file 1 ≡ word_at (file ++ more) 1 =
    sym (rw (
      get_or-append file more 0 1 (omega arith),
      get_or-append file more 0 2 (omega arith),
      get_or-append file more 0 3 (omega arith),
      get_or-append file more 0 4 (omega arith),
    )) in
    sym (lies_whole (file ++ more) word (omega arith) (omega arith)) ∙ ap Ok (sym stated)

module _ (files : List (List ℕ)) (more : List ℕ) (stated : All Stated files) where
  abbrev slice : List ℕ
  slice = flatten files ++ more

  abbrev file_number : ℕ → List ℕ
  file_number i = get_or files i []

  -- what is left for camera i: file i and those behind it
  cut : (i : ℕ) → i < length files → flatten (drop i files) ++ more ≡ file_number i ++ (flatten (drop (suc i) files) ++ more)
  unfolding flatten
  cut i l = rw (drop-cons files i [] l) (append_assoc (file_number i) (flatten (drop (suc i) files)) more)

  module _ (i : ℕ) (l : i < length files) (left : rest_at slice i ≡ flatten (drop i files) ++ more) where
    there : rest_at slice i ≡ file_number i ++ (flatten (drop (suc i) files) ++ more)
    there = left ∙ cut i l

    due_there : due_in (rest_at slice i) ≡ Ok (length (file_number i))
    due_there = rw there (stated_due (file_number i) _ (all_at Stated files i [] stated l))

    next_there : rest_at slice (suc i) ≡ flatten (drop (suc i) files) ++ more
    next_there = next slice i due_there ∙ ap (drop (length (file_number i))) there ∙ drop-append_seam (file_number i) _

  left_there : (i : ℕ) → i ≤ length files → rest_at slice i ≡ flatten (drop i files) ++ more
  unfolding rest_at
  left_there zero l = refl
  left_there (suc i) l = next_there i l (left_there i (omega arith))

  pub laid : (i : ℕ) → i < length files → WholeAt slice i (length (file_number i)) (file_number i)
  laid i l =
      let left = left_there i (omega arith) in
      record {
        due = due_there i l left;
        is = rw (there i l left) (take-append_seam (file_number i) _);
      }
