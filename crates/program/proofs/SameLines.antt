-- What is printed for a file depends on the file alone: not on what the buffers held before, and on no byte past the first 2,325.
-- Assumes nothing.
use Rattle.std.specs.Prelude.{Result, Ok, Err}
use mathlib.Core.Path.{◌≡◌, refl, sym, ap, ◌∙◌}
use mathlib.Core.Logic.{◌⊎◌, inl, inr}
use mathlib.Core.List.{List, [], ◌∷◌}
use Prim.Native.Nat.{ℕ, zero, suc, ◌+◌, ◌-◌, ◌*◌, ◌≤◌, ◌<◌}
use native.Mathlib.Nat.{mul-suc}
use native.Mathlib.Omega.{arith}
use borrow.Author.Tests.{lt-ltb, le-ltb}
use lib.Ieee.{Float}
use lib.ListN.{length, take, drop, length-take, replicate, length-replicate}
use lib.Seq.{take-take, take_all}
use Rattle.grid.specs.Over.{written}
use Rattle.grid.proofs.Over.{length_over}
use Rattle.grid.proofs.Part.{part_taken}
use Rattle.float.specs.Values.{f0}
use Rattle.params.specs.declared.answers.Answer.{Answer}
use Rattle.params.specs.declared.answers.Outcome.{Outcome}
use Rattle.params.specs.declared.settings.RadonDetectorParams.{RadonDetectorParams}
use Rattle.params.specs.Answers.{number_of, refused}
use Rattle.frame.specs.declared.Header.{Header}
use Rattle.frame.specs.FrameFile.{read_of}
use Rattle.lines.specs.Printed.{refused_line, corner_lines, stored, printed}
use Rattle.response.specs.Map.{room_of}
use Rattle.radon.specs.Finder.{Buffers, answered, outcome_of, buffers_of}
use Rattle.radon.proofs.Left.{left_is}
use Rattle.radon.proofs.Demands.{refusal_leaves_all, same_answer, same-list, list_is_corners}
use Rattle.frame_runner.specs.FileAnswer.{outcome_for, file_outcome, buffers_for, file_buffers}
use Rattle.program.specs.Program.{limit, blank, lines_over, lines_of}

-- ---- the lines of a list: they are those of the numbers that are stored

corner_lines_lem : (stride n : ℕ) (l m : List Float) → take (stride * n) l ≡ take (stride * n) m → corner_lines stride n l ≡ corner_lines stride n m
unfolding corner_lines
corner_lines_lem stride zero l m e = refl
corner_lines_lem stride (suc n) l m e =
    let all : stride + stride * n ≡ stride * suc n = omega (arith, mul-suc stride n) in
    let within : stride ≤ stride * suc n = omega arith in
    let opens : (k : List Float) → take stride (take (stride * suc n) k) ≡ take stride k = λ k. take-take stride (stride * suc n) k within in
    let one : take stride l ≡ take stride m = sym (opens l) ∙ ap (take stride) e ∙ opens m in
    let rest : take (stride * n) (drop stride l) ≡ take (stride * n) (drop stride m) =
    rw (part_taken stride (stride * n) l, part_taken stride (stride * n) m, all, e) in
    rw (one, corner_lines_lem stride n (drop stride l) (drop stride m) rest)

printed-same : (o : Outcome) (l m : List Float) → length l ≡ length m
    → take (3 * stored 3 o.count l) l ≡ take (3 * stored 3 o.count l) m → printed 3 o l ≡ printed 3 o m
unfolding printed
printed-same o l m n e = rw (corner_lines_lem 3 (stored 3 o.count l) l m e, n)

-- a refusal has no corners
refused-same : (o : Outcome) (l m : List Float) → o.count ≡ 0 → length l ≡ length m → printed 3 o l ≡ printed 3 o m
refused-same o l m z n = printed-same o l m n (ap (λ (k : ℕ). take (3 * k) l) none ∙ sym (ap (λ (k : ℕ). take (3 * k) m) none))
  where
    none : stored 3 o.count l ≡ 0
    none = omega arith

-- ---- the finder's, over buffers of the same lengths

written-long : {A : Type 0} (k : ℕ) (f : A → List Float) (l : List A) (old : List Float) → length (written k f l old) ≡ length old
unfolding written
written-long k f l old = length_over _ old

zero_or_not : (n : ℕ) → (n ≡ 0) ⊎ (n ≡ 0 → ⊥)
zero_or_not zero = inl refl
zero_or_not (suc n) = inr (λ e. omega arith)

-- what an answer is judged on is the same
pub record Alike (b c : Buffers) : Type 0 where
  pub room : room_of b.map ≡ room_of c.map
  pub list : length b.list ≡ length c.list

abbrev list_length : Buffers → ℕ
list_length b = length b.list

module _ (img : List ℕ) (w h : ℕ) (p : RadonDetectorParams) (b c : Buffers) (same : Alike b c) where
  abbrev answer_over : Buffers → Outcome
  answer_over b = outcome_of img w h p b

  abbrev list_over : Buffers → List Float
  list_over b = (buffers_of img w h p b).list

  long : (b : Buffers) → number_of (answered img w h p b) ≡ 0 → length (list_over b) ≡ list_length b
  long b z = ap list_length (left_is img w h p b z) ∙ written-long _ _ _ b.list

  lines_accepted : number_of (answered img w h p b) ≡ 0 → printed 3 (answer_over b) (list_over b) ≡ printed 3 (answer_over b) (list_over c)
  lines_accepted z =
      let y : number_of (answered img w h p c) ≡ 0 = rw same.room at z in
      let n : length (list_over b) ≡ length (list_over c) = long b z ∙ same.list ∙ sym (long c y) in
      printed-same (answer_over b) (list_over b) (list_over c) n
      (rw ((list_is_corners img w h p b z).count, long b z) (same-list img w h p b c same.room same.list z))

  lines_refused : (number_of (answered img w h p b) ≡ 0 → ⊥) → printed 3 (answer_over b) (list_over b) ≡ printed 3 (answer_over b) (list_over c)
  lines_refused z =
      let y : number_of (answered img w h p c) ≡ 0 → ⊥ = λ e. z (rw same.room e) in
      let f = refusal_leaves_all img w h p b z in
      let g = refusal_leaves_all img w h p c y in
      let n : length (list_over b) ≡ length (list_over c) = ap list_length f.1 ∙ same.list ∙ sym (ap list_length g.1) in
      refused-same (answer_over b) (list_over b) (list_over c) (ap (λ (o : Outcome). o.count) f.0) n

  finder_lines : printed 3 (answer_over b) (list_over b) ≡ printed 3 (answer_over c) (list_over c)
  finder_lines =
      elim (zero_or_not (number_of (answered img w h p b))) [ inl z ↦ lines_accepted z | inr z ↦ lines_refused z ]
      ∙ ap (λ (o : Outcome). printed 3 o (list_over c)) (same_answer img w h p b c same.room same.list)

-- ---- the program's

module _ (file : List ℕ) (b c : Buffers) (same : Alike b c) where
  lines_for : (r : Result Header Answer)
      → printed 3 (outcome_for file b r) (buffers_for file b r).list ≡ printed 3 (outcome_for file c r) (buffers_for file c r).list
  lines_for (Err a) = refused-same (refused a) b.list c.list refl same.list
  lines_for (Ok h) = finder_lines (drop 20 file) h.width h.height h.params b c same

  -- "What a buffer held before the call changes no answer and no written number": nor any line
  pub same_lines : lines_over b file ≡ lines_over c file
  unfolding lines_over file_outcome file_buffers
  same_lines = lines_for (read_of limit file)

-- over work buffers with zeros in them, and a list for k corners whatever it held
lines_blank : (n k : ℕ) (list : List Float) → length list ≡ 3 * k → (file : List ℕ)
    → lines_over (blank n list) file ≡ lines_over (blank n (replicate (3 * k) f0)) file
unfolding blank
lines_blank n k list long file =
    same_lines file (blank n list) (blank n (replicate (3 * k) f0)) (record { room = refl; list = long ∙ sym (length-replicate (3 * k) f0) })

-- "10 over 2,324 bytes": `refused 10`
pub too_long_lines : (file : List ℕ) → limit < length file → lines_of file ≡ refused_line 10 ∷ []
unfolding lines_of lines_over file_outcome file_buffers read_of printed
too_long_lines file h = rw (lt-ltb limit (length file) h)

-- "11 under 20 bytes": `refused 11`, an empty file too
pub too_short_lines : (file : List ℕ) → length file < 20 → lines_of file ≡ refused_line 11 ∷ []
unfolding lines_of lines_over file_outcome file_buffers read_of printed
too_short_lines file h = rw (le-ltb limit (length file) (omega arith), lt-ltb (length file) 20 h)

-- 2,325 bytes are enough: a file of any length prints the lines of its first 2,325 bytes
pub opening_bytes_enough : (file : List ℕ) → lines_of file ≡ lines_of (take 2325 file)
opening_bytes_enough file = by_length (zero_or_not (length file - 2325))
  where
    by_length : (length file - 2325 ≡ 0) ⊎ (length file - 2325 ≡ 0 → ⊥) → lines_of file ≡ lines_of (take 2325 file)
    by_length (inl e) = ap lines_of (sym (take_all 2325 file (omega arith)))
    by_length (inr n) =
        let more : limit < length file = omega arith in
        too_long_lines file more ∙ sym (too_long_lines (take 2325 file) (omega (arith, length-take 2325 file)))

-- what reading leaves of a file in an array of 2,325 bytes prints the lines of the file
whole_file : (file input : List ℕ) (got : ℕ) → length input ≡ 2325 → take (length input) file ≡ take got input
    → lines_of (take got input) ≡ lines_of file
whole_file file input got n e = ap lines_of (sym (rw n at e)) ∙ sym (opening_bytes_enough file)

-- with room as the program has it, the outcome and the list that is left print the file's lines, whatever the list held
program_lines : (old : List Float) → length old ≡ 3 * 256 → (file : List ℕ) {o : Outcome} {left : List Float}
    → o ≡ file_outcome limit file (blank 2304 old) → left ≡ (file_buffers limit file (blank 2304 old)).list → printed 3 o left ≡ lines_of file
unfolding lines_over lines_of
program_lines old long file p q = rw (p, q) (lines_blank 2304 256 old long file)

-- what was read, run with room: the same of the bytes of the array, and the lines of the file they were read from
module _ (input : List ℕ) (got : ℕ) (long : length input ≡ 2325) (old : List Float) (room : length old ≡ 3 * 256) where
  abbrev file : List ℕ
  file = take got input

  pub as_read : {read : List ℕ} {o : Outcome} {left : List Float} → read ≡ file
      → (o ≡ file_outcome limit read (blank 2304 old)) × (left ≡ (file_buffers limit read (blank 2304 old)).list)
      → (o ≡ file_outcome limit file (blank 2304 old))
      × ((left ≡ (file_buffers limit file (blank 2304 old)).list)
      × ((printed 3 o left ≡ lines_of file)
      × ((whole : List ℕ) → take (length input) whole ≡ file → printed 3 o left ≡ lines_of whole)))
  as_read {o = o} {left = left} e (p, q) =
      let answer : o ≡ file_outcome limit file (blank 2304 old) = p ∙ ap (λ (f : List ℕ). file_outcome limit f (blank 2304 old)) e in
      let list : left ≡ (file_buffers limit file (blank 2304 old)).list = q ∙ ap (λ (f : List ℕ). (file_buffers limit f (blank 2304 old)).list) e in
      let lines : printed 3 o left ≡ lines_of file = program_lines old room file answer list in
      (answer, (list, (lines, λ whole h. lines ∙ whole_file whole input got long h)))
