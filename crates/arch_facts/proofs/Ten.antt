-- "10 isn't given here": a file that is not over its limit does not read as one, the finder does not answer it, and a frame that is not whole is
-- answered 11 or 13. Assumes nothing.
use Rattle.std.specs.Prelude.{Result, Ok, Err}
use Rattle.frame.specs.declared.Header.{Header}
use mathlib.Core.Path.{◌≡◌, sym, ◌∙◌}
use mathlib.Core.Bool.{Bool, true, false, not, cond}
use mathlib.Core.List.{List}
use Prim.Native.Nat.{ℕ, ◌+◌, ◌-◌, ◌≤◌}
use native.Mathlib.Decide.{ℕ_discrete}
use native.Mathlib.Omega.{arith}
use borrow.Author.Tests.{le-ltb, eq-eqb, ne_eqb}
use lib.Dec.{T, ltb, eqb}
use lib.ListN.{length, take, drop, length-take}
use Rattle.big_endian.specs.BigEndian.{byte_at, word_at}
use Rattle.params.specs.declared.answers.Answer.{Answer}
use Rattle.params.specs.declared.answers.Answer.TheVariants.{FileTooShort, Version, StatedLength, Mode}
use Rattle.params.specs.declared.settings.PeakFitMode.TheVariants.{Parabolic, Gaussian}
use Rattle.params.specs.declared.settings.RadonDetectorParams.{RadonDetectorParams}
use Rattle.params.specs.Answers.{number_of}
use Rattle.params.specs.Refusals.{or_else, size_refusal, map_refusal, list_refusal, room_refusal, refusal_of}
use Rattle.frame.specs.FrameFile.{with_mode, header_read, read_of}
use Rattle.response.specs.Map.{room_of}
use Rattle.radon.specs.Finder.{Buffers, answered, outcome_of}
use Rattle.frame_runner.specs.FileAnswer.{outcome_for}
use Rattle.arch_plan.specs.Plan.{due_in}
use Rattle.arch_facts.proofs.Fold.{read_in}

-- ---- the finder's answers

record Other (a : Answer) : Type 0 where
  never : number_of a ≡ 10 → ⊥

either : (t : Bool) (x y : Answer) → Other x → Other y → Other (cond t x y)
either true x y u v = u
either false x y u v = v

leaf : (a : Answer) → T (not (eqb (number_of a) 10)) → Other a
leaf a t = record { never = λ e. absurd (rw (eq-eqb (number_of a) 10 e) at t) }

stage : (a b : Answer) → Other a → Other b → Other (or_else a b)
stage a b u v = either (eqb (number_of a) 0) b a v u

-- one test after the other, and no refusal at the end
refusal_other : (w h image : ℕ) (p : RadonDetectorParams) (room : ℕ) → Other (refusal_of w h image p room)
unfolding refusal_of size_refusal map_refusal list_refusal room_refusal
refusal_other w h image p room = search (either, stage, leaf, tt) depth 13

finder_other : (img : List ℕ) (w h : ℕ) (p : RadonDetectorParams) (b : Buffers) → Other (outcome_of img w h p b).answer
unfolding outcome_of
finder_other img w h p b = by (ℕ_discrete (number_of (answered img w h p b)) 0)
  where
    by : Dec (number_of (answered img w h p b) ≡ 0) → Other (outcome_of img w h p b).answer
    by (yes z) = rw (eq-eqb (number_of (answered img w h p b)) 0 z) (search (either, leaf, tt))
    by (no z) = rw (ne_eqb (number_of (answered img w h p b)) 0 z) (refusal_other w h (length img) p (room_of b.map))

-- ---- a reading

-- the number of its refusal, where it is one
abbrev pub number_read : Result Header Answer → ℕ
number_read (Err a) = number_of a
number_read (Ok h) = 0

pub record NotTen (r : Result Header Answer) : Type 0 where
  pub never : number_read r ≡ 10 → ⊥

-- the tests of a file in their order, behind the one for 10
tests_not_ten : (file : List ℕ) (short version stated parabolic gaussian : Bool)
    → NotTen (cond short (Err FileTooShort) (cond version (Err Version) (cond stated (Err StatedLength)
    (with_mode file (cond parabolic (Ok Parabolic) (cond gaussian (Ok Gaussian) (Err Mode)))))))
tests_not_ten file true version stated parabolic gaussian = record { never = λ e. omega arith }
tests_not_ten file false true stated parabolic gaussian = record { never = λ e. omega arith }
tests_not_ten file false false true parabolic gaussian = record { never = λ e. omega arith }
tests_not_ten file false false false true gaussian = record { never = λ e. omega arith }
tests_not_ten file false false false false true = record { never = λ e. omega arith }
tests_not_ten file false false false false false = record { never = λ e. omega arith }

-- where a file is not over the limit, the limit is not asked for
read_within : (limit : ℕ) (file : List ℕ) → length file ≤ limit
    → read_of limit file ≡ cond (ltb (length file) 20) (Err FileTooShort) (header_read file)
unfolding read_of
read_within limit file within = rw (le-ltb limit (length file) within)

pub same_reading : (limit : ℕ) (file : List ℕ) → length file ≤ limit → read_of limit file ≡ read_of (length file) file
same_reading limit file within = read_within limit file within ∙ sym (read_within (length file) file (omega arith))

pub read_not_ten : (limit : ℕ) (file : List ℕ) → length file ≤ limit → NotTen (read_of limit file)
unfolding header_read
read_not_ten limit file within =
    let mode = byte_at file 12 in
    rw (read_within limit file within)
    (tests_not_ten file (ltb (length file) 20) (not (eqb (byte_at file 0) 1)) (not (eqb (word_at file 1) (length file - 5))) (eqb mode 0) (eqb mode 1))

pub told_not_ten : (file : List ℕ) (b : Buffers) (r : Result Header Answer) → NotTen r → number_of (outcome_for file b r).answer ≡ 10 → ⊥
told_not_ten file b (Err a) z e = z.never e
told_not_ten file b (Ok h) z e = (finder_other (drop 20 file) h.width h.height h.params b).never e

-- ---- a camera's

pub due_not_ten : (rest : List ℕ) → NotTen (read_in rest (due_in rest))
unfolding due_in
due_not_ten rest = by (ltb (length rest) 5) (ltb (length rest) (5 + word_at rest 1))
  where
    by : (s t : Bool) → NotTen (read_in rest (cond s (Err FileTooShort) (cond t (Err StatedLength) (Ok (5 + word_at rest 1)))))
    by true t = record { never = λ e. omega arith }
    by false true = record { never = λ e. omega arith }
    by false false =
        let k = 5 + word_at rest 1 in
        read_not_ten k (take k rest) (omega (arith, length-take k rest))
