-- The refusals in their order: each stage by itself as the code judges it, the chain that they make, what is known where
-- nothing is refused, and what an answer leaves of outcome and buffer. Assumes nothing.
use mathlib.Core.Path.{◌≡◌, refl}
use Rattle.std.specs.Prelude.{Ok, Err}
use Rattle.std.proofs.Common.{arith}
use mathlib.Core.Bool.{Bool, true, false, not, ◌||◌, cond}
use mathlib.Core.List.{List}
use Prim.Native.Nat.{ℕ, ◌+◌, ◌-◌, ◌*◌, ◌≤◌}
use borrow.Author.Tests.{ltb-false, eqb-true, not-false}
use lib.Dec.{ltb, eqb}
use lib.Ieee.{Float}
use lib.ListN.{length}
use Rattle.grid.specs.Each.{any}
use Rattle.grid.specs.Rect.{range}
use Rattle.big_endian.specs.BigEndian.{byte_at}
use Rattle.params.specs.declared.answers.Answer.{Answer}
use Rattle.params.specs.declared.answers.Answer.TheVariants.{Complete, RecordLength, RecordVersion, CornerCount, NotFinite, OutputTooShort}
use Rattle.params.specs.declared.answers.Verdicts.{Verdicts}
use Rattle.params.specs.declared.answers.Outcome.{Outcome}
use Rattle.params.specs.Answers.{number_of, no_verdicts, refused}
use Rattle.params.specs.Refusals.{or_else, as_result}
use Rattle.params.proofs.Accepted.{past, neither}
use Rattle.record.specs.Record.{most, head, following, stray, corners_in, whole_of, stated_in, count_in, number_in}
use Rattle.record.specs.Record.{write_refusal, read_refusal, outcome_with, unless_refused}
use Rattle.record.specs.Stages.{length_refusal, version_refusal, count_refusal, head_refusal}

-- ---- what the judge gave of a refusal: it, or nothing

pub refuses : (a : Answer) {e : Answer} → as_result a ≡ Err e → (eqb (number_of a) 0 ≡ false) × (a ≡ e)
refuses a h = grind arith

pub passes : (a : Answer) → as_result a ≡ Ok tt → a ≡ Complete
passes a h = grind arith

-- ---- what that leaves

module _ (a : Answer) where
  module _ {e : Answer} (gave : as_result a ≡ Err e) where
    pub refused-told : {o : Outcome} → o ≡ refused e → (c w h : ℕ) → o ≡ outcome_with a c w h
    refused-told q c w h =
        let r = refuses a gave in
        rw (r.0, r.1) q

    pub refused_leaves : {A : Type 0} → (new old : A) → old ≡ unless_refused a new old
    refused_leaves new old = rw (refuses a gave).0

  module _ (gave : as_result a ≡ Ok tt) where
    pub taken_told : (c w h : ℕ) {v : Verdicts} → v ≡ no_verdicts
        → record { answer = Complete; count = c; w = w; h = h; verdicts = v } ≡ outcome_with a c w h
    taken_told c w h q = rw (passes a gave, q)

    pub taken_leaves : {A : Type 0} {out : A} (new old : A) → out ≡ new → out ≡ unless_refused a new old
    taken_leaves new old q = rw (passes a gave) q

-- ---- the chain of the reader: these three, and then numbers and room

chain : (a b c : Bool) (rest : Answer) → cond a RecordLength (cond b RecordVersion (cond c CornerCount rest))
    ≡ or_else (or_else (cond a RecordLength Complete) (or_else (cond b RecordVersion Complete) (cond c CornerCount Complete))) rest
chain true b c rest = refl
chain false true c rest = refl
chain false false true rest = refl
chain false false false rest = refl

module _ (v k : ℕ) (file : List ℕ) (room : ℕ) where
  abbrev strays : Bool
  strays = any (λ i. stray (number_in file i)) (range 0 (k * count_in file))

  abbrev after : Answer
  after = cond strays NotFinite (cond (ltb room (k * count_in file)) OutputTooShort Complete)

  pub chained : read_refusal v k file room ≡ or_else (head_refusal v k file) after
  unfolding read_refusal length_refusal version_refusal count_refusal
  chained =
      chain (ltb (length file) head || not (eqb (stated_in file) (length file - 5))) (not (eqb (byte_at file 0) v))
      (not (eqb (stated_in file) (following k (count_in file))) || ltb most (count_in file)) after

-- ---- what is known where nothing is refused

pub record WriteTaken (k : ℕ) (list : List Float) (room : ℕ) : Type 0 where
  pub few : corners_in k list ≤ most
  pub finite : any stray (whole_of k list) ≡ false
  pub fits : head + 4 * (k * corners_in k list) ≤ room

pub write_known : (k : ℕ) (list : List Float) (room : ℕ) → number_of (write_refusal k list room) ≡ 0 → WriteTaken k list room
unfolding write_refusal
write_known k list room e =
    let a = past _ _ _ refl e in
    let b = past _ _ _ refl a.1 in
    let c = past _ _ _ refl b.1 in
    record { few = ltb-false _ _ a.0; finite = b.0; fits = ltb-false _ _ c.0 }

pub record ReadTaken (v k : ℕ) (file : List ℕ) (room : ℕ) : Type 0 where
  pub long : head ≤ length file
  pub stated : stated_in file ≡ length file - 5
  pub version : byte_at file 0 ≡ v
  pub agrees : stated_in file ≡ following k (count_in file)
  pub few : count_in file ≤ most
  pub finite : any (λ i. stray (number_in file i)) (range 0 (k * count_in file)) ≡ false
  pub fits : k * count_in file ≤ room

pub read_known : (v k : ℕ) (file : List ℕ) (room : ℕ) → number_of (read_refusal v k file room) ≡ 0 → ReadTaken v k file room
unfolding read_refusal
read_known v k file room z =
    let a = past _ _ _ refl z in
    let b = past _ _ _ refl a.1 in
    let c = past _ _ _ refl b.1 in
    let d = past _ _ _ refl c.1 in
    let e = past _ _ _ refl d.1 in
    let length = neither _ _ a.0 in
    let count = neither _ _ c.0 in record {
      long = ltb-false _ _ length.0;
      stated = eqb-true _ _ (not-false _ length.1);
      version = eqb-true _ _ (not-false _ b.0);
      agrees = eqb-true _ _ (not-false _ count.0);
      few = ltb-false _ _ count.1;
      finite = d.0;
      fits = ltb-false _ _ e.0;
    }
