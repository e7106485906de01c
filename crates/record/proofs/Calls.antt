-- The two calls, from their parts: what is answered and left where the judge refuses, and where it does not. Assumes nothing.
use Rattle.std.specs.Prelude.{Ok, Err}
use Rattle.std.proofs.Common.{◌≡◌, ap, List, ℕ, ◌+◌, ◌*◌, ◌≤◌, Float, length, arith}
use native.Mathlib.Nat.{mul-div-le}
use lib.Seq.{sets, length-take-le}
use Rattle.grid.specs.Fill.{filled}
use Rattle.grid.specs.Over.{over}
use Rattle.big_endian.specs.BigEndian.{half_at}
use Rattle.params.specs.declared.answers.Answer.{Answer}
use Rattle.params.specs.declared.answers.Answer.TheVariants.{Complete}
use Rattle.params.specs.declared.answers.Verdicts.{Verdicts}
use Rattle.params.specs.declared.answers.Outcome.{Outcome}
use Rattle.params.specs.Answers.{number_of, no_verdicts, refused}
use Rattle.params.specs.Refusals.{as_result}
use Rattle.record.specs.Record.{most, head, head_of, corners_in, whole_of, bytes_of, record_of, write_refusal, write_outcome, written}
use Rattle.record.specs.Record.{count_in, number_in, read_refusal, read_outcome, read_back}
use Rattle.record.proofs.Taken.{passes, refused-told, taken_told, refused_leaves, taken_leaves, WriteTaken, write_known, read_known}
use Rattle.record.proofs.Puts.{record_put}

-- where the judge refuses nothing, what putting and storing require

module _ (k : ℕ) (list : List Float) (room : ℕ) (gave : as_result (write_refusal k list room) ≡ Ok tt) where
  may_write : WriteTaken k list room
  may_write = write_known k list room (ap number_of (passes _ gave))

  pub head_may : (head ≤ room) × (corners_in k list ≤ most)
  head_may = (omega (arith, may_write.fits), may_write.few)

  pub numbers_may : {long : ℕ} → long ≡ room → head + 4 * length (whole_of k list) ≤ long
  numbers_may e = omega (arith, may_write.fits, length-take-le (k * corners_in k list) list (mul-div-le (length list) k))

pub fill_may : (v k : ℕ) (file : List ℕ) (room : ℕ) → as_result (read_refusal v k file room) ≡ Ok tt
    → {count : ℕ} → count ≡ count_in file → k * count ≤ room
fill_may v k file room gave e = rw e (read_known v k file room (ap number_of (passes _ gave))).fits

-- what is answered and left

module _ (v k w h : ℕ) (list : List Float) (old : List ℕ) where
  pub write_refused : {e : Answer} → as_result (write_refusal k list (length old)) ≡ Err e → {o : Outcome} → o ≡ refused e
      → (o ≡ write_outcome k w h list (length old)) × (old ≡ written v k w h list old)
  unfolding write_outcome written
  write_refused gave q = (refused-told _ gave q (corners_in k list) w h, refused_leaves _ gave (over (record_of v k w h list) old) old)

  -- the head is put, and then the numbers
  pub write_done : as_result (write_refusal k list (length old)) ≡ Ok tt → {mid out : List ℕ} {none : Verdicts}
      → mid ≡ over (head_of v k w h (corners_in k list)) old → out ≡ sets mid head (bytes_of (whole_of k list)) → none ≡ no_verdicts
      → (record { answer = Complete; count = corners_in k list; w = w; h = h; verdicts = none } ≡ write_outcome k w h list (length old))
      × (out ≡ written v k w h list old)
  unfolding write_outcome written
  write_done gave e q d = (
    taken_told _ gave (corners_in k list) w h d,
    taken_leaves _ gave (over (record_of v k w h list) old) old (record_put v k w h list old e q),
  )

module _ (v k : ℕ) (file : List ℕ) (old : List Float) where
  pub read_refused : {e : Answer} → as_result (read_refusal v k file (length old)) ≡ Err e → {o : Outcome} → o ≡ refused e
      → (o ≡ read_outcome v k file (length old)) × (old ≡ read_back v k file old)
  unfolding read_outcome read_back
  read_refused gave q = (
    refused-told _ gave q (count_in file) (half_at file 5) (half_at file 7),
    refused_leaves _ gave (filled (k * count_in file) (number_in file) old) old,
  )

  -- the numbers are stored, and the sides are read
  pub read_done : as_result (read_refusal v k file (length old)) ≡ Ok tt → {count w h : ℕ} {out : List Float} {none : Verdicts}
      → count ≡ count_in file → w ≡ half_at file 5 → h ≡ half_at file 7
      → out ≡ filled (k * count) (number_in file) old → none ≡ no_verdicts
      → (record { answer = Complete; count = count; w = w; h = h; verdicts = none } ≡ read_outcome v k file (length old))
      × (out ≡ read_back v k file old)
  unfolding read_outcome read_back
  read_done gave c e f q d = rw (← c, ← e, ← f) (taken_told _ gave _ _ _ d, taken_leaves _ gave (filled (k * _) (number_in file) old) old q)
