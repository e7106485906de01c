-- Kept lists: what ticket 1 of document 02 asks of corner records, as theorems. They speak of what a call answers and leaves:
-- by their contracts `write_record` answers `write_outcome stride w h list (length out)` and leaves
-- `written version stride w h list out`; `read_record` answers `read_outcome version stride file (length old)` and leaves
-- `read_back version stride file old` (specs/Record). The version v and the numbers that a corner has, k, are any here.
--
--   writes_record                     a list that is written: its record stands at the output's beginning
--   refused_write, refused_read       "output untouched" with every refusal; count, W and H are 0
--   beyond_written, beyond_read       bytes beyond the record and numbers beyond the list stay
--   same-written, same_read           what the output and the list held before changes no answer and nothing that is written
--   comes_back                        "A list of finite numbers, cut to whole corners, comes back bit for bit"
--   bits_come_back, zeros_differ,     "Each f32 keeps its sign of zero"
--   zero_bits
--   written_bytes                     what is written is bytes: a file can hold it
--   taken_is_record, written_again,   "a record that is taken is the only one for its sizes and list": it is the record of these,
--   only_record                       writing them gives it again, and no other is taken with them
--   never_not_finite, taken_finite    a list of finite numbers is never answered 19, and it is written where there is room
--   read_finite                       the numbers of a record that is taken are finite
--
-- `Finite n list`: its first n numbers are finite. `F32s list`: all its numbers are f32, as in every list that is lent.
-- Assumes nothing.
use mathlib.Core.Path.{◌≡◌, refl, sym, ap, ◌∙◌}
use mathlib.Core.Bool.{Bool, true, false, cond, false≢true}
use mathlib.Core.List.{List}
use Prim.Native.Nat.{ℕ, ◌+◌, ◌*◌, ◌≤◌, ◌<◌}
use native.Mathlib.Nat.{lt_of_lt_of_le, mul-le-mul}
use native.Mathlib.Omega.{arith}
use borrow.Author.Tests.{ne_eqb}
use lib.Dec.{eqb}
use lib.IntN.{ℤ, pos}
use lib.Ieee.{Float, nan, fin, binary32, to_bits}
use lib.ListN.{length, get_or, take, drop}
use lib.Seq.{get_or-take}
use Rattle.grid.specs.Fill.{filled}
use Rattle.grid.specs.Over.{over}
use Rattle.grid.proofs.Fill.{length-filled, getD_filled, drop-filled, written_same}
use Rattle.grid.proofs.Over.{length_over, take-over, drop-over}
use Rattle.big_endian.specs.BigEndian.{half_at}
use Rattle.big_endian.proofs.Numbers.{Bytes}
use Rattle.params.specs.declared.answers.Answer.{Answer}
use Rattle.params.specs.declared.answers.Answer.TheVariants.{Complete, NotFinite}
use Rattle.params.specs.declared.answers.Outcome.{Outcome}
use Rattle.params.specs.Answers.{number_of, no_verdicts, refused}
use Rattle.record.specs.Record.{most, corners_in, whole_of, head, record_of, write_refusal, write_outcome, written}
use Rattle.record.specs.Record.{count_in, number_in, read_refusal, read_outcome, read_back}
use Rattle.record.proofs.Chains.{Finite, Takes, finite_passes, Sound, complete, answer_is, refused-is}
use Rattle.record.proofs.Chains.{written_takes, wrote_is, written_is, taken_sound, read_is, back_is}
use Rattle.record.proofs.RoundTrip.{F32s, length_record, width_of, height_of, count_of, record_sound, numbers_of}
use Rattle.record.proofs.RoundTrip.{record_bytes, corners_of, numbers, numbers-length, record_back, numbers_taken}

-- what the writer answers; a list is written where that is 0
abbrev pub wrote : ℕ → ℕ → ℕ → List Float → List ℕ → Outcome
wrote k w h list out = write_outcome k w h list (length out)

abbrev pub IsWritten : ℕ → ℕ → ℕ → List Float → List ℕ → Type 0
IsWritten k w h list out = (wrote k w h list out).answer ≡ Complete

-- the bytes of a record of n corners, and the record that a call leaves
abbrev pub size_of : ℕ → ℕ → ℕ
size_of k n = head + 4 * (k * n)

abbrev pub record_left : ℕ → ℕ → ℕ → ℕ → List Float → List ℕ → List ℕ
record_left v k w h list out = take (size_of k (wrote k w h list out).count) (written v k w h list out)

-- what the reader answers; a record is taken where that is 0
abbrev pub read : ℕ → ℕ → List ℕ → List Float → Outcome
read v k file old = read_outcome v k file (length old)

abbrev pub IsTaken : ℕ → ℕ → List ℕ → List Float → Type 0
IsTaken v k file old = (read v k file old).answer ≡ Complete

-- the list that a call leaves
abbrev pub list_left : ℕ → ℕ → List ℕ → List Float → List Float
list_left v k file old = take (k * (read v k file old).count) (read_back v k file old)

-- ---- a list that is written: its record stands at the output's beginning

module _ (v k w h : ℕ) (list : List Float) (out : List ℕ) where
  record_at_front : Takes k list (length out) → record_left v k w h list out ≡ record_of v k w h list
  record_at_front t =
      rw (wrote_is v k w h list out t, written_is v k w h list out t, ← length_record v k w h list)
      (take-over (record_of v k w h list) out (rw (length_record v k w h list) t.fits))

  pub writes_record : IsWritten k w h list out → record_left v k w h list out ≡ record_of v k w h list
  writes_record z = record_at_front (written_takes v k w h list out z)

-- ---- "output untouched": the outcome is that of a refusal, and nothing is written

module _ (v k w h : ℕ) (list : List Float) (out : List ℕ) where
  pub refused_write : (number_of (wrote k w h list out).answer ≡ 0 → ⊥)
      → (wrote k w h list out ≡ refused (wrote k w h list out).answer) × (written v k w h list out ≡ out)
  unfolding write_outcome written
  refused_write z =
      let a = write_refusal k list (length out) in
      let e : (wrote k w h list out).answer ≡ a = answer_is a (corners_in k list) w h in
      let y : number_of a ≡ 0 → ⊥ = λ f. z (ap number_of e ∙ f) in
      (refused-is a (corners_in k list) w h y ∙ ap refused (sym e), rw (ne_eqb (number_of a) 0 y))

module _ (v k : ℕ) (file : List ℕ) (old : List Float) where
  pub refused_read : (number_of (read v k file old).answer ≡ 0 → ⊥)
      → (read v k file old ≡ refused (read v k file old).answer) × (read_back v k file old ≡ old)
  unfolding read_outcome read_back
  refused_read z =
      let a = read_refusal v k file (length old) in
      let e : (read v k file old).answer ≡ a = answer_is a (count_in file) (half_at file 5) (half_at file 7) in
      let y : number_of a ≡ 0 → ⊥ = λ f. z (ap number_of e ∙ f) in
      (refused-is a (count_in file) (half_at file 5) (half_at file 7) y ∙ ap refused (sym e), rw (ne_eqb (number_of a) 0 y))

-- ---- what stands beyond the record, and beyond the list, stays; each is as long as it was

abbrev pub Beyond : {A : Type 0} → ℕ → List A → List A → Type 0
Beyond n new old = (drop n new ≡ drop n old) × (length new ≡ length old)

-- what is left and answered, by the test whether the answer is 0
beyond_over : (t : Bool) (a : Answer) (k w h n : ℕ) (bytes out : List ℕ) → length bytes ≡ size_of k n
    → Beyond (size_of k (cond t (record { answer = a; count = n; w = w; h = h; verdicts = no_verdicts }) (refused a)).count) (cond t (over bytes out) out) out
beyond_over true a k w h n bytes out e = (rw (← e) (drop-over bytes out), length_over bytes out)
beyond_over false a k w h n bytes out e = (refl, refl)

beyond_filled : (t : Bool) (a : Answer) (k w h n : ℕ) (f : ℕ → Float) (old : List Float)
    → Beyond (k * (cond t (record { answer = a; count = n; w = w; h = h; verdicts = no_verdicts }) (refused a)).count) (cond t (filled (k * n) f old) old) old
beyond_filled true a k w h n f old = (drop-filled (k * n) f old, length-filled (k * n) f old)
beyond_filled false a k w h n f old = (refl, refl)

pub beyond_written : (v k w h : ℕ) (list : List Float) (out : List ℕ)
    → Beyond (size_of k (wrote k w h list out).count) (written v k w h list out) out
unfolding write_outcome written
beyond_written v k w h list out =
    beyond_over (eqb (number_of (write_refusal k list (length out))) 0) (write_refusal k list (length out)) k w h (corners_in k list)
    (record_of v k w h list) out (length_record v k w h list)

pub beyond_read : (v k : ℕ) (file : List ℕ) (old : List Float) → Beyond (k * (read v k file old).count) (read_back v k file old) old
unfolding read_outcome read_back
beyond_read v k file old =
    beyond_filled (eqb (number_of (read_refusal v k file (length old))) 0) (read_refusal v k file (length old)) k (half_at file 5) (half_at file 7)
    (count_in file) (number_in file) old

-- ---- "What a buffer held before the call changes no answer and no written number" (document 01)

module _ (v k w h : ℕ) (list : List Float) (out new : List ℕ) (long : length out ≡ length new) where
  pub same-written : (wrote k w h list out ≡ wrote k w h list new)
      × (IsWritten k w h list out → record_left v k w h list out ≡ record_left v k w h list new)
  same-written = (
    ap (write_outcome k w h list) long,
    λ z.
        let t = written_takes v k w h list out z in
        record_at_front v k w h list out t ∙ sym (record_at_front v k w h list new (rw long at t)),
  )

module _ (v k : ℕ) (file : List ℕ) (old new : List Float) (long : length old ≡ length new) where
  pub same_read : (read v k file old ≡ read v k file new)
      × (IsTaken v k file old → list_left v k file old ≡ list_left v k file new)
  same_read = (
    ap (read_outcome v k file) long,
    λ z.
        let s = taken_sound v k file old z in
        let t : Sound v k file (length new) = rw long at s in
        rw (read_is v k file old s, read_is v k file new t, back_is v k file old s, back_is v k file new t)
        (written_same (k * count_in file) (number_in file) old new s.fits t.fits),
  )

-- ---- "A list of finite numbers, cut to whole corners, comes back bit for bit"

module _ (v k w h : ℕ) (list : List Float) (out : List ℕ) (old : List Float) (f32s : F32s list) (z : IsWritten k w h list out)
    (room : k * corners_in k list ≤ length old) where
  record_taken : Sound v k (record_of v k w h list) (length old)
  record_taken = record_sound v k w h list (length out) (length old) f32s (written_takes v k w h list out z) room

  -- its sides, its count and its whole corners
  pub comes_back : let file = record_left v k w h list out in
      (read v k file old ≡ complete (corners_in k list) w h) × (list_left v k file old ≡ whole_of k list)
  comes_back =
      let file = record_of v k w h list in
      let o : read v k file old ≡ complete (corners_in k list) w h =
      read_is v k file old record_taken ∙ λ i. complete (count_of v k w h list i) (width_of v k w h list i) (height_of v k w h list i) in
      rw (writes_record v k w h list out z)
      (o, rw (o, back_is v k file old record_taken, count_of v k w h list) (numbers_of v k w h list f32s old room))

  -- and so every bit of them
  pub bits_come_back : (i : ℕ) → i < k * corners_in k list
      → to_bits binary32 (get_or (read_back v k (record_left v k w h list out) old) i nan) ≡ to_bits binary32 (get_or list i nan)
  bits_come_back i b =
      let file = record_left v k w h list out in
      let c : i < k * (read v k file old).count = rw comes_back.0 b in
      ap (to_bits binary32)
      (sym (get_or-take (k * (read v k file old).count) (read_back v k file old) i nan c)
      ∙ ap (λ (l : List Float). get_or l i nan) comes_back.1
      ∙ get_or-take (k * corners_in k list) list i nan b)

-- "Each f32 keeps its sign of zero": the two zeros are two values, with bits of their own
pub zeros_differ : (e : ℤ) → fin false 0 e ≡ fin true 0 e → ⊥
zeros_differ e z = false≢true (cc)

pub zero_bits : (to_bits binary32 (fin false 0 (pos 0)) ≡ 0) × (to_bits binary32 (fin true 0 (pos 0)) ≡ 2147483648)
unfolding to_bits
zero_bits = (refl, refl)

-- what is written is bytes; two bytes hold a side, and four the length
pub written_bytes : (v k w h : ℕ) (list : List Float) (out : List ℕ) → v < 256 → k < 128 → w < 65536 → h < 65536 → F32s list
    → IsWritten k w h list out → Bytes (record_left v k w h list out)
written_bytes v k w h list out a b c d f z =
    let t = written_takes v k w h list out z in
    let s : k ≤ 127 = omega arith in
    let m : k * corners_in k list ≤ 127 * most = mul-le-mul s t.few in
    rw (record_at_front v k w h list out t) (record_bytes v k w h list a c d (omega (arith, t.few)) (omega arith) f)

-- ---- "a record that is taken is the only one for its sizes and list"

module _ (v k : ℕ) (file : List ℕ) (old : List Float) (some : 0 < k) (bytes : Bytes file) (z : IsTaken v k file old) where
  fine : Sound v k file (length old)
  fine = taken_sound v k file old z

  -- it is the record of the sides that are answered and of the list that is left
  pub taken_is_record : let o = read v k file old in file ≡ record_of v k o.w o.h (list_left v k file old)
  taken_is_record = rw (read_is v k file old fine, back_is v k file old fine) (record_back v k file old fine some bytes)

  -- to write that list with those sides, into any output with room, answers the same and leaves the record
  pub written_again : (out : List ℕ) → length file ≤ length out → let o = read v k file old in let list = list_left v k file old in
      (wrote k o.w o.h list out ≡ o) × (record_left v k o.w o.h list out ≡ file)
  written_again out room =
      let w = half_at file 5 in
      let h = half_at file 7 in
      let list = numbers v k file old fine in
      let t = numbers_taken v k file old fine some (length out) room in
      rw (read_is v k file old fine, back_is v k file old fine) (
        wrote_is v k w h list out t ∙ ap (λ (n : ℕ). complete n w h) (corners_of k (count_in file) list some (numbers-length v k file old fine)),
        record_at_front v k w h list out t ∙ sym (record_back v k file old fine some bytes),
      )

-- so no other record is taken with that answer and that list
pub only_record : (v k : ℕ) (one other : List ℕ) (old new : List Float) → 0 < k → Bytes one → Bytes other → IsTaken v k one old
    → read v k one old ≡ read v k other new → list_left v k one old ≡ list_left v k other new → one ≡ other
only_record v k one other old new some b c z o l =
    let y : IsTaken v k other new = sym (ap (λ (r : Outcome). r.answer) o) ∙ z in
    taken_is_record v k one old some b z
    ∙ (λ i. record_of v k (o i).w (o i).h (l i))
    ∙ sym (taken_is_record v k other new some c y)

-- ---- "a number not finite": none of the list's whole corners has one

module _ (k w h : ℕ) (list : List Float) (out : List ℕ) (numbers : Finite (k * corners_in k list) list) where
  pub never_not_finite : (wrote k w h list out).answer ≡ NotFinite → ⊥
  unfolding write_outcome
  never_not_finite e = finite_passes k list (length out) numbers (sym (answer_is _ (corners_in k list) w h) ∙ e)

  pub taken_finite : corners_in k list ≤ most → size_of k (corners_in k list) ≤ length out → IsWritten k w h list out
  taken_finite few room =
      ap (λ (o : Outcome). o.answer) (wrote_is 0 k w h list out (record { few = few; numbers = numbers; fits = room }))

pub read_finite : (v k : ℕ) (file : List ℕ) (old : List Float) → IsTaken v k file old
    → Finite (k * (read v k file old).count) (read_back v k file old)
read_finite v k file old z =
    let s = taken_sound v k file old z in
    let n = k * count_in file in
    rw (read_is v k file old s, back_is v k file old s)
    (λ i l. rw (getD_filled n (number_in file) old i nan l (lt_of_lt_of_le l s.fits)) (s.numbers i l))
