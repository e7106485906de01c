-- Document 02, ticket 1: the corner record. What is written for a list and the working image's sides, which lists and
-- which records are taken, and which answer all others get. `v` is the version and `k` the numbers a corner has.
use Rattle.std.specs.Prelude.{Bool, not, ◌||◌, cond, List, ◌∷◌, ◌++◌, ℕ, ◌+◌, ◌-◌, ◌*◌, ◌/◌, ltb, eqb, Float, length, take}
use Rattle.std.specs.Float.{binary32}
use Rattle.std.specs.Float.Ieee.{to_bits, of_bits}
use Rattle.std.specs.Float.Ieee.Scale.{finite}
use Rattle.grid.specs.Each.{each, any}
use Rattle.grid.specs.Fill.{filled}
use Rattle.grid.specs.Over.{over}
use Rattle.grid.specs.Rect.{range}
use Rattle.big_endian.specs.BigEndian.{byte_at, half_at, word_at, half_bytes, word_bytes}
use Rattle.params.specs.declared.answers.Answer.{Answer}
use Rattle.params.specs.declared.answers.Answer.TheVariants.{Complete, RecordLength, RecordVersion, CornerCount, NotFinite, OutputTooShort}
use Rattle.params.specs.declared.answers.Outcome.{Outcome}
use Rattle.params.specs.Answers.{number_of, no_verdicts, refused}

-- "version byte 1", and "x, y and strength .. for each corner"
abbrev pub version : ℕ
version = 1

abbrev pub stride : ℕ
stride = 3

-- "over 8,388,608 corners"
abbrev pub most : ℕ
most = 8388608

-- "a number not finite"
abbrev pub stray : Float → Bool
stray x = not (finite x)

-- "With every refusal, later ones too, W and H are reported as 0" (document 01), and the count is 0; otherwise that many
-- corners and those sides. A record has no candidates: no verdicts either way
abbrev pub outcome_with : Answer → ℕ → ℕ → ℕ → Outcome
outcome_with a n w h = cond (eqb (number_of a) 0) (record { answer = a; count = n; w = w; h = h; verdicts = no_verdicts }) (refused a)

-- "output untouched": what a call leaves of a buffer
abbrev pub unless_refused : {A : Type 0} → Answer → A → A → A
unless_refused a new old = cond (eqb (number_of a) 0) new old

-- ---- the record

-- "The writer counts the whole corners of its list itself"
abbrev pub corners_in : ℕ → List Float → ℕ
corners_in k list = length list / k

-- "cut to whole corners"
abbrev pub whole_of : ℕ → List Float → List Float
whole_of k list = take (k * corners_in k list) list

-- the bytes before the corners
abbrev pub head : ℕ
head = 13

-- "the number of bytes that follow" the first five, where there are n corners
abbrev pub following : ℕ → ℕ → ℕ
following k n = 8 + 4 * (k * n)

-- "big-endian: version byte 1, four bytes with the number of bytes that follow them, working width and height (2 each),
-- count (4)"
abbrev pub head_of : ℕ → ℕ → ℕ → ℕ → ℕ → List ℕ
head_of v k w h n = v ∷ (word_bytes (following k n) ++ (half_bytes w ++ (half_bytes h ++ word_bytes n)))

-- "then x, y and strength bits for each corner"
unfoldable pub bytes_of : List Float → List ℕ
bytes_of numbers = each (λ x. word_bytes (to_bits binary32 x)) numbers

unfoldable pub record_of : ℕ → ℕ → ℕ → ℕ → List Float → List ℕ
record_of v k w h list = head_of v k w h (corners_in k list) ++ bytes_of (whole_of k list)

-- ---- the writer

-- "18 .. over 8,388,608 corners, 19 a number not finite, 20 output too short; .. lowest first": room is the output's length
unfoldable pub write_refusal : ℕ → List Float → ℕ → Answer
write_refusal k list room =
    cond (ltb most (corners_in k list)) CornerCount
    (cond (any stray (whole_of k list)) NotFinite
    (cond (ltb room (head + 4 * (k * corners_in k list))) OutputTooShort
    Complete))

unfoldable pub write_outcome : ℕ → ℕ → ℕ → List Float → ℕ → Outcome
write_outcome k w h list room = outcome_with (write_refusal k list room) (corners_in k list) w h

-- the record at the output's beginning; bytes beyond it stay
unfoldable pub written : ℕ → ℕ → ℕ → ℕ → List Float → List ℕ → List ℕ
written v k w h list old = unless_refused (write_refusal k list (length old)) (over (record_of v k w h list) old) old

-- ---- the reader

-- what stands in a record's fields
abbrev pub stated_in : List ℕ → ℕ
stated_in file = word_at file 1

abbrev pub count_in : List ℕ → ℕ
count_in file = word_at file 9

-- and number i of its list
unfoldable pub number_in : List ℕ → ℕ → Float
number_in file i = of_bits binary32 (word_at file (head + 4 * i))

-- "16 under 13 bytes or stated length wrong, 17 version not 1, 18 count and length disagree or over 8,388,608 corners, 19 a
-- number not finite, 20 output too short; .. lowest first": room is the list's length
unfoldable pub read_refusal : ℕ → ℕ → List ℕ → ℕ → Answer
read_refusal v k file room =
    cond (ltb (length file) head || not (eqb (stated_in file) (length file - 5))) RecordLength
    (cond (not (eqb (byte_at file 0) v)) RecordVersion
    (cond (not (eqb (stated_in file) (following k (count_in file))) || ltb most (count_in file)) CornerCount
    (cond (any (λ i. stray (number_in file i)) (range 0 (k * count_in file))) NotFinite
    (cond (ltb room (k * count_in file)) OutputTooShort
    Complete))))

unfoldable pub read_outcome : ℕ → ℕ → List ℕ → ℕ → Outcome
read_outcome v k file room = outcome_with (read_refusal v k file room) (count_in file) (half_at file 5) (half_at file 7)

-- the numbers at the list's beginning; numbers beyond them stay
unfoldable pub read_back : ℕ → ℕ → List ℕ → List Float → List Float
read_back v k file old = unless_refused (read_refusal v k file (length old)) (filled (k * count_in file) (number_in file) old) old
