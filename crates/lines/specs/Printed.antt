-- Document 01, "Frame file and printed list": what is printed for an outcome and a corner list, line by line, each line
-- as its ASCII bytes.
use Rattle.std.specs.Prelude.{Bool, true, false, ◌&&◌, cond, List, [], ◌∷◌, ◌++◌, map, ℕ, zero, suc, ◌+◌, ◌-◌, ◌/◌, ◌%◌, min, ltb, leb, eqb, Float, length, get_or, take, drop}
use Prim.Native.Char.{code}
use Prim.Native.String.{String, [] as []ˢ, ◌∷◌ as ◌∷ˢ◌}
use Rattle.std.specs.Float.{binary32}
use Rattle.std.specs.Float.Ieee.{to_bits}
use Rattle.params.specs.declared.answers.Outcome.{Outcome}
use Rattle.params.specs.Answers.{number_of}

-- a text as its bytes: every character here is ASCII, whose code is its byte
abbrev pub ascii : String → List ℕ
ascii []ˢ = []
ascii (c ∷ˢ s) = code c ∷ ascii s

-- ---- numerals

-- the digits of n in a base, the highest first: `least` of them at least, and no more than n needs. Where n is one
-- digit, that; otherwise the digits of n / base, and then n % base. There are no more than `depth`. (By `elim`, not by
-- `cond`, so that the numerals compute: only the branch that is taken is looked at.)
unfoldable pub digits_in : ℕ → ℕ → ℕ → ℕ → List ℕ
digits_in zero base least n = []
digits_in (suc depth) base least n = elim (ltb n base && leb least 1) [
  | true ↦ n ∷ []
  | false ↦ digits_in depth base (least - 1) (n / base) ++ (n % base ∷ [])
]

unfoldable pub digits : ℕ → ℕ → ℕ → List ℕ
digits base least n = digits_in (suc (n + least)) base least n

-- "upper-case"
abbrev pub digit_of : ℕ → ℕ
digit_of d = get_or (ascii "0123456789ABCDEF") d 0

unfoldable pub numeral : ℕ → ℕ → ℕ → List ℕ
numeral base least n = map digit_of (digits base least n)

-- "in decimal"
abbrev pub decimal : ℕ → List ℕ
decimal n = numeral 10 1 n

-- "bits in eight upper-case hex digits"; a NaN's are 7FC00000
abbrev pub word : Float → List ℕ
word x = numeral 16 8 (to_bits binary32 x)

-- ---- lines

-- "separated by single spaces; every line ends in a line feed"
unfoldable pub row : List (List ℕ) → List ℕ
row [] = ascii "\n"
row (f ∷ []) = f ++ ascii "\n"
row (f ∷ g ∷ fs) = f ++ (ascii " " ++ row (g ∷ fs))

-- "A refusal prints `refused N`"
unfoldable pub refused_line : ℕ → List ℕ
refused_line n = row (ascii "refused" ∷ decimal n ∷ [])

-- "the first line is W, H and the count in decimal"
unfoldable pub first_line : ℕ → ℕ → ℕ → List ℕ
first_line w h count = row (decimal w ∷ decimal h ∷ decimal count ∷ [])

-- "each stored corner as x, y and strength bits": a corner is `stride` numbers
unfoldable pub corner_line : List Float → List ℕ
corner_line corner = row (map word corner)

unfoldable pub corner_lines : ℕ → ℕ → List Float → List (List ℕ)
corner_lines stride zero list = []
corner_lines stride (suc n) list = corner_line (take stride list) ∷ corner_lines stride n (drop stride list)

-- "the list gets as many whole corners as fit"; "its room is its length divided by three, rounded down"
abbrev pub stored : ℕ → ℕ → List Float → ℕ
stored stride count list = min count (length list / stride)

-- "With answer 1 a last line `list full` follows"
unfoldable pub full_line : List ℕ
full_line = row (ascii "list full" ∷ [])

abbrev pub last_lines : Bool → List (List ℕ)
last_lines full = cond full (full_line ∷ []) []

-- answers above 1 are refusals
unfoldable pub printed : ℕ → Outcome → List Float → List (List ℕ)
printed stride o list =
    cond (ltb 1 (number_of o.answer))
    (refused_line (number_of o.answer) ∷ [])
    (first_line o.w o.h o.count
    ∷ (corner_lines stride (stored stride o.count list) list ++ last_lines (eqb (number_of o.answer) 1)))
