-- Printed lines, computed from the definitions: document 01's frame, a refusal, a full list, and floats that are easy
-- to get wrong. Assumes nothing.
use mathlib.Core.Path.{◌≡◌, refl}
use mathlib.Core.List.{List, [], ◌∷◌}
use Prim.Native.Nat.{ℕ}
use lib.Ieee.{Float, nan, binary32, of_bits, to_bits, of_fields, odd, size}
use Rattle.params.specs.declared.answers.Answer.TheVariants.{Complete, ListFull, StatedLength}
use Rattle.params.specs.declared.answers.Verdicts.{Verdicts}
use Rattle.params.specs.declared.answers.Outcome.{Outcome}
use Rattle.params.specs.Answers.{refused}
use Rattle.lines.specs.Printed.{ascii, digits_in, digits, numeral, decimal, word, row, refused_line, first_line}
use Rattle.lines.specs.Printed.{corner_line, corner_lines, full_line, printed}

-- the lines do not go by the six counts
pub counts_not_printed : (k : ℕ) (o : Outcome) (v : Verdicts) (l : List Float)
    → printed k (record { answer = o.answer; count = o.count; w = o.w; h = o.h; verdicts = v }) l ≡ printed k o l
unfolding printed
counts_not_printed k o v l = refl

abbrev corner : List Float
corner = of_bits binary32 0x4040_0000 ∷ of_bits binary32 0x4040_0000 ∷ of_bits binary32 0x481c_4000 ∷ []

pub frame_prints : (v : Verdicts) → printed 3 (record { answer = Complete; count = 1; w = 7; h = 7; verdicts = v }) corner
    ≡ ascii "7 7 1\n" ∷ ascii "40400000 40400000 481C4000\n" ∷ []
unfolding printed first_line corner_lines corner_line row numeral digits digits_in to_bits of_bits of_fields odd size
frame_prints v = refl

-- one corner more than there is room for
pub full_prints : (v : Verdicts) → printed 3 (record { answer = ListFull; count = 2; w = 7; h = 7; verdicts = v }) corner
    ≡ ascii "7 7 2\n" ∷ ascii "40400000 40400000 481C4000\n" ∷ ascii "list full\n" ∷ []
unfolding printed first_line corner_lines corner_line full_line row numeral digits digits_in to_bits of_bits of_fields odd size
full_prints v = refl

pub refusal_prints : printed 3 (refused StatedLength) [] ≡ ascii "refused 13\n" ∷ []
unfolding printed refused_line row numeral digits digits_in
refusal_prints = refl

pub zero_prints : decimal 0 ≡ ascii "0"
unfolding numeral digits digits_in
zero_prints = refl

pub millions_print : decimal 8388608 ≡ ascii "8388608"
unfolding numeral digits digits_in
millions_print = refl

-- the smallest positive float: no zero is left out
pub small_prints : word (of_bits binary32 1) ≡ ascii "00000001"
unfolding numeral digits digits_in to_bits of_bits of_fields odd size
small_prints = refl

pub minus_zero_prints : word (of_bits binary32 0x8000_0000) ≡ ascii "80000000"
unfolding numeral digits digits_in to_bits of_bits of_fields odd size
minus_zero_prints = refl

pub nan_prints : word nan ≡ ascii "7FC00000"
unfolding numeral digits digits_in to_bits
nan_prints = refl
