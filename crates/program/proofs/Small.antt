-- A frame that is too small to judge, as a file: document 01's frame cut to 6 by 6 prints `refused 15`. Assumes nothing.
use mathlib.Core.Path.{◌≡◌, refl}
use mathlib.Core.List.{List, [], ◌∷◌, ◌++◌}
use Prim.Native.Nat.{ℕ}
use lib.Ieee.{is_nan, of_bits, lt}
use Rattle.params.specs.Refusals.{size_refusal, map_refusal, list_refusal, room_refusal, refusal_of}
use Rattle.frame.specs.FrameFile.{header_of, header_read, read_of}
use Rattle.lines.specs.Printed.{ascii, digits_in, digits, numeral, row, refused_line, printed}
use Rattle.radon.specs.Finder.{outcome_of, buffers_of}
use Rattle.frame_runner.specs.FileAnswer.{file_outcome, file_buffers}
use Rattle.program.specs.Program.{lines_over, lines_of}

-- version, stated length, sides, ray, upsampling, blur, mode, suppression, least count, threshold
abbrev fields : List ℕ
fields = 1 ∷ 0 ∷ 0 ∷ 0 ∷ 51 ∷ 0 ∷ 6 ∷ 0 ∷ 6 ∷ 1 ∷ 1 ∷ 0 ∷ 0 ∷ 1 ∷ 0 ∷ 2 ∷ 0x3e ∷ 0x8f ∷ 0x5c ∷ 0x29 ∷ []

abbrev above : List ℕ
above = 200 ∷ 200 ∷ 200 ∷ 100 ∷ 0 ∷ 0 ∷ []

abbrev middle : List ℕ
middle = 100 ∷ 100 ∷ 100 ∷ 100 ∷ 100 ∷ 100 ∷ []

abbrev below : List ℕ
below = 0 ∷ 0 ∷ 0 ∷ 100 ∷ 200 ∷ 200 ∷ []

abbrev pub cut : List ℕ
cut = fields ++ (above ++ (above ++ (above ++ (middle ++ (below ++ below)))))

pub cut_prints : lines_of cut ≡ ascii "refused 15\n" ∷ []
unfolding lines_of lines_over file_outcome file_buffers read_of header_read header_of outcome_of buffers_of
    refusal_of size_refusal map_refusal list_refusal room_refusal is_nan of_bits lt
    printed refused_line row numeral digits digits_in
cut_prints = refl
