-- A printed line as the library hands it out: an array of 64 bytes that begins with the line, and the line's length;
-- and how it is put together.
use Rattle.std.specs.Prelude.{◌≡◌, List, ◌++◌, ℕ, ◌+◌, ◌-◌, ◌^◌, ◌≤◌, ◌<◌, length, replicate}
use Rattle.std.proofs.lemmas.List.Edits.{sets}
use Rattle.lines.specs.declared.Line.{Line}

-- the line, and zeros beyond it
abbrev pub line_of : List ℕ → Line
line_of text = record { bytes = text ++ replicate (64 - length text) 0; len = length text }

-- the line, and, for whoever lends that part of the array, that it lies within it
pub record Shows (text : List ℕ) (line : Line) : Type 0 where
  pub is : line ≡ line_of text
  pub fits : line.len ≤ length line.bytes

-- a numeral of at most 20 digits, as many as a machine number has in decimal: three of them, each with a byte behind it,
-- fit a line
pub record Short (base least n : ℕ) : Type 0 where
  pub two : 2 ≤ base
  pub most : base ≤ 16
  pub few : least ≤ 20
  pub small : n < base ^ 20

-- the line before anything is appended
abbrev pub blank : Line
blank = record { bytes = replicate 64 0; len = 0 }

-- l with text behind it
unfoldable pub appended : Line → List ℕ → Line
appended l text = record { bytes = sets l.bytes l.len text; len = l.len + length text }

-- r is l with text behind it, and that is no more than k bytes
pub record Grown (k : ℕ) (l : Line) (text : List ℕ) (r : Line) : Type 0 where
  pub is : r ≡ appended l text
  pub most : length text ≤ k
