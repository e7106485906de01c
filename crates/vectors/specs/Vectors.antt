-- What stands in a list of vectors: big-endian numbers after a line of text (tools/judge/README.md). What stands nowhere has a number that none has.
use Rattle.std.specs.Prelude.{◌≡◌, cond, ◌&&◌, List, [], ◌∷◌, ℕ, suc, ◌+◌, ◌-◌, min, leb, ltb, eqb, Float, length, get_or, take, drop, replicate}
use Prim.Native.Char.{code}
use Rattle.std.specs.Borrow.{Bor}
use Rattle.std.specs.Float.{nan, binary32}
use Rattle.std.specs.Float.Ieee.{of_bits, to_bits}
use Rattle.big_endian.specs.BigEndian as big

unfoldable pub zeros : ℕ → List ℕ
zeros n = replicate n 0

-- "no byte" is 256, "no word" 2^32
abbrev pub byte_at : List ℕ → ℕ → ℕ
byte_at s at = get_or s at 256

abbrev pub no_word : ℕ
no_word = 4294967296

-- four bytes, the highest first
unfoldable pub word_at : List ℕ → ℕ → ℕ
word_at s at = cond (leb (at + 4) (length s)) (big.word_at s at) no_word

-- the bytes from a place to another; none where that is no part, and then they stand at the end
unfoldable pub part_of : List ℕ → ℕ → ℕ → List ℕ
part_of s from to = cond (leb to (length s) && leb from to) (take (to - from) (drop from s)) []

unfoldable pub part_start : List ℕ → ℕ → ℕ → ℕ
part_start s from to = cond (leb to (length s) && leb from to) from (length s)

-- those bytes, and no copy of them: they lie in the list's own memory
pub record Part (s : Bor (List ℕ)) (from to : ℕ) (r : Bor (List ℕ)) : Type 0 where
  pub values : r.now ≡ part_of s.now from to
  pub itself : r.ref_ptr ≡ (s.ref_ptr.0, part_start s.now from to + s.ref_ptr.1)

-- the place behind a part that stands after its length, a number of four bytes
unfoldable pub behind_of : List ℕ → ℕ → ℕ
behind_of s at = min (min (at + 4) (length s) + word_at s at) (length s)

-- the place after the first line feed, or the end
unfoldable pub after_line : List ℕ → ℕ
after_line [] = 0
after_line (b ∷ s) = cond (eqb b (code "\n")) 1 (suc (after_line s))

-- the float of a pattern, and a NaN of no word
abbrev pub float_of : ℕ → Float
float_of bits = cond (ltb bits no_word) (of_bits binary32 bits) nan

-- an entry's bits, a NaN's being 7FC00000, and no word where there is no entry
abbrev pub float_at : List Float → ℕ → ℕ
float_at t i = cond (ltb i (length t)) (to_bits binary32 (get_or t i nan)) no_word

abbrev pub entry_at : List ℕ → ℕ → ℕ
entry_at t i = get_or t i no_word
