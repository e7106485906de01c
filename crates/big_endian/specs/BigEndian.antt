-- "Big-endian": the numbers that stand in bytes, and the bytes of a number. Frame files and corner records have them.
use Rattle.std.specs.Prelude.{cond, List, [], ◌∷◌, ℕ, ◌+◌, ◌*◌, ◌/◌, ◌%◌, leb, length, get_or}
use Rattle.std.proofs.lemmas.List.Edits.{sets}

-- ---- what stands at a place; past the end it is 0

abbrev pub byte_at : List ℕ → ℕ → ℕ
byte_at s at = get_or s at 0

abbrev pub half_at : List ℕ → ℕ → ℕ
half_at s at = byte_at s at * 256 + byte_at s (at + 1)

abbrev pub word_at : List ℕ → ℕ → ℕ
word_at s at = half_at s at * 65536 + half_at s (at + 2)

-- ---- a number as two bytes, and as four

abbrev pub half_bytes : ℕ → List ℕ
half_bytes n = n / 256 ∷ n % 256 ∷ []

abbrev pub word_bytes : ℕ → List ℕ
word_bytes n = n / 16777216 ∷ n / 65536 % 256 ∷ n / 256 % 256 ∷ n % 256 ∷ []

-- bytes put into a buffer from a place on; where they do not fit nothing is put
unfoldable pub put_at : ℕ → List ℕ → List ℕ → List ℕ
put_at at bytes old = cond (leb (at + length bytes) (length old)) (sets old at bytes) old
