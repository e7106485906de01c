-- Laws of numbers in bytes: a number's bytes read back, bytes as the number's that they are,
-- and a list opened byte by byte. Assumes nothing.
use mathlib.Core.Path.{◌≡◌, refl, ap, ◌∙◌}
use mathlib.Core.List.{List, [], ◌∷◌}
use Prim.Native.Nat.{ℕ, zero, suc, ◌+◌, ◌*◌, ◌/◌, ◌%◌, ◌≤◌, ◌<◌}
use native.Mathlib.Omega.{arith}
use lib.Dec.{lit<}
use lib.ListN.{length, drop}
use lib.Seq.{drop-cons}
use Rattle.big_endian.specs.BigEndian.{byte_at}

-- ---- the bytes of a number, read back

pub halves : (n : ℕ) → n / 256 * 256 + n % 256 ≡ n
halves n = omega arith

pub words : (n : ℕ) → (n / 16777216 * 256 + n / 65536 % 256) * 65536 + (n / 256 % 256 * 256 + n % 256) ≡ n
words n = omega arith

pub half_bytes_lem : (n : ℕ) → n < 65536 → (n / 256 < 256) × (n % 256 < 256)
half_bytes_lem n h = omega arith

pub word_bytes_lem : (n : ℕ) → n < 4294967296
    → (n / 16777216 < 256) × (n / 65536 % 256 < 256) × (n / 256 % 256 < 256) × (n % 256 < 256)
word_bytes_lem n h = omega arith

-- ---- bytes, as those of the number that they are

pub half_back : (a b : ℕ) → b < 256 → ((a * 256 + b) / 256 ≡ a) × ((a * 256 + b) % 256 ≡ b)
half_back a b h = omega arith

pub word_back : (a b c d : ℕ) → b < 256 → c < 256 → d < 256 → let n = (a * 256 + b) * 65536 + (c * 256 + d) in
    (n / 16777216 ≡ a) × (n / 65536 % 256 ≡ b) × (n / 256 % 256 ≡ c) × (n % 256 ≡ d)
word_back a b c d h i j = omega arith

pub word_below : (a b c d : ℕ) → a < 256 → b < 256 → c < 256 → d < 256 → (a * 256 + b) * 65536 + (c * 256 + d) < 4294967296
word_below a b c d g h i j = omega arith

-- ---- a list of bytes

abbrev pub Bytes : List ℕ → Type 0
Bytes [] = Unit {0}
Bytes (b ∷ l) = (b < 256) × Bytes l

pub byte-below : (file : List ℕ) → Bytes file → (i : ℕ) → byte_at file i < 256
byte-below [] b i = lit< tt
byte-below (a ∷ l) b zero = b.0
byte-below (a ∷ l) b (suc i) = byte-below l b.1 i

-- the first k entries from `at` on, one by one, and the rest
abbrev pub opened : ℕ → ℕ → List ℕ → List ℕ
opened zero at file = drop at file
opened (suc k) at file = byte_at file at ∷ opened k (suc at) file

pub opened-is : (k at : ℕ) (file : List ℕ) → at + k ≤ length file → drop at file ≡ opened k at file
opened-is zero at file h = refl
opened-is (suc k) at file h =
    drop-cons file at 0 (omega arith)
    ∙ ap (λ (l : List ℕ). byte_at file at ∷ l) (opened-is k (suc at) file (omega arith))
