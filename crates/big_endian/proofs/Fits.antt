-- What is put where it fits, for callers; what is put where it does not; and that a buffer keeps its length. Assumes
-- nothing.
use Rattle.std.proofs.Common.{◌≡◌, refl, ap, append_assoc, arith, [], ◌∷◌}
use mathlib.Core.Bool.{Bool, true, false, cond}
use mathlib.Core.List.{List}
use Prim.Native.Nat.{ℕ, ◌+◌, ◌-◌, ◌/◌, ◌%◌, ◌≤◌, ◌<◌}
use borrow.Author.Tests.{le-leb, lt-leb}
use lib.Dec.{leb}
use lib.ListN.{length}
use lib.Seq.{sets, sets-eq, length-sets}
use borrow.Rule.Slice.PartMut.{put_mid, Post-is}
use Rattle.std.specs.Int.{to_be_bytes, w16, w32}
use Rattle.big_endian.specs.BigEndian.{half_bytes, word_bytes, put_at}

module _ (at : ℕ) (bytes old : List ℕ) where
  pub put_plain : at + length bytes ≤ length old → put_at at bytes old ≡ sets old at bytes
  unfolding put_at
  put_plain h = rw (le-leb (at + length bytes) (length old) h)

  pub put-none : length old < at + length bytes → put_at at bytes old ≡ old
  unfolding put_at
  put-none h = rw (lt-leb (at + length bytes) (length old) h)

  pub length-put : length (put_at at bytes old) ≡ length old
  unfolding put_at
  length-put = either (leb (at + length bytes) (length old))
    where
      either : (t : Bool) → length (cond t (sets old at bytes) old) ≡ length old
      either true = length-sets old at bytes
      either false = refl

-- ---- the bytes are copied into the part of the buffer that they fill

module _ (at : ℕ) (bytes old : List ℕ) where
  pub part_put : at + length bytes ≤ length old → put_mid at (at + length bytes - at) old bytes ≡ put_at at bytes old
  part_put h = rw (put_plain at bytes old h, sets-eq bytes old at h, append_assoc, Post-is at (at + length bytes) old (omega arith))

-- ---- the bytes of a number

pub half_is : (n : ℕ) → n < 65536 → to_be_bytes w16 n ≡ half_bytes n
half_is n h = ap (λ (b : ℕ). b ∷ n % 256 ∷ []) (omega arith)

pub word_is : (n : ℕ) → n < 4294967296 → to_be_bytes w32 n ≡ word_bytes n
word_is n h = ap (λ (b : ℕ). b ∷ n / 65536 % 256 ∷ n / 256 % 256 ∷ n % 256 ∷ []) (omega arith)
