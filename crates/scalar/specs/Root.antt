-- The correctly rounded square root of an f32, stated by comparing squares of whole numbers.
use Rattle.std.specs.Prelude.{ℕ, ◌+◌, ◌*◌, ◌^◌, ◌<◌, ◌≤◌, true, false, from_bits, nat_le, to_bits, Float, Option, Some, None}
use Rattle.std.specs.Float.{nan, inf, fin, binary32}
use Rattle.scalar.specs.Bits.{val, middle, greatest}

-- Twice the middle below the pattern c, squared; and four times the number of the pattern b. Both are in units of 2 ^ -298, so that
-- twice b's root is compared with twice the middle.
unfoldable pub middle_squared : ℕ → ℕ
unfolding middle
middle_squared c = middle c * middle c

unfoldable pub fourfold : ℕ → ℕ
unfolding val
fourfold b = 4 * (val b * 2 ^ 149)

-- c is the pattern of the nearest root of b: the root is not below the middle under c, and is below the middle over c.
pub record IsRoot (b c : ℕ) : Type 0 where
  pub low : middle_squared c ≤ fourfold b
  pub high : fourfold b < middle_squared (c + 1)

-- The one pattern that is (`the_root_is_one` and `the_root_is_nearest` of proofs/Facts): the greatest whose lower middle the root reaches.
unfoldable pub root_bits : ℕ → ℕ
unfolding greatest middle_squared fourfold
root_bits b = greatest (λ c. nat_le (middle_squared c) (fourfold b)) 31 0

-- Document 01: "The square root is correctly rounded for finite numbers from 0 up, and answers "outside" otherwise, for negative zero too".
unfoldable pub root_of : Float → Option Float
unfolding root_bits
root_of nan = None
root_of (inf s) = None
root_of (fin true m e) = None
root_of (fin false m e) = Some (from_bits binary32 (root_bits (to_bits binary32 (fin false m e))))
