-- What a bit pattern of an f32 is worth, over whole numbers, and which pattern is the nearest. Both functions rest on this.
use Rattle.std.specs.Prelude.{ℕ, zero, suc, ◌+◌, ◌-◌, ◌*◌, ◌/◌, ◌%◌, ◌^◌, Bool, true, false, cond, Float}
use Rattle.std.specs.Float.{nan, inf, fin}

-- Document 01, "finite numbers from 0 up .. for negative zero too": a number from +0 up, which negative zero is not.
abbrev pub from_zero : Float → Bool
from_zero nan = false
from_zero (inf s) = false
from_zero (fin true m e) = false
from_zero (fin false m e) = true

-- The pattern of infinity. Those below it are the finite numbers from +0 up, in order.
abbrev pub infinite : ℕ
infinite = 0x7f80_0000

-- What such a pattern is worth in units of 2 ^ -149, the least number above 0: by the exponent's field and the 23 digits behind the leading one.
abbrev pub of_field : ℕ → ℕ → ℕ
of_field zero t = t
of_field (suc x) t = (8388608 + t) * 2 ^ x

unfoldable pub val : ℕ → ℕ
val c = of_field (c / 8388608) (c % 8388608)

-- Half-unit rounding: a number rounds to the pattern c from the middle of c and the pattern
-- below it up to the middle of c and the one above. This is twice the first.
unfoldable pub middle : ℕ → ℕ
unfolding val
middle c = val (c - 1) + val c

-- The greatest number from `at` to below at + 2 ^ k that passes the test p, where p passes `at` and no number above one that it refuses.
unfoldable pub greatest : (ℕ → Bool) → ℕ → ℕ → ℕ
greatest p zero at = at
greatest p (suc k) at = greatest p k (cond (p (at + 2 ^ k)) (at + 2 ^ k) at)
