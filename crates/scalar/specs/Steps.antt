-- What the private functions hand to each other. A reader of the contracts of `sqrt` and `ln` can skip this file.
use Rattle.std.specs.Prelude.{◌≡◌, ℕ, ◌+◌, ◌-◌, ◌*◌, ◌^◌, ◌<◌, ◌≤◌}
use Rattle.scalar.specs.Bits.{val}

-- ---- the square root

-- 2 ^ 46, and (2 ^ 24 - 1) * 2 ^ 24: the root of a number from one to the other has 24 digits, rounded too.
abbrev pub least_scaled : ℕ
least_scaled = 70368744177664

abbrev pub most_scaled : ℕ
most_scaled = 281474959933440

-- n * 4 ^ h is the number of the pattern b, in units of 2 ^ -298.
pub record Scales (b n h : ℕ) : Type 0 where
  pub same : n * 2 ^ (h + h) ≡ val b * 2 ^ 149
  pub least : least_scaled ≤ n
  pub most : n ≤ most_scaled
  pub small : h < 200

-- r is the root of n, cut to a whole number.
pub record WholeRoot (n r : ℕ) : Type 0 where
  pub low : r * r ≤ n
  pub high : n < (r + 1) * (r + 1)

-- q is the root of n, rounded to a whole number of 24 digits.
pub record Rounds (n q : ℕ) : Type 0 where
  pub below : (q + q - 1) * (q + q - 1) < 4 * n
  pub above : 4 * n < (q + q + 1) * (q + q + 1)
  pub least : 8388608 ≤ q
  pub most : q < 16777216

-- ---- the logarithm

-- A third, in units of 2 ^ -28: (m - 1) / (m + 1) is at most this.
abbrev pub a_third : ℕ
a_third = 89478485

-- Below this a whole number is rounded to an f32 that is below 2 ^ 32.
abbrev pub roomy : ℕ
roomy = 4294967040
