-- The logarithm: the exact fraction L, the f32 that stands for it, and that the two are
-- within 2 ^ -19. N is the number of terms of the series, 2 ^ H the upper end.
use Rattle.std.specs.Prelude.{ℕ, zero, suc, ◌+◌, ◌-◌, ◌*◌, ◌/◌, ◌%◌, ◌^◌, ◌≤◌, true, false, cond, ◌&&◌, pos, negsuc, nat_le, to_bits, Float, Option, Some, None}
use Rattle.std.specs.Float.{nan, inf, fin, binary32}
use Rattle.std.specs.Float.Ieee.{up, down, le, of_int, div, neg}

-- ---- what a longer series or a wider range changes here (with TERMS, THIRD and MOST of src/, and `third_units` of proofs/Series)

-- Document 02, ticket 4, "Carry the sum to n = 17, for both uses of S": n = 1, 3, .., 17, nine terms.
abbrev pub terms : ℕ
terms = 9

-- Document 01, "from 2^-6 to 2^24": the upper end's exponent.
abbrev pub high : ℕ
high = 24

-- ---- L, as a fraction of whole numbers

-- Half of S(p/q), which is p/q + (p/q) ^ 3 / 3 + .. of N terms, is the fraction sum_top N p q / sum_bottom N q.
unfoldable pub sum_bottom : ℕ → ℕ → ℕ
sum_bottom zero q = 1
sum_bottom (suc j) q = sum_bottom j q * ((2 * j + 1) * q ^ (2 * j + 1))

unfoldable pub sum_top : ℕ → ℕ → ℕ → ℕ
unfolding sum_bottom
sum_top zero p q = 0
sum_top (suc j) p q = sum_top j p q * ((2 * j + 1) * q ^ (2 * j + 1)) + p ^ (2 * j + 1) * sum_bottom j q

-- Document 01, "For 2^e·m with m from 1 to below 2": of the pattern b of that number,
-- e + 6, and m − 1 and m + 1 both times 2 ^ 23 (`parts` of proofs/Range).
abbrev pub doublings : ℕ → ℕ
doublings b = b / 8388608 - 121

abbrev pub less_one : ℕ → ℕ
less_one b = b % 8388608

abbrev pub more_one : ℕ → ℕ
more_one b = b % 8388608 + 16777216

-- Document 01, "L = e·S(1/3) + S((m−1)/(m+1)), as a fraction of whole numbers":
-- L is 2 * (plus - minus) / whole, where `minus` takes the 6 of e + 6 off again.
unfoldable pub plus : ℕ → ℕ → ℕ
unfolding sum_top sum_bottom
plus N b =
    doublings b * (sum_top N 1 3 * sum_bottom N (more_one b)) + sum_top N (less_one b) (more_one b) * sum_bottom N 3

unfoldable pub minus : ℕ → ℕ → ℕ
unfolding sum_top sum_bottom
minus N b = 6 * (sum_top N 1 3 * sum_bottom N (more_one b))

unfoldable pub whole : ℕ → ℕ → ℕ
unfolding sum_bottom
whole N b = sum_bottom N 3 * sum_bottom N (more_one b)

-- ---- Document 01: "The f32 is within 2^-19 of L"

-- |p − q|
abbrev pub distance : ℕ → ℕ → ℕ
distance p q = (p - q) + (q - p)

-- |top / bottom − 2 · (plus − minus) / whole| ≤ 2 ^ -19, with both sides times bottom · whole · 2 ^ 19, and what is taken off on the other side.
abbrev pub Close : ℕ → ℕ → ℕ → ℕ → ℕ → Type 0
Close top bottom plus minus whole =
    distance (top * whole + 2 * (minus * bottom)) (2 * (plus * bottom)) * 2 ^ 19 ≤ whole * bottom

-- The float r is finite and within 2 ^ -19 of 2 · (plus − minus) / whole. Its size m · 2 ^ e is the fraction (m · up e) / down e;
-- where r is negative, −r is compared with 2 · (minus − plus) / whole.
abbrev pub Within : Float → ℕ → ℕ → ℕ → Type 0
Within nan plus minus whole = ⊥
Within (inf s) plus minus whole = ⊥
Within (fin false m e) plus minus whole = Close (m * up e) (down e) plus minus whole
Within (fin true m e) plus minus whole = Close (m * up e) (down e) minus plus whole

-- r is within 2 ^ -19 of L at x.
abbrev pub Near : ℕ → Float → Float → Type 0
Near N x r = Within r (plus N (to_bits binary32 x)) (minus N (to_bits binary32 x)) (whole N (to_bits binary32 x))

-- ---- "Which f32, the team fixes by a definition": sums in units of 2 ^ -28, each power and term cut to a whole number

abbrev pub unit : ℕ
unit = 268435456

-- z ^ (2 * j + 1), and z + z ^ 3 / 3 + .. of N terms.
unfoldable pub cut_power : ℕ → ℕ → ℕ
cut_power z zero = z
cut_power z (suc j) = cut_power z j * (z * z / unit) / unit

unfoldable pub cut_sum : ℕ → ℕ → ℕ
unfolding cut_power
cut_sum z zero = 0
cut_sum z (suc j) = cut_sum z j + cut_power z j / (2 * j + 1)

-- Half of S(1/3).
unfoldable pub cut_third : ℕ → ℕ
unfolding sum_top sum_bottom
cut_third N = unit * sum_top N 1 3 / sum_bottom N 3

-- Half of (e + 6)·S(1/3) + S((m−1)/(m+1)): the same number is the whole of it in units of 2 ^ -27.
unfoldable pub units_of : ℕ → ℕ → ℕ
unfolding cut_third cut_sum
units_of N b = doublings b * cut_third N + cut_sum (less_one b * unit / more_one b) N

-- d units of 2 ^ -27 as an f32: the nearest to d, divided by 2 ^ 27.
unfoldable pub float_of : ℕ → Float
unfolding of_int div
float_of d = div binary32 (of_int binary32 (pos d)) (fin false 1 (pos 27))

-- a - c units as an f32.
unfoldable pub difference : ℕ → ℕ → Float
unfolding float_of neg
difference a c = cond (nat_le c a) (float_of (a - c)) (neg (float_of (c - a)))

-- ---- "for every input from 2^-6 to 2^24 .. other inputs get "outside""

abbrev pub lowest : Float
lowest = fin false 1 (negsuc 5)

abbrev pub highest : ℕ → Float
highest H = fin false 1 (pos H)

-- The patterns of the two.
abbrev pub least_bits : ℕ
least_bits = 0x3c80_0000

abbrev pub most_bits : ℕ → ℕ
most_bits H = (127 + H) * 8388608

unfoldable pub log_of : ℕ → ℕ → Float → Option Float
unfolding difference units_of cut_third
log_of N H x =
    cond (le lowest x && le x (highest H)) (Some (difference (units_of N (to_bits binary32 x)) (6 * cut_third N))) None
