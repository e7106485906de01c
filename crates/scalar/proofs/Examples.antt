-- Worked values of the two definitions, computed, and the logarithm beside sums that end earlier. Assumes nothing.
use Rattle.std.proofs.Common.{◌≡◌, ℕ, ◌+◌, ◌*◌, ◌/◌, true, false, cond, ◌&&◌, pos, negsuc, sym, refl, ap, ◌∙◌, not-le_of_lt, lit<}
use lib.Ieee.{Float, fin, binary32, le, to_bits, of_bits}
use Rattle.scalar.specs.Root.{root_bits, root_of}
use Rattle.scalar.specs.Log.{log_of, Near, terms, high, unit, cut_sum, cut_third, units_of, difference, doublings, less_one, more_one}
use Rattle.scalar.specs.Log.{plus, minus, whole, lowest, highest}
use Rattle.std.specs.Prelude.{Some, None}
use Rattle.scalar.proofs.Series.{ratio_le, ninth_is_cut}

-- ---- the square root

root_of-four : root_of (fin false 1 (pos 2)) ≡ Some (fin false 1 (pos 1))
unfolding root_of to_bits of_bits
root_of-four = refl

root_of-two : root_bits 0x4000_0000 ≡ 0x3fb5_04f3
unfolding root_bits
root_of-two = refl

-- the least subnormal, the greatest subnormal, the greatest number
root_of-least : root_bits 1 ≡ 0x1a35_04f3
unfolding root_bits
root_of-least = refl

root_of_subnormal : root_bits 0x007f_ffff ≡ 0x1fff_ffff
unfolding root_bits
root_of_subnormal = refl

root_of-greatest : root_bits 0x7f7f_ffff ≡ 0x5f7f_ffff
unfolding root_bits
root_of-greatest = refl

root_of_minus_zero : root_of (fin true 0 (pos 0)) ≡ None
unfolding root_of
root_of_minus_zero = refl

-- ---- the logarithm

log_of-one : log_of terms high (fin false 1 (pos 0)) ≡ Some (fin false 0 (pos 0))
unfolding log_of le to_bits
log_of-one = refl

-- 93032639 / 2 ^ 27 is 0.693147.., and 93032640 / 2 ^ 27 the nearest f32, which is that of ln 2 itself;
-- the logarithm of a half is its negative
log_of-two : log_of terms high (fin false 1 (pos 1)) ≡ Some (fin false 1453635 (negsuc 20))
unfolding log_of le to_bits
log_of-two = refl

log_of-half : log_of terms high (fin false 1 (negsuc 0)) ≡ Some (fin true 1453635 (negsuc 20))
unfolding log_of le to_bits
log_of-half = refl

-- half of the least number inside, and twice the greatest
log_of-small : log_of terms high (fin false 1 (negsuc 6)) ≡ None
unfolding log_of le to_bits
log_of-small = refl

log_of_large : log_of terms high (fin false 1 (pos 25)) ≡ None
unfolding log_of le to_bits
log_of_large = refl

-- ---- beside document 01's own series, which stopped at n = 9: five terms

-- 152 units of 2 ^ -27 less for each doubling: 1.13 millionths
third_of_five : cut_third 5 + 152 ≡ cut_third terms
unfolding cut_third
third_of_five = refl

-- at 4 two of these are already over 2 ^ -19: the bound alone tells that logarithm from the new one, and so one
-- with longer sums that has kept its constant
log_of-four : log_of 5 high (fin false 1 (pos 2)) ≡ Some (fin false 11629061 (negsuc 22))
unfolding log_of le to_bits
log_of-four = refl

four_is_far : Near terms (fin false 1 (pos 2)) (fin false 11629061 (negsuc 22)) → ⊥
unfolding plus minus whole to_bits
four_is_far = not-le_of_lt (lit< tt)

-- ---- beside a sum to n = 15: the ninth term is less than a unit, so eight give the same f32 for every number

third_of_eight : cut_third 8 ≡ cut_third 9
unfolding cut_third
third_of_eight = refl

units_of-eight : (b : ℕ) → units_of 8 b ≡ units_of 9 b
unfolding units_of
units_of-eight b =
    ap (λ (t : ℕ). doublings b * t + cut_sum (less_one b * unit / more_one b) 8) third_of_eight
    ∙ ap (λ (s : ℕ). doublings b * cut_third 9 + s) (sym (ninth_is_cut (less_one b * unit / more_one b) (ratio_le b)))

pub eight_give_the_same : (H : ℕ) (x : Float) → log_of 8 H x ≡ log_of 9 H x
unfolding log_of
eight_give_the_same H x =
    ap (λ (v : Float). cond (le lowest x && le x (highest H)) (Some v) None)
    (ap (λ (c : ℕ). difference (units_of 8 (to_bits binary32 x)) (6 * c)) third_of_eight
    ∙ ap (λ (a : ℕ). difference a (6 * cut_third 9)) (units_of-eight (to_bits binary32 x)))

-- seven do not: of the number before 1 a code whose sum ends at n = 13 makes -12 units of 2 ^ -27,
-- where it is to be -11
log_before_one : log_of terms high (fin false 16777215 (negsuc 23)) ≡ Some (fin true 11 (negsuc 26))
unfolding log_of le to_bits
log_before_one = refl

before_one : (doublings 0x3f7f_ffff ≡ 5) × (less_one 0x3f7f_ffff * unit / more_one 0x3f7f_ffff ≡ 89478478)
before_one = (refl, refl)

seven_give_less : difference (5 * cut_third terms + cut_sum 89478478 7) (6 * cut_third terms) ≡ fin true 3 (negsuc 24)
unfolding difference cut_third cut_sum
seven_give_less = refl
