-- Which numbers are finite, and whether one of some is not: std's words for a search, as those of the definitions. Assumes nothing.
use Rattle.std.proofs.Common.{◌≡◌, refl, ap, ℕ, zero, suc, Bool, true, false, ◌||◌, not, T, List, [], ◌∷◌, Float, add-one, arith}
use native.Mathlib.Nat.{sub-zero}
use Rattle.std.specs.Float.{nan, binary32}
use Rattle.std.specs.Float.Ieee.{inf, fin, of_bits, nan_bits, lt}
use Rattle.std.specs.Float.Ieee.Scale.{finite}
use Rattle.std.specs.List.{list_any, range_with_len}
use Rattle.grid.specs.Each.{any}
use Rattle.grid.specs.Rect.{range, from}

-- ---- between the infinities

pub no_nan : T (not (nan_bits binary32 0x7f80_0000)) × T (not (nan_bits binary32 0xff80_0000))
unfolding nan_bits
no_nan = (tt, tt)

pub below : (x : Float) → lt x (of_bits binary32 0x7f80_0000) ≡ true → lt (of_bits binary32 0xff80_0000) x ≡ finite x
unfolding lt of_bits
below nan e = refl
below (inf true) e = refl
below (inf false) e = absurd (let z : ◌≡◌ {A = ℕ} 0 1 = cc in omega arith)
below (fin s m d) e = refl

pub not_below : (x : Float) → lt x (of_bits binary32 0x7f80_0000) ≡ false → false ≡ finite x
unfolding lt of_bits
not_below nan e = refl
not_below (inf s) e = refl
not_below (fin s m d) e = absurd (let z : ◌≡◌ {A = ℕ} 0 1 = cc in omega arith)

-- ---- a search

pub any-is : {A : Type 0} (p : A → Bool) (l : List A) → list_any p l ≡ any p l
unfolding any
any-is p [] = refl
any-is p (a ∷ l) = ap (λ (b : Bool). p a || b) (any-is p l)

from-is : (a n : ℕ) → range_with_len a n ≡ from a n
unfolding from
from-is a zero = refl
from-is a (suc n) = rw add-one (ap (λ (l : List ℕ). a ∷ l) (from-is (suc a) n))

pub any_range-is : (p : ℕ → Bool) (n : ℕ) → list_any p (range_with_len 0 n) ≡ any p (range 0 n)
unfolding range
any_range-is p n = rw (from-is 0 n, sub-zero) (any-is p (from 0 n))
