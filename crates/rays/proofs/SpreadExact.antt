-- Facts about the response as an f32: the spread is exact for pixels to 4,095, its square is rounded once, and for pixels to 255 not at all.
-- Assumes nothing.
use mathlib.Core.Path.{◌≡◌, refl, ap, ◌∙◌}
use mathlib.Core.Logic.{◌⊎◌, inl, inr}
use mathlib.Core.Bool.{Bool, true, false, cond}
use Prim.Native.Nat.{ℕ, ◌+◌, ◌*◌, ◌^◌, ◌≤◌}
use native.Mathlib.Nat.{le_trans, max-le, sub-le, mul-le-mul, mul-pos, eq-zero-or-pos}
use native.Mathlib.Omega.{arith}
use lib.Dec.{lit≤}
use lib.IntN.{pos}
use lib.Ieee.{Float, binary32, of_int, of_bits, mul, round, units, odd, size, span, climb}
use lib.Ieee.Exact.{HasValue}
use lib.Ieee.Back.{round_whole}
use Rattle.float.specs.Values.{f0}
use Rattle.float.proofs.Whole.{mul_whole}
use Rattle.grid.specs.Ways.{Way, along, down, fall, rise, ray}
use Rattle.grid.proofs.Ways.{ray-most}
use Rattle.rays.specs.Response.{ray_spread, square, within, response_at}

-- the spread of four rays
pub spread-most : (f : ℕ → ℕ → ℕ) (top r x y : ℕ) → ((x y : ℕ) → f x y ≤ top) → ray_spread f r x y ≤ top * (2 * r + 1)
unfolding ray_spread
spread-most f top r x y h = le_trans (sub-le _ _) (max-le (max-le (at along) (at down)) (max-le (at fall) (at rise)))
  where
    at : (d : Way) → ray d f r x y ≤ top * (2 * r + 1)
    at d = ray-most d f top r x y h

-- ---- one square: of a whole number to 2^24 its square rounded once, and of one to 4,095 its square

pub cast_exact : (n : ℕ) → n ≤ 2 ^ 24 → HasValue (of_int binary32 (pos n)) false n 1
unfolding of_int
cast_exact n b = round_whole binary32 false n b

pub square-once : (n : ℕ) → n ≤ 2 ^ 24 → square n ≡ of_int binary32 (pos (n * n))
unfolding square of_int
square-once n b = mul_whole binary32 _ _ n n (cast_exact n b) (cast_exact n b)

pub square_exact : (n : ℕ) → n ≤ 4095 → HasValue (square n) false (n * n) 1
square_exact n b = rw (square-once n (le_trans b (lit≤ tt))) (cast_exact (n * n) (le_trans (mul-le-mul b b) (lit≤ tt)))

-- ---- the spread of rays of radius 7 or less

module _ (f : ℕ → ℕ → ℕ) (r x y : ℕ) (l : r ≤ 7) where
  -- any greatest value to 4,095: the cast is exact, and the square is rounded once
  pub spread_exact : ((x y : ℕ) → f x y ≤ 4095) → HasValue (of_int binary32 (pos (ray_spread f r x y))) false (ray_spread f r x y) 1
  spread_exact m = cast_exact (ray_spread f r x y) (omega (arith, spread-most f 4095 r x y m))

  pub rounded-once : ((x y : ℕ) → f x y ≤ 4095)
      → square (ray_spread f r x y) ≡ of_int binary32 (pos (ray_spread f r x y * ray_spread f r x y))
  rounded-once m = square-once (ray_spread f r x y) (omega (arith, spread-most f 4095 r x y m))

  -- eight bits: "for radius 7 or less the f32 response is exactly that whole number"
  pub exact : ((x y : ℕ) → f x y ≤ 255) → HasValue (square (ray_spread f r x y)) false (ray_spread f r x y * ray_spread f r x y) 1
  exact m = square_exact (ray_spread f r x y) (omega (arith, spread-most f 255 r x y m))

-- ---- the values of an eight-bit map before the blur

-- v is the whole number n
pub record Whole (most : ℕ) (v : Float) : Type 0 where
  pub n : ℕ
  pub least : 1 ≤ n
  pub greatest : n ≤ most
  pub is : HasValue v false n 1

square-none : square 0 ≡ f0
unfolding square of_int mul of_bits round units odd size span climb
square-none = refl

square-values : (n : ℕ) → n ≤ 3825 → (square n ≡ f0) ⊎ Whole 14630625 (square n)
square-values n b = elim (eq-zero-or-pos n) [
  | inl z ↦ inl (ap square z ∙ square-none)
  | inr p ↦ inr (record { n = n * n; least = mul-pos p p; greatest = mul-le-mul b b; is = square_exact n (omega arith) })
]

pub response-values : (f : ℕ → ℕ → ℕ) (w h r x y : ℕ) → ((x y : ℕ) → f x y ≤ 255) → r ≤ 7
    → (response_at f w h r x y ≡ f0) ⊎ Whole 14630625 (response_at f w h r x y)
unfolding response_at
response-values f w h r x y m l = at (within w h r x y)
  where
    at : (b : Bool) → (cond b (square (ray_spread f r x y)) f0 ≡ f0) ⊎ Whole 14630625 (cond b (square (ray_spread f r x y)) f0)
    at true = square-values (ray_spread f r x y) (omega (arith, spread-most f 255 r x y m))
    at false = inl refl
