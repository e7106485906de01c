-- The working image is the rounded quarter-sum of four pixels, or a copy: no brighter than the image, and raised where the image is raised.
-- Assumes nothing.
use mathlib.Core.Path.{◌≡◌, refl, sym, ◌∙◌}
use mathlib.Core.Bool.{Bool, true, false, cond}
use Prim.Native.Nat.{ℕ, zero, suc, ◌+◌, ◌*◌, ◌/◌, ◌%◌, ◌≤◌, ◌<◌}
use native.Mathlib.Nat.{mod-lt, zero-mul}
use native.Mathlib.Omega.{arith}
use lib.Dec.{lit<, eqb}
use Rattle.upsample.specs.Upsample.{weighted, after, up_at, work_at}
use Rattle.upsample.specs.Kernel.{quarter, half, near, between}

-- the four pixels in columns i and j of rows k and l, at any weights
weighted-quarter : (f : ℕ → ℕ → ℕ) (a b : ℕ) → a < 2 → b < 2 → (i j k l : ℕ)
    → weighted a b (f i k) (f j k) (f i l) (f j l) ≡ quarter (f i k) (f (half a i j) k) (f i (half b k l)) (f (half a i j) (half b k l))
weighted-quarter f zero zero u v i j k l = omega arith
weighted-quarter f zero (suc zero) u v i j k l = omega arith
weighted-quarter f (suc zero) zero u v i j k l = omega arith
weighted-quarter f (suc zero) (suc zero) u v i j k l = omega arith
weighted-quarter f zero (suc (suc b)) u v i j k l = omega arith
weighted-quarter f (suc zero) (suc (suc b)) u v i j k l = omega arith
weighted-quarter f (suc (suc a)) b u v i j k l = omega arith

pub quarter-sum : (f : ℕ → ℕ → ℕ) (w h x y : ℕ)
    → up_at f w h x y ≡ quarter (f (x / 2) (y / 2)) (f (near w x) (y / 2)) (f (x / 2) (near h y)) (f (near w x) (near h y))
unfolding up_at
quarter-sum f w h x y = weighted-quarter f (x % 2) (y % 2) (mod-lt x (lit< tt)) (mod-lt y (lit< tt)) _ _ _ _

-- ---- no brighter than the image, and raised with it

pub up-most : (f : ℕ → ℕ → ℕ) (top w h x y : ℕ) → ((x y : ℕ) → f x y ≤ top) → up_at f w h x y ≤ top
up-most f top w h x y m =
    rw quarter-sum (omega (arith, m (x / 2) (y / 2), m (near w x) (y / 2), m (x / 2) (near h y), m (near w x) (near h y)))

pub up_raised : (f : ℕ → ℕ → ℕ) (b w h x y : ℕ) → up_at (λ x y. f x y + b) w h x y ≡ up_at f w h x y + b
up_raised f b w h x y = omega (arith, quarter-sum f w h x y, quarter-sum (λ x y. f x y + b) w h x y)

-- ---- only the pixels inside count

near_in : (n x : ℕ) → x < 2 * n → near n x < n
near_in n x b = at (x % 2)
  where
    at : (a : ℕ) → half a (x / 2) (after n (x / 2)) < n
    at zero = omega arith
    at (suc a) = omega arith

pub up_ext : (f g : ℕ → ℕ → ℕ) (w h x y : ℕ) → x < 2 * w → y < 2 * h → ((x y : ℕ) → x < w → y < h → f x y ≡ g x y)
    → up_at f w h x y ≡ up_at g w h x y
up_ext f g w h x y a b e =
    let i : x / 2 < w = omega arith in
    let k : y / 2 < h = omega arith in
    let j = near_in w x a in
    let l = near_in h y b in
    quarter-sum f w h x y
    ∙ rw (e (x / 2) (y / 2) i k, e (near w x) (y / 2) j k, e (x / 2) (near h y) i l, e (near w x) (near h y) j l) (sym (quarter-sum g w h x y))

-- ---- the same at either factor

module _ (factor : ℕ) (f : ℕ → ℕ → ℕ) (w h x y : ℕ) where
  pub work_doubled : factor ≡ 2
      → work_at factor f w h x y ≡ quarter (f (x / 2) (y / 2)) (f (near w x) (y / 2)) (f (x / 2) (near h y)) (f (near w x) (near h y))
  unfolding work_at
  work_doubled e = rw e (quarter-sum f w h x y)

  pub work_copied : factor ≡ 1 → work_at factor f w h x y ≡ f x y
  unfolding work_at
  work_copied e = rw e

  pub work_most : (top : ℕ) → ((x y : ℕ) → f x y ≤ top) → work_at factor f w h x y ≤ top
  unfolding work_at
  work_most top m = at (eqb factor 2)
    where
      at : (two : Bool) → cond two (up_at f w h x y) (f x y) ≤ top
      at true = up-most f top w h x y m
      at false = m x y

  pub work_raised : (b : ℕ) → work_at factor (λ x y. f x y + b) w h x y ≡ work_at factor f w h x y + b
  unfolding work_at
  work_raised b = at (eqb factor 2)
    where
      at : (two : Bool) → cond two (up_at (λ x y. f x y + b) w h x y) (f x y + b) ≡ cond two (up_at f w h x y) (f x y) + b
      at true = up_raised f b w h x y
      at false = refl

  pub work_ext : (g : ℕ → ℕ → ℕ) → factor ≤ 2 → x < factor * w → y < factor * h → ((x y : ℕ) → x < w → y < h → f x y ≡ g x y)
      → work_at factor f w h x y ≡ work_at factor g w h x y
  unfolding work_at
  work_ext g = at factor
    where
      at : (n : ℕ) → n ≤ 2 → x < n * w → y < n * h → ((x y : ℕ) → x < w → y < h → f x y ≡ g x y)
          → cond (eqb n 2) (up_at f w h x y) (f x y) ≡ cond (eqb n 2) (up_at g w h x y) (g x y)
      at zero l a b e = omega (arith, zero-mul w)
      at (suc zero) l a b e = e x y (omega arith) (omega arith)
      at (suc (suc zero)) l a b e = up_ext f g w h x y (omega arith) (omega arith) e
      at (suc (suc (suc n))) l a b e = absurd (omega arith)

-- ---- a row of the working image, from the two rows of the image that it is between

pub row-between : (f : ℕ → ℕ → ℕ) (w h x y : ℕ) → up_at f w h x y ≡ between (λ k. f k (y / 2)) (λ k. f k (near h y)) w x
unfolding between
row-between = quarter-sum
