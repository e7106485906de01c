-- The working image. "Upsampling by 2: working pixel (2x+a, 2y+b), a and b 0 or 1, uses columns x and the lesser of x+1 and w−1, rows likewise.
-- Weights are 2−a, a and 2−b, b; the value is (weighted sum + 2) divided by 4, rounded down. Factor 1 copies."
-- An image is a function f: f x y is the pixel in column x of row y.
use Rattle.std.specs.Prelude.{Bool, cond, ◌&&◌, ℕ, ◌+◌, ◌-◌, ◌*◌, ◌/◌, ◌%◌, min, max, eqb, leb, ltb}

-- p and q in the upper row, s and t in the lower one
abbrev pub weighted : ℕ → ℕ → ℕ → ℕ → ℕ → ℕ → ℕ
weighted a b p q s t = ((2 - a) * (2 - b) * p + a * (2 - b) * q + (2 - a) * b * s + a * b * t + 2) / 4

-- the column or row after i, of n: the last has itself
abbrev pub after : ℕ → ℕ → ℕ
after n i = min (i + 1) (n - 1)

-- working pixel x, y of an image w wide and h high
unfoldable pub up_at : (ℕ → ℕ → ℕ) → ℕ → ℕ → ℕ → ℕ → ℕ
up_at f w h x y =
    weighted (x % 2) (y % 2)
    (f (x / 2) (y / 2))
    (f (after w (x / 2)) (y / 2))
    (f (x / 2) (after h (y / 2)))
    (f (after w (x / 2)) (after h (y / 2)))

-- the working image at factor 1 or 2
unfoldable pub work_at : ℕ → (ℕ → ℕ → ℕ) → ℕ → ℕ → ℕ → ℕ → ℕ
work_at factor f w h x y = cond (eqb factor 2) (up_at f w h x y) (f x y)

-- ---- what fits: a factor of 1 or 2, "width and height .. 0 to 4,096", and so many pixels as the sides say

unfoldable pub image_fits : ℕ → ℕ → ℕ → ℕ → Bool
image_fits factor w h pixels = leb 1 factor && (leb factor 2 && (leb (max w h) 4096 && leb (w * h) pixels))

-- row y is one of the working image's, with room for it
unfoldable pub row_fits : ℕ → ℕ → ℕ → ℕ → ℕ → ℕ → Bool
row_fits factor w h y pixels room = image_fits factor w h pixels && (ltb y (factor * h) && leb (factor * w) room)

-- room for every row
unfoldable pub up_fits : ℕ → ℕ → ℕ → ℕ → ℕ → Bool
up_fits factor w h pixels room = image_fits factor w h pixels && leb (factor * w * (factor * h)) room
