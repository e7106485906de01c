-- The response. "A pixel at least r from every edge has response (largest − smallest)² of the four ray sums over k from −r to r:
-- (x+k, y), (x, y+k), (x+k, y+k), (x+k, y−k). .. All other pixels are 0."
use Rattle.std.specs.Prelude.{Bool, cond, ◌&&◌, ℕ, ◌+◌, ◌-◌, min, max, ltb, leb, pos, Float}
use Rattle.std.specs.Float.{binary32}
use Rattle.std.specs.Float.Ieee.{mul, of_int}
use Rattle.float.specs.Values.{f0}
use Rattle.grid.specs.Ways.{along, down, fall, rise, ray}

-- largest − smallest
abbrev pub spread : ℕ → ℕ → ℕ → ℕ → ℕ
spread a b c d = max (max a b) (max c d) - min (min a b) (min c d)

unfoldable pub ray_spread : (ℕ → ℕ → ℕ) → ℕ → ℕ → ℕ → ℕ
ray_spread f r x y = spread (ray along f r x y) (ray down f r x y) (ray fall f r x y) (ray rise f r x y)

-- the f32 of n, squared in f32
unfoldable pub square : ℕ → Float
square n = mul binary32 (of_int binary32 (pos n)) (of_int binary32 (pos n))

-- at least r from every edge
abbrev pub within : ℕ → ℕ → ℕ → ℕ → ℕ → Bool
within w h r x y = leb r x && (ltb (x + r) w && (leb r y && ltb (y + r) h))

unfoldable pub response_at : (ℕ → ℕ → ℕ) → ℕ → ℕ → ℕ → ℕ → ℕ → Float
response_at f w h r x y = cond (within w h r x y) (square (ray_spread f r x y)) f0
