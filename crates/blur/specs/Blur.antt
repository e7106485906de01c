-- The box blur of a map. Document 01: "Blur radius 0 changes nothing. Otherwise rows first, window cut at the edges, added left to right from zero
-- and divided by the count; then columns, added top to bottom from zero and multiplied by the rounded reciprocal of the count."
use Rattle.std.specs.Prelude.{Bool, List, ℕ, zero, suc, ◌*◌, min, Float}
use Rattle.grid.specs.Fill.{filled}
use Rattle.grid.specs.Plane.{plane}
use Rattle.means.specs.Means.{mean_at, column_mean, map_fits}

-- the mean along a map's row y
unfoldable pub row_mean : (ℕ → ℕ → Float) → ℕ → ℕ → ℕ → ℕ → Float
row_mean g w r x y = mean_at (λ k. g k y) w r x

-- the blurred map: "radius 0 changes nothing. Otherwise rows first .. then columns"
unfoldable pub blur_at : (ℕ → ℕ → Float) → ℕ → ℕ → ℕ → ℕ → ℕ → Float
blur_at g w h zero x y = g x y
blur_at g w h (suc r) x y = column_mean (row_mean g w (suc r)) h (suc r) x y

-- what the scratch holds afterwards: "written .. if blur radius and W·H are not 0", with the means along the rows
unfoldable pub scratched : (ℕ → ℕ → Float) → ℕ → ℕ → ℕ → List Float → List Float
scratched g w h zero old = old
scratched g w h (suc r) old = filled (w * h) (plane w (row_mean g w (suc r))) old

-- what fits: the map and its scratch
abbrev pub blur_fits : ℕ → ℕ → ℕ → ℕ → ℕ → Bool
blur_fits w h r size room = map_fits w h r (min size room)
