-- The means of the box blur, a row of a map at a time. Document 01: "window cut at the edges, added left to right from zero and divided by the
-- count; then columns, added top to bottom from zero and multiplied by the rounded reciprocal of the count."
use Rattle.std.specs.Prelude.{Bool, ◌&&◌, List, ℕ, ◌+◌, ◌-◌, ◌*◌, min, leb, ltb, get_or, pos, Float}
use Rattle.std.specs.Float.{nan, binary32}
use Rattle.std.specs.Float.Ieee.{mul, div, of_int}
use Rattle.float.specs.Values.{f1}
use Rattle.grid.specs.Fold.{fsum}
use Rattle.sizes.specs.Fits.{fits_in}

-- what a buffer has at x and y, where a row is w entries
abbrev pub value_at : List Float → ℕ → ℕ → ℕ → Float
value_at s w x y = get_or s (y * w + x) nan

-- how many of n places the window of radius r about x has: from x - r, cut at 0, to below the lesser of x + r + 1 and n
abbrev pub counted : ℕ → ℕ → ℕ → ℕ
counted n r x = min (x + r + 1) n - (x - r)

-- "added .. from zero": the values of f in that window, in order, each sum rounded
unfoldable pub window_sum : (ℕ → Float) → ℕ → ℕ → ℕ → Float
window_sum f n r x = fsum (λ k. f (x - r + k)) (counted n r x)

-- the count as a float
abbrev pub count_of : ℕ → ℕ → ℕ → Float
count_of n r x = of_int binary32 (pos (counted n r x))

-- "added left to right from zero and divided by the count": of n values in a row
unfoldable pub mean_at : (ℕ → Float) → ℕ → ℕ → ℕ → Float
mean_at f n r x = div binary32 (window_sum f n r x) (count_of n r x)

-- "added top to bottom from zero and multiplied by the rounded reciprocal of the count": in column x of a map h high, about row y
unfoldable pub column_mean : (ℕ → ℕ → Float) → ℕ → ℕ → ℕ → ℕ → Float
column_mean g h r x y = mul binary32 (window_sum (λ k. g x k) h r y) (div binary32 f1 (count_of h r y))

-- ---- what fits: a blur radius of 0 to 3, and a map with sides and room as for any working image

unfoldable pub map_fits : ℕ → ℕ → ℕ → ℕ → Bool
map_fits w h r room = leb r 3 && fits_in w h room

-- n values: a map one row high
abbrev pub row_fits : ℕ → ℕ → ℕ → Bool
row_fits n r room = map_fits n 1 r room

-- row y of a map that has so many entries, with room for one row
unfoldable pub column_fits : ℕ → ℕ → ℕ → ℕ → ℕ → ℕ → Bool
column_fits w h y r size room = map_fits w h r size && (ltb y h && leb w room)
