-- Document 01, "Rules of the list": the map's maximum, of a buffer's entries and of a map.
-- A map is a function f: f x y is the value in column x of row y.
use Rattle.std.specs.Prelude.{cond, ℕ, ◌*◌, List, get_or, length, Float}
use Rattle.std.specs.Float.{nan}
use Rattle.std.specs.Float.Ieee.{lt}
use Rattle.float.specs.Values.{f0}
use Rattle.grid.specs.Fold.{fold}
use Rattle.grid.specs.Plane.{plane}

-- entry k of a buffer
abbrev pub entry : List Float → ℕ → Float
entry s k = get_or s k nan

-- the greater of two, the first where neither is
abbrev pub greater : Float → Float → Float
greater m v = cond (lt m v) v m

-- the greatest of a buffer's entries, from 0 up
abbrev pub greatest_of : List Float → Float
greatest_of s = fold greater f0 (entry s) (length s)

-- "the map's maximum", from 0 up. The source starts below every value and takes a floor under 0 as 0: where no value is above 0,
-- nothing is above either floor. Where the maximum is infinite the source finds nothing, and here nothing is above the product.
unfoldable pub maximum : ℕ → ℕ → (ℕ → ℕ → Float) → Float
maximum w h f = fold greater f0 (plane w f) (w * h)
