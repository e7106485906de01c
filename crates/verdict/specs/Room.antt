-- What the window tests ask of a place, and what they say of its nearest and of the window's rows.
use Rattle.std.specs.Prelude.{◌≡◌, Bool, ◌||◌, ℕ, ◌+◌, ◌-◌, ◌*◌, ◌≤◌, ◌<◌, List, take, drop, Float}
use Rattle.std.specs.Float.Ieee.{lt}
use Rattle.float.specs.Values.{f0}
use Rattle.grid.specs.Each.{count}
use Rattle.grid.specs.Rect.{Place}
use Rattle.verdict.specs.Window.{at, window}

-- the window of radius r about x and y lies in a map w wide and h high, for which a buffer of n entries has room; so has the centre's row
pub record Room (w h r x y n : ℕ) : Type 0 where
  pub wide : w ≤ 8192
  pub high : h ≤ 8192
  pub left : r ≤ x
  pub right : x + r < w
  pub above : r ≤ y
  pub below : y + r < h
  pub holds : w * h ≤ n
  pub row : y * w + w ≤ n

-- the four nearest of x and y lie in such a map: the rows above and below, by where row y starts
pub record Cross (w x y n : ℕ) : Type 0 where
  pub wide : w ≤ 8192
  pub high : y ≤ 8192
  pub left : 1 ≤ x
  pub right : x + 1 < w
  pub above : 1 ≤ y
  pub up : (y - 1) * w + w ≡ y * w
  pub down : (y + 1) * w ≡ y * w + w
  pub end : y * w + w + w ≤ n

-- one of the four nearest is greater than v, grouped as the code has them
abbrev pub nearest : (ℕ → ℕ → Float) → Float → ℕ → ℕ → Bool
nearest f v x y = ((lt v (f (x - 1) y) || lt v (f (x + 1) y)) || lt v (f x (y - 1))) || lt v (f x (y + 1))

-- r to each side of column x lies in row yy, and the row in a buffer of n entries
pub record RowRoom (w x r yy n : ℕ) : Type 0 where
  pub left : r ≤ x
  pub right : x + r < w
  pub end : yy * w + w ≤ n

-- that part of the row
abbrev pub row_part : List Float → ℕ → ℕ → ℕ → ℕ → List Float
row_part s w x r yy = take (r + r + 1) (drop (yy * w + (x - r)) s)

-- how many values of a window are above zero, the centre counted too
unfoldable pub positives_there : (ℕ → ℕ → Float) → ℕ → Place → ℕ
positives_there f r p = count (λ q. lt f0 (at f q)) (window r p)
