-- How true the blurred map is. Document 02, ticket 12: "let E be the whole-number sum of unblurred responses in the pixel's window and N the
-- pixels in that window. The blurred f32 times N differs from E by at most E divided by 2^20. State it over whole numbers."
use Rattle.std.specs.Prelude.{false, cond, List, [], ◌∷◌, ℕ, ◌+◌, ◌-◌, ◌*◌, ◌^◌, ◌≤◌, min, length, Float}
use Rattle.std.specs.Float.Ieee.Exact.{HasValue}
use Rattle.std.specs.Float.Ieee.Positive.{num, den}
use Rattle.grid.specs.Rect.{Place, rect}
use Rattle.rays.specs.Response.{ray_spread, within}

-- "unblurred responses" as whole numbers: (largest − smallest)² of the rays in an image f, and 0 nearer than r to an edge
unfoldable pub whole_at : (ℕ → ℕ → ℕ) → ℕ → ℕ → ℕ → ℕ → ℕ → ℕ
whole_at f w h r x y = cond (within w h r x y) (ray_spread f r x y * ray_spread f r x y) 0

-- "the pixel's window": the pixels of a map that are in column and row no further than r from x and y; so it is cut at the edges
unfoldable pub window : ℕ → ℕ → ℕ → ℕ → ℕ → List Place
window w h r x y = rect (x - r) (min (x + r + 1) w) (y - r) (min (y + r + 1) h)

-- "the whole-number sum" over such a list
unfoldable pub total : (ℕ → ℕ → ℕ) → List Place → ℕ
total g [] = 0
total g (p ∷ l) = g p.x p.y + total g l

-- by how much two whole numbers differ
abbrev pub apart : ℕ → ℕ → ℕ
apart a b = a - b + (b - a)

-- "2^20"
abbrev pub part : ℕ
part = 2 ^ 20

-- "The blurred f32 times N differs from E by at most E divided by 2^20": v is a number without a sign, the fraction num v / den v, and both
-- sides are multiplied by den v and by 2^20
pub record Truthful (E N : ℕ) (v : Float) : Type 0 where
  pub number : HasValue v false (num v) (den v)
  pub close : apart (num v * N) (E * den v) * part ≤ E * den v

-- the same with E and N of the window about x and y in a map of whole numbers g, w wide and h high
abbrev pub TrueTo : (ℕ → ℕ → ℕ) → ℕ → ℕ → ℕ → ℕ → ℕ → Float → Type 0
TrueTo g w h r x y v = Truthful (total g (window w h r x y)) (length (window w h r x y)) v
