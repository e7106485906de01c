-- What the response's functions ask of the four tables, and what they promise by them: the tables alone show the image that they are of.
use Rattle.std.specs.Prelude.{◌≡◌, cond, List, ℕ, zero, suc, ◌+◌, ◌-◌, ◌*◌, ◌≤◌, ◌<◌, ltb, leb, length, get_or, Float}
use Rattle.grid.specs.Ways.{along, down, fall, rise, Holds, Deep}
use Rattle.rays.specs.declared.Size.{Size}

-- each entry of the row table less the one before it
unfoldable pub shown : List ℕ → ℕ → ℕ → ℕ → ℕ
shown row w zero y = get_or row (y * w + zero) 0
shown row w (suc x) y = get_or row (y * w + suc x) 0 - get_or row (y * w + x) 0

-- the tables of one image, whose pixels are at most 4,095
pub record Held (w h : ℕ) (row col falling rising : List ℕ) : Type 0 where
  pub wide : w ≤ 8192
  pub high : h ≤ 8192
  pub row-long : w * h ≤ length row
  pub col-long : w * h ≤ length col
  pub falling-long : w * h ≤ length falling
  pub rising-long : w * h ≤ length rising
  pub most : (x y : ℕ) → x < w → y < h → shown row w x y ≤ 4095
  pub rows : Holds along (shown row w) w h row
  pub columns : Holds down (shown row w) w h col
  pub falls : Holds fall (shown row w) w h falling
  pub rises : Holds rise (shown row w) w h rising

-- what a table has at column x and row y, counted from 1: 0 past the edge
unfoldable pub entry_at : List ℕ → ℕ → ℕ → ℕ → ℕ
entry_at t w x y = cond (ltb 0 x) (cond (ltb 0 y) (cond (leb x w) (get_or t ((y - 1) * w + (x - 1)) 0) 0) 0) 0

-- two entries of one line, the first of which is no greater
pub record Between (t : List ℕ) (w x0 y0 x1 y1 : ℕ) : Type 0 where
  pub wide : w ≤ 8192
  pub high : (y0 ≤ 8192) × (y1 ≤ 8192)
  pub long : (w * y0 ≤ length t) × (w * y1 ≤ length t)
  pub least : entry_at t w x0 y0 ≤ entry_at t w x1 y1

-- the columns a to e - 1 of row y are deep in the image
abbrev pub AllDeep : Size → ℕ → ℕ → ℕ → Type 0
AllDeep s y a e = (x : ℕ) → a ≤ x → x < e → Deep s.w s.h s.r x y

-- g is what calls give, by their results, for the columns a to e - 1
abbrev pub Computes : (ℕ → Float → Type 0) → (ℕ → Float) → ℕ → ℕ → Type 0
Computes gives g a e = (x : ℕ) (v : Float) → a ≤ x → x < e → gives x v → v ≡ g x
