-- The tables. "The tables hold running sums along rows, columns, falling diagonals (from x−1, y−1) and rising ones (from x+1, y−1)."
use Rattle.std.specs.Prelude.{cond, List, ℕ, zero, suc, ◌+◌, ◌*◌, ltb}
use Rattle.grid.specs.Fill.{filled}
use Rattle.grid.specs.Plane.{plane}
use Rattle.grid.specs.Ways.{Way, along, down, fall, rise}

-- what a table of the image f, w wide, has for the pixel x and y: nothing comes from before the first column or row, or past the last column
unfoldable pub table_at : Way → (ℕ → ℕ → ℕ) → ℕ → ℕ → ℕ → ℕ
table_at along f w zero y = f zero y
table_at along f w (suc x) y = table_at along f w x y + f (suc x) y
table_at down f w x zero = f x zero
table_at down f w x (suc y) = table_at down f w x y + f x (suc y)
table_at fall f w zero y = f zero y
table_at fall f w (suc x) zero = f (suc x) zero
table_at fall f w (suc x) (suc y) = table_at fall f w x y + f (suc x) (suc y)
table_at rise f w x zero = f x zero
table_at rise f w x (suc y) = cond (ltb (suc x) w) (table_at rise f w (suc x) y) 0 + f x (suc y)

-- a buffer with the first h rows of a table
abbrev pub table_of : Way → (ℕ → ℕ → ℕ) → ℕ → ℕ → List ℕ → List ℕ
table_of d f w h old = filled (w * h) (plane w (table_at d f w)) old
