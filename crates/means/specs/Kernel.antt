-- Sums on the way: three rows added in one pass, and the rows of a window that are added so far; and what a pass makes of an entry.
use Rattle.std.specs.Prelude.{◌≡◌, List, ℕ, ◌+◌, ◌-◌, get_or, Float}
use Rattle.std.specs.Float.{nan, binary32}
use Rattle.std.specs.Float.Ieee.{add}
use Rattle.grid.specs.Fold.{fsum}
use Rattle.means.specs.Means.{value_at}

-- v and the entries of three rows in src, w wide, the first of which starts at b
unfoldable pub add_three : Float → List Float → ℕ → ℕ → ℕ → Float
add_three v src w b x = add binary32 (add binary32 (add binary32 v (get_or src (b + x) nan)) (get_or src (b + w + x) nan)) (get_or src (b + w + w + x) nan)

-- column x of the rows from a and below k
abbrev pub rows_from : List Float → ℕ → ℕ → ℕ → ℕ → Float
rows_from src w a k x = fsum (λ i. value_at src w x (a + i)) (k - a)

-- g is what calls give, by their results, for a place and the value there
abbrev pub Makes : (ℕ → Float → Float → Type 0) → (ℕ → Float → Float) → Type 0
Makes gives g = (x : ℕ) (v r : Float) → gives x v r → r ≡ g x v
