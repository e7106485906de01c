-- Places in row order: `rect ax ex ay ey` lists each (x, y) with ax ≤ x < ex and ay ≤ y < ey, a row at a time.
-- `for y in ay..ey { for x in ax..ex { .. } }` has passed `rect ax ex ay y` at the head of the outer loop and `before
-- ax ex ay x y` at that of the inner:
-- `Down` and `Across` are their invariants over any state. Assumes nothing.
use Rattle.std.specs.Prelude.{ℕ, zero, suc, ◌-◌, List, [], ◌∷◌}
use Rattle.grid.specs.Each.{each}

pub record Place : Type 0 where
  pub x : ℕ
  pub y : ℕ

abbrev pub place : ℕ → ℕ → Place
place x y = record { x = x; y = y }

-- a, a + 1, .. : n numbers
unfoldable pub from : ℕ → ℕ → List ℕ
from a zero = []
from a (suc n) = a ∷ from (suc a) n

-- a .. e - 1
unfoldable pub range : ℕ → ℕ → List ℕ
range a e = from a (e - a)

-- the places of a row
unfoldable pub line : ℕ → ℕ → ℕ → List Place
line ax ex y = each (λ x. place x y ∷ []) (range ax ex)

unfoldable pub rect : ℕ → ℕ → ℕ → ℕ → List Place
rect ax ex ay ey = each (λ y. line ax ex y) (range ay ey)
