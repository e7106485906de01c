-- Document 01, "Rules of the list": a candidate's square suppression window, what beats the candidate there, and its positive neighbours.
-- A map is a function f: f x y is the value in column x of row y.
use Rattle.std.specs.Prelude.{Bool, not, ◌&&◌, ℕ, ◌+◌, ◌-◌, List, eqb, Float}
use Rattle.std.specs.Float.Ieee.{lt}
use Rattle.float.specs.Values.{f0}
use Rattle.grid.specs.Each.{any, count}
use Rattle.grid.specs.Rect.{Place, rect}

abbrev pub at : (ℕ → ℕ → Float) → Place → Float
at f p = f p.x p.y

-- "its square suppression window": r to each side of p, itself included, in row order
abbrev pub window : ℕ → Place → List Place
window r p = rect (p.x - r) (p.x + r + 1) (p.y - r) (p.y + r + 1)

-- not "no value in its square suppression window is greater"
unfoldable pub beaten : (ℕ → ℕ → Float) → ℕ → Place → Bool
beaten f r p = any (λ q. lt (at f p) (at f q)) (window r p)

abbrev pub same : Place → Place → Bool
same p q = eqb p.x q.x && eqb p.y q.y

-- "the positive values there, itself not counted"
unfoldable pub positives : (ℕ → ℕ → Float) → ℕ → Place → ℕ
positives f r p = count (λ q. lt f0 (at f q) && not (same q p)) (window r p)
