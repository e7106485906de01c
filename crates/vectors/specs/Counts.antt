-- A sum of counts, none of which goes over 2^32, and whether two numbers differ.
use Rattle.std.specs.Prelude.{cond, ℕ, ◌+◌, min, eqb}

abbrev pub most : ℕ
most = 4294967296

abbrev pub sum : ℕ → ℕ → ℕ
sum a b = min (a + b) most

-- 1 where two numbers differ
abbrev pub differs : ℕ → ℕ → ℕ
differs a b = cond (eqb a b) 0 1
