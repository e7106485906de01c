-- `span a n g xs`: xs with the n entries from a on replaced by g a, g (a + 1), .., as far as xs goes. What a run within a buffer leaves.
-- A loop `for i in a..e { out[i] = v; }` keeps `Spanning`. Assumes nothing.
use Rattle.std.specs.Prelude.{ℕ, zero, suc, List, [], ◌∷◌}
use Rattle.grid.specs.Fill.{filled}

module _ {ℓ} {A : Type ℓ} where
  unfoldable pub span : ℕ → ℕ → (ℕ → A) → List A → List A
  span zero n g xs = filled n g xs
  span (suc a) n g [] = []
  span (suc a) n g (x ∷ xs) = x ∷ span a n (λ k. g (suc k)) xs
