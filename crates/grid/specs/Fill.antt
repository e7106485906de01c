-- `filled n f xs`: xs with its first n entries replaced by f 0 .. f (n - 1), as far as xs goes. What every pass promises of its buffer.
-- A loop that stores an entry a turn keeps `out ≡ filled i f old`, and `fill_step` is its turn. Assumes nothing.
use Rattle.std.specs.Prelude.{ℕ, zero, suc, List, [], ◌∷◌}

module _ {ℓ} {A : Type ℓ} where
  unfoldable pub filled : ℕ → (ℕ → A) → List A → List A
  filled zero f xs = xs
  filled (suc n) f [] = []
  filled (suc n) f (x ∷ xs) = f zero ∷ filled n (λ k. f (suc k)) xs
