-- `plane w g`: a map that is given by column and row, laid out row by row, w entries a row: entry y * w + x is g x y. Assumes nothing.
use Rattle.std.specs.Prelude.{ℕ, ◌/◌, ◌%◌}

module _ {ℓ} {A : Type ℓ} where
  unfoldable pub plane : ℕ → (ℕ → ℕ → A) → ℕ → A
  plane w g i = g (i % w) (i / w)
