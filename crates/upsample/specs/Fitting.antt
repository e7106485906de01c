-- Sizes that fit, as plain facts: what the private passes ask for, and what a caller shows (proofs/Fits has both ways).
use Rattle.std.specs.Prelude.{ℕ, ◌*◌, ◌≤◌, ◌<◌}

pub record FittingImage (factor w h pixels : ℕ) : Type 0 where
  pub one : 1 ≤ factor
  pub two : factor ≤ 2
  pub wide : w ≤ 4096
  pub high : h ≤ 4096
  pub inside : w * h ≤ pixels

-- for working row y
pub record FittingRow (factor w h y pixels room : ℕ) : Type 0 where
  pub image : FittingImage factor w h pixels
  pub row : y < factor * h
  pub within : factor * w ≤ room

-- for all of them
pub record FittingAll (factor w h pixels room : ℕ) : Type 0 where
  pub image : FittingImage factor w h pixels
  pub within : factor * w * (factor * h) ≤ room
