-- Sizes that fit, as plain facts: what the private passes ask for, and what a caller shows (proofs/Fits has both ways).
use Rattle.std.specs.Prelude.{ℕ, ◌*◌, ◌≤◌}

-- a map and a buffer to blur it into
pub record FittingMaps (w h r size room : ℕ) : Type 0 where
  pub few : r ≤ 3
  pub wide : w ≤ 8192
  pub high : h ≤ 8192
  pub source : w * h ≤ size
  pub target : w * h ≤ room
