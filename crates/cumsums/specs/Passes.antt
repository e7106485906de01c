-- What the passes that fill a table ask and promise of the rows above.
use Rattle.std.specs.Prelude.{◌≡◌, List, ℕ, ◌+◌, ◌*◌, ◌≤◌, ◌<◌, length, get_or}
use Rattle.grid.specs.Ways.{Way, pixel}
use Rattle.cumsums.specs.Tables.{table_of}

-- entries a to e - 1 can each take the one that is `back` before: that lies before the run, and is small
pub record Carries (img out : List ℕ) (a e back : ℕ) : Type 0 where
  pub run : a ≤ e
  pub least : (k : ℕ) → a ≤ k → k < e → back ≤ k
  pub apart : e ≤ a + back
  pub image : e ≤ length img
  pub room : e ≤ length out
  pub small : (k : ℕ) → a ≤ k + back → k + back < e → get_or out k 0 ≤ 255 * 8192

-- there is room for row y, and the rows above it are the table's
pub record Above (d : Way) (img : List ℕ) (w y : ℕ) (out : List ℕ) : Type 0 where
  pub wide : w ≤ 8192
  pub high : y < 8192
  pub image : y * w + w ≤ length img
  pub room : y * w + w ≤ length out
  pub done : out ≡ table_of d (pixel img w) w y out
