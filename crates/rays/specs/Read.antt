-- The response as the struct `Cumsums` shows it.
use Rattle.std.specs.Prelude.{ℕ, Float}
use Rattle.rays.specs.Response.{response_at}
use Rattle.rays.specs.Shown.{shown}
use Rattle.rays.specs.declared.rays.Cumsums.{Cumsums}

-- at column x and row y, of the image that the row table shows
abbrev pub read_at : Cumsums → ℕ → ℕ → Float
read_at s x y = response_at (shown s.row.now s.size.w) s.size.w s.size.h s.size.r x y
