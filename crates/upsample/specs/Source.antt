-- The image with what it is made into, as the private passes hand it on.
use Rattle.std.specs.Prelude.{ℕ, List}
use Rattle.std.specs.Borrow.{Bor}
use Rattle.grid.specs.Ways.{pixel}
use Rattle.upsample.specs.Upsample.{work_at}
use Rattle.upsample.specs.declared.Source.{Source}

-- the lent pixels themselves
abbrev pub source_of : Bor (List ℕ) → ℕ → ℕ → ℕ → Source
source_of pixels w h factor = record { pixels = pixels; w = w; h = h; factor = factor }

-- pixel x, y of its working image
abbrev pub working : Source → ℕ → ℕ → ℕ
working s = work_at s.factor (pixel s.pixels.now s.w) s.w s.h
