-- `vectors::room` meets its contract: zeros by definition. Assumes nothing.
use mathlib.Core.Path.{refl}
use Rattle.vectors.specs.Vectors.{zeros}
use Rattle.vectors.proofs.room.Goals as goal

pub returns : goal.returns
unfolding zeros
returns c = refl
