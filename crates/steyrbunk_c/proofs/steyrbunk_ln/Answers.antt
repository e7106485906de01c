-- `steyrbunk_c::steyrbunk_ln` meets its contract: 0 / 0 is NaN. Assumes nothing.
use Rattle.std.proofs.Common.{◌∙◌}
use lib.Ieee.{div, of_bits}
use Rattle.steyrbunk_c.proofs.steyrbunk_ln.Goals as goal

pub returns : goal.returns
unfolding div of_bits
returns c = c.unwrap_or.ensures ∙ rw c.ln.ensures.value
