-- `scalar::square_root::scaled` meets its contract. Assumes nothing.
use Rattle.scalar.proofs.Quarters.{scales_even, scales_odd}
use Rattle.scalar.proofs.square_root.scaled.Goals as goal

pub returns-then-k-eq0 : goal.returns-then-k-eq0
returns-then-k-eq0 c = scales_even c.args.b c.if-b-lt-FIELD.false c.requires.1 c.if-k-eq0.true

pub returns-else-k-eq0 : goal.returns-else-k-eq0
returns-else-k-eq0 c = scales_odd c.args.b c.if-b-lt-FIELD.false c.requires.1 c.if-k-eq0.false
