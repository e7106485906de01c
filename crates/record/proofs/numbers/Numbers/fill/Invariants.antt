-- `record::numbers::Numbers::fill` meets its contract: a turn stores a number of the record. Assumes nothing.
use Rattle.grid.proofs.Loops.{Line}
use Rattle.record.specs.Record.{number_in}
use Rattle.record.proofs.numbers.Numbers.fill.Given as goal

abbrev pub invariant-loop-i : goal.invariant-loop-i
invariant-loop-i l = Line l.i-end (number_in l.self.file.now) l.initial.list l.list l.i
