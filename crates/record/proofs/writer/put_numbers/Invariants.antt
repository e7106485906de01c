-- `record::writer::put_numbers` meets its contract: a turn puts a number behind those before it. Assumes nothing.
use Rattle.record.proofs.Puts.{Putting}
use Rattle.record.proofs.writer.put_numbers.Given as goal

abbrev pub invariant-loop-i : goal.invariant-loop-i
invariant-loop-i l = Putting l.list l.initial.out l.out l.i
