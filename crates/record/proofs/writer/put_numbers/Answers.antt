-- `record::writer::put_numbers` meets its contract: a turn puts a number behind those before it. Assumes nothing.
use Rattle.record.proofs.Puts.{putting_none, putting_more}
use Rattle.record.proofs.writer.put_numbers.Goals as goal

pub loop-i-init : goal.loop-i-init
loop-i-init c = putting_none _ _

pub loop-i-preserved : goal.loop-i-preserved
loop-i-preserved c = putting_more _ c.loop-i.invariant c.requires c.loop-i-test.true c.bits.ensures c.put_word.ensures
