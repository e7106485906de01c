-- `record::writer::put_head` meets its contract: field by field, each behind the one before it. Assumes nothing.
use Rattle.record.specs.Record.{version, stride, following}
use Rattle.record.proofs.Puts.{head-put}
use Rattle.record.proofs.writer.put_head.Goals as goal

pub returns : goal.returns
returns c =
    let o = c.args in
    head-put version (following stride o.count) o.w o.h o.count _ c.requires.0 c.follows.ensures
    c.put_word.ensures c.put_half.ensures c.put_half-2.ensures c.put_word-2.ensures
