-- `record::reader::judge_record` meets its contract where the first three stages refuse. Assumes nothing.
use Rattle.std.proofs.Common.{arith}
use Rattle.record.specs.Record.{version, stride}
use Rattle.record.proofs.Taken.{chained}
use Rattle.record.proofs.reader.judge_record.Goals as goal

pub returns-in_err-judge_head : goal.returns-in_err-judge_head
returns-in_err-judge_head c = rw (chained version stride) (grind arith)
