-- `record::writer::write_record` meets its contract: what the judge refuses is left, and all else is put. Assumes nothing.
use Rattle.std.proofs.Common.{sym, ap, ◌∙◌, length}
use Rattle.grid.proofs.Over.{length_over}
use Rattle.record.specs.Record.{version, stride}
use Rattle.record.proofs.Calls.{write_refused, head_may, numbers_may, write_done}
use Rattle.record.proofs.writer.write_record.Goals as goal

pub returns-in-Err-clause-outcome : goal.returns-in-Err-clause-outcome
returns-in-Err-clause-outcome c = (write_refused version stride _ _ _ _ (sym c.judge_list.ensures ∙ c.in-Err.is) c.refusal.ensures).0

pub returns-in-Err-clause-output : goal.returns-in-Err-clause-output
returns-in-Err-clause-output c = (write_refused version stride _ _ _ _ (sym c.judge_list.ensures ∙ c.in-Err.is) c.refusal.ensures).1

pub put_head-requires : goal.put_head-requires
put_head-requires c = head_may stride _ _ (sym c.judge_list.ensures ∙ c.in_default.is)

pub put_numbers-requires : goal.put_numbers-requires
put_numbers-requires c =
    numbers_may stride _ _ (sym c.judge_list.ensures ∙ c.in_default.is) (ap length c.put_head.ensures ∙ length_over _ _)

pub returns-clause-outcome : goal.returns-clause-outcome
returns-clause-outcome c =
    rw (c.from.ensures, c.from-2.ensures)
    (write_done version stride _ _ _ _ (sym c.judge_list.ensures ∙ c.in_default.is) c.put_head.ensures c.put_numbers.ensures c.none.ensures).0

pub returns-clause-output : goal.returns-clause-output
returns-clause-output c =
    (write_done version stride _ _ _ _ (sym c.judge_list.ensures ∙ c.in_default.is) c.put_head.ensures c.put_numbers.ensures c.none.ensures).1
