-- `record::reader::read_record` meets its contract: what the judge refuses is left, and all else is read. Assumes nothing.
use Rattle.std.proofs.Common.{sym, ◌∙◌}
use Rattle.record.specs.Record.{version, stride}
use Rattle.record.proofs.Calls.{read_refused, fill_may, read_done}
use Rattle.record.proofs.reader.read_record.Goals as goal

pub returns-in-Err-clause-outcome : goal.returns-in-Err-clause-outcome
returns-in-Err-clause-outcome c = (read_refused version stride _ _ (sym c.judge_record.ensures ∙ c.in-Err.is) c.refusal.ensures).0

pub returns-in-Err-clause-list : goal.returns-in-Err-clause-list
returns-in-Err-clause-list c = (read_refused version stride _ _ (sym c.judge_record.ensures ∙ c.in-Err.is) c.refusal.ensures).1

pub fill-requires : goal.fill-requires
fill-requires c = fill_may version stride _ _ (sym c.judge_record.ensures ∙ c.in_default.is) c.numbers_in-numbers.ensures.corners

pub returns-clause-outcome : goal.returns-clause-outcome
returns-clause-outcome c =
    (read_done version stride _ _ (sym c.judge_record.ensures ∙ c.in_default.is)
    c.numbers_in-numbers.ensures.corners c.half_at.ensures.0 c.half_at-2.ensures.0 (rw c.numbers_in-numbers.ensures.file at c.fill.ensures) c.none.ensures).0

pub returns-clause-list : goal.returns-clause-list
returns-clause-list c =
    (read_done version stride _ _ (sym c.judge_record.ensures ∙ c.in_default.is)
    c.numbers_in-numbers.ensures.corners c.half_at.ensures.0 c.half_at-2.ensures.0 (rw c.numbers_in-numbers.ensures.file at c.fill.ensures) c.none.ensures).1
