-- The reader's first three refusals, each by itself, as its code judges them; `read_refusal` is the chain of all.
use Rattle.std.specs.Prelude.{not, ◌||◌, cond, List, ℕ, ◌-◌, ltb, eqb, length}
use Rattle.big_endian.specs.BigEndian.{byte_at}
use Rattle.params.specs.declared.answers.Answer.{Answer}
use Rattle.params.specs.declared.answers.Answer.TheVariants.{Complete, RecordLength, RecordVersion, CornerCount}
use Rattle.params.specs.Refusals.{or_else}
use Rattle.record.specs.Record.{most, head, following, stated_in, count_in}

unfoldable pub length_refusal : List ℕ → Answer
length_refusal file = cond (ltb (length file) head || not (eqb (stated_in file) (length file - 5))) RecordLength Complete

unfoldable pub version_refusal : ℕ → List ℕ → Answer
version_refusal v file = cond (not (eqb (byte_at file 0) v)) RecordVersion Complete

unfoldable pub count_refusal : ℕ → List ℕ → Answer
count_refusal k file = cond (not (eqb (stated_in file) (following k (count_in file))) || ltb most (count_in file)) CornerCount Complete

abbrev pub head_refusal : ℕ → ℕ → List ℕ → Answer
head_refusal v k file = or_else (length_refusal file) (or_else (version_refusal v file) (count_refusal k file))
