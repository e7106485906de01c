-- `lines::lines` meets its contract. Assumes nothing.
use Rattle.std.proofs.Common.{refl, arith}
use Rattle.lines.proofs.Printing.{refusal_number, refused-length, full_length, whole_length}
use Rattle.lines.proofs.lines.Goals as goal

pub returns-in-Complete : goal.returns-in-Complete
returns-in-Complete c =
    whole_length (record { number = refl; few = rw c.in-Complete.is (omega arith); all = c.stored-corners.ensures }) (rw c.in-Complete.is (λ e. omega (arith, e)))

pub returns-in-ListFull : goal.returns-in-ListFull
returns-in-ListFull c =
    full_length (record { number = refl; few = rw c.in-ListFull.is (omega arith); all = c.stored-corners.ensures }) (rw c.in-ListFull.is)

pub returns-in_default : goal.returns-in_default
returns-in_default c = refused-length _ _ (record { number = refl; more = refusal_number _ c.in_default.not-Complete c.in_default.not-ListFull })
