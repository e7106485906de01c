-- `lines::line_at` meets its contract: each way out is a line of the printed ones. Assumes nothing.
use Rattle.std.proofs.Common.{refl, arith}
use Rattle.lines.proofs.Printing.{refusal_number, refused-at, refused_past, listing, first-at, corner_line_lem, full_at}
use Rattle.lines.proofs.Printing.{is_full, not_full, none-at, past_at, shows_as, shows_nothing}
use Rattle.lines.proofs.line_at.Goals.{else-i-corners-2-via-then-i-corners-2+else-eq, else-i-corners-2-via-else-i-corners-2}
use Rattle.lines.proofs.line_at.Goals as goal

pub returns-then-i-eq0 : goal.returns-then-i-eq0
returns-then-i-eq0 c = shows_as c.first.ensures (first-at (listing c.in-Complete.is c.stored-corners.ensures) c.if-i-eq0.true)

pub returns-then-i-corners : goal.returns-then-i-corners
returns-then-i-corners c =
    shows_as c.corner_at.ensures
    (corner_line_lem (listing c.in-Complete.is c.stored-corners.ensures) c.args.i c.if-i-eq0.false c.if-i-corners.true)

pub returns-then-eq : goal.returns-then-eq
returns-then-eq c =
    shows_as c.full.ensures
    (full_at (listing c.in-Complete.is c.stored-corners.ensures) _ (is_full _ c.in-Complete.is c.if-eq.ensures) c.if-i-corners.false (omega (arith, c.if-i-corners-2.true)))

pub returns-else-i-corners-2 : goal.returns-else-i-corners-2
returns-else-i-corners-2 c =
    shows_as (shows_nothing c.empty.ensures) (elim c.else-i-corners-2.branch [
      | else-i-corners-2-via-then-i-corners-2+else-eq w ↦
          none-at (listing c.in-Complete.is c.stored-corners.ensures) _ (not_full _ c.in-Complete.is w.if-eq.ensures) c.if-i-corners.false
      | else-i-corners-2-via-else-i-corners-2 w ↦
          past_at (listing c.in-Complete.is c.stored-corners.ensures) _ (omega (arith, c.if-i-corners.false, w.if-i-corners-2.false))
    ])

pub returns-in_default : goal.returns-in_default
returns-in_default c =
    shows_as c.refused.ensures
    (refused-at _ _ (record { number = c.number.ensures; more = rw c.number.ensures (refusal_number _ c.in_default.not-Complete c.in_default.not-ListFull) }) c.if-i-eq0-2.true)

pub returns-in_default-2 : goal.returns-in_default-2
returns-in_default-2 c =
    shows_as (shows_nothing c.empty-in_default-2.ensures)
    (refused_past _ _ (record { number = refl; more = refusal_number _ c.in_default.not-Complete c.in_default.not-ListFull }) _ c.if-i-eq0-2.false)
