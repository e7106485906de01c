-- `lines::Line::number` meets its contract: a single digit, or the digits before the last and that one behind them. Assumes nothing.
use Rattle.std.proofs.Common.{◌≡◌, refl, ℕ, ◌+◌, ◌≤◌, length}
use Rattle.lines.specs.declared.Line.{Line}
use Rattle.lines.specs.Printed.{numeral}
use Rattle.lines.proofs.Numerals.{single_is, not_single}
use Rattle.lines.proofs.Digits.{Due, last_room, last_is, before_last, push_room, more_is}
use Rattle.lines.proofs.Line.+number.Goals as goal

-- what is known at the start
due : (line : Line) {base least n t : ℕ} → n + least ≡ t
    → (2 ≤ base) × (base ≤ 16) × (line.len + length (numeral base least n) ≤ 64) → Due line base least n t
due line m asked = record { measure = m; two = asked.0; most = asked.1; room = asked.2 }

pub push-requires : goal.push-requires
push-requires t c = last_room (due c.args.self.now c.decreases c.requires) refl (single_is _ _ _ c.if-n-base.true c.if-least-le1.true)

pub returns-then-least-le1 : goal.returns-then-least-le1
returns-then-least-le1 t c =
    last_is (due c.args.self.now c.decreases c.requires) refl (single_is _ _ _ c.if-n-base.true c.if-least-le1.true) c.digit.ensures c.push.ensures

pub number-requires : goal.number-requires
number-requires t c =
    let b = before_last (due c.args.self.now c.decreases c.requires) refl (not_single _ _ _ c.else-n-base.either) c.saturating_sub.ensures in
    (b.0, (b.1, b.2, b.3))

pub push-requires-else-n-base : goal.push-requires-else-n-base
push-requires-else-n-base t c =
    push_room (due c.args.self.now c.decreases c.requires) refl (not_single _ _ _ c.else-n-base.either) c.saturating_sub.ensures c.number.ensures

pub returns-else-n-base : goal.returns-else-n-base
returns-else-n-base t c =
    more_is (due c.args.self.now c.decreases c.requires) refl (not_single _ _ _ c.else-n-base.either) c.saturating_sub.ensures
    c.number.ensures c.digit-else-n-base.ensures c.push-else-n-base.ensures
