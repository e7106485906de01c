-- `radon::radon_corners_u8` meets its contract: refused, or the map and then the list. Assumes nothing.
use Rattle.std.proofs.Common.{◌≡◌}
use Rattle.std.specs.Prelude.{Ok, Err}
use Rattle.params.specs.Refusals.{as_result}
use Rattle.radon.specs.Finder.{lent_now, answered}
use Rattle.radon.proofs.Cases.{when_refused, when_accepted, map-not-refused}
use Rattle.radon.proofs.radon_corners_u8.Goals.{In-Err, In_default, In-Err-radon_response_u8}
use Rattle.radon.proofs.radon_corners_u8.Goals as goal

-- what the judge said
refusal : (c : In-Err) → let o = c.args in
    Err c.in-Err.answer ≡ as_result (answered o.img.now o.w o.h o.p (lent_now o.work.now o.list.now))
refusal c = rw c.room.ensures at c.in-Err.ensures

passes : (c : In_default) → let o = c.args in
    Ok tt ≡ as_result (answered o.img.now o.w o.h o.p (lent_now o.work.now o.list.now))
passes c = rw c.room.ensures at c.in_default.ensures

pub returns-in-Err-clause-answer : goal.returns-in-Err-clause-answer
returns-in-Err-clause-answer c =
    let o = c.args in
    (when_refused o.img.now o.w o.h o.p (lent_now o.work.now o.list.now) (refusal (goal.at.returns-in-Err-clause-answer c).In-Err) c.refusal.ensures).0

pub returns-in-Err-clause-buffers : goal.returns-in-Err-clause-buffers
returns-in-Err-clause-buffers c =
    let o = c.args in
    (when_refused o.img.now o.w o.h o.p (lent_now o.work.now o.list.now) (refusal (goal.at.returns-in-Err-clause-buffers c).In-Err) c.refusal.ensures).1

-- the map's entry refuses nothing that the finder's judge let pass
not-refused : In-Err-radon_response_u8 → ⊥
not-refused c =
    let o = c.args in
    map-not-refused o.img.now o.w o.h o.p (lent_now o.work.now o.list.now) (rw c.room.ensures at c.in_default.ensures)
    c.in-Err-radon_response_u8.ensures.answer

pub returns-in-Err-radon_response_u8-clause-answer : goal.returns-in-Err-radon_response_u8-clause-answer
returns-in-Err-radon_response_u8-clause-answer c =
    absurd (not-refused (goal.at.returns-in-Err-radon_response_u8-clause-answer c).In-Err-radon_response_u8)

pub returns-in-Err-radon_response_u8-clause-buffers : goal.returns-in-Err-radon_response_u8-clause-buffers
returns-in-Err-radon_response_u8-clause-buffers c =
    absurd (not-refused (goal.at.returns-in-Err-radon_response_u8-clause-buffers c).In-Err-radon_response_u8)

pub returns-clause-answer : goal.returns-clause-answer
returns-clause-answer c =
    let o = c.args in
    let map = c.in-Ok.ensures in
    let list = c.detect_peaks_from_radon.ensures in
    (when_accepted o.img.now o.w o.h o.p (lent_now o.work.now o.list.now) (passes (goal.at.returns-clause-answer c).In_default)
    map.answer map.buffers list.answer list.written).0

pub returns-clause-buffers : goal.returns-clause-buffers
returns-clause-buffers c =
    let o = c.args in
    let map = c.in-Ok.ensures in
    let list = c.detect_peaks_from_radon.ensures in
    (when_accepted o.img.now o.w o.h o.p (lent_now o.work.now o.list.now) (passes (goal.at.returns-clause-buffers c).In_default)
    map.answer map.buffers list.answer list.written).1
