-- `response::radon_response_u8` meets its contract: refused, or the three passes one after the other. Assumes nothing.
use Rattle.std.proofs.Common.{◌≡◌, refl, sym, ◌∙◌, length, arith}
use Rattle.std.proofs.lemmas.Grind.{common_steps}
use mir.Facts.{Fits-le, Fits-lit}
use Rattle.std.specs.Prelude.{Ok, Err}
use Rattle.params.specs.Refusals.{as_result}
use Rattle.response.specs.Map.{answered}
use Rattle.response.specs.Work.{map_now}
use Rattle.response.proofs.Runs.{Runs, runs_of, side-most}
use Rattle.response.proofs.Composed.{composed}
use Rattle.response.proofs.Cases.{number_zero, when_refused, when_accepted}
use Rattle.response.proofs.radon_response_u8.Goals.{After-ray_radius_clamped-ray, In_err-judge_map_call, In_ok-judge_map_call}
use Rattle.response.proofs.radon_response_u8.Goals as goal

-- what the judge said
refusal : (c : In_err-judge_map_call)
    → let p = c.args in
    Err c.in_err-judge_map_call.field-0.0 ≡ as_result (answered p.img.now p.w p.h p.p (map_now p.work.now))
refusal c = rw c.room.ensures at (sym c.in_err-judge_map_call.was ∙ c.judge_map_call.ensures)

passes : (c : In_ok-judge_map_call) → let p = c.args in Ok tt ≡ as_result (answered p.img.now p.w p.h p.p (map_now p.work.now))
passes c = rw c.room.ensures at (sym c.in_ok-judge_map_call.was ∙ c.judge_map_call.ensures)

-- what the passes ask of the call, which is not refused
runs : (c : After-ray_radius_clamped-ray)
    → let p = c.args in
    Ok tt ≡ as_result (answered p.img.now p.w p.h p.p (map_now p.work.now))
    → Runs c.image_upsample_clamped-factor.result c.ray_radius_clamped-ray.result p.p.response_blur_radius p.w p.h
    (length p.img.now) (map_now p.work.now)
runs c j =
    let p = c.args in
    runs_of p.w p.h p.p (length p.img.now) (map_now p.work.now) c.image_upsample_clamped-factor.ensures
    c.ray_radius_clamped-ray.ensures refl (number_zero p.img.now p.w p.h p.p (map_now p.work.now) j)

pub returns-in_err-judge_map_call-clause-answer : goal.returns-in_err-judge_map_call-clause-answer
returns-in_err-judge_map_call-clause-answer c =
    let o = c.args in
    let q = (when_refused o.img.now o.w o.h o.p (map_now o.work.now)
    (refusal (goal.at.returns-in_err-judge_map_call-clause-answer c).In_err-judge_map_call)).0 in
    grind (arith, common_steps, q)

pub returns-in_err-judge_map_call-clause-buffers : goal.returns-in_err-judge_map_call-clause-buffers
returns-in_err-judge_map_call-clause-buffers c =
    let o = c.args in
    (when_refused o.img.now o.w o.h o.p (map_now o.work.now)
    (refusal (goal.at.returns-in_err-judge_map_call-clause-buffers c).In_err-judge_map_call)).1

pub overflow_mul-ww : goal.overflow_mul-ww
overflow_mul-ww c =
    let r = runs (goal.at.overflow_mul-ww c).After-ray_radius_clamped-ray (passes (goal.at.overflow_mul-ww c).In_ok-judge_map_call) in
    Fits-le (side-most r.two r.wide) (Fits-lit tt)

pub overflow_mul-wh : goal.overflow_mul-wh
overflow_mul-wh c =
    let r = runs (goal.at.overflow_mul-wh c).After-ray_radius_clamped-ray (passes (goal.at.overflow_mul-wh c).In_ok-judge_map_call) in
    Fits-le (side-most r.two r.high) (Fits-lit tt)

pub returns-clause-answer : goal.returns-clause-answer
returns-clause-answer c =
    let o = c.args in
    let j = passes (goal.at.returns-clause-answer c).In_ok-judge_map_call in
    (when_accepted o.img.now o.w o.h o.p (map_now o.work.now) j
    c.image_upsample_clamped-factor.ensures c.ray_radius_clamped-ray.ensures refl
    (composed (runs (goal.at.returns-clause-answer c).After-ray_radius_clamped-ray j) o.img.now refl c.upsample.ensures c.ray_response.ensures.filled
    c.box_blur_inplace.ensures.resp_after c.box_blur_inplace.ensures.scratch_after)).0

pub returns-clause-buffers : goal.returns-clause-buffers
returns-clause-buffers c =
    let o = c.args in
    let j = passes (goal.at.returns-clause-buffers c).In_ok-judge_map_call in
    let q = (when_accepted o.img.now o.w o.h o.p (map_now o.work.now) j
    c.image_upsample_clamped-factor.ensures c.ray_radius_clamped-ray.ensures refl
    (composed (runs (goal.at.returns-clause-buffers c).After-ray_radius_clamped-ray j) o.img.now refl c.upsample.ensures c.ray_response.ensures.filled
    c.box_blur_inplace.ensures.resp_after c.box_blur_inplace.ensures.scratch_after)).1 in
    let e = c.ray_response.ensures.same in
    grind (arith, common_steps, q, e.row, e.col, e.falling, e.rising)
