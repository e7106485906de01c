-- `steyrbunk_verdict::steyrbunk_verdict` meets its contract: what the rules say with the scan that the numbers give. Assumes nothing.
use Prim.Native.Nat.{ℕ}
use mathlib.Core.Path.{◌≡◌, ap, ◌∙◌}
use mathlib.Core.List.{List}
use lib.Ieee.{Float}
use Rattle.params.specs.declared.settings.RadonDetectorParams.{RadonDetectorParams}
use Rattle.params.specs.Settings.{ray_of}
use Rattle.saddle.specs.declared.SaddleTest.{SaddleTest}
use Rattle.saddle.specs.Saddle.{saddle_numbers}
use Rattle.verdict.specs.declared.Verdict.{Verdict}
use Rattle.verdict.specs.Verdict.{rank}
use Rattle.verdict.specs.Judged.{judged_in}
use Rattle.steyrbunk_verdict.specs.Place.{place_settings, place_verdict}
use Rattle.steyrbunk_verdict.proofs.steyrbunk_verdict.Goals as goal

-- the verdict on a place, by the scan that was made of the call's numbers
verdict-told : (response : List Float) (image : List ℕ) (w h ray nms least : ℕ) (floor : Float) (x y : ℕ)
    {p : RadonDetectorParams} {k : ℕ} {t : SaddleTest} {v : Verdict} {r : ℕ}
    → p ≡ place_settings ray nms least → k ≡ ray_of p.ray_radius → t ≡ saddle_numbers k
    → v ≡ judged_in (record { w = w; h = h; params = p; test = t; floor = floor }) response image x y → r ≡ rank v
    → r ≡ place_verdict response image w h ray nms least floor x y
unfolding place_verdict
verdict-told response image w h ray nms least floor x y e f g d q =
    let test = g ∙ ap saddle_numbers (f ∙ ap (λ (p : RadonDetectorParams). ray_of p.ray_radius) e) in
    q ∙ ap rank (d ∙ (λ i. judged_in (record { w = w; h = h; params = e i; test = test i; floor = floor }) response image x y))

pub returns : goal.returns
returns c =
    let o = c.args in
    verdict-told o.response.now o.image.now o.w o.h o.ray o.nms o.least o.floor o.x o.y
    c.place_settings-params.ensures c.ray_radius_clamped-k.ensures c.new-test.ensures c.judge_at.ensures c.rank.ensures
