-- The two cases of the entry's promise: a call that is refused, and one that is not. Assumes nothing.
use mathlib.Core.Path.{◌≡◌, refl, ◌∙◌}
use mathlib.Core.List.{List}
use Prim.Native.Nat.{ℕ, ◌*◌}
use Rattle.std.specs.Prelude.{Result, Ok, Err}
use borrow.Author.Tests.{eq-eqb}
use Rattle.grid.specs.Ways.{pixel}
use Rattle.params.specs.declared.settings.RadonDetectorParams.{RadonDetectorParams}
use Rattle.params.specs.declared.answers.Answer.{Answer}
use Rattle.params.specs.Settings.{factor_of, ray_of}
use Rattle.params.specs.Answers.{number_of}
use Rattle.params.specs.Refusals.{as_result}
use Rattle.params.proofs.Judged.{ok_zero, err_is}
use Rattle.response.specs.declared.Sides.{Sides}
use Rattle.response.specs.Map.{Buffers, mapped_by, mapped_of, map_buffers_of, answered}

module _ (img : List ℕ) (w h : ℕ) (p : RadonDetectorParams) (b : Buffers) where
  pub when_refused : {a : Answer} → Err a ≡ as_result (answered img w h p b)
      → (Err a ≡ mapped_of img w h p b) × (b ≡ map_buffers_of img w h p b)
  unfolding mapped_of map_buffers_of
  when_refused j =
      let i = err_is (answered img w h p b) refl j in
      rw i.1 (rw i.0, refl)

  module _ (j : Ok tt ≡ as_result (answered img w h p b)) where
    pub number_zero : number_of (answered img w h p b) ≡ 0
    number_zero = ok_zero (answered img w h p b) refl j

    pub when_accepted : {factor ray blur : ℕ} → factor ≡ factor_of p.image_upsample → ray ≡ ray_of p.ray_radius
        → blur ≡ p.response_blur_radius
        → {after : Buffers} → after ≡ mapped_by factor ray blur (pixel img w) w h b
        → (◌≡◌ {A = Result Sides Answer} (Ok (record { w = factor * w; h = factor * h })) (mapped_of img w h p b)) × (after ≡ map_buffers_of img w h p b)
    unfolding mapped_of map_buffers_of
    when_accepted f y l u =
        let q = eq-eqb (number_of (answered img w h p b)) 0 number_zero in
        (rw q (λ i. Ok (record { w = f i * w; h = f i * h })), rw q (u ∙ (λ i. mapped_by (f i) (y i) (l i) (pixel img w) w h b)))
