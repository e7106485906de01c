-- The map's own entry goes by three settings: whatever the others are, it reports and leaves what it does with the defaults. Assumes nothing.
use mathlib.Core.Path.{◌≡◌, refl}
use mathlib.Core.List.{List}
use Prim.Native.Nat.{ℕ}
use Rattle.params.specs.declared.settings.RadonDetectorParams.{RadonDetectorParams}
use Rattle.params.specs.Refusals.{map_refusal, map_refusal_of}
use Rattle.response.specs.Map.{Buffers, mapped_of, map_buffers_of}
use Rattle.steyrbunk_c.specs.Called.{map_settings}

module _ (img : List ℕ) (w h : ℕ) (b : Buffers) (p : RadonDetectorParams) where
  abbrev only : RadonDetectorParams
  only = map_settings p.ray_radius p.image_upsample p.response_blur_radius

  pub others_unreported : mapped_of img w h p b ≡ mapped_of img w h only b
  unfolding mapped_of map_refusal_of map_refusal
  others_unreported = refl

  pub others_unwritten : map_buffers_of img w h p b ≡ map_buffers_of img w h only b
  unfolding map_buffers_of map_refusal_of map_refusal
  others_unwritten = refl
