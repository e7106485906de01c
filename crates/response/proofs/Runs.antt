-- What the passes ask of a call: limits, and room in each buffer; and that a call which is not refused has them. Assumes nothing.
use mathlib.Core.Path.{◌≡◌, ap}
use Prim.Native.Nat.{ℕ, ◌*◌, ◌≤◌, ◌<◌, min}
use native.Mathlib.Nat.{le_trans, le_of_eq, min-le_left, min-le_right, mul-le-mul}
use native.Mathlib.Omega.{arith}
use lib.ListN.{length}
use Rattle.params.specs.declared.settings.RadonDetectorParams.{RadonDetectorParams}
use Rattle.params.specs.Settings.{factor_of, ray_of}
use Rattle.params.specs.Answers.{number_of}
use Rattle.params.specs.Refusals.{map_refusal_of}
use Rattle.params.proofs.Accepted.{map_accepted}
use Rattle.response.specs.Map.{Buffers, room_of, side_of}

pub record Runs (factor ray blur w h image : ℕ) (b : Buffers) : Type 0 where
  pub some : 0 < factor
  pub two : factor ≤ 2
  pub ray-most : ray ≤ 7
  pub blur_most : blur ≤ 3
  pub wide : w ≤ 4096
  pub high : h ≤ 4096
  pub whole : image ≡ w * h
  pub working-room : factor * w * (factor * h) ≤ length b.working
  pub row_room : factor * w * (factor * h) ≤ length b.row
  pub col-room : factor * w * (factor * h) ≤ length b.col
  pub falling-room : factor * w * (factor * h) ≤ length b.falling
  pub rising-room : factor * w * (factor * h) ≤ length b.rising
  pub response-room : factor * w * (factor * h) ≤ length b.response
  pub scratch-room : factor * w * (factor * h) ≤ length b.scratch

-- no working side passes 8,192
pub side-most : {factor n : ℕ} → factor ≤ 2 → n ≤ 4096 → factor * n ≤ 8192
side-most u v = mul-le-mul u v

-- n is at most each of two
both : {n a b : ℕ} → n ≤ min a b → (n ≤ a) × (n ≤ b)
both {n} {a} {b} l = (le_trans l (min-le_left a b), le_trans l (min-le_right a b))

module _ (w h : ℕ) (p : RadonDetectorParams) (image : ℕ) (b : Buffers) where
  -- at the factor, the ray radius and the blur radius that are used
  pub runs_of : {factor ray blur : ℕ} → factor ≡ factor_of p.image_upsample → ray ≡ ray_of p.ray_radius → blur ≡ p.response_blur_radius
      → number_of (map_refusal_of w h image p (room_of b)) ≡ 0 → Runs factor ray blur w h image b
  runs_of {factor} {ray} {blur} ef er eb e =
      let passed = map_accepted w h image p (room_of b) e in
      let sizes = passed.0 in
      let settings = passed.1 in
      let n : factor * w * (factor * h) ≡ side_of w p * side_of h p = ap (λ (k : ℕ). k * w * (k * h)) ef in
      let room : factor * w * (factor * h) ≤ room_of b = le_trans (le_of_eq n) passed.2 in
      let a = both room in
      let c = both a.1 in
      let tables = both c.0 in
      let one = both tables.0 in
      let two = both tables.1 in
      let floats = both c.1 in
      record {
        some = omega arith;
        two = omega arith;
        ray-most = omega (arith, settings.ray);
        blur_most = omega (arith, settings.blur);
        wide = sizes.wide;
        high = sizes.high;
        whole = sizes.whole;
        working-room = a.0;
        row_room = one.0;
        col-room = one.1;
        falling-room = two.0;
        rising-room = two.1;
        response-room = floats.0;
        scratch-room = floats.1;
      }
