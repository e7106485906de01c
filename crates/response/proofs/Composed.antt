-- The passes one after the other: what they leave in the seven buffers is `mapped_by`. Assumes nothing.
use mathlib.Core.Path.{◌≡◌, sym, ap, ◌∙◌}
use mathlib.Core.Bool.{cond}
use mathlib.Core.List.{List}
use Prim.Native.Nat.{ℕ, ◌*◌, ◌≤◌, ◌<◌}
use native.Mathlib.Nat.{le_refl, le_of_eq}
use native.Mathlib.Omega.{arith}
use lib.ListN.{length}
use lib.Ieee.{Float, nan}
use Rattle.grid.specs.Fill.{filled}
use Rattle.grid.proofs.Fill.{filled-filled, length-fill}
use Rattle.grid.specs.Plane.{plane}
use Rattle.grid.proofs.Plane.{plane_ext, getD_plane, pixel_in}
use Rattle.grid.specs.Ways.{Way, along, down, fall, rise, pixel}
use Rattle.grid.proofs.Ways.{run_ext}
use Rattle.upsample.specs.Upsample.{work_at, up_fits}
use Rattle.upsample.specs.Fitting.{FittingImage}
use Rattle.upsample.proofs.Fits.{up_plain}
use Rattle.cumsums.specs.Tables.{table_of}
use Rattle.rays.specs.Response.{response_at}
use Rattle.rays.specs.Lent.{tabled, rays_of, rays_fit}
use Rattle.rays.proofs.Fit.{Fitted, rays_plain}
use Rattle.cumsums.proofs.Summed.{table_filled}
use Rattle.rays.proofs.Inner.{response_ext}
use Rattle.means.specs.Means.{value_at}
use Rattle.blur.specs.Blur.{blur_at, scratched, blur_fits}
use Rattle.blur.proofs.BlurLaws.{blur_at_ext, scratched_ext}
use Rattle.blur.specs.Fitting.{FittingMaps}
use Rattle.blur.proofs.Fits.{blur_plain}
use Rattle.response.specs.Map.{Buffers, map_lent, raw_at, map_at, mapped_by}
use Rattle.response.proofs.Runs.{Runs, side-most}

-- only the pixels inside count
table_same : (d : Way) (f g : ℕ → ℕ → ℕ) (w h : ℕ) (old : List ℕ) → ((x y : ℕ) → x < w → y < h → f x y ≡ g x y)
    → table_of d f w h old ≡ table_of d g w h old
table_same d f g w h old e =
    table_filled f w d h old ∙ plane_ext w h _ _ old (λ x y u v. run_ext d f g w h x y u v e) ∙ sym (table_filled g w d h old)

module _ (factor ray blur : ℕ) (f : ℕ → ℕ → ℕ) (w h : ℕ) (b : Buffers) where
  abbrev W : ℕ
  W = factor * w

  abbrev H : ℕ
  H = factor * h

  abbrev work : ℕ → ℕ → ℕ
  work = work_at factor f w h

  -- what the working image's buffer has is the working image
  work_at_lem : {working : List ℕ} → working ≡ filled (W * H) (plane W work) b.working → W * H ≤ length b.working
      → (x y : ℕ) → x < W → y < H → pixel working W x y ≡ work x y
  work_at_lem e l x y u v = rw e (getD_plane u (W * H) work b.working y 0 (pixel_in u v) l)

  response-at : {first : List Float} → first ≡ filled (W * H) (plane W (raw_at factor ray f w h)) b.response → W * H ≤ length b.response
      → (x y : ℕ) → x < W → y < H → value_at first W x y ≡ raw_at factor ray f w h x y
  response-at e l x y u v = rw e (getD_plane u (W * H) (raw_at factor ray f w h) b.response y nan (pixel_in u v) l)

  -- the tables and the response of what the buffer has are those of the working image
  rays_is : {working : List ℕ} → working ≡ filled (W * H) (plane W work) b.working → W * H ≤ length b.working
      → rays_of (pixel working W) W H ray (tabled b.row b.col b.falling b.rising b.response)
      ≡ rays_of work W H ray (tabled b.row b.col b.falling b.rising b.response)
  unfolding rays_of
  rays_is {working} e l =
      let at = work_at_lem e l in
      let table : (d : Way) (old : List ℕ) → table_of d (pixel working W) W H old ≡ table_of d work W H old =
      λ d old. table_same d (pixel working W) work W H old at in
      let response = plane_ext W H _ _ b.response (λ x y _ _. response_ext (pixel working W) work W H ray x y at) in
      λ i. tabled (table along b.row i) (table down b.col i) (table fall b.falling i) (table rise b.rising i) (response i)

  -- `first` is the response before the blur, `last` after it
  map_is : {first last : List Float} → first ≡ filled (W * H) (plane W (raw_at factor ray f w h)) b.response → W * H ≤ length b.response
      → last ≡ filled (W * H) (plane W (blur_at (value_at first W) W H blur)) first
      → last ≡ filled (W * H) (plane W (map_at factor ray blur f w h)) b.response
  unfolding map_at
  map_is {first} e l q =
      q
      ∙ plane_ext W H _ _ first (λ x y u v. blur_at_ext (value_at first W) (raw_at factor ray f w h) W H blur x y u v (response-at e l))
      ∙ ap (filled (W * H) _) e
      ∙ filled-filled (W * H) (W * H) _ _ b.response (le_refl _)

  raw_is : {first : List Float} → first ≡ filled (W * H) (plane W (response_at work W H ray)) b.response
      → first ≡ filled (W * H) (plane W (raw_at factor ray f w h)) b.response
  unfolding raw_at
  raw_is e = e

  -- each buffer as its pass leaves it, the response before and after the blur
  left : {working row col falling rising : List ℕ} {first last scratch : List Float}
      → W * H ≤ length b.working → W * H ≤ length b.response
      → working ≡ filled (W * H) (plane W work) b.working
      → tabled row col falling rising first ≡ rays_of (pixel working W) W H ray (tabled b.row b.col b.falling b.rising b.response)
      → last ≡ filled (W * H) (plane W (blur_at (value_at first W) W H blur)) first
      → scratch ≡ scratched (value_at first W) W H blur b.scratch
      → map_lent working row col falling rising last scratch ≡ mapped_by factor ray blur f w h b
  unfolding mapped_by rays_of
  left wl rl e t m s =
      let q = t ∙ rays_is e wl in
      let r = raw_is (λ i. (q i).response) in
      let last = map_is r rl m in
      let scratch = s ∙ scratched_ext _ _ W H blur b.scratch (response-at r rl) in
      λ i. map_lent (e i) (q i).row (q i).col (q i).falling (q i).rising (last i) (scratch i)

-- ---- the three passes as the code has them, for a call that was not refused

module _ {factor ray blur w h image : ℕ} {b : Buffers} (runs : Runs factor ray blur w h image b) (img : List ℕ) (whole : length img ≡ image) where
  wide : factor * w ≤ 8192
  wide = side-most runs.two runs.wide

  high : factor * h ≤ 8192
  high = side-most runs.two runs.high

  pub composed : {working row col falling rising : List ℕ} {first last scratch : List Float}
      → working ≡ cond (up_fits factor w h (length img) (length b.working))
      (filled (factor * w * (factor * h)) (plane (factor * w) (work_at factor (pixel img w) w h)) b.working)
      b.working
      → tabled row col falling rising first ≡ cond
      (rays_fit (factor * w) (factor * h) ray (length working) (tabled b.row b.col b.falling b.rising b.response))
      (rays_of (pixel working (factor * w)) (factor * w) (factor * h) ray (tabled b.row b.col b.falling b.rising b.response))
      (tabled b.row b.col b.falling b.rising b.response)
      → last ≡ cond (blur_fits (factor * w) (factor * h) blur (length first) (length b.scratch))
      (filled (factor * w * (factor * h)) (plane (factor * w) (blur_at (value_at first (factor * w)) (factor * w) (factor * h) blur)) first)
      first
      → scratch ≡ cond (blur_fits (factor * w) (factor * h) blur (length first) (length b.scratch))
      (scratched (value_at first (factor * w)) (factor * w) (factor * h) blur b.scratch)
      b.scratch
      → map_lent working row col falling rising last scratch ≡ mapped_by factor ray blur (pixel img w) w h b
  unfolding rays_of
  composed {working} {row} {col} {falling} {rising} {first} e t m s =
      let image : FittingImage factor w h (length img) = record {
        one = runs.some;
        two = runs.two;
        wide = runs.wide;
        high = runs.high;
        inside = le_of_eq (sym runs.whole ∙ sym whole);
      } in
      let up = up_plain b.working (record { image = image; within = runs.working-room }) e in
      let long : length working ≡ length b.working = length-fill _ _ b.working up in
      let lent = tabled b.row b.col b.falling b.rising b.response in
      let fit : Fitted (factor * w) (factor * h) ray (length working) lent = record {
        short = runs.ray-most;
        wide = wide;
        high = high;
        image = omega (arith, runs.working-room, long);
        row_room = runs.row_room;
        col-room = runs.col-room;
        falling-room = runs.falling-room;
        rising-room = runs.rising-room;
        response-room = runs.response-room;
      } in
      let rays = rays_plain _ _ _ _ _ (pixel working (factor * w)) fit t in
      let room : length first ≡ length b.response = length-fill _ _ b.response (λ i. (rays i).response) in
      let maps : FittingMaps (factor * w) (factor * h) blur (length first) (length b.scratch) = record {
        few = runs.blur_most;
        wide = wide;
        high = high;
        source = omega (arith, runs.response-room, room);
        target = runs.scratch-room;
      } in
      left factor ray blur (pixel img w) w h b runs.working-room runs.response-room up rays
      (blur_plain first maps m)
      (blur_plain b.scratch maps s)
