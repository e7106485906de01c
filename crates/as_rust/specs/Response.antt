-- radon/response.rs, with or without the feature radon-sat-u32, but for what runs only with rayon or simd, serde and `to_response_map`.
-- `debug_assert_eq!` is no part of a release build; what it asks of lengths holds (`Sized` of proofs/Map).
use Rattle.std.specs.Prelude.{Bool, not, cond, ◌&&◌, ◌||◌, ℕ, ◌+◌, ◌-◌, ◌*◌, ◌^◌, min, max, ltb, leb, eqb, length, ℤ, pos, ◌+ℤ◌, ◌-ℤ◌, Float}
use mathlib.Core.List.{List, [], ◌∷◌, foldl}
use Rattle.params.specs.declared.settings.RadonDetectorParams.{RadonDetectorParams}
use Rattle.params.specs.declared.settings.PeakFitMode.TheVariants.{Gaussian}
use Rattle.as_rust.specs.Machine.{Machine, ◌⊕◌, ◌⊖◌, ◌⊗◌, lit_0, lit_1, lit_half, lit_255, lit_0·28, floor, rounded}
use Rattle.as_rust.specs.Machine.{clamp, ltℤ, maxℤ, sat, usize, less, as_usize, as_f32, as_f32-signed, to_isize}
use Rattle.as_rust.specs.Machine.{to_u8, byte_at, entry-at, put, copy_from_slice, resize, for, chunks}
use Rattle.as_rust.specs.Primitives.{box_blur_inplace}

-- 38-41: `SatElem` is sat, `SatElem::default()` is 0 and `SatElem::from(b)` the byte b

-- 51-78: `RadonDetectorParams` is the settings' own record, by the same names. 80-92 and 106-116: its `default()`
abbrev pub default : RadonDetectorParams
default = record {
  ray_radius = 4;
  image_upsample = 2;
  response_blur_radius = 1;
  peak_fit = Gaussian;
  threshold_rel = lit_0·28;
  nms_radius = 4;
  min_cluster_size = 2;
}

-- 98
abbrev pub MAX_IMAGE_UPSAMPLE : ℕ
MAX_IMAGE_UPSAMPLE = 2

-- 122-124: `Ord::clamp`
abbrev pub image_upsample_clamped : RadonDetectorParams → ℕ
image_upsample_clamped p =
    let x = p.image_upsample in
    cond (ltb x 1) 1 (cond (ltb MAX_IMAGE_UPSAMPLE x) MAX_IMAGE_UPSAMPLE x)

-- 127-129
abbrev pub ray_radius_clamped : RadonDetectorParams → ℕ
ray_radius_clamped p = max p.ray_radius 1

-- 137-151. `peak_scratch`, the covariance's, is left out.
pub record RadonBuffers : Type 0 where
  pub working : List ℕ
  pub working_w : ℕ
  pub working_h : ℕ
  pub row_cumsum : List ℤ
  pub col_cumsum : List ℤ
  pub diag_pos_cumsum : List ℤ
  pub diag_neg_cumsum : List ℤ
  pub response : List Float
  pub blur_scratch : List Float

-- 155-157
abbrev pub new : RadonBuffers
new = record {
  working = [];
  working_w = 0;
  working_h = 0;
  row_cumsum = [];
  col_cumsum = [];
  diag_pos_cumsum = [];
  diag_neg_cumsum = [];
  response = [];
  blur_scratch = [];
}

-- 159-173
unfoldable pub ensure_capacity : Machine → RadonBuffers → ℕ → ℕ → ℕ → RadonBuffers
unfolding resize
ensure_capacity m self input-w input-h upsample =
    let up = max upsample 1 in
    let ww = usize m (input-w * up) in
    let wh = usize m (input-h * up) in
    let n = usize m (ww * wh) in
    record {
      working = resize self.working n 0;
      working_w = ww;
      working_h = wh;
      row_cumsum = resize self.row_cumsum n (pos 0);
      col_cumsum = resize self.col_cumsum n (pos 0);
      diag_pos_cumsum = resize self.diag_pos_cumsum n (pos 0);
      diag_neg_cumsum = resize self.diag_neg_cumsum n (pos 0);
      response = resize self.response n lit_0;
      blur_scratch = resize self.blur_scratch n lit_0;
    }

-- 190-204, the inner loop's body of the closure `row_kernel`: what it stores in `*out_px`
unfoldable pub out_px : Machine → List ℕ → ℕ → ℕ → ℕ → Float → ℕ → ℕ
out_px m src w y0 y1 ty ix =
    let sx = as_f32 ix ⊗ lit_half in
    let x0f = floor sx in
    let x0 = as_usize (maxℤ (to_isize x0f) (pos 0)) in
    let x1 = min (usize m (x0 + 1)) (less m w 1) in
    let tx = clamp (sx ⊖ x0f) lit_0 lit_1 in
    let i00 = as_f32 (byte_at m src (y0 * w + x0)) in
    let i10 = as_f32 (byte_at m src (y0 * w + x1)) in
    let i01 = as_f32 (byte_at m src (y1 * w + x0)) in
    let i11 = as_f32 (byte_at m src (y1 * w + x1)) in
    let a = i00 ⊕ (i10 ⊖ i00) ⊗ tx in
    let b = i01 ⊕ (i11 ⊖ i01) ⊗ tx in
    let v = a ⊕ (b ⊖ a) ⊗ ty in
    to_u8 (clamp (rounded v) lit_0 lit_255)

-- 184-205, the closure `row_kernel`: dst is the part of out from `at` on, n bytes; `src`, `w` and `h` are the function's
unfoldable pub row_kernel : Machine → List ℕ → ℕ → ℕ → ℕ → ℕ → ℕ → List ℕ → List ℕ
row_kernel m src w h iy at n dst =
    let sy = as_f32 iy ⊗ lit_half in
    let y0f = floor sy in
    let y0 = as_usize (maxℤ (to_isize y0f) (pos 0)) in
    let y1 = min (usize m (y0 + 1)) (less m h 1) in
    let ty = clamp (sy ⊖ y0f) lit_0 lit_1 in
    for 0 n (λ ix dst. put dst (at + ix) (out_px m src w y0 y1 ty ix)) dst

-- 176-219
unfoldable pub upsample_bilinear_2x : Machine → List ℕ → ℕ → ℕ → List ℕ → List ℕ
upsample_bilinear_2x m src w h out =
    cond (eqb w 0 || eqb h 0) out
    (let ww = usize m (2 * w) in
    chunks ww (λ iy at n out. row_kernel m src w h iy at n out) out)

-- 222-231
unfoldable pub sat-row : Machine → List ℕ → ℕ → ℕ → List ℤ → List ℤ
sat-row m img w h row_cumsum =
    for 0 h (λ y row_cumsum.
    (for {S = ℤ × List ℤ} 0 w (λ x s.
    let acc = sat m (s.0 +ℤ pos (byte_at m img (y * w + x))) in
    (acc, put s.1 (y * w + x) acc)) (pos 0, row_cumsum)).1) row_cumsum

-- 234-243
unfoldable pub sat-col : Machine → List ℕ → ℕ → ℕ → List ℤ → List ℤ
sat-col m img w h col_cumsum =
    for 0 w (λ x col_cumsum.
    (for {S = ℤ × List ℤ} 0 h (λ y s.
    let acc = sat m (s.0 +ℤ pos (byte_at m img (y * w + x))) in
    (acc, put s.1 (y * w + x) acc)) (pos 0, col_cumsum)).1) col_cumsum

-- 246-258
unfoldable pub sat-diag_pos : Machine → List ℕ → ℕ → ℕ → List ℤ → List ℤ
sat-diag_pos m img w h diag_pos_cumsum =
    for 0 h (λ y diag_pos_cumsum.
    for 0 w (λ x diag_pos_cumsum.
    let prev = cond (ltb 0 y && ltb 0 x) (entry-at m diag_pos_cumsum (less m y 1 * w + less m x 1)) (pos 0) in
    put diag_pos_cumsum (y * w + x) (sat m (prev +ℤ pos (byte_at m img (y * w + x))))) diag_pos_cumsum) diag_pos_cumsum

-- 261-273
unfoldable pub sat-diag_neg : Machine → List ℕ → ℕ → ℕ → List ℤ → List ℤ
sat-diag_neg m img w h diag_neg_cumsum =
    for 0 h (λ y diag_neg_cumsum.
    for 0 w (λ x diag_neg_cumsum.
    let prev = cond (ltb 0 y && ltb (usize m (x + 1)) w) (entry-at m diag_neg_cumsum (less m y 1 * w + (x + 1))) (pos 0) in
    put diag_neg_cumsum (y * w + x) (sat m (prev +ℤ pos (byte_at m img (y * w + x))))) diag_neg_cumsum) diag_neg_cumsum

-- 275-310: the four tables afterwards
abbrev pub build_cumsums : Machine → List ℕ → ℕ → ℕ → List ℤ → List ℤ → List ℤ → List ℤ → List ℤ × List ℤ × List ℤ × List ℤ
build_cumsums m img w h row_cumsum col_cumsum diag_pos_cumsum diag_neg_cumsum =
    (sat-row m img w h row_cumsum, sat-col m img w h col_cumsum, sat-diag_pos m img w h diag_pos_cumsum, sat-diag_neg m img w h diag_neg_cumsum)

-- 313-320
pub record Cumsums : Type 0 where
  pub row : List ℤ
  pub col : List ℤ
  pub diag_pos : List ℤ
  pub diag_neg : List ℤ
  pub w : ℕ
  pub h : ℕ

-- 501-503
abbrev pub sat_to_f32 : ℤ → Float
sat_to_f32 v = as_f32-signed v

-- 323-369, with the four locals as functions. 325-331
unfoldable pub s_h : Machine → Cumsums → ℕ → ℕ → ℕ → ℤ
s_h m cs r x y =
    let w = cs.w in
    let s-h-hi = entry-at m cs.row (y * w + (x + r)) in
    let s-h-lo = cond (ltb r x) (entry-at m cs.row (y * w + less m (less m x r) 1)) (pos 0) in
    sat m (s-h-hi -ℤ s-h-lo)

-- 333-339
unfoldable pub s_v : Machine → Cumsums → ℕ → ℕ → ℕ → ℤ
s_v m cs r x y =
    let w = cs.w in
    let s-v-hi = entry-at m cs.col ((y + r) * w + x) in
    let s-v-lo = cond (ltb r y) (entry-at m cs.col (less m (less m y r) 1 * w + x)) (pos 0) in
    sat m (s-v-hi -ℤ s-v-lo)

-- 341-347
unfoldable pub s_d1 : Machine → Cumsums → ℕ → ℕ → ℕ → ℤ
s_d1 m cs r x y =
    let w = cs.w in
    let s-d1-hi = entry-at m cs.diag_pos ((y + r) * w + (x + r)) in
    let s-d1-lo = cond (ltb r x && ltb r y) (entry-at m cs.diag_pos (less m (less m y r) 1 * w + less m (less m x r) 1)) (pos 0) in
    sat m (s-d1-hi -ℤ s-d1-lo)

-- 349-355
unfoldable pub s_d2 : Machine → Cumsums → ℕ → ℕ → ℕ → ℤ
s_d2 m cs r x y =
    let w = cs.w in
    let s-d2-hi = entry-at m cs.diag_neg ((y + r) * w + less m x r) in
    let s-d2-lo = cond (ltb r y && ltb (usize m (x + r + 1)) w) (entry-at m cs.diag_neg (less m (less m y r) 1 * w + (x + r + 1))) (pos 0) in
    sat m (s-d2-hi -ℤ s-d2-lo)

-- 357-368. 359-366: the loop over `&s[1..]` with its two variables mx and mn is a fold with a pair.
unfoldable pub radon_response_at : Machine → Cumsums → ℕ → ℕ → ℕ → Float
radon_response_at m cs r x y =
    let s : ℤ × ℤ =
    foldl (λ s v. (cond (ltℤ s.0 v) v s.0, cond (ltℤ v s.1) v s.1)) (s_h m cs r x y, s_h m cs r x y)
    (s_v m cs r x y ∷ s_d1 m cs r x y ∷ s_d2 m cs r x y ∷ []) in
    let d = sat_to_f32 (sat m (s.0 -ℤ s.1)) in
    d ⊗ d

-- 372-400: the row is the part of out from `at` on, n floats. The early return is a branch. 382: `row[..r]`; 392: `take(w - r)` ends with the row;
-- 397: `row[(w - r)..]`. (The two parts panic where they do not lie in the row. They do: n is w, `chunks_are_rows` of
-- proofs/Loops, and w is over 2 r.)
unfoldable pub compute_response_row : Machine → Cumsums → ℕ → ℕ → ℕ → ℕ → List Float → List Float
compute_response_row m cs ray-radius y at n row =
    let w = cs.w in
    let h = cs.h in
    let r = ray-radius in
    cond (ltb y r || leb h (usize m (y + r)))
    (for 0 n (λ i row. put row (at + i) lit_0) row)
    (let row = for 0 r (λ i row. put row (at + i) lit_0) row in
    let row = for r (min n (less m w r)) (λ x row. put row (at + x) (radon_response_at m cs r x y)) row in
    for (less m w r) n (λ i row. put row (at + i) lit_0) row)

-- 477-498. 482: `out.fill(0.0)`
unfoldable pub compute_response : Machine → Cumsums → ℕ → List Float → List Float
compute_response m cs ray-radius out =
    let w = cs.w in
    let h = cs.h in
    cond (leb w (usize m (2 * ray-radius)) || leb h (usize m (2 * ray-radius)))
    (for 0 (length out) (λ i out. put out i lit_0) out)
    (chunks w (λ y at n out. compute_response_row m cs ray-radius y at n out) out)

-- 636-641; the parameter `up` is not used
abbrev pub upsample_bilinear_2x_if_needed : Machine → List ℕ → ℕ → ℕ → List ℕ → List ℕ
upsample_bilinear_2x_if_needed m img w h out = upsample_bilinear_2x m img w h (resize out (usize m (4 * w * h)) 0)

-- 531-543: the assert of the feature radon-sat-u32, in u64 with a checked product
abbrev pub sums_fit_u32 : Machine → ℕ → ℕ → Bool
sums_fit_u32 m ww wh = not m.narrow || leb (255 * (ww * wh)) (2 ^ 32 - 1)

-- 512-589: the buffers as the call leaves them. 519-525, 531-543: where an assert fails the Rust panics, and here the buffers are lost.
unfoldable pub radon_response_u8 : Machine → List ℕ → ℕ → ℕ → RadonDetectorParams → RadonBuffers → RadonBuffers
radon_response_u8 m img w h params buffers =
    cond (eqb (length img) (usize m (w * h)))
    (let up = image_upsample_clamped params in
    let b = ensure_capacity m buffers w h up in
    let ww = b.working_w in
    let wh = b.working_h in
    cond (sums_fit_u32 m ww wh)
    (let working = cond (ltb 1 up) (upsample_bilinear_2x_if_needed m img w h b.working) (copy_from_slice b.working img) in
    let tables = build_cumsums m working ww wh b.row_cumsum b.col_cumsum b.diag_pos_cumsum b.diag_neg_cumsum in
    let cs : Cumsums = record { row = tables.0; col = tables.1; diag_pos = tables.2; diag_neg = tables.3; w = ww; h = wh } in
    let response = compute_response m cs (ray_radius_clamped params) b.response in
    let blurred = box_blur_inplace m response b.blur_scratch ww wh params.response_blur_radius in
    record {
      working = working;
      working_w = ww;
      working_h = wh;
      row_cumsum = tables.0;
      col_cumsum = tables.1;
      diag_pos_cumsum = tables.2;
      diag_neg_cumsum = tables.3;
      response = blurred.0;
      blur_scratch = blurred.1;
    })
    new)
    new

-- 596-602; 583-588: the view that `radon_response_u8` hands back
pub record RadonResponseView : Type 0 where
  pub «data» : List Float
  pub image : List ℕ
  pub w : ℕ
  pub h : ℕ

abbrev pub view : RadonBuffers → RadonResponseView
view b = record { «data» = b.response; image = b.working; w = b.working_w; h = b.working_h }

-- 604-627: `width()`, `height()` and `data()` are these fields; `at` is not used by the functions here
