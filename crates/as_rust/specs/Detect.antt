-- radon/detect.rs to line 264, but for rayon and `retain_above_relative_threshold`; what a function uses stands before it here.
use Rattle.std.specs.Prelude.{Bool, not, cond, ◌||◌, ◌&&◌, ℕ, ◌+◌, ◌*◌, ltb, leb, eqb, length, ℤ, pos, neg_ℤ, ◌+ℤ◌, ◌*ℤ◌, Float}
use mathlib.Core.List.{List, [], ◌∷◌, ◌++◌, foldl}
use Rattle.std.specs.Float.Ieee.{lt, le}
use Rattle.grid.specs.Each.{each, keep}
use Rattle.grid.specs.Rect.{range}
use Rattle.params.specs.declared.settings.RadonDetectorParams.{RadonDetectorParams}
use Rattle.as_rust.specs.Machine.{Machine, ◌⊕◌, ◌⊖◌, ◌⊗◌, ◌⊘◌, lit_0, lit_1, lit_4, lit_16, lit_0·2, neg_infinity, max_f32}
use Rattle.as_rust.specs.Machine.{abs, is_finite, ltℤ, maxℤ, i32, i64, usize, less, as_i32, as_isize, as_usize, as_f32}
use Rattle.as_rust.specs.Machine.{as_f32-signed, wrapping_add_signed, byte_at, float_at, for, how_many}
use Rattle.as_rust.specs.Primitives.{fit_peak_frac}
use Rattle.as_rust.specs.Response.{RadonResponseView, image_upsample_clamped, ray_radius_clamped}
use Rattle.as_rust.specs.Neighbors.{is_local_max, count_positive_neighbors}

-- 151-153
unfoldable pub relative_floor : Machine → Float → Float → Float
relative_floor m threshold-rel max-r = max_f32 m (threshold-rel ⊗ max-r) lit_0

-- 175, 181
abbrev pub MIN_SADDLE_RATIO : Float
MIN_SADDLE_RATIO = lit_0·2

abbrev pub MIN_SADDLE_SPREAD : Float
MIN_SADDLE_SPREAD = lit_1

-- 192-198
pub record SaddleTest : Type 0 where
  pub k : ℕ
  pub mean_r2 : Float
  pub inv_norms : Float × Float × Float

-- `a..=e` of isize, as an iterator: the list of what it gives
abbrev pub inclusive : ℤ → ℤ → List ℤ
inclusive a e = each (λ i. (a +ℤ pos i) ∷ []) (range 0 (how_many a e))

-- 223-231: an iterator is the list of what it gives, `flat_map` and `map` are `each`, `filter` is `keep`
unfoldable pub offsets : Machine → ℕ → List (ℤ × ℤ)
offsets m k =
    let ki = as_isize k in
    let r2 = maxℤ (i64 m (ki *ℤ ki)) (pos 2) in
    each (λ dy.
    each (λ dx. (dx, dy) ∷ [])
    (keep (λ dx. not (ltℤ r2 (i64 m (i64 m (dx *ℤ dx) +ℤ i64 m (dy *ℤ dy))))) (inclusive (i64 m (neg_ℤ ki)) ki)))
    (inclusive (i64 m (neg_ℤ ki)) ki)

-- 202, the closure `disk`
abbrev pub disk : Machine → ℕ → List (Float × Float)
disk m k = each (λ o. (as_f32-signed o.0, as_f32-signed o.1) ∷ []) (offsets m k)

-- 201-218. 205-212: the array `norms` is a triple, and the loop a fold.
unfoldable pub new : Machine → ℕ → SaddleTest
new m k =
    let n = as_f32 (length (disk m k)) in
    let mean_r2 = foldl (λ s o. s ⊕ (o.0 ⊗ o.0 ⊕ o.1 ⊗ o.1)) m.start (disk m k) ⊘ n in
    let norms : Float × Float × Float = foldl (λ norms o.
    let x = o.0 in
    let y = o.1 in
    let u = x ⊗ x ⊕ y ⊗ y ⊖ mean_r2 in
    let v = x ⊗ x ⊖ y ⊗ y in
    (norms.0 ⊕ u ⊗ u, norms.1 ⊕ v ⊗ v, norms.2 ⊕ x ⊗ x ⊗ y ⊗ y)) (lit_0, lit_0, lit_0) (disk m k) in
    record { k = k; mean_r2 = mean_r2; inv_norms = (lit_1 ⊘ norms.0, lit_1 ⊘ norms.1, lit_1 ⊘ norms.2) }

-- 235-263. 240-249: the three sums are a triple, and the loop a fold.
unfoldable pub accepts : Machine → SaddleTest → List ℕ → ℕ → ℕ → ℕ → Bool
accepts m self image w x y =
    let k = self.k in
    let s : Float × Float × Float = foldl (λ s o.
    let px = wrapping_add_signed x o.0 in
    let py = wrapping_add_signed y o.1 in
    let i = as_f32 (byte_at m image (py * w + px)) in
    let dx = as_f32-signed o.0 in
    let dy = as_f32-signed o.1 in
    (s.0 ⊕ (dx ⊗ dx ⊕ dy ⊗ dy ⊖ self.mean_r2) ⊗ i, s.1 ⊕ (dx ⊗ dx ⊖ dy ⊗ dy) ⊗ i, s.2 ⊕ dx ⊗ dy ⊗ i)) (lit_0, lit_0, lit_0) (offsets m k) in
    let p = s.0 ⊗ self.inv_norms.0 in
    let q = s.1 ⊗ self.inv_norms.1 in
    let b = s.2 ⊗ self.inv_norms.2 in
    let tr = lit_4 ⊗ p in
    let spread = m.sqrt (lit_16 ⊗ q ⊗ q ⊕ lit_4 ⊗ b ⊗ b) in
    let kk = as_f32 (usize m (k * k)) in
    le MIN_SADDLE_SPREAD (spread ⊗ kk) && le (abs tr ⊗ (lit_1 ⊕ MIN_SADDLE_RATIO)) (spread ⊗ (lit_1 ⊖ MIN_SADDLE_RATIO))

-- 83-85
abbrev pub at : Machine → List Float → ℕ → ℕ → ℕ → Float
at m resp w x y = float_at m resp (y * w + x)

-- 89-116, the body of the loop in the closure `process_row`; what it takes from outside is its parameters. `continue` is to leave `sink` as it is.
-- 113-116: a corner is its x, y and strength; `at_peak_fit` is always true and `model` none.
unfoldable pub process_pixel : Machine → RadonResponseView → RadonDetectorParams → SaddleTest → Float → ℤ → Float → ℕ → ℕ → List (List Float)
    → List (List Float)
process_pixel m resp params saddle thr nms-r inv-up y x sink =
    let w = resp.w in
    let h = resp.h in
    let vs = resp.«data» in
    let v = at m vs w x y in
    cond (le v thr) sink
    (cond (not (is_local_max m vs w h x y nms-r v)) sink
    (cond (ltb (count_positive_neighbors m vs w h x y nms-r) params.min_cluster_size) sink
    (cond (not (accepts m saddle resp.image w x y)) sink
    (let r-c = v in
    let r-xm = at m vs w (less m x 1) y in
    let r-xp = at m vs w (x + 1) y in
    let r-ym = at m vs w x (less m y 1) in
    let r-yp = at m vs w x (y + 1) in
    let fx = fit_peak_frac m r-xm r-c r-xp params.peak_fit in
    let fy = fit_peak_frac m r-ym r-c r-yp params.peak_fit in
    let gx = (as_f32 x ⊕ fx) ⊗ inv-up in
    let gy = (as_f32 y ⊕ fy) ⊗ inv-up in
    sink ++ ((gx ∷ gy ∷ v ∷ []) ∷ [])))))

-- 54-59
unfoldable pub greatest : List Float → Float
greatest vs = foldl (λ max-r v. cond (lt max-r v) v max-r) neg_infinity vs

-- 70
unfoldable pub rust_border : Machine → ℤ → ℤ → ℕ
rust_border m ray-r nms-r = as_usize (maxℤ (i32 m (i32 m (ray-r +ℤ nms-r) +ℤ pos 1)) (pos 0))

-- 42-145. An early return is a branch.
unfoldable pub detect_peaks_from_radon : Machine → RadonResponseView → RadonDetectorParams → List (List Float)
detect_peaks_from_radon m resp params =
    let w = resp.w in
    let h = resp.h in
    cond (eqb w 0 || eqb h 0) []
    (let max-r = greatest resp.«data» in
    cond (not (is_finite max-r)) []
    (let thr = relative_floor m params.threshold_rel max-r in
    let nms-r = as_i32 params.nms_radius in
    let ray-r = as_i32 (ray_radius_clamped params) in
    let border = rust_border m ray-r nms-r in
    cond (leb w (usize m (2 * border)) || leb h (usize m (2 * border))) []
    (let inv-up = lit_1 ⊘ as_f32 (image_upsample_clamped params) in
    let saddle = new m (as_usize ray-r) in
    for border (less m h border) (λ y sink.
    for border (less m w border) (λ x sink. process_pixel m resp params saddle thr nms-r inv-up y x sink) sink) [])))
