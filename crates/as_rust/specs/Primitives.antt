-- radon/primitives.rs: `fit_peak_frac` and `box_blur_inplace`. Left out: `fit_peak_frac_grad` and `fit_peak_curvature_grad`, which only the
-- covariance uses, and rayon.
use Rattle.std.specs.Prelude.{Bool, true, false, cond, ◌&&◌, ◌||◌, List, ℕ, ◌+◌, ◌-◌, ◌*◌, min, eqb, Float}
use Rattle.std.specs.Float.Ieee.{lt}
use Rattle.params.specs.declared.settings.PeakFitMode.{PeakFitMode}
use Rattle.params.specs.declared.settings.PeakFitMode.TheVariants.{Parabolic, Gaussian}
use Rattle.as_rust.specs.Machine.{Machine, ◌⊕◌, ◌⊖◌, ◌⊗◌, ◌⊘◌, lit_0, lit_1, lit_2, lit_half, lit_minus_half}
use Rattle.as_rust.specs.Machine.{lit_minus_1e_12, clamp, usize, less, as_f32, float_at, put, for, chunks}

-- 18-26: `PeakFitMode` is the settings' own type, by the same two names
abbrev pub is_gaussian : PeakFitMode → Bool
is_gaussian Parabolic = false
is_gaussian Gaussian = true

-- 44-52, the end of `fit_peak_frac`. The early return is a branch.
unfoldable pub peak_frac : Float → Float → Float → Float
peak_frac ym y0 yp =
    let denom = ym ⊖ lit_2 ⊗ y0 ⊕ yp in
    cond (lt lit_minus_1e_12 denom) lit_0
    (let frac = lit_half ⊗ (ym ⊖ yp) ⊘ denom in
    clamp frac lit_minus_half lit_half)

-- 37-53. The match with a guard is a condition.
unfoldable pub fit_peak_frac : Machine → Float → Float → Float → PeakFitMode → Float
unfolding peak_frac
fit_peak_frac m y-minus y-c y-plus mode =
    let logs = is_gaussian mode && (lt lit_0 y-minus && (lt lit_0 y-c && lt lit_0 y-plus)) in
    let ym = cond logs (m.ln y-minus) y-minus in
    let y0 = cond logs (m.ln y-c) y-c in
    let yp = cond logs (m.ln y-plus) y-plus in
    peak_frac ym y0 yp

-- 145-158, the closure `horiz_kernel`: the row is the part of scratch from `at` on, n floats; `w` and `radius` are the function's.
-- 148: `x.saturating_sub(radius)` is ℕ's subtraction.
unfoldable pub horiz_px : Machine → List Float → ℕ → ℕ → ℕ → ℕ → Float
horiz_px m resp-full w radius y x =
    let row-start = usize m (y * w) in
    let x0 = x - radius in
    let x1 = min (usize m (x + radius + 1)) w in
    let s : Float × Float = for x0 x1 (λ xx s. (s.0 ⊕ float_at m resp-full (row-start + xx), s.1 ⊕ lit_1)) (lit_0, lit_0) in
    s.0 ⊘ s.1

unfoldable pub horiz_kernel : Machine → List Float → ℕ → ℕ → ℕ → ℕ → ℕ → List Float → List Float
horiz_kernel m resp-full w radius y at n scratch = for 0 n (λ x scratch. put scratch (at + x) (horiz_px m resp-full w radius y x)) scratch

-- 187-204, the closure `vert_kernel`: dst is the part of resp from `at` on, n floats. 195: `src_row` is the part of scratch from yy * w on, w floats;
-- 196: `zip` ends with the shorter of the two.
unfoldable pub vert_kernel : Machine → List Float → ℕ → ℕ → ℕ → ℕ → ℕ → ℕ → List Float → List Float
vert_kernel m scratch-full w h radius y at n dst =
    let y0 = y - radius in
    let y1 = min (usize m (y + radius + 1)) h in
    let count = as_f32 (less m y1 y0) in
    let dst = for 0 n (λ i dst. put dst (at + i) lit_0) dst in
    let dst = for y0 y1 (λ yy dst.
    for 0 (min n w) (λ i dst. put dst (at + i) (float_at m dst (at + i) ⊕ float_at m scratch-full (yy * w + i))) dst) dst in
    let inv-n = lit_1 ⊘ count in
    for 0 n (λ i dst. put dst (at + i) (float_at m dst (at + i) ⊗ inv-n)) dst

-- 122-220: what `resp` and `scratch` hold at the end. The asserts of 129 and 130 are debug builds'; both lengths are W·H (`Sized` of proofs/Map).
unfoldable pub box_blur_inplace : Machine → List Float → List Float → ℕ → ℕ → ℕ → List Float × List Float
box_blur_inplace m resp scratch w h radius =
    cond (eqb radius 0) (resp, scratch)
    (cond (eqb w 0 || eqb h 0) (resp, scratch)
    (let scratch = chunks w (λ y at n scratch. horiz_kernel m resp w radius y at n scratch) scratch in
    let resp = chunks w (λ y at n dst. vert_kernel m scratch w h radius y at n dst) resp in
    (resp, scratch)))
