-- The Rust's list is document 01's, over a map above twice the border a side, whose values are 0 or from 2^-6 to 2^24, and over an image of bytes.
-- Assumes nothing.
use mathlib.Core.Path.{◌≡◌, refl, ap, ◌∙◌}
use mathlib.Core.Bool.{Bool, true, false, not, cond, ◌&&◌}
use mathlib.Core.List.{List, [], ◌∷◌, ◌++◌}
use Prim.Native.Nat.{ℕ, zero, suc, ◌+◌, ◌-◌, ◌*◌, ◌^◌, ◌≤◌, ◌<◌, max}
use native.Mathlib.Nat.{mul-pos}
use native.Mathlib.Omega.{arith}
use borrow.Author.Tests.{lt-leb, le-ltb, ne_eqb}
use lib.Dec.{T, ltb, leb, eqb}
use lib.ListN.{length, get_or}
use lib.IntN.{pos}
use lib.Ieee.{Float, nan, binary32, of_bits, of_int, fits, div, lt}
use Rattle.grid.proofs.Plane.{pixel_in}
use Rattle.grid.specs.Ways.{pixel}
use Rattle.grid.specs.Each.{each, keep}
use Rattle.grid.proofs.Each.{each_more, each_none, keep-none, keep_yes, keep_no}
use Rattle.grid.specs.Rect.{Place, place}
use Rattle.grid.proofs.Rect.{before}
use Rattle.params.specs.declared.settings.RadonDetectorParams.{RadonDetectorParams}
use Rattle.params.specs.declared.settings.PeakFitMode.{PeakFitMode}
use Rattle.params.specs.declared.settings.PeakFitMode.TheVariants.{Parabolic, Gaussian}
use Rattle.params.specs.Settings.{factor_of, ray_of, border_of}
use Rattle.params.specs.Coordinates.{to_input, scale_of}
use Rattle.params.proofs.Accepted.{ListPasses}
use Rattle.scalar.specs.Log.{log_of, terms, high}
use Rattle.std.specs.Prelude.{Some}
use Rattle.peak_fit.specs.PeakFit.{flat, denominator, usable, all_usable, all_above, fit_of}
use Rattle.grid.specs.Ways.{value}
use Rattle.verdict.specs.Window.{beaten, positives}
use Rattle.saddle.specs.declared.Saddle.{Saddle}
use Rattle.crests.specs.Maximum.{maximum}
use Rattle.verdict.specs.Verdict.{first_failing, by_saddle, is_saddle, is_kept, verdict}
use Rattle.detect.specs.Corners.{floor_of, corners, input_at, numbers}
use Rattle.peak_fit.proofs.AsRust.{rust_clamp, rust_peak, fit_as_rust as clamped-fit}
use Rattle.as_rust.specs.Machine.{Machine, Sound, ◌⊖◌, ◌⊗◌, ◌⊘◌, lit_0, lit_1, lit_half, lit_minus_half}
use Rattle.as_rust.specs.Machine.{clamp, maxℤ, i32, usize, as_i32, as_usize, as_f32, float_at}
use Rattle.as_rust.specs.Primitives.{peak_frac, fit_peak_frac}
use Rattle.as_rust.specs.Response.{RadonResponseView}
use Rattle.as_rust.specs.Detect.{relative_floor, new, rust_border, process_pixel, detect_peaks_from_radon}
use Rattle.as_rust.specs.Runs.{numbers_by}
use Rattle.as_rust.proofs.Machine.{usize-is, less-is, i32-is, i32_cast, inside}
use Rattle.as_rust.proofs.Tests.{T_true, at_least}
use Rattle.as_rust.proofs.Loops.{rect_loop}
use Rattle.as_rust.proofs.Tables.{Image}
use Rattle.as_rust.proofs.Map.{clamped-is}
use Rattle.as_rust.proofs.Values.{Good, good_usable, good_finite, peak_as_rust, peak_good, above_as_rust}
use Rattle.as_rust.proofs.Neighbors.{Clear, max_as_rust, count_as_rust}
use Rattle.as_rust.proofs.Saddle.{Within, accepts_as_rust}

-- ---- primitives.rs 37-53: the fit

clamp-is : (x : Float) → clamp x lit_minus_half lit_half ≡ rust_clamp x
unfolding clamp
clamp-is x = go (lt x lit_minus_half)
  where
    apart : lt lit_half lit_minus_half ≡ false
    apart = unfold lt of_bits in refl

    go : (t : Bool) → cond (lt lit_half (cond t lit_minus_half x)) lit_half (cond t lit_minus_half x)
        ≡ cond t lit_minus_half (cond (lt lit_half x) lit_half x)
    go true = rw apart
    go false = refl

-- 44-52
peak_is : (ym y0 yp : Float) → peak_frac ym y0 yp ≡ rust_peak ym y0 yp
unfolding peak_frac denominator
peak_is ym y0 yp = λ i. cond (lt flat (denominator ym y0 yp)) lit_0 (clamp-is (lit_half ⊗ (ym ⊖ yp) ⊘ denominator ym y0 yp) i)

-- the machine's logarithm of v is ours
abbrev pub Logs : Machine → Float → Type 0
Logs m v = T (lt lit_0 v) → log_of terms high v ≡ Some (m.ln v)

three : (a b c : Bool) → T (a && (b && c)) → T a × T b × T c
three true true true t = (tt, tt, tt)
three true true false t = absurd t
three true false c t = absurd t
three false b c t = absurd t

-- a map's value, of the format
abbrev pub Held : Float → Type 0
Held v = Good v × T (fits binary32 v)

module _ (m : Machine) (a c b : Float) (A : Held a) (C : Held c) (B : Held b) where
  usable_all : all_usable a c b ≡ true
  unfolding all_usable
  usable_all = rw (T_true (usable a) (good_usable a A.0), T_true (usable c) (good_usable c C.0), T_true (usable b) (good_usable b B.0))

  fit_as_rust : (mode : PeakFitMode) → (mode ≡ Gaussian → Logs m a × Logs m c × Logs m b) → fit_peak_frac m a c b mode ≡ fit_of mode a c b
  unfolding fit_peak_frac all_above
  fit_as_rust Parabolic need = rw (clamped-fit a c b A.1 C.1 B.1 Parabolic, usable_all) (peak_is a c b)
  fit_as_rust Gaussian need = go (lt lit_0 a && (lt lit_0 c && lt lit_0 b)) refl
    where
      go : (t : Bool) → (lt lit_0 a && (lt lit_0 c && lt lit_0 b)) ≡ t → fit_peak_frac m a c b Gaussian ≡ fit_of Gaussian a c b
      go true e =
          let q = three (lt lit_0 a) (lt lit_0 c) (lt lit_0 b) (rw e tt) in
          let n = need refl in
          rw (clamped-fit a c b A.1 C.1 B.1 Gaussian, usable_all, e, n.0 q.0, n.1 q.1, n.2 q.2) (peak_is _ _ _)
      go false e = rw (clamped-fit a c b A.1 C.1 B.1 Gaussian, usable_all, e) (peak_is a c b)

-- ---- 75: the scale

scale_as_rust : (u : ℕ) → lit_1 ⊘ as_f32 (factor_of u) ≡ scale_of u
scale_as_rust u = go (factor_of u) (omega arith) (omega arith)
  where
    go : (k : ℕ) → 1 ≤ k → k ≤ 2 → lit_1 ⊘ as_f32 k ≡ cond (eqb k 1) lit_1 lit_half
    go zero a b = absurd (omega arith)
    go (suc zero) a b = unfold div of_int of_bits in refl
    go (suc (suc zero)) a b = unfold div of_int of_bits in refl
    go (suc (suc (suc k))) a b = absurd (omega arith)

-- ---- 66-73: the border

-- a sum of i32 that is not negative
clipped : (m : Machine) (n : ℕ) → n < 2 ^ 31 → as_usize (maxℤ (i32 m (pos n)) (pos 0)) ≡ n
clipped m n b = rw (i32-is m n b, le-ltb n 0 (omega arith))

border_is : (m : Machine) (ray nms : ℕ) → ray ≤ 7 → nms ≤ 32 → rust_border m (pos ray) (pos nms) ≡ ray + nms + 1
unfolding rust_border
border_is m ray nms a b = rw (i32-is m (ray + nms) (omega arith)) (clipped m (ray + nms + 1) (omega arith))

-- ---- 103-116: the three numbers are document 01's where the logarithms are

module _ (m : Machine) (p : RadonDetectorParams) (w h : ℕ) (f : ℕ → ℕ → Float) (held : (x y : ℕ) → x < w → y < h → Held (f x y))
    (logs : p.peak_fit ≡ Gaussian → (x y : ℕ) → x < w → y < h → Logs m (f x y)) where
  pub numbers_as_rust : (x y : ℕ) → 1 ≤ x → x + 1 < w → 1 ≤ y → y + 1 < h → numbers_by m p f (place x y) ≡ numbers p f (place x y)
  unfolding numbers_by numbers input_at to_input
  numbers_as_rust x y a b c d =
      let X : x < w = omega arith in
      let Y : y < h = omega arith in
      let L : x - 1 < w = omega arith in
      let A : y - 1 < h = omega arith in
      rw (
        scale_as_rust p.image_upsample,
        fit_as_rust m (f (x - 1) y) (f x y) (f (x + 1) y) (held (x - 1) y L Y) (held x y X Y) (held (x + 1) y b Y) p.peak_fit
            (λ e. (logs e (x - 1) y L Y, logs e x y X Y, logs e (x + 1) y b Y)),
        fit_as_rust m (f x (y - 1)) (f x y) (f x (y + 1)) (held x (y - 1) X A) (held x y X Y) (held x (y + 1) X d) p.peak_fit
            (λ e. (logs e x (y - 1) X A, logs e x y X Y, logs e x (y + 1) X d)),
      )

-- ---- the list

-- document 01's corners with the Rust's numbers, each three floats
abbrev pub listed : Machine → RadonDetectorParams → ℕ → ℕ → (ℕ → ℕ → Float) → (ℕ → ℕ → ℕ) → List (List Float)
listed m p w h f g = each (λ q. numbers_by m p f q ∷ []) (corners p w h f g)

-- a view within the limits
pub record Viewed (v : RadonResponseView) : Type 0 where
  pub long : length v.«data» ≡ v.w * v.h
  pub good : (k : ℕ) → k < v.w * v.h → Good (get_or v.«data» k nan)
  pub fit : (k : ℕ) → k < v.w * v.h → T (fits binary32 (get_or v.«data» k nan))
  pub bytes : Image v.image v.w v.h

tests : (a b c : Bool) (t : Saddle) → is_kept (first_failing a b c t) ≡ (a && (b && (c && is_kept (by_saddle t))))
tests false b c t = refl
tests true false c t = refl
tests true true false t = refl
tests true true true t = refl

-- the four tests of 90-101 in their order, and 113-116
abbrev decided : Bool → Bool → Bool → Bool → List (List Float) → List Float → List (List Float)
decided a b c d sink n = cond a sink (cond b sink (cond c sink (cond d sink (sink ++ (n ∷ [])))))

module _ (m : Machine) (sound : Sound m) (v : RadonResponseView) (p : RadonDetectorParams) (o : Viewed v)
    (ray : p.ray_radius ≤ 7) (l : ListPasses v.w v.h p) where
  abbrev w : ℕ
  w = v.w

  abbrev h : ℕ
  h = v.h

  abbrev vs : List Float
  vs = v.«data»

  abbrev f : ℕ → ℕ → Float
  f = value v.«data» v.w

  abbrev g : ℕ → ℕ → ℕ
  g = pixel v.image v.w

  abbrev B : ℕ
  B = border_of p

  abbrev t : Float
  t = p.threshold_rel

  abbrev nms : ℕ
  nms = p.nms_radius

  abbrev up : ℕ
  up = factor_of p.image_upsample

  abbrev test : Place → Bool
  test q = is_kept (verdict p (floor_of p w h f) f g q)

  value-held : (x y : ℕ) → x < w → y < h → Held (f x y)
  value-held x y a b = (o.good (y * w + x) (pixel_in a b), o.fit (y * w + x) (pixel_in a b))

  -- a read of the map is inside it
  reads : (x y : ℕ) → x < w → y < h → float_at m vs (y * w + x) ≡ f x y
  reads x y a b = inside vs (y * w + x) _ nan (omega (arith, o.long, pixel_in a b))

  -- one candidate
  turn : (ps : List Place) (x y : ℕ) {sink : List (List Float)} (a b c d : Bool) → test (place x y) ≡ (a && (b && (c && d)))
      → sink ≡ each (λ q. numbers_by m p f q ∷ []) (keep test ps)
      → decided (not a) (not b) (not c) (not d) sink (numbers_by m p f (place x y))
      ≡ each (λ q. numbers_by m p f q ∷ []) (keep test (ps ++ (place x y ∷ [])))
  turn ps x y true true true true e s = rw (keep_yes test ps (place x y) e, each_more, s)
  turn ps x y true true true false e s = rw (keep_no test ps (place x y) e) s
  turn ps x y true true false d e s = rw (keep_no test ps (place x y) e) s
  turn ps x y true false c d e s = rw (keep_no test ps (place x y) e) s
  turn ps x y false b c d e s = rw (keep_no test ps (place x y) e) s

  abbrev above : ℕ → ℕ → Bool
  above x y = lt (t ⊗ maximum w h f) (f x y)

  abbrev enough : ℕ → ℕ → Bool
  enough x y = leb p.min_cluster_size (positives f nms (place x y))

  kept : (x y : ℕ) → test (place x y)
      ≡ (above x y && (not (beaten f nms (place x y)) && (enough x y && is_kept (by_saddle (is_saddle p g (place x y))))))
  unfolding verdict floor_of
  kept x y = tests (above x y) (not (beaten f nms (place x y))) (enough x y) (is_saddle p g (place x y))

  -- 89-116
  pixel_as_rust : Good (maximum w h f) → (ps : List Place) (x y : ℕ) (sink : List (List Float)) → B ≤ x → x + B < w → B ≤ y → y + B < h
      → sink ≡ each (λ q. numbers_by m p f q ∷ []) (keep test ps)
      → process_pixel m v p (new m (ray_of p.ray_radius)) (relative_floor m t (maximum w h f)) (pos nms) (lit_1 ⊘ as_f32 up) y x sink
      ≡ each (λ q. numbers_by m p f q ∷ []) (keep test (ps ++ (place x y ∷ [])))
  unfolding process_pixel numbers_by
  pixel_as_rust best ps x y sink a b c d s =
      let clear : Clear w h nms x y = record {
        left = omega arith;
        right = omega arith;
        above = omega arith;
        below = omega arith;
        small = l.suppression;
        wide = o.bytes.wide;
        high = o.bytes.high;
      } in
      let within : Within v.image w h (ray_of p.ray_radius) x y = record {
        whole = o.bytes.whole;
        deep = λ i j. omega (arith, o.bytes.deep i j);
        left = omega arith;
        right = omega arith;
        above = omega arith;
        below = omega arith;
        wide = o.bytes.wide;
        high = o.bytes.high;
      } in
      let floored = above_as_rust m t (maximum w h f) l.least l.most best (f x y) (value-held x y (omega arith) (omega arith)).0 in
      let largest = max_as_rust m vs w h nms x y clear o.long in
      let counted =
      ap (λ (n : ℕ). ltb n p.min_cluster_size) (count_as_rust m vs w h nms x y clear o.long)
      ∙ at_least (positives f nms (place x y)) p.min_cluster_size in
      let saddled = accepts_as_rust m sound v.image w h (ray_of p.ray_radius) x y (omega arith) (omega arith) within in
      rw (
        less-is m x 1 (omega arith),
        less-is m y 1 (omega arith),
        reads x y (omega arith) (omega arith),
        reads (x - 1) y (omega arith) (omega arith),
        reads (x + 1) y (omega arith) (omega arith),
        reads x (y - 1) (omega arith) (omega arith),
        reads x (y + 1) (omega arith) (omega arith),
      )
      ((λ i. decided (floored i) (not (largest i)) (counted i) (not (saddled i)) sink (numbers_by m p f (place x y)))
      ∙ turn ps x y (above x y) (not (beaten f nms (place x y))) (enough x y) (is_kept (by_saddle (is_saddle p g (place x y)))) (kept x y) s)

  -- 42-145. A frame above twice the border has pixels, so that no early return is taken
  pub detect_as_rust : detect_peaks_from_radon m v p ≡ listed m p v.w v.h (value v.«data» v.w) (pixel v.image v.w)
  unfolding detect_peaks_from_radon corners
  detect_as_rust =
      let best : Good (maximum w h f) = peak_good vs w h o.long some o.good in
      rw (
        ne_eqb w 0 (λ e. omega (arith, l.wider)),
        ne_eqb h 0 (λ e. omega (arith, l.higher)),
        peak_as_rust vs w h o.long some o.good,
        good_finite best,
        ray-is,
        cast,
        cast_nms,
        border,
        twice,
        lt-leb w (2 * B) l.wider,
        lt-leb h (2 * B) l.higher,
        clamped-is p.image_upsample,
        less-is m h B (omega (arith, l.higher)),
        less-is m w B (omega (arith, l.wider)),
      )
      (rect_loop (λ ps sink. sink ≡ each (λ q. numbers_by m p f q ∷ []) (keep test ps)) B (w - B) B (h - B)
      (λ y x sink.
      process_pixel m v p (new m (ray_of p.ray_radius)) (relative_floor m t (maximum w h f)) (pos nms)
      (lit_1 ⊘ as_f32 up) y x sink)
      [] (omega (arith, l.wider)) (omega (arith, l.higher)) (rw (keep-none, each_none))
      (λ x y sink a b c d s. pixel_as_rust best (before B (w - B) B x y) x y sink a (omega arith) c (omega arith) s))
    where
      ray-is : max p.ray_radius 1 ≡ ray_of p.ray_radius
      ray-is = omega arith

      cast : as_i32 (ray_of p.ray_radius) ≡ pos (ray_of p.ray_radius)
      cast = i32_cast (ray_of p.ray_radius) (omega arith)

      cast_nms : as_i32 nms ≡ pos nms
      cast_nms = i32_cast nms (omega (arith, l.suppression))

      border : rust_border m (pos (ray_of p.ray_radius)) (pos nms) ≡ B
      border = border_is m (ray_of p.ray_radius) nms (omega arith) l.suppression

      twice : usize m (2 * B) ≡ 2 * B
      twice = usize-is m (2 * B) (omega (arith, l.suppression))

      some : 0 < w * h
      some = mul-pos (omega (arith, l.wider)) (omega (arith, l.higher))
