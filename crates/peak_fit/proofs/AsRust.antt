-- The fit is the Rust's, with our guards and our logarithm: on numbers `clamped` is the Rust's `clamp(-0.5, 0.5)`,
-- and no NaN comes to it. Assumes nothing.
use mathlib.Core.Path.{◌≡◌, refl, sym, subst}
use mathlib.Core.Bool.{Bool, true, false, not, cond, ◌&&◌}
use Prim.Native.Nat.{◌*◌, ◌^◌}
use native.Mathlib.Nat.{zero-mul}
use native.Mathlib.Omega.{arith}
use borrow.Author.Tests.{eqb-true}
use lib.Dec.{T, eqb, lit≤, lt→ltb, ltb→lt}
use lib.IntN.{ℤ}
use lib.Ieee.{Float, nan, inf, fin, up, down, binary32, fits, of_bits, is_nan, sub, mul, div, lt, le}
use lib.Ieee.Fits.{and_l, and_r, down_pos}
use Rattle.float.specs.Values.{f0}
use Rattle.float.proofs.Order.{le_lt_trans, le_of_not_lt}
use Rattle.float.proofs.Sized.{Small, small, sized, small_mono, small_of_le, power, div_number, zero_float}
use Rattle.float.proofs.Sized.{add_small, sub_small, mul_small}
use Rattle.params.specs.declared.settings.PeakFitMode.{PeakFitMode}
use Rattle.params.specs.declared.settings.PeakFitMode.TheVariants.{Parabolic, Gaussian}
use Rattle.std.specs.Prelude.{Option, Some, None}
use Rattle.scalar.specs.Log.{log_of, terms, high}
use Rattle.scalar.proofs.Close.{AtMost}
use Rattle.scalar.proofs.Facts.{log_size}
use Rattle.peak_fit.specs.PeakFit.{f2, half, minus_half, flat, greatest, denominator, clamped, peak_of}
use Rattle.peak_fit.specs.PeakFit.{peak_of_three, peak_of_logs, all_above, by_mode, usable, all_usable, fit_of}

-- ---- the clamp

-- `x.clamp(-0.5, 0.5)`: below the lower end that end, above the upper end that one, and a NaN as it is
abbrev pub rust_clamp : Float → Float
rust_clamp x = cond (lt x minus_half) minus_half (cond (lt half x) half x)

not_below_itself : (x : Float) → T (lt x x) → ⊥
unfolding lt
not_below_itself nan t = t
not_below_itself (inf true) t = t
not_below_itself (inf false) t = t
not_below_itself (fin true m e) t = omega (arith, ltb→lt (m * up e * down e) (m * up e * down e) t)
not_below_itself (fin false m e) t = omega (arith, ltb→lt (m * up e * down e) (m * up e * down e) t)

-- of two numbers one is at most the other, or above it
le_not_lt : (x y : Float) → is_nan x ≡ false → is_nan y ≡ false → le x y ≡ not (lt y x)
le_not_lt x y p q = go (le x y) (lt y x) refl refl
  where
    go : (a b : Bool) → le x y ≡ a → lt y x ≡ b → a ≡ not b
    go true true e f = absurd (not_below_itself x (le_lt_trans x y x (subst T (sym e) tt) (subst T (sym f) tt)))
    go true false e f = refl
    go false true e f = refl
    go false false e f = absurd (subst T e (le_of_not_lt x y p q f))

-- no number is below -0.5 and above 0.5
one_side : (x : Float) → T (lt x minus_half) → T (lt half x) → ⊥
unfolding lt of_bits
one_side nan a b = a
one_side (inf true) a b = b
one_side (inf false) a b = a
one_side (fin true m e) a b = b
one_side (fin false m e) a b = a

pub clamp_as_rust : (x : Float) → is_nan x ≡ false → clamped x ≡ rust_clamp x
unfolding clamped
clamp_as_rust x p =
    rw (le_not_lt x half p ends.1, le_not_lt minus_half x ends.0 p)
    (go (lt x minus_half) (lt half x) (one_side x))
  where
    ends : (is_nan minus_half ≡ false) × (is_nan half ≡ false)
    ends = unfold is_nan of_bits in (refl, refl)

    go : (a b : Bool) → (T a → T b → ⊥)
        → cond (not b) (cond (not a) x minus_half) half ≡ cond a minus_half (cond b half x)
    go true true f = absurd (f tt tt)
    go true false f = refl
    go false true f = refl
    go false false f = refl

-- ---- no NaN comes to the clamp: finite numbers, and a denominator that is not 0

zero_above : (t : Bool) (e : ℤ) → T (lt flat (fin t 0 e))
unfolding lt of_bits
zero_above true e = omega (arith, lt→ltb, down_pos e, zero-mul (up e))
zero_above false e = omega (arith, lt→ltb, down_pos e, zero-mul (up e))

not_zero : (d : Float) → lt flat d ≡ false → zero_float d ≡ false
not_zero nan l = refl
not_zero (inf s) l = refl
not_zero (fin t n e) l = go (eqb n 0) refl
  where
    go : (b : Bool) → eqb n 0 ≡ b → b ≡ false
    go true z =
        let here : T (lt flat (fin t n e)) = rw (eqb-true n 0 z) (zero_above t e) in
        absurd (subst T l here)
    go false z = refl

no_truth : (b : Bool) → T (not b) → b ≡ false
no_truth true t = absurd t
no_truth false t = refl

constants : Small 2 f2 × Small 1 half
unfolding of_bits
constants = (small (sized (lit≤ tt)), small (sized (lit≤ tt)))

-- the Rust's `fit_peak_frac` on three numbers, or on their logarithms
abbrev pub rust_peak : Float → Float → Float → Float
rust_peak ym y0 yp =
    cond (lt flat (denominator ym y0 yp)) f0
    (rust_clamp (div binary32 (mul binary32 half (sub binary32 ym yp)) (denominator ym y0 yp)))

module _ {ym y0 yp : Float} (M : Small (2 ^ 32) ym) (C : Small (2 ^ 32) y0) (P : Small (2 ^ 32) yp) where
  denominator-small : Small (2 ^ 35) (denominator ym y0 yp)
  unfolding denominator
  denominator-small =
      add_small (2 ^ 35) (power 35 (lit≤ tt)) (lit≤ tt)
      (sub_small (2 ^ 34) (power 34 (lit≤ tt)) (lit≤ tt) M
      (mul_small (2 ^ 33) (power 33 (lit≤ tt)) (lit≤ tt) constants.0 C)) P

  slope_small : Small (2 ^ 33) (mul binary32 half (sub binary32 ym yp))
  slope_small =
      mul_small (2 ^ 33) (power 33 (lit≤ tt)) (lit≤ tt) constants.1
      (sub_small (2 ^ 33) (power 33 (lit≤ tt)) (lit≤ tt) M P)

  pub peak_as_rust : peak_of ym y0 yp ≡ rust_peak ym y0 yp
  unfolding peak_of
  peak_as_rust = go (lt flat (denominator ym y0 yp)) refl
    where
      q : Float
      q = div binary32 (mul binary32 half (sub binary32 ym yp)) (denominator ym y0 yp)

      go : (b : Bool) → lt flat (denominator ym y0 yp) ≡ b → cond b f0 (clamped q) ≡ cond b f0 (rust_clamp q)
      go true e = refl
      go false e =
          let number = div_number slope_small denominator-small (not_zero (denominator ym y0 yp) e) in
          clamp_as_rust q (no_truth (is_nan q) number)

-- ---- three usable numbers, and three logarithms, are finite

usable-small : (y : Float) → T (usable y) → Small (2 ^ 32) y
unfolding usable of_bits
usable-small y t =
    small_of_le (2 ^ 32) greatest y (refl, refl)
    (and_l (le f0 y) (le y greatest) t) (and_r (le f0 y) (le y greatest) t)

at_most_small : (r : Float) → AtMost 32 r → Small (2 ^ 32) r
at_most_small nan h = absurd h
at_most_small (inf s) h = absurd h
at_most_small (fin s m e) h = small_mono (lit≤ tt) (small (sized h))

log_small : (x r : Float) → T (fits binary32 x) → log_of terms high x ≡ Some r → Small (2 ^ 32) r
log_small x r f e = at_most_small r (log_size x r f e)

-- ---- the whole function

abbrev rust_of_three : Option Float → Option Float → Option Float → Float
rust_of_three (Some ym) (Some y0) (Some yp) = rust_peak ym y0 yp
rust_of_three (Some ym) (Some y0) None = f0
rust_of_three (Some ym) None p = f0
rust_of_three None c p = f0

abbrev rust_by_mode : PeakFitMode → Float → Float → Float → Float
rust_by_mode Parabolic m c p = rust_peak m c p
rust_by_mode Gaussian m c p =
    cond (all_above m c p) (rust_of_three (log_of terms high m) (log_of terms high c) (log_of terms high p))
    (rust_peak m c p)

-- the Rust's function with the Rust's clamp, our guards and our logarithm
abbrev pub rust_fit : PeakFitMode → Float → Float → Float → Float
rust_fit mode m c p = cond (all_usable m c p) (rust_by_mode mode m c p) f0

module _ (m c p : Float) (F : T (fits binary32 m)) (G : T (fits binary32 c)) (H : T (fits binary32 p)) where
  logs_as_rust : peak_of_logs m c p ≡ rust_of_three (log_of terms high m) (log_of terms high c) (log_of terms high p)
  unfolding peak_of_logs
  logs_as_rust = go (log_of terms high m) (log_of terms high c) (log_of terms high p) refl refl refl
    where
      go : (a b d : Option Float) → log_of terms high m ≡ a → log_of terms high c ≡ b → log_of terms high p ≡ d
          → peak_of_three a b d ≡ rust_of_three a b d
      go (Some ym) (Some y0) (Some yp) e f g =
          peak_as_rust (log_small m ym F e) (log_small c y0 G f) (log_small p yp H g)
      go (Some ym) (Some y0) None e f g = refl
      go (Some ym) None d e f g = refl
      go None b d e f g = refl

  raw_as_rust : T (all_usable m c p) → peak_of m c p ≡ rust_peak m c p
  unfolding all_usable
  raw_as_rust t =
      let others = and_r (usable m) (usable c && usable p) t in
      peak_as_rust (usable-small m (and_l (usable m) _ t)) (usable-small c (and_l (usable c) (usable p) others))
      (usable-small p (and_r (usable c) (usable p) others))

  mode_as_rust : T (all_usable m c p) → (mode : PeakFitMode) → by_mode mode m c p ≡ rust_by_mode mode m c p
  unfolding by_mode
  mode_as_rust t Parabolic = raw_as_rust t
  mode_as_rust t Gaussian = rw (logs_as_rust, raw_as_rust t)

  pub fit_as_rust : (mode : PeakFitMode) → fit_of mode m c p ≡ rust_fit mode m c p
  unfolding fit_of
  fit_as_rust mode = go (all_usable m c p) (λ t. t)
    where
      go : (b : Bool) → (T b → T (all_usable m c p))
          → cond b (by_mode mode m c p) f0 ≡ cond b (rust_by_mode mode m c p) f0
      go true f = mode_as_rust (f tt) mode
      go false f = refl
