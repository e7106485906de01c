-- A fitted offset is a number from -0.5 to 0.5, whatever the three numbers are; and worked fits. Assumes nothing.
use mathlib.Core.Path.{◌≡◌, refl}
use mathlib.Core.Bool.{Bool, true, false, cond}
use lib.Dec.{T}
use lib.Ieee.{Float, nan, inf, fin, binary32, of_bits, to_bits, add, sub, mul, div, lt, le}
use lib.Ieee.Scale.{finite}
use Rattle.float.specs.Values.{f0, f1}
use Rattle.params.specs.declared.settings.PeakFitMode.{PeakFitMode}
use Rattle.params.specs.declared.settings.PeakFitMode.TheVariants.{Parabolic, Gaussian}
use Rattle.std.specs.Prelude.{Option, Some, None}
use Rattle.scalar.specs.Log.{log_of, terms, high}
use Rattle.peak_fit.specs.PeakFit.{f2, half, minus_half, flat, denominator, clamped, peak_of}
use Rattle.peak_fit.specs.PeakFit.{peak_of_three, peak_of_logs, all_above, by_mode, all_usable, fit_of}

-- at least -0.5 and at most 0.5, which no NaN is
pub record Central (x : Float) : Type 0 where
  pub least : T (le minus_half x)
  pub most : T (le x half)

-- and so a finite number
pub central_finite : (x : Float) → Central x → T (finite x)
unfolding le of_bits
central_finite nan c = c.most
central_finite (inf true) c = c.least
central_finite (inf false) c = c.most
central_finite (fin s m e) c = tt

at_zero : Central f0
unfolding le of_bits
at_zero = record { least = tt; most = tt }

either : (b : Bool) {x y : Float} → Central x → Central y → Central (cond b x y)
either true p q = p
either false p q = q

clamped_central : (x : Float) → Central (clamped x)
unfolding clamped
clamped_central x = go (le x half) (le minus_half x) (λ u. u) (λ u. u)
  where
    go : (a b : Bool) → (T a → T (le x half)) → (T b → T (le minus_half x))
        → Central (cond a (cond b x minus_half) half)
    go true true u l = record { least = l tt; most = u tt }
    go true false u l = unfold le of_bits in record { least = tt; most = tt }
    go false b u l = unfold le of_bits in record { least = tt; most = tt }

peak_central : (ym y0 yp : Float) → Central (peak_of ym y0 yp)
unfolding peak_of
peak_central ym y0 yp = either (lt flat (denominator ym y0 yp)) at_zero (clamped_central _)

three_central : (m c p : Option Float) → Central (peak_of_three m c p)
three_central (Some ym) (Some y0) (Some yp) = peak_central ym y0 yp
three_central (Some ym) (Some y0) None = at_zero
three_central (Some ym) None p = at_zero
three_central None c p = at_zero

mode_central : (mode : PeakFitMode) (m c p : Float) → Central (by_mode mode m c p)
unfolding by_mode peak_of_logs
mode_central Parabolic m c p = peak_central m c p
mode_central Gaussian m c p =
    either (all_above m c p) (three_central (log_of terms high m) (log_of terms high c) (log_of terms high p))
    (peak_central m c p)

pub fit_central : (mode : PeakFitMode) (m c p : Float) → Central (fit_of mode m c p)
unfolding fit_of
fit_central mode m c p = either (all_usable m c p) (mode_central mode m c p) at_zero

pub fit_finite : (mode : PeakFitMode) (m c p : Float) → T (finite (fit_of mode m c p))
fit_finite mode m c p = central_finite _ (fit_central mode m c p)

-- equal neighbours: 0 divided by a negative number is -0, as in the Rust
pub middle-fits : (fit_of Parabolic f1 f2 f1 ≡ of_bits binary32 0x8000_0000)
    × (fit_of Gaussian f1 f2 f1 ≡ of_bits binary32 0x8000_0000)
unfolding fit_of of_bits le lt add sub mul div log_of to_bits
middle-fits = (refl, refl)
