-- Facts about the list's arithmetic, of the definitions alone: the saddle test's root is never "outside", and a fitted offset is a number
-- from -0.5 to 0.5. The logarithm's bound is said of a call's own map values, in Demands. Assumes nothing.
use mathlib.Core.Path.{◌≡◌}
use Prim.Native.Nat.{ℕ, ◌≤◌}
use lib.Ieee.{Float}
use Rattle.params.specs.declared.settings.PeakFitMode.{PeakFitMode}
use Rattle.saddle.specs.Saddle.{saddle_of, saddle_at, sums_of, by_curvatures}
use Rattle.peak_fit.specs.PeakFit.{fit_of}
use Rattle.saddle.proofs.Spread.{nearest_root, spread_squared, trace}
use Rattle.saddle_facts.proofs.Rooted.{by_root}
use Rattle.peak_fit.proofs.Offsets.{Central, fit_central}

pub saddle_has_root : (k : ℕ) (f : ℕ → ℕ → ℕ) (x y : ℕ) → 1 ≤ k → k ≤ 7 → ((i j : ℕ) → f i j ≤ 4095)
    → let sums = sums_of (saddle_of k) k f x y in
    saddle_at (saddle_of k) k f x y ≡ by_curvatures k (trace (saddle_of k) sums) (nearest_root (spread_squared (saddle_of k) sums))
saddle_has_root = by_root

pub offset_is_central : (mode : PeakFitMode) (m c p : Float) → Central (fit_of mode m c p)
offset_is_central = fit_central
