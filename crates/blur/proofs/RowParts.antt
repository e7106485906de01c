-- A row of a map that is blurred, as a part of its buffer: the row fits, so it has its means. Assumes nothing.
use mathlib.Core.Path.{◌≡◌, ◌∙◌}
use mathlib.Core.Bool.{cond}
use mathlib.Core.List.{List}
use Prim.Native.Nat.{ℕ, ◌+◌, ◌-◌, ◌*◌, ◌≤◌, ◌<◌}
use native.Mathlib.Omega.{arith}
use lib.ListN.{length, get_or, take, drop}
use lib.Seq.{get_or-take, get_or-drop}
use lib.Ieee.{Float, nan}
use Rattle.grid.specs.Fill.{filled}
use Rattle.grid.proofs.Fill.{filled_ext}
use Rattle.means.specs.Means.{value_at, mean_at, column_mean, row_fits, column_fits}
use Rattle.means.proofs.MeanLaws.{mean_at_ext}
use Rattle.means.proofs.Steps.{part_length}
use Rattle.means.proofs.Fits.{row_plain, column_plain}
use Rattle.blur.specs.Blur.{row_mean}
use Rattle.blur.specs.Fitting.{FittingMaps}

-- the w entries of a buffer from i on
abbrev pub part : ℕ → ℕ → List Float → List Float
part i w xs = take (i + w - i) (drop i xs)

-- src and dst are the map and the buffer that it is blurred into, room entries long; the part from i on is row y
module _ (src dst : List Float) {w h r room : ℕ} (y i : ℕ) {zs : List Float} (f : FittingMaps w h r (length src) room)
    (long : length dst ≡ room) where
  pub row-part : i ≡ y * w → i + w ≤ w * h
      → (let n = length (part i w src) in
      zs ≡ cond (row_fits n r (length (part i w dst))) (filled n (mean_at (λ k. get_or (part i w src) k nan) n r) (part i w dst)) (part i w dst))
      → zs ≡ filled w (λ x. row_mean (value_at src w) w r x y) (part i w dst)
  unfolding row_mean
  row-part e b z =
      let s : length (part i w src) ≡ w = part_length i w src (omega (arith, f.source)) in
      let d : length (part i w dst) ≡ w = part_length i w dst (omega (arith, f.target, long)) in
      row_plain (part i w dst) f.few f.wide (omega (arith, d)) (rw s at z) ∙ filled_ext w _ _ (part i w dst) (λ x _. mean_at_ext _ _ w r x at)
    where
      at : (k : ℕ) → k < w → get_or (part i w src) k nan ≡ get_or src (y * w + k) nan
      at k l =
          let m : k < i + w - i = omega arith in
          rw (get_or-take, get_or-drop, e)

  pub column_part : y < h → i + w ≤ w * h
      → zs ≡ cond (column_fits w h y r (length src) (length (part i w dst)))
      (filled w (λ x. column_mean (value_at src w) h r x y) (part i w dst))
      (part i w dst)
      → zs ≡ filled w (λ x. column_mean (value_at src w) h r x y) (part i w dst)
  column_part c b z =
      let d : length (part i w dst) ≡ w = part_length i w dst (omega (arith, f.target, long)) in
      column_plain (part i w dst) (record {
        few = f.few;
        wide = f.wide;
        high = f.high;
        source = f.source;
        row = c;
        within = omega (arith, d);
      }) z
