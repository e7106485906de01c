-- What the blur depends on: only on the map's values inside. Equal maps blur equally, so what raises a frame and leaves its response leaves the
-- blurred map. And what the scratch holds, and the two passes one after the other. Assumes nothing.
use mathlib.Core.Path.{◌≡◌, refl, ap, ◌∙◌}
use mathlib.Core.Logic.{◌≢◌}
use Prim.Native.Nat.{ℕ, zero, suc, ◌*◌, ◌≤◌, ◌<◌}
use native.Mathlib.Nat.{div-add-mod'}
use native.Mathlib.Omega.{arith}
use mathlib.Core.List.{List}
use lib.Dec.{T}
use lib.ListN.{length, get_or, take, drop}
use lib.Ieee.{Float, nan, binary32, fits}
use lib.Ieee.Fits.{mul-fits}
use Rattle.grid.specs.Fill.{filled}
use Rattle.grid.proofs.Fill.{written_same, drop-filled}
use Rattle.grid.specs.Plane.{plane}
use Rattle.grid.proofs.Plane.{plane_ext, getD_plane, pixel_in}
use Rattle.grid.proofs.Touch.{filled-same}
use Rattle.means.specs.Means.{value_at, column_mean}
use Rattle.means.proofs.MeanLaws.{mean_at_ext, column_mean_ext}
use Rattle.blur.specs.Blur.{row_mean, blur_at, scratched}

pub row_mean_ext : (g k : ℕ → ℕ → Float) (w r x y : ℕ) → ((j : ℕ) → j < w → g j y ≡ k j y) → row_mean g w r x y ≡ row_mean k w r x y
unfolding row_mean
row_mean_ext g k w r x y e = mean_at_ext (λ j. g j y) (λ j. k j y) w r x e

pub blur_at_ext : (g k : ℕ → ℕ → Float) (w h r x y : ℕ) → x < w → y < h → ((i j : ℕ) → i < w → j < h → g i j ≡ k i j)
    → blur_at g w h r x y ≡ blur_at k w h r x y
unfolding blur_at
blur_at_ext g k w h zero x y a b e = e x y a b
blur_at_ext g k w h (suc r) x y a b e = column_mean_ext _ _ h (suc r) x y (λ j v. row_mean_ext g k w (suc r) x j (λ i u. e i j u v))

pub scratched_ext : (g k : ℕ → ℕ → Float) (w h r : ℕ) (old : List Float) → ((i j : ℕ) → i < w → j < h → g i j ≡ k i j)
    → scratched g w h r old ≡ scratched k w h r old
unfolding scratched
scratched_ext g k w h zero old e = refl
scratched_ext g k w h (suc r) old e = plane_ext w h _ _ old (λ x y a b. row_mean_ext g k w (suc r) x y (λ j c. e j y c b))

-- ---- the scratch: old contents change nothing that is written, entries beyond stay, and without a blur all of it

pub same-scratch : (g : ℕ → ℕ → Float) (w h r : ℕ) (old new : List Float) → w * h ≤ length old → w * h ≤ length new → 0 < r
    → take (w * h) (scratched g w h r old) ≡ take (w * h) (scratched g w h r new)
unfolding scratched
same-scratch g w h zero old new l m z = absurd (omega arith)
same-scratch g w h (suc r) old new l m z = written_same (w * h) _ old new l m

module _ (g : ℕ → ℕ → Float) (w h : ℕ) (old : List Float) where
  pub beyond_scratch : (r : ℕ) → drop (w * h) (scratched g w h r old) ≡ drop (w * h) old
  unfolding scratched
  beyond_scratch zero = refl
  beyond_scratch (suc r) = drop-filled (w * h) _ old

  pub unused_scratch : (r : ℕ) → r ≡ 0 → scratched g w h r old ≡ old
  unfolding scratched
  unused_scratch r e = rw e

-- ---- a blurred value is an f32 where the map's own is

pub blur_fits : (g : ℕ → ℕ → Float) (w h r x y : ℕ) → T (fits binary32 (g x y)) → T (fits binary32 (blur_at g w h r x y))
unfolding blur_at column_mean
blur_fits g w h zero x y t = t
blur_fits g w h (suc r) x y t = mul-fits binary32 _ _

-- ---- the whole map

-- radius 0: the map is as it was
pub blur_none : (w h r : ℕ) (xs : List Float) → r ≡ 0 → xs ≡ filled (w * h) (plane w (blur_at (value_at xs w) w h r)) xs
unfolding blur_at plane
blur_none w h r xs e = rw e (filled-same nan (w * h) _ xs (λ j _. ap (λ (i : ℕ). get_or xs i nan) (div-add-mod' j w)))

pub scratch-none : (g : ℕ → ℕ → Float) (w h r : ℕ) (xs : List Float) → r ≡ 0 → xs ≡ scratched g w h r xs
unfolding scratched
scratch-none g w h r xs e = rw e

-- the two passes one after the other, the second over what the first one wrote
module _ (w h r : ℕ) (n : r ≢ 0) where
  pub scratch-some : (g : ℕ → ℕ → Float) (xs : List Float) {ys : List Float} → ys ≡ filled (w * h) (plane w (row_mean g w r)) xs
      → ys ≡ scratched g w h r xs
  unfolding scratched
  scratch-some g xs p = go r n p
    where
      go : (r : ℕ) → r ≢ 0 → {ys : List Float} → ys ≡ filled (w * h) (plane w (row_mean g w r)) xs
          → ys ≡ scratched g w h r xs
      go zero n p = absurd (n refl)
      go (suc r) n p = p

  blur_is : (g : ℕ → ℕ → Float) (x y : ℕ) → column_mean (row_mean g w r) h r x y ≡ blur_at g w h r x y
  unfolding blur_at
  blur_is g x y = go r n
    where
      go : (r : ℕ) → r ≢ 0 → column_mean (row_mean g w r) h r x y ≡ blur_at g w h r x y
      go zero n = absurd (n refl)
      go (suc r) n = refl

  pub blur_some : (g : ℕ → ℕ → Float) (xs zs : List Float) {ys us : List Float} → w * h ≤ length xs
      → ys ≡ filled (w * h) (plane w (row_mean g w r)) xs → us ≡ filled (w * h) (plane w (column_mean (value_at ys w) h r)) zs
      → us ≡ filled (w * h) (plane w (blur_at g w h r)) zs
  blur_some g xs zs {ys} l p q = q ∙ plane_ext w h _ _ zs (λ x y a b. column_mean_ext _ _ h r x y (along x a) ∙ blur_is g x y)
    where
      along : (x : ℕ) → x < w → (j : ℕ) → j < h → value_at ys w x j ≡ row_mean g w r x j
      along x a j c = rw p (getD_plane a (w * h) _ xs j nan (pixel_in a c) l)
