-- What a mean depends on: only on the values in its window. Assumes nothing.
use mathlib.Core.Path.{◌≡◌}
use Prim.Native.Nat.{ℕ, ◌+◌, ◌-◌, ◌≤◌, ◌<◌}
use native.Mathlib.Omega.{arith}
use lib.Ieee.{Float, binary32, add}
use Rattle.float.specs.Values.{f0}
use Rattle.grid.proofs.Fold.{fold_ext}
use Rattle.means.specs.Means.{counted, window_sum, mean_at, column_mean}

-- a place of a window is one of the n
pub place_in : (n r x k : ℕ) → k < counted n r x → x - r + k < n
place_in n r x k b = omega arith

-- and no further from x than r
place-near : (n r x k : ℕ) → k < counted n r x → (x ≤ x - r + k + r) × (x - r + k ≤ x + r)
place-near n r x k b = omega arith

-- only the values in the window count
pub window_sum-near : (f g : ℕ → Float) (n r x : ℕ) → ((j : ℕ) → x ≤ j + r → j ≤ x + r → j < n → f j ≡ g j) → window_sum f n r x ≡ window_sum g n r x
unfolding window_sum
window_sum-near f g n r x e =
    fold_ext (add binary32) f0 _ _ (counted n r x) (λ k b. e (x - r + k) (place-near n r x k b).0 (place-near n r x k b).1 (place_in n r x k b))

pub window_sum_ext : (f g : ℕ → Float) (n r x : ℕ) → ((j : ℕ) → j < n → f j ≡ g j) → window_sum f n r x ≡ window_sum g n r x
window_sum_ext f g n r x e = window_sum-near f g n r x (λ j _ _ b. e j b)

pub mean_at_ext : (f g : ℕ → Float) (n r x : ℕ) → ((j : ℕ) → j < n → f j ≡ g j) → mean_at f n r x ≡ mean_at g n r x
unfolding mean_at
mean_at_ext f g n r x e = rw (window_sum_ext f g n r x e)

-- the rows of the window alone, for a pass that fills the others later
pub column_mean-near : (g k : ℕ → ℕ → Float) (h r x y : ℕ) → ((j : ℕ) → y ≤ j + r → j ≤ y + r → j < h → g x j ≡ k x j)
    → column_mean g h r x y ≡ column_mean k h r x y
unfolding column_mean
column_mean-near g k h r x y e = rw (window_sum-near (λ j. g x j) (λ j. k x j) h r y e)

pub column_mean_ext : (g k : ℕ → ℕ → Float) (h r x y : ℕ) → ((j : ℕ) → j < h → g x j ≡ k x j)
    → column_mean g h r x y ≡ column_mean k h r x y
column_mean_ext g k h r x y e = column_mean-near g k h r x y (λ j _ _ b. e j b)
