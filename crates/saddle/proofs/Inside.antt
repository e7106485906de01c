-- The saddle test depends only on the pixels of its disk: two images that agree inside W by H are told alike.
-- Assumes nothing.
use mathlib.Core.Path.{◌≡◌, ap}
use mathlib.Core.List.{List}
use Prim.Native.Nat.{ℕ, ◌+◌, ◌-◌, ◌<◌}
use native.Mathlib.Omega.{arith}
use lib.IntN.{pos}
use lib.Ieee.{binary32, of_int}
use Rattle.grid.specs.Each.{keep}
use Rattle.grid.specs.Rect.{Place, rect}
use Rattle.grid.proofs.All.{All, all_map, all_keep, all_rect, InRect, foldl-same}
use Rattle.grid.specs.Ways.{Inside}
use Rattle.saddle.specs.declared.SaddleTest.{SaddleTest}
use Rattle.saddle.specs.declared.Sums.{Sums}
use Rattle.saddle.specs.Saddle.{side, disk, in_disk, offset, over_disk, added, around, no_sums, sums_of}
use Rattle.saddle.specs.Saddle.{saddle_at, judge}

module _ (t : SaddleTest) (k : ℕ) (f g : ℕ → ℕ → ℕ) (w h x y : ℕ) (m : Inside w h k x y)
    (e : (x y : ℕ) → x < w → y < h → f x y ≡ g x y) where
  square : List Place
  square = rect 0 (side k) 0 (side k)

  step : (ℕ → ℕ → ℕ) → Sums → Place → Sums
  step f s p = added t (offset k p.x) (offset k p.y) (around k f x y p) s

  Same : Place → Type 0
  Same p = (s : Sums) → step f s p ≡ step g s p

  at_place : (p : Place) → InRect 0 (side k) 0 (side k) p → Same p
  unfolding Same step
  at_place p b s =
      ap (λ (n : ℕ). added t (offset k p.x) (offset k p.y) (of_int binary32 (pos n)) s)
      (e (x + p.x - k) (y + p.y - k) (omega arith) (omega arith))

  all_same : All Same (keep (in_disk k) square)
  unfolding square
  all_same =
      all_keep Same (in_disk k) square
      (all_map (InRect 0 (side k) 0 (side k)) Same at_place square (all_rect 0 (side k) 0 (side k)))

  pub saddle_same : saddle_at t k f x y ≡ saddle_at t k g x y
  unfolding saddle_at sums_of over_disk disk square step Same
  saddle_same = ap (judge t k) (foldl-same (step f) (step g) no_sums (keep (in_disk k) square) all_same)
