-- What follows from the rules of the view. Assumes nothing.
use mathlib.Core.Path.{◌≡◌}
use mathlib.Core.Logic.{◌⊎◌, inl, inr}
use mathlib.Core.Bool.{true, false, and-false}
use Prim.Native.Nat.{ℕ, ◌*◌, ◌<◌}
use borrow.Author.Tests.{lt-leb, lt-ltb}
use mathlib.Core.List.{List, []}
use lib.ListN.{length, get_or}
use lib.Seq.{get_or-take, get_or-drop}
use lib.Ieee.{Float, nan}
use Rattle.std.specs.Prelude.{Some, None}
use Rattle.places.specs.Places.{whole, row_inside, place_at, row_at}

module _ (response : List Float) (image : List ℕ) (w h y : ℕ) where
  -- "If either slice is shorter than W·H, every place and row is outside."
  short : (length response < w * h) ⊎ (length image < w * h) → row_inside (length response) (length image) w h y ≡ false
  unfolding row_inside whole
  short (inl l) = simp (lt-leb (w * h) (length response) l, and-false)
  short (inr l) = simp (lt-leb (w * h) (length image) l, and-false)

  pub short-place : (length response < w * h) ⊎ (length image < w * h) → (x : ℕ) → place_at response image w h x y ≡ None
  unfolding place_at
  short-place l x = simp (short l, and-false)

  pub short_row : (length response < w * h) ⊎ (length image < w * h) → row_at response image w h y ≡ []
  unfolding row_at
  short_row l = simp (short l)

  -- a place of the map is an entry of its row
  pub place_in_row : (x : ℕ) → x < w → row_inside (length response) (length image) w h y ≡ true
      → place_at response image w h x y ≡ Some (get_or (row_at response image w h y) x nan)
  unfolding place_at row_at
  place_in_row x l t = simp (t, lt-ltb x w l, get_or-take, get_or-drop)
