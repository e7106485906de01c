-- What the private functions of the saddle test hand each other. Assumes nothing.
use Rattle.std.specs.Prelude.{◌≡◌, ◌&&◌, ℕ, ◌*◌, ◌≤◌, ◌<◌, ltb, leb, Float}
use Rattle.grid.specs.Rect.{Place, place}
use Rattle.grid.specs.Ways.{Inside}
use Rattle.saddle.specs.Saddle.{side, in_disk}

-- the disk's part of row y is the columns from a to before e
pub record Spans (k y a e : ℕ) : Type 0 where
  pub some : a ≤ e
  pub most : e ≤ side k
  pub is : (x : ℕ) → x < side k → in_disk k (place x y) ≡ (leb a x && ltb x e)

-- the square of side 2 k + 1 around x, y is in an image w wide and h high, and the image in a buffer of n entries
pub record Around (k n w h x y : ℕ) : Type 0 where
  pub small : k ≤ 7
  pub wide : w ≤ 8192
  pub high : h ≤ 8192
  pub inside : Inside w h k x y
  pub room : w * h ≤ n

-- what the closure adds at a place, where `post` is what its calls give: the step of the definitions
abbrev pub AddsAs : {A : Type 0} → (A → ℕ → ℕ → Float → Float → A → Type 0) → (Place → Float → Float → A → A) → Type 0
AddsAs {A} post step = (s r : A) (p : Place) (dx dy : Float) → post s p.x p.y dx dy r → r ≡ step p dx dy s
