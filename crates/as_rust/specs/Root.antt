-- IEEE 754's square root of an f32, rounded to nearest: no other f32 is as near to the root. Ties do not occur, so that none has to be broken.
use Rattle.std.specs.Prelude.{◌≡◌, Bool, true, false, ℕ, ◌+◌, ◌*◌, ◌<◌, T, Float}
use Rattle.std.specs.Float.{nan, inf, fin, binary32}
use Rattle.std.specs.Float.Ieee.{up, down, fits}

-- a finite number with its sign clear
abbrev pub plus : Float → Bool
plus nan = false
plus (inf s) = false
plus (fin true k e) = false
plus (fin false k e) = true

-- such a number as a fraction
abbrev pub top : Float → ℕ
top nan = 0
top (inf s) = 0
top (fin s k e) = k * up e

abbrev pub bottom : Float → ℕ
bottom nan = 1
bottom (inf s) = 1
bottom (fin s k e) = down e

-- y and r added: twice the middle of both
abbrev pub sum_top : Float → Float → ℕ
sum_top y r = top y * bottom r + top r * bottom y

abbrev pub sum-bottom : Float → Float → ℕ
sum-bottom y r = bottom y * bottom r

-- The root of x lies beyond the middle of r and each lesser f32 y, (y + r)² < 4 x, and short of the middle of r and each greater one, 4 x < (y + r)².
pub record Nearest (x r : Float) : Type 0 where
  pub holds : T (fits binary32 r)
  pub positive : plus r ≡ true
  pub over : (y : Float) → T (fits binary32 y) → plus y ≡ true → top y * bottom r < top r * bottom y
      → sum_top y r * sum_top y r * bottom x < 4 * top x * (sum-bottom y r * sum-bottom y r)
  pub under : (y : Float) → T (fits binary32 y) → plus y ≡ true → top r * bottom y < top y * bottom r
      → 4 * top x * (sum-bottom y r * sum-bottom y r) < sum_top y r * sum_top y r * bottom x

-- `f32::sqrt` where the text asks it: of numbers from +0 up
abbrev pub NearestRoots : (Float → Float) → Type 0
NearestRoots sqrt = (x : Float) → T (fits binary32 x) → plus x ≡ true → Nearest x (sqrt x)
