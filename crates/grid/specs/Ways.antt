-- The four ways through an image, the running sums along each, and the sum over a ray: a running sum less another.
-- An image is a function f: f x y is the pixel in column x of row y. A way is a parameter of one law, `up_to_back`, and
-- of one for rays. Assumes nothing.
use Rattle.std.specs.Prelude.{◌≡◌, ℕ, ◌+◌, ◌-◌, ◌*◌, ◌≤◌, ◌<◌, min, List, get_or, Float}
use Rattle.std.specs.Float.{nan}
use Rattle.grid.specs.Fold.{sum_to}

-- what a buffer w wide has at column x of row y
abbrev pub pixel : List ℕ → ℕ → ℕ → ℕ → ℕ
pixel img w x y = get_or img (y * w + x) 0

-- the same of a map of floats
abbrev pub value : List Float → ℕ → ℕ → ℕ → Float
value s w x y = get_or s (y * w + x) nan

-- along a row, down a column, along a diagonal that falls to the right, along one that rises to the right
pub data Way : Type 0 where
  along : Way
  down : Way
  fall : Way
  rise : Way

-- k steps back from x and y: to the left; up; to the left and up; to the right and up
abbrev pub backx : Way → ℕ → ℕ → ℕ
backx along x k = x - k
backx down x k = x
backx fall x k = x - k
backx rise x k = x + k

abbrev pub backy : Way → ℕ → ℕ → ℕ
backy along y k = y
backy down y k = y - k
backy fall y k = y - k
backy rise y k = y - k

-- how many pixels the line has up to a column and a row that are COUNTED FROM 1, in an image w wide: 0 is before the image, w + 1 past it
abbrev pub count : Way → ℕ → ℕ → ℕ → ℕ
count along w x y = x
count down w x y = y
count fall w x y = min x y
count rise w x y = min y (w + 1 - x)

-- the sum of the n pixels of a line that end at x and y
unfoldable pub last_sum : Way → (ℕ → ℕ → ℕ) → ℕ → ℕ → ℕ → ℕ
last_sum d f n x y = sum_to (λ k. f (backx d x k) (backy d y k)) n

-- all of a line's pixels up to column x and row y, counted from 1: nothing at the image's edge
abbrev pub up_to : Way → (ℕ → ℕ → ℕ) → ℕ → ℕ → ℕ → ℕ
up_to d f w x y = last_sum d f (count d w x y) (x - 1) (y - 1)

-- the running sum that a table holds for the pixel x and y: the direct sum along its line
abbrev pub run_sum : Way → (ℕ → ℕ → ℕ) → ℕ → ℕ → ℕ → ℕ
run_sum d f w x y = up_to d f w (x + 1) (y + 1)

-- the ray of radius r about x and y, k from -r to r, written j = k + r: (x+k, y), (x, y+k), (x+k, y+k), (x+k, y-k)
abbrev pub rayx : Way → ℕ → ℕ → ℕ → ℕ
rayx along x r j = x + j - r
rayx down x r j = x
rayx fall x r j = x + j - r
rayx rise x r j = x + j - r

abbrev pub rayy : Way → ℕ → ℕ → ℕ → ℕ
rayy along y r j = y
rayy down y r j = y + j - r
rayy fall y r j = y + j - r
rayy rise y r j = y + r - j

unfoldable pub ray : Way → (ℕ → ℕ → ℕ) → ℕ → ℕ → ℕ → ℕ
ray d f r x y = sum_to (λ j. f (rayx d x r j) (rayy d y r j)) (2 * r + 1)

-- the rays of radius r about x and y lie in the image
pub record Inside (w h r x y : ℕ) : Type 0 where
  pub left : r ≤ x
  pub right : x + r < w
  pub above : r ≤ y
  pub below : y + r < h

-- the columns and rows, counted from 1, that a line reaches: inside, or one past the edge by which it enters
abbrev pub Reach : Way → ℕ → ℕ → ℕ → Type 0
Reach along w x y = (x ≤ w) × (0 < y)
Reach down w x y = (x ≤ w) × (0 < x)
Reach fall w x y = x ≤ w
Reach rise w x y = (x ≤ w + 1) × (0 < x)

pub record Holds (d : Way) (f : ℕ → ℕ → ℕ) (w h : ℕ) (t : List ℕ) : Type 0 where
  pub at : (x y : ℕ) → x < w → y < h → get_or t (y * w + x) 0 ≡ run_sum d f w x y

-- v is what a table has at column x and row y, counted from 1, and 0 past the edge
pub record Entry (t : List ℕ) (w h x y v : ℕ) : Type 0 where
  pub is : (d : Way) (f : ℕ → ℕ → ℕ) → Holds d f w h t → Reach d w x y → v ≡ up_to d f w x y

-- the rays about x and y, and the pixel before each, lie in the image
pub record Deep (w h r x y : ℕ) : Type 0 where
  pub left : r < x
  pub right : x + r + 1 < w
  pub above : r < y
  pub below : y + r < h
