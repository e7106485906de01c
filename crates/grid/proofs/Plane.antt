-- Laws of `plane w g`: a map that is given by column and row, laid out row by row, w entries a row: entry y * w + x is g x y. Assumes nothing.
use mathlib.Core.Path.{◌≡◌, sym, ap, ◌∙◌}
use Prim.Native.Nat.{ℕ, zero, suc, ◌+◌, ◌-◌, ◌*◌, ◌/◌, ◌%◌, ◌≤◌, ◌<◌}
use native.Mathlib.Nat.{add-zero, add-mul, one-mul, suc-mul, zero-mul, mul_comm, mul-le-mul_right, mul-add-div_right}
use native.Mathlib.Nat.{mul-add-mod_self_right, mod-eq_of_lt, div-eq_of_lt, mod-lt, div-lt_iff_lt-mul}
use native.Mathlib.Omega.{arith}
use mathlib.Core.List.{List}
use lib.ListN.{length, get_or}
use Rattle.grid.specs.Fill.{filled}
use Rattle.grid.proofs.Fill.{filled_ext, getD_filled}
use Rattle.grid.specs.Plane.{plane}

-- ---- the numbers y * w + x. omega takes each product as an unknown, so a need lists the law that it wants

-- a row ends within the map
pub row_in : (w : ℕ) {h y : ℕ} → y < h → y * w + w ≤ w * h
row_in w {h} {y} b = omega (arith, mul-le-mul_right w b, suc-mul y w, mul_comm w h)

pub pixel_in : {w h x y : ℕ} → x < w → y < h → y * w + x < w * h
pixel_in {w} a b = omega (arith, row_in w b)

-- where the next row starts, and the one above
pub next_row : (w y : ℕ) → (y + 1) * w ≡ y * w + w
next_row w y = add-mul y 1 w ∙ ap (λ (k : ℕ). y * w + k) (one-mul w)

pub row-above : (w : ℕ) {y : ℕ} → 0 < y → (y - 1) * w + w ≡ y * w
row-above w {y} b = sym (next_row w (y - 1)) ∙ ap (λ (k : ℕ). k * w) (omega arith)

-- a map with an entry has a column
pub some_column : (w h : ℕ) {i : ℕ} → i < w * h → zero < w
some_column zero h b = omega (arith, zero-mul h)
some_column (suc w) h b = omega arith

-- an entry's row and column, from its number
module _ {w x : ℕ} (a : x < w) where
  pub row_of : (y : ℕ) → (y * w + x) / w ≡ y
  row_of y = mul-add-div_right (omega arith) y x ∙ ap (λ (k : ℕ). y + k) (div-eq_of_lt a) ∙ add-zero y

  pub column_of : (y : ℕ) → (y * w + x) % w ≡ x
  column_of y = mul-add-mod_self_right y w x ∙ mod-eq_of_lt a

-- an entry is in a column and a row of the map
module _ (w h : ℕ) {i : ℕ} (b : i < w * h) where
  pub column_in : i % w < w
  column_in = mod-lt i (some_column w h b)

  pub row-number_in : i / w < h
  row-number_in = (div-lt_iff_lt-mul (some_column w h b)).1 (omega (arith, mul_comm w h))

module _ {ℓ} {A : Type ℓ} where
  pub plane-at : {w x : ℕ} → x < w → (g : ℕ → ℕ → A) (y : ℕ) → plane w g (y * w + x) ≡ g x y
  unfolding plane
  plane-at a g y = rw (column_of a y, row_of a y)

  -- an entry of a buffer that is filled up to n: w * h at a pass's end, less on the way
  pub getD_plane : {w x : ℕ} → x < w → (n : ℕ) (g : ℕ → ℕ → A) (xs : List A) (y : ℕ) (d : A)
      → y * w + x < n → n ≤ length xs → get_or (filled n (plane w g) xs) (y * w + x) d ≡ g x y
  getD_plane {w} {x} a n g xs y d m l = getD_filled n (plane w g) xs (y * w + x) d m (omega arith) ∙ plane-at a g y

  -- two maps that agree on every pixel fill a buffer alike
  pub plane_ext : (w h : ℕ) (g k : ℕ → ℕ → A) (xs : List A) → ((x y : ℕ) → x < w → y < h → g x y ≡ k x y)
      → filled (w * h) (plane w g) xs ≡ filled (w * h) (plane w k) xs
  unfolding plane
  plane_ext w h g k xs e = filled_ext (w * h) (plane w g) (plane w k) xs (λ i b. e (i % w) (i / w) (column_in w h b) (row-number_in w h b))
