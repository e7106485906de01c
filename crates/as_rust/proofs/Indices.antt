-- Every index at which the Rust's text reads lies in its slice, which has w * h entries: by the Rust's file and line, where the text reads it.
-- Assumes nothing.
use Prim.Native.Nat.{ℕ, ◌+◌, ◌-◌, ◌*◌, ◌/◌, ◌≤◌, ◌<◌, min}
use native.Mathlib.Omega.{arith}
use Rattle.grid.proofs.Plane.{pixel_in}
use Rattle.grid.specs.Ways.{Inside}
use Rattle.upsample.specs.Upsample.{after}
use Rattle.as_rust.proofs.Neighbors.{Clear}

-- column x of row y
at : (w h x y : ℕ) → x < w → y < h → y * w + x < w * h
at w h x y a b = pixel_in a b

-- response.rs 196-199, of an output pixel
pub upsampling_reads : (w h ix iy : ℕ) → ix < 2 * w → iy < 2 * h
    → (iy / 2 * w + ix / 2 < w * h) × (iy / 2 * w + after w (ix / 2) < w * h)
    × (after h (iy / 2) * w + ix / 2 < w * h) × (after h (iy / 2) * w + after w (ix / 2) < w * h)
upsampling_reads w h ix iy a b = (
  at w h (ix / 2) (iy / 2) (omega arith) (omega arith),
  at w h (after w (ix / 2)) (iy / 2) (omega arith) (omega arith),
  at w h (ix / 2) (after h (iy / 2)) (omega arith) (omega arith),
  at w h (after w (ix / 2)) (after h (iy / 2)) (omega arith) (omega arith),
)

-- 251 and 266: the entry above and to the left, above and to the right
pub falling_reads : (w h x y : ℕ) → 0 < x → x < w → 0 < y → y < h → (y - 1) * w + (x - 1) < w * h
falling_reads w h x y a b c d = at w h (x - 1) (y - 1) (omega arith) (omega arith)

pub rising_reads : (w h x y : ℕ) → x + 1 < w → 0 < y → y < h → (y - 1) * w + (x + 1) < w * h
rising_reads w h x y b c d = at w h (x + 1) (y - 1) (omega arith) (omega arith)

-- 325, 333, 341, 349: the last pixels of the rays
pub ray_end_reads : (w h r x y : ℕ) → Inside w h r x y
    → (y * w + (x + r) < w * h) × ((y + r) * w + x < w * h) × ((y + r) * w + (x + r) < w * h) × ((y + r) * w + (x - r) < w * h)
ray_end_reads w h r x y c = (
  at w h (x + r) y (omega arith) (omega arith),
  at w h x (y + r) (omega arith) (omega arith),
  at w h (x + r) (y + r) (omega arith) (omega arith),
  at w h (x - r) (y + r) (omega arith) (omega arith),
)

-- 327, 335, 343, 351: the pixels before the first, where the tests let them be read
pub ray_start_reads : (w h r x y : ℕ) → Inside w h r x y
    → (r < x → y * w + (x - r - 1) < w * h) × (r < y → (y - r - 1) * w + x < w * h) × (r < x → r < y → (y - r - 1) * w + (x - r - 1) < w * h)
    × (r < y → x + r + 1 < w → (y - r - 1) * w + (x + r + 1) < w * h)
ray_start_reads w h r x y c = (
  λ a. at w h (x - r - 1) y (omega arith) (omega arith),
  λ b. at w h x (y - r - 1) (omega arith) (omega arith),
  λ a b. at w h (x - r - 1) (y - r - 1) (omega arith) (omega arith),
  λ b a. at w h (x + r + 1) (y - r - 1) (omega arith) (omega arith),
)

-- primitives.rs 153 and 195: a window's columns in a row, and its rows
pub row_window_reads : (w h r x y xx : ℕ) → y < h → x - r ≤ xx → xx < min (x + r + 1) w → y * w + xx < w * h
row_window_reads w h r x y xx b c d = at w h xx y (omega arith) b

pub column_window_reads : (w h r x y yy : ℕ) → x < w → y - r ≤ yy → yy < min (y + r + 1) h → yy * w + x < w * h
column_window_reads w h r x y yy a c d = at w h x yy a (omega arith)

-- neighbors.rs 31 and 66: the window of a candidate, in offsets from its first corner
pub window_reads : (w h r x y i j : ℕ) → Clear w h r x y → i < 2 * r + 1 → j < 2 * r + 1 → (y - r + j) * w + (x - r + i) < w * h
window_reads w h r x y i j c a b = at w h (x - r + i) (y - r + j) (omega arith) (omega arith)

-- detect.rs 89 and 104-107: a candidate and its four neighbours
pub fit_reads : (w h x y : ℕ) → 1 ≤ x → x + 1 < w → 1 ≤ y → y + 1 < h
    → (y * w + x < w * h) × (y * w + (x - 1) < w * h) × (y * w + (x + 1) < w * h) × ((y - 1) * w + x < w * h) × ((y + 1) * w + x < w * h)
fit_reads w h x y a b c d = (
  at w h x y (omega arith) (omega arith),
  at w h (x - 1) y (omega arith) (omega arith),
  at w h (x + 1) y (omega arith) (omega arith),
  at w h x (y - 1) (omega arith) (omega arith),
  at w h x (y + 1) (omega arith) (omega arith),
)

-- detect.rs 244: the disk, in offsets from the first corner of its square
pub disk_reads : (w h k x y i j : ℕ) → k ≤ x → x + k < w → k ≤ y → y + k < h → i < 2 * k + 1 → j < 2 * k + 1 → (y + j - k) * w + (x + i - k) < w * h
disk_reads w h k x y i j a b c d e f = at w h (x + i - k) (y + j - k) (omega arith) (omega arith)
