-- When a map w wide and h high fits into a buffer with room for so many entries, and a square into the map.
-- "Input width and height are 0 to 4,096", so no working side passes 8,192.
use Rattle.std.specs.Prelude.{Bool, ◌&&◌, ℕ, ◌+◌, ◌*◌, ltb, leb}

abbrev pub fits_in : ℕ → ℕ → ℕ → Bool
fits_in w h room = leb w 8192 && (leb h 8192 && leb (w * h) room)

-- k to either side of c lies between 0 and n
abbrev pub clear_of : ℕ → ℕ → ℕ → Bool
clear_of k c n = leb k c && ltb (c + k) n

-- the square of side 2 k + 1 around x, y lies in a map w wide and h high, and the map in a buffer of n entries
abbrev pub square_fits : ℕ → ℕ → ℕ → ℕ → ℕ → ℕ → Bool
square_fits k n w h x y = fits_in w h n && (clear_of k x w && clear_of k y h)
