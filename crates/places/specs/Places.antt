-- Document 01, "View of the map": its places and rows.
use Rattle.std.specs.Prelude.{◌≡◌, Bool, ◌&&◌, cond, ℕ, ◌+◌, ◌*◌, List, [], ltb, leb, length, get_or, take, drop, Float, Option, Some, None}
use Rattle.std.specs.Float.{nan}
use Rattle.std.specs.Borrow.{Bor}

-- "If either slice is shorter than W·H, every place and row is outside": slices of m and n entries hold the map
unfoldable pub whole : ℕ → ℕ → ℕ → ℕ → Bool
whole m n w h = leb (w * h) m && leb (w * h) n

-- and then row y is a row of it
unfoldable pub row_inside : ℕ → ℕ → ℕ → ℕ → ℕ → Bool
row_inside m n w h y = ltb y h && whole m n w h

-- "Reading a place outside answers "outside" where the Rust panics."
unfoldable pub place_at : List Float → List ℕ → ℕ → ℕ → ℕ → ℕ → Option Float
place_at response image w h x y = cond (ltb x w && row_inside (length response) (length image) w h y) (Some (get_or response (y * w + x) nan)) None

-- "A row is handed back as that part of the response itself; a row outside is the empty part." Its values,
unfoldable pub row_at : List Float → List ℕ → ℕ → ℕ → ℕ → List Float
row_at response image w h y = cond (row_inside (length response) (length image) w h y) (take w (drop (y * w) response)) []

-- the entry of the response at which it starts,
unfoldable pub row_start : List Float → List ℕ → ℕ → ℕ → ℕ → ℕ
row_start response image w h y = cond (row_inside (length response) (length image) w h y) (y * w) 0

-- and where entry i of a lent f32 slice lies: in the slice's own block of memory, four bytes for each entry before it.
abbrev pub entry_ptr : Bor (List Float) → ℕ → ℕ × ℕ
entry_ptr s i = (s.ref_ptr.0, i * 4 + s.ref_ptr.1)

-- r is row y: those values, and no copy of them
pub record Row (response : Bor (List Float)) (image : List ℕ) (w h y : ℕ) (r : Bor (List Float)) : Type 0 where
  pub values : r.now ≡ row_at response.now image w h y
  pub itself : r.ref_ptr ≡ entry_ptr response (row_start response.now image w h y)
