-- What `build_cumsums` leaves in the four lent tables.
use Rattle.std.specs.Prelude.{Bool, List, ℕ, min, length}
use Rattle.grid.specs.Ways.{along, down, fall, rise}
use Rattle.sizes.specs.Fits.{fits_in}
use Rattle.cumsums.specs.Tables.{table_of}

pub record Lent : Type 0 where
  pub row : List ℕ
  pub col : List ℕ
  pub falling : List ℕ
  pub rising : List ℕ

abbrev pub tables : List ℕ → List ℕ → List ℕ → List ℕ → Lent
tables row col falling rising = record { row = row; col = col; falling = falling; rising = rising }

-- of an image f, w wide and h high
unfoldable pub tables_of : (ℕ → ℕ → ℕ) → ℕ → ℕ → Lent → Lent
tables_of f w h b =
    tables (table_of along f w h b.row) (table_of down f w h b.col) (table_of fall f w h b.falling)
    (table_of rise f w h b.rising)

-- the length of the shortest, with the image's
abbrev pub room_of : ℕ → Lent → ℕ
room_of n b = min n (min (min (length b.row) (length b.col)) (min (length b.falling) (length b.rising)))

-- an image of n bytes and each table has an entry for every pixel
abbrev pub tables_fit : ℕ → ℕ → ℕ → Lent → Bool
tables_fit w h n b = fits_in w h (room_of n b)
