-- What `ray_response` leaves in the five lent buffers.
use Rattle.std.specs.Prelude.{Bool, ◌&&◌, List, ℕ, ◌*◌, min, leb, length, Float}
use Rattle.grid.specs.Fill.{filled}
use Rattle.grid.specs.Plane.{plane}
use Rattle.grid.specs.Ways.{along, down, fall, rise}
use Rattle.sizes.specs.Fits.{fits_in}
use Rattle.cumsums.specs.Tables.{table_of}
use Rattle.cumsums.specs.declared.Tables.{Tables}
use Rattle.rays.specs.Response.{response_at}

-- the four tables and the response
pub record Lent : Type 0 where
  pub row : List ℕ
  pub col : List ℕ
  pub falling : List ℕ
  pub rising : List ℕ
  pub response : List Float

abbrev pub tabled : List ℕ → List ℕ → List ℕ → List ℕ → List Float → Lent
tabled row col falling rising response = record { row = row; col = col; falling = falling; rising = rising; response = response }

-- what they hold
abbrev pub tabled_now : Tables → List Float → Lent
tabled_now b response = tabled b.row.now b.col.now b.falling.now b.rising.now response

-- of an image f, w wide and h high, at ray radius r: "the first W·H entries of .. tables and response are written .. Entries beyond stay."
unfoldable pub rays_of : (ℕ → ℕ → ℕ) → ℕ → ℕ → ℕ → Lent → Lent
rays_of f w h r b =
    tabled (table_of along f w h b.row) (table_of down f w h b.col) (table_of fall f w h b.falling) (table_of rise f w h b.rising)
    (filled (w * h) (plane w (response_at f w h r)) b.response)

-- the length of the shortest, with the image's
abbrev pub room_of : ℕ → Lent → ℕ
room_of n b = min (min n (length b.response)) (min (min (length b.row) (length b.col)) (min (length b.falling) (length b.rising)))

-- "Ray radius is 0 to 7", and an image of n bytes and each buffer has an entry for every pixel
abbrev pub rays_fit : ℕ → ℕ → ℕ → ℕ → Lent → Bool
rays_fit w h r n b = leb r 7 && fits_in w h (room_of n b)
