-- The image that the tables show is the image that they are of. Assumes nothing.
use mathlib.Core.Path.{◌≡◌, sym, ◌∙◌}
use mathlib.Core.List.{List}
use Prim.Native.Nat.{ℕ, zero, suc, ◌+◌, ◌*◌, ◌≤◌, ◌<◌}
use native.Mathlib.Omega.{arith}
use lib.ListN.{length, get_or}
use lib.Ieee.{Float}
use Rattle.grid.specs.Fill.{filled}
use Rattle.grid.proofs.Fill.{length-fill}
use Rattle.grid.specs.Plane.{plane}
use Rattle.grid.proofs.Plane.{plane_ext}
use Rattle.grid.specs.Ways.{Way, along, down, fall, rise, Holds}
use Rattle.grid.proofs.Ways.{run_ext, holds}
use Rattle.cumsums.specs.Tables.{table_at, table_of}
use Rattle.cumsums.proofs.Summed.{table_run, table_filled}
use Rattle.rays.specs.Response.{response_at}
use Rattle.rays.specs.Lent.{Lent}
use Rattle.rays.specs.Shown.{shown, Held}
use Rattle.rays.proofs.Inner.{response_ext}

module _ {f : ℕ → ℕ → ℕ} {w h : ℕ} {row : List ℕ} (s : Holds along f w h row) where
  -- an entry of the row table
  entry-is : (x y : ℕ) → x < w → y < h → get_or row (y * w + x) 0 ≡ table_at along f w x y
  entry-is x y l m = s.at x y l m ∙ sym (table_run f w along x y l)

  pub shown-is : (x y : ℕ) → x < w → y < h → shown row w x y ≡ f x y
  unfolding shown table_at
  shown-is zero y l m = entry-is zero y l m
  shown-is (suc x) y l m = omega (arith, entry-is (suc x) y l m, entry-is x y (omega arith) m)

-- a table of one image is that of another with the same pixels
holds_ext : {d : Way} {f g : ℕ → ℕ → ℕ} {w h : ℕ} {t : List ℕ} → Holds d f w h t
    → ((x y : ℕ) → x < w → y < h → f x y ≡ g x y) → Holds d g w h t
holds_ext {d} {f} {g} {w} {h} s e = record { at = λ x y l m. s.at x y l m ∙ run_ext d f g w h x y l m e }

-- ---- what `build_cumsums` leaves

-- one table, in a buffer with room
pub record Built (d : Way) (f : ℕ → ℕ → ℕ) (w h : ℕ) (old t : List ℕ) : Type 0 where
  pub room : w * h ≤ length old
  pub is : t ≡ table_of d f w h old

-- all four, in the buffers lent
pub record Four (f : ℕ → ℕ → ℕ) (w h : ℕ) (b : Lent) (row col falling rising : List ℕ) : Type 0 where
  pub on_row : Built along f w h b.row row
  pub on-col : Built down f w h b.col col
  pub on-falling : Built fall f w h b.falling falling
  pub on-rising : Built rise f w h b.rising rising

module _ {f : ℕ → ℕ → ℕ} {w h : ℕ} where
  table_holds : {d : Way} {old t : List ℕ} → Built d f w h old t → Holds d f w h t
  table_holds {d} {old} b = holds d f w h old b.room (b.is ∙ table_filled f w d h old)

  table_long : {d : Way} {old t : List ℕ} → Built d f w h old t → w * h ≤ length t
  table_long {d} {old} b = omega (arith, b.room, length-fill _ _ old b.is)

  pub tables_of : {b : Lent} {row col falling rising : List ℕ} → Four f w h b row col falling rising
      → w ≤ 8192 → h ≤ 8192 → ((x y : ℕ) → f x y ≤ 4095) → Held w h row col falling rising
  tables_of {row = row} t u v m =
      let rows = table_holds t.on_row in
      let same : (x y : ℕ) → x < w → y < h → f x y ≡ shown row w x y = λ x y a b. sym (shown-is rows x y a b) in
      record {
        wide = u;
        high = v;
        row-long = table_long t.on_row;
        col-long = table_long t.on-col;
        falling-long = table_long t.on-falling;
        rising-long = table_long t.on-rising;
        most = λ x y a b. omega (arith, same x y a b, m x y);
        rows = holds_ext rows same;
        columns = holds_ext (table_holds t.on-col) same;
        falls = holds_ext (table_holds t.on-falling) same;
        rises = holds_ext (table_holds t.on-rising) same;
      }

  -- the response of the image that is shown
  pub response-shown : {row₀ row : List ℕ} → Built along f w h row₀ row → (r : ℕ) (old : List Float)
      → filled (w * h) (plane w (response_at (shown row w) w h r)) old ≡ filled (w * h) (plane w (response_at f w h r)) old
  response-shown {row = row} p r old =
      plane_ext w h _ _ old (λ x y a b. response_ext (shown row w) f w h r x y (shown-is (table_holds p)))
