-- What fitting takes and what it gives, for the callers of `build_cumsums`. Assumes nothing.
use mathlib.Core.Path.{◌≡◌, ap, ◌∙◌}
use mathlib.Core.Bool.{Bool, true, cond}
use mathlib.Core.List.{List}
use Prim.Native.Nat.{ℕ, ◌*◌, ◌≤◌}
use native.Mathlib.Omega.{arith}
use lib.ListN.{length}
use Rattle.grid.specs.Ways.{along, down, fall, rise}
use Rattle.sizes.specs.Fits.{fits_in}
use Rattle.sizes.proofs.Fitting.{fitting, fits_so}
use Rattle.cumsums.specs.Tables.{table_of}
use Rattle.cumsums.specs.Lent.{Lent, tables, room_of, tables_of, tables_fit}

pub record Fitted (w h n : ℕ) (b : Lent) : Type 0 where
  pub wide : w ≤ 8192
  pub high : h ≤ 8192
  pub image : w * h ≤ n
  pub row_room : w * h ≤ length b.row
  pub col-room : w * h ≤ length b.col
  pub falling-room : w * h ≤ length b.falling
  pub rising-room : w * h ≤ length b.rising

module _ (w h n : ℕ) (b : Lent) where
  pub fitted : tables_fit w h n b ≡ true → Fitted w h n b
  fitted e =
      let f = fitting w h (room_of n b) e in
      record {
        wide = f.wide;
        high = f.high;
        image = omega arith;
        row_room = omega arith;
        col-room = omega arith;
        falling-room = omega arith;
        rising-room = omega arith;
      }

  pub fit_so : Fitted w h n b → tables_fit w h n b ≡ true
  fit_so f = fits_so (record { wide = f.wide; high = f.high; inside = omega arith })

  -- sizes fit, so the plain value
  pub tables_plain : (f : ℕ → ℕ → ℕ) {after : Lent} → Fitted w h n b
      → after ≡ cond (tables_fit w h n b) (tables_of f w h b) b → after ≡ tables_of f w h b
  tables_plain f m e = e ∙ ap (λ (t : Bool). cond t (tables_of f w h b) b) (fit_so m)

-- ---- the door's own cases: the room as the code finds it, and whether it fits

module _ (w h n : ℕ) (b : Lent) {room : ℕ} (e : room ≡ room_of n b) {t : Bool} (p : t ≡ fits_in w h room) where
  fit_is : tables_fit w h n b ≡ t
  fit_is = rw (p, e)

  pub when_so : t ≡ true → Fitted w h n b
  when_so q = fitted w h n b (fit_is ∙ q)

  module _ (f : ℕ → ℕ → ℕ) where
    -- what the passes leave
    pub when_done : t ≡ true → {row col falling rising : List ℕ}
        → row ≡ table_of along f w h b.row → col ≡ table_of down f w h b.col → falling ≡ table_of fall f w h b.falling
        → rising ≡ table_of rise f w h b.rising
        → tables row col falling rising ≡ cond (tables_fit w h n b) (tables_of f w h b) b
    unfolding tables_of
    when_done q p q₁ q₂ q₃ = rw (fit_is, q) (λ i. tables (p i) (q₁ i) (q₂ i) (q₃ i))
