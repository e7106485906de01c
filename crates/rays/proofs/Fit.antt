-- What fitting takes and what it gives, for the callers of `ray_response`. Assumes nothing.
use mathlib.Core.Path.{◌≡◌, sym, ap, ◌∙◌}
use mathlib.Core.Bool.{Bool, true, cond}
use mathlib.Core.List.{List}
use Prim.Native.Nat.{ℕ, ◌*◌, ◌≤◌}
use native.Mathlib.Omega.{arith}
use lib.Dec.{leb}
use lib.ListN.{length}
use lib.Ieee.{Float}
use borrow.Author.Tests.{leb-true, le-leb}
use Rattle.grid.specs.Fill.{filled}
use Rattle.grid.specs.Plane.{plane}
use Rattle.sizes.specs.Fits.{fits_in}
use Rattle.sizes.proofs.Fitting.{both_true, true_both, fitting, fits_so}
use Rattle.cumsums.specs.Lent.{tables, tables_of, tables_fit}
use Rattle.cumsums.specs.Lent.{Lent as Tables}
use Rattle.cumsums.proofs.Fit.{tables_plain}
use Rattle.cumsums.proofs.Fit.{Fitted as TablesFitted}
use Rattle.rays.specs.Response.{response_at}
use Rattle.rays.specs.Lent.{Lent, tabled, room_of, rays_of, rays_fit}
use Rattle.rays.specs.Shown.{shown}
use Rattle.rays.proofs.Showing.{Four, response-shown}

pub record Fitted (w h r n : ℕ) (b : Lent) : Type 0 where
  pub short : r ≤ 7
  pub wide : w ≤ 8192
  pub high : h ≤ 8192
  pub image : w * h ≤ n
  pub row_room : w * h ≤ length b.row
  pub col-room : w * h ≤ length b.col
  pub falling-room : w * h ≤ length b.falling
  pub rising-room : w * h ≤ length b.rising
  pub response-room : w * h ≤ length b.response

-- the four tables of the five buffers
abbrev pub four_of : Lent → Tables
four_of b = tables b.row b.col b.falling b.rising

module _ (w h r n : ℕ) (b : Lent) where
  fitted : rays_fit w h r n b ≡ true → Fitted w h r n b
  fitted e =
      let a = both_true (leb r 7) (fits_in w h (room_of n b)) e in
      let f = fitting w h (room_of n b) a.1 in
      record {
        short = leb-true r 7 a.0;
        wide = f.wide;
        high = f.high;
        image = omega arith;
        row_room = omega arith;
        col-room = omega arith;
        falling-room = omega arith;
        rising-room = omega arith;
        response-room = omega arith;
      }

  pub fit_so : Fitted w h r n b → rays_fit w h r n b ≡ true
  fit_so f = true_both (le-leb r 7 f.short) (fits_so (record { wide = f.wide; high = f.high; inside = omega arith }))

  -- and so do those of the tables alone
  pub four_fit : Fitted w h r n b → TablesFitted w h n (four_of b)
  four_fit f = record {
    wide = f.wide;
    high = f.high;
    image = f.image;
    row_room = f.row_room;
    col-room = f.col-room;
    falling-room = f.falling-room;
    rising-room = f.rising-room;
  }

  -- sizes fit, so the plain value
  pub rays_plain : (f : ℕ → ℕ → ℕ) {after : Lent} → Fitted w h r n b
      → after ≡ cond (rays_fit w h r n b) (rays_of f w h r b) b → after ≡ rays_of f w h r b
  rays_plain f m e = e ∙ ap (λ (t : Bool). cond t (rays_of f w h r b) b) (fit_so m)

-- ---- the door's own cases

module _ (f : ℕ → ℕ → ℕ) (w h r n : ℕ) (b : Lent) where
  pub when_so : {t : Bool} → t ≡ rays_fit w h r n b → t ≡ true → Fitted w h r n b
  when_so e q = fitted w h r n b (sym e ∙ q)

  -- the tables as `build_cumsums` leaves them
  pub when_built : Fitted w h r n b → {row col falling rising : List ℕ}
      → tables row col falling rising ≡ cond (tables_fit w h n (four_of b)) (tables_of f w h (four_of b)) (four_of b)
      → Four f w h b row col falling rising
  unfolding tables_of
  when_built m e =
      let p = tables_plain w h n (four_of b) f (four_fit w h r n b m) e in
      record {
        on_row = record { room = m.row_room; is = ap (λ (t : Tables). t.row) p };
        on-col = record { room = m.col-room; is = ap (λ (t : Tables). t.col) p };
        on-falling = record { room = m.falling-room; is = ap (λ (t : Tables). t.falling) p };
        on-rising = record { room = m.rising-room; is = ap (λ (t : Tables). t.rising) p };
      }

  -- what the passes leave
  pub when_done : Fitted w h r n b → {row col falling rising : List ℕ} {response : List Float} → Four f w h b row col falling rising
      → response ≡ filled (w * h) (plane w (response_at (shown row w) w h r)) b.response
      → tabled row col falling rising response ≡ cond (rays_fit w h r n b) (rays_of f w h r b) b
  unfolding rays_of
  when_done m t u =
      let v = u ∙ response-shown t.on_row r b.response in
      rw (fit_so w h r n b m) (λ i. tabled (t.on_row.is i) (t.on-col.is i) (t.on-falling.is i) (t.on-rising.is i) (v i))
