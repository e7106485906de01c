-- Document 01, "Entries beyond stay": what the map's passes leave alone in each buffer. Assumes nothing.
use mathlib.Core.Path.{◌≡◌}
use Prim.Native.Nat.{ℕ, ◌*◌}
use lib.ListN.{drop}
use Rattle.grid.proofs.Fill.{drop-filled}
use Rattle.blur.proofs.BlurLaws.{beyond_scratch, unused_scratch}
use Rattle.response.specs.Map.{raw_at, Buffers, mapped_by}

-- the entries from the n-th on, and without a blur the whole scratch
pub record Stays (n blur : ℕ) (old new : Buffers) : Type 0 where
  pub working : drop n new.working ≡ drop n old.working
  pub row : drop n new.row ≡ drop n old.row
  pub col : drop n new.col ≡ drop n old.col
  pub falling : drop n new.falling ≡ drop n old.falling
  pub rising : drop n new.rising ≡ drop n old.rising
  pub response : drop n new.response ≡ drop n old.response
  pub scratch : drop n new.scratch ≡ drop n old.scratch
  pub unused : blur ≡ 0 → new.scratch ≡ old.scratch

pub stays : (factor ray blur : ℕ) (f : ℕ → ℕ → ℕ) (w h : ℕ) (b : Buffers)
    → Stays (factor * w * (factor * h)) blur b (mapped_by factor ray blur f w h b)
unfolding mapped_by
stays factor ray blur f w h b =
    let n = factor * w * (factor * h) in
    record {
      working = drop-filled n _ b.working;
      row = drop-filled n _ b.row;
      col = drop-filled n _ b.col;
      falling = drop-filled n _ b.falling;
      rising = drop-filled n _ b.rising;
      response = drop-filled n _ b.response;
      scratch = beyond_scratch (raw_at factor ray f w h) (factor * w) (factor * h) b.scratch blur;
      unused = unused_scratch (raw_at factor ray f w h) (factor * w) (factor * h) b.scratch blur;
    }
