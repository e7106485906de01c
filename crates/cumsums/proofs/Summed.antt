-- A table by its steps, over the way, and the direct sum along its line that it comes to. Assumes nothing.
use mathlib.Core.Path.{◌≡◌, refl, sym, ◌∙◌}
use mathlib.Core.Bool.{cond}
use mathlib.Core.List.{List}
use Prim.Native.Nat.{ℕ, zero, suc, ◌+◌, ◌-◌, ◌*◌, ◌≤◌, ◌<◌, min}
use native.Mathlib.Numerals.{unary_clauses}
use native.Mathlib.Nat.{add_comm, zero-add}
use native.Mathlib.Decide.{dec_lt}
use native.Mathlib.Omega.{arith}
use lib.Dec.{ltb}
use borrow.Author.Tests.{lt-ltb, le-ltb}
use Rattle.grid.specs.Fill.{filled}
use Rattle.grid.specs.Plane.{plane}
use Rattle.grid.proofs.Plane.{plane_ext}
use Rattle.grid.specs.Ways.{Way, along, down, fall, rise, run_sum, Reach}
use Rattle.grid.proofs.Ways.{prevx, prevy, run-first, run_on, run_at, run-most, run_ext}
use Rattle.cumsums.specs.Tables.{table_at, table_of}

-- the pixel before x and y on its line
abbrev pub beforex : Way → ℕ → ℕ
beforex along x = x - 1
beforex down x = x
beforex fall x = x - 1
beforex rise x = x + 1

abbrev pub beforey : Way → ℕ → ℕ
beforey along y = y
beforey down y = y - 1
beforey fall y = y - 1
beforey rise y = y - 1

-- there is none, so that a line begins at x and y; there is one
abbrev pub Begins : Way → ℕ → ℕ → ℕ → Type 0
Begins along w x y = x ≡ 0
Begins down w x y = y ≡ 0
Begins fall w x y = min x y ≡ 0
Begins rise w x y = min y (w - 1 - x) ≡ 0

abbrev pub Goes : Way → ℕ → ℕ → ℕ → Type 0
Goes along w x y = 0 < x
Goes down w x y = 0 < y
Goes fall w x y = (0 < x) × (0 < y)
Goes rise w x y = (0 < y) × (x + 1 < w)

module _ (f : ℕ → ℕ → ℕ) (w : ℕ) where
  pub table_first : (d : Way) (x y : ℕ) → x < w → Begins d w x y → f x y ≡ table_at d f w x y
  unfolding table_at
  table_first along zero y l b = refl
  table_first along (suc x) y l b = absurd (omega arith)
  table_first down x zero l b = refl
  table_first down x (suc y) l b = absurd (omega arith)
  table_first fall zero y l b = refl
  table_first fall (suc x) zero l b = refl
  table_first fall (suc x) (suc y) l b = absurd (omega arith)
  table_first rise x zero l b = refl
  table_first rise x (suc y) l b = rw (le-ltb (suc x) w (omega arith)) (omega arith)

  pub table_on : (d : Way) (x y : ℕ) → Goes d w x y → table_at d f w (beforex d x) (beforey d y) + f x y ≡ table_at d f w x y
  unfolding table_at
  table_on along zero y g = absurd (omega arith)
  table_on along (suc x) y g = simp unary_clauses
  table_on down x zero g = absurd (omega arith)
  table_on down x (suc y) g = simp unary_clauses
  table_on fall zero y g = absurd (omega arith)
  table_on fall (suc x) zero g = absurd (omega arith)
  table_on fall (suc x) (suc y) g = simp unary_clauses
  table_on rise x zero g = absurd (omega arith)
  table_on rise x (suc y) g = simp (unary_clauses, lt-ltb (suc x) w (omega arith))

-- ---- the direct sum

module _ (f : ℕ → ℕ → ℕ) (w : ℕ) where
  sum_first : (d : Way) (x y : ℕ) → x < w → Begins d w x y → f x y ≡ run_sum d f w x y
  sum_first d x y l b = run-first d f w x y l (at d b).0 (at d b).1
    where
      at : (d : Way) → Begins d w x y
          → Reach d w (prevx d x) (prevy d y) × (min (min (prevx d x) (prevy d y)) (w + 1 - prevx d x) ≡ 0)
      at along b = omega arith
      at down b = omega arith
      at fall b = omega arith
      at rise b = omega arith

  -- k is the sum at (a, b), the pixel before
  sum-on : (d : Way) (x y a b : ℕ) {k : ℕ} → x < w → a + 1 ≡ prevx d x → b + 1 ≡ prevy d y → k ≡ run_sum d f w a b
      → k + f x y ≡ run_sum d f w x y
  sum-on d x y a b l p q e = add_comm _ _ ∙ run_on d f w x y l (run_at d f w a b (prevx d x) (prevy d y) e p q)

  pub table_run : (d : Way) (x y : ℕ) → x < w → table_at d f w x y ≡ run_sum d f w x y
  unfolding table_at
  table_run along zero y l = sum_first along zero y l refl
  table_run along (suc x) y l = sum-on along (suc x) y x y l (omega arith) (omega arith) (table_run along x y (omega arith))
  table_run down x zero l = sum_first down x zero l refl
  table_run down x (suc y) l = sum-on down x (suc y) x y l (omega arith) (omega arith) (table_run down x y l)
  table_run fall zero y l = sum_first fall zero y l (omega arith)
  table_run fall (suc x) zero l = sum_first fall (suc x) zero l (omega arith)
  table_run fall (suc x) (suc y) l =
      sum-on fall (suc x) (suc y) x y l (omega arith) (omega arith) (table_run fall x y (omega arith))
  table_run rise x zero l = sum_first rise x zero l (omega arith)
  table_run rise x (suc y) l = at (dec_lt (suc x) w) (table_run rise (suc x) y)
    where
      at : Dec (suc x < w) → (suc x < w → table_at rise f w (suc x) y ≡ run_sum rise f w (suc x) y)
          → cond (ltb (suc x) w) (table_at rise f w (suc x) y) 0 + f x (suc y) ≡ run_sum rise f w x (suc y)
      at (yes m) e = rw (lt-ltb (suc x) w m) (sum-on rise x (suc y) (suc x) y l (omega arith) (omega arith) (e m))
      at (no m) e = rw (le-ltb (suc x) w (omega arith), zero-add) (sum_first rise x (suc y) l (omega arith))

  -- no entry passes the greatest pixel times the longer side
  pub table_most : (d : Way) (top side x y : ℕ) → ((x y : ℕ) → f x y ≤ top) → x < w → w ≤ side → y < side
      → table_at d f w x y ≤ top * side
  table_most d top side x y m l u v = rw (table_run d x y l) (run-most d f top side w (x + 1) (y + 1) m (omega arith) (omega arith))

  -- a whole buffer, from one to the other and, by `sym`, back
  pub table_filled : (d : Way) (h : ℕ) (old : List ℕ) → table_of d f w h old ≡ filled (w * h) (plane w (run_sum d f w)) old
  table_filled d h old = plane_ext w h _ _ old (λ x y l m. table_run d x y l)

-- two images with the same pixels have the same tables
pub table_ext : (d : Way) (f g : ℕ → ℕ → ℕ) (w h : ℕ) (old : List ℕ) → ((x y : ℕ) → x < w → y < h → f x y ≡ g x y)
    → table_of d f w h old ≡ table_of d g w h old
table_ext d f g w h old e =
    plane_ext w h _ _ old (λ x y l m. table_run f w d x y l ∙ run_ext d f g w h x y l m e ∙ sym (table_run g w d x y l))
