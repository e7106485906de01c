-- The invariants of loops that fill a buffer, with the laws for a loop's start, its turn and its end. There is one
-- record, over what the steps up to i write.
-- `for i in 0..n { out[i] = v; }` keeps `Line`. `for y in 0..h { let row = y * w; for x in 0..w { out[row + x] = v; } }` keeps `Rows` and `Row`.
-- An inner loop knows the buffer as it was where that loop began, so `old` in `Row` is that. omega reads the fields: an
-- index wants no law. Assumes nothing.
use mathlib.Core.Path.{◌≡◌, refl, sym, ap, ◌∙◌}
use Prim.Native.Nat.{ℕ, ◌+◌, ◌*◌, ◌≤◌, ◌<◌}
use native.Mathlib.Nat.{add-zero, add_assoc, zero-mul, mul_comm, mul-le-mul_right, le_antisymm}
use native.Mathlib.Omega.{arith}
use mathlib.Core.List.{List}
use lib.ListN.{length, set, get_or, length-set}
use Rattle.grid.specs.Fill.{filled}
use Rattle.grid.proofs.Fill.{filled_zero, filled-filled, fill_step}
use Rattle.grid.specs.Plane.{plane}
use Rattle.grid.proofs.Plane.{plane-at, getD_plane, row_in, next_row}

module _ {ℓ} {A : Type ℓ} where
  -- a loop from a to e has come to i, and `put i` is what its steps made of the buffer
  pub record Steps (a e : ℕ) (put : ℕ → List A → List A) (old out : List A) (i : ℕ) : Type ℓ where
    pub least : a ≤ i
    pub most : i ≤ e
    pub fill : out ≡ put i old
    pub long : length out ≡ length old

  -- the entries below i are done
  abbrev pub Line : ℕ → (ℕ → A) → List A → List A → ℕ → Type ℓ
  Line n f = Steps 0 n (λ i. filled i f)

  -- the rows above y are done
  abbrev pub Rows : ℕ → ℕ → (ℕ → ℕ → A) → List A → List A → ℕ → Type ℓ
  Rows w h g = Steps 0 h (λ y. filled (y * w) (plane w g))

  -- and of row y the columns below x
  pub record Row (w h : ℕ) (g : ℕ → ℕ → A) (old out : List A) (y x : ℕ) : Type ℓ where
    pub room : y * w + w ≤ w * h
    pub steps : Steps 0 w (λ x. filled (y * w + x) (plane w g)) old out x

-- ---- for any steps of which the later write over the earlier

module _ {ℓ} {A : Type ℓ} {a e : ℕ} {put : ℕ → List A → List A} {xs : List A} where
  pub steps_all : {ys : List A} {i : ℕ} → Steps a e put xs ys i → e ≤ i → ys ≡ put e xs
  steps_all r m = rw (← le_antisymm r.most m) r.fill

module _ {ℓ} {A : Type ℓ} {a e : ℕ} {put : ℕ → List A → List A}
    (over : (i j : ℕ) (xs : List A) → i ≤ j → put j (put i xs) ≡ put j xs) {xs ys : List A} {i : ℕ} (r : Steps a e put xs ys i) where
  -- a second loop that goes on where the first stopped: `steps_on` is its start, `steps_join` puts both together
  pub steps_on : Steps a e put ys ys i
  steps_on = record { least = r.least; most = r.most; fill = r.fill ∙ sym (over i i xs (omega arith)) ∙ ap (put i) (sym r.fill); long = refl }

  pub steps_join : {zs : List A} {j : ℕ} → Steps a e put ys zs j → i ≤ j → Steps a e put xs zs j
  steps_join {zs} {j} q b =
      record { least = q.least; most = q.most; fill = q.fill ∙ ap (put j) r.fill ∙ over i j xs b; long = q.long ∙ r.long }

-- filling on from where the entries below i are done already
pub fill_again {ℓ} : {A : Type ℓ} (i : ℕ) (f : ℕ → A) (xs : List A) {ys : List A} → ys ≡ filled i f xs → ys ≡ filled i f ys
fill_again i f xs h = h ∙ sym (filled-filled i i f f xs (omega arith)) ∙ ap (filled i f) (sym h)

-- ---- a line

module _ {ℓ} {A : Type ℓ} (n : ℕ) (f : ℕ → A) (xs : List A) where
  over-line : (i j : ℕ) (xs : List A) → i ≤ j → filled j f (filled i f xs) ≡ filled j f xs
  over-line i j xs b = filled-filled i j f f xs b

  pub line-none : Line n f xs xs 0
  line-none = record { least = omega arith; most = omega arith; fill = filled_zero f xs; long = refl }

  pub line_more : {ys : List A} {i : ℕ} {v : A} → Line n f xs ys i → i < n → v ≡ f i → Line n f xs (set ys i v) (i + 1)
  line_more {ys} {i} {v} r b e = record {
    least = omega arith;
    most = omega arith;
    fill = fill_step f xs i r.fill e;
    long = length-set ys i v ∙ r.long;
  }

  pub line_all : {ys : List A} {i : ℕ} → Line n f xs ys i → n ≤ i → ys ≡ filled n f xs
  line_all r m = steps_all r m

  pub line_on : {ys : List A} {i : ℕ} → Line n f xs ys i → Line n f ys ys i
  line_on r = steps_on over-line r

  pub line_join : {ys zs : List A} {i j : ℕ} → Line n f xs ys i → Line n f ys zs j → i ≤ j → Line n f xs zs j
  line_join r q b = steps_join over-line r q b

-- ---- rows

module _ {ℓ} {A : Type ℓ} (w h : ℕ) (g : ℕ → ℕ → A) (xs : List A) where
  over-rows : (i j : ℕ) (xs : List A) → i ≤ j → filled (j * w) (plane w g) (filled (i * w) (plane w g) xs) ≡ filled (j * w) (plane w g) xs
  over-rows i j xs b = filled-filled (i * w) (j * w) (plane w g) (plane w g) xs (mul-le-mul_right w b)

  pub rows_none : Rows w h g xs xs 0
  rows_none = record { least = omega arith; most = omega arith; fill = rw zero-mul (filled_zero (plane w g) xs); long = refl }

  pub row-none : {ys : List A} {y : ℕ} → Rows w h g xs ys y → y < h → Row w h g ys ys y 0
  row-none {ys} {y} r b = record {
    room = row_in w b;
    steps = record { least = omega arith; most = omega arith; fill = rw add-zero (fill_again (y * w) (plane w g) xs r.fill); long = refl };
  }

  pub row_more : {ys : List A} {x y : ℕ} {v : A} → Row w h g xs ys y x → x < w → v ≡ g x y → Row w h g xs (set ys (y * w + x) v) y (x + 1)
  row_more {ys} {x} {y} {v} r b e = record {
    room = r.room;
    steps = record {
      least = omega arith;
      most = omega arith;
      fill = rw (← add_assoc) (fill_step (plane w g) xs (y * w + x) r.steps.fill (e ∙ sym (plane-at b g y)));
      long = length-set ys (y * w + x) v ∙ r.steps.long;
    };
  }

  pub rows_more : {ys zs : List A} {x y : ℕ} → Rows w h g xs ys y → y < h → Row w h g ys zs y x → w ≤ x → Rows w h g xs zs (y + 1)
  rows_more {ys} {zs} {x} {y} r b q m = record {
    least = omega arith;
    most = omega arith;
    fill = rw (at, q.steps.fill, r.fill) (filled-filled (y * w) (y * w + x) (plane w g) (plane w g) xs (omega arith));
    long = q.steps.long ∙ r.long;
  }
    where
      at : (y + 1) * w ≡ y * w + x
      at = omega (arith, next_row w y)

  pub rows_all : {ys : List A} {y : ℕ} → Rows w h g xs ys y → h ≤ y → ys ≡ filled (w * h) (plane w g) xs
  rows_all r m = rw (mul_comm w h) (steps_all r m)

  pub rows_on : {ys : List A} {y : ℕ} → Rows w h g xs ys y → Rows w h g ys ys y
  rows_on r = steps_on over-rows r

  pub rows_join : {ys zs : List A} {i j : ℕ} → Rows w h g xs ys i → Rows w h g ys zs j → i ≤ j → Rows w h g xs zs j
  rows_join r q b = steps_join over-rows r q b

  -- an entry at (a, b) that an earlier turn stored, read back
  pub row_read : {ys : List A} {x y k : ℕ} → Row w h g xs ys y x → w * h ≤ length xs → (d : A) (a b : ℕ) → a < w → k ≡ b * w + a
      → k < y * w + x → get_or ys k d ≡ g a b
  row_read {ys} {x} {y} {k} r l d a b m e u = rw (e, r.steps.fill) (getD_plane m (y * w + x) g xs b d (omega arith) (omega arith))
