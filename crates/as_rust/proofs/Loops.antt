-- A counted loop keeps what its turns keep; one that stores a value at each pixel, or along a part of a row, fills the buffer. Assumes nothing.
use mathlib.Core.Path.{◌≡◌, refl, ap, ◌∙◌}
use mathlib.Core.List.{List, [], ◌∷◌, ◌++◌}
use Prim.Native.Nat.{ℕ, zero, suc, ◌+◌, ◌-◌, ◌*◌, ◌/◌, ◌≤◌, ◌<◌, min}
use native.Mathlib.Nat.{mul_comm}
use native.Mathlib.Numerals.{add-one}
use native.Mathlib.Omega.{arith}
use lib.ListN.{length}
use Rattle.grid.specs.Fill.{filled}
use Rattle.grid.specs.Plane.{plane}
use Rattle.grid.proofs.Plane.{row_of, row_in}
use Rattle.grid.proofs.Loops.{Rows, Row, Line, rows_none, row-none, row_more, rows_more, rows_all, line-none, line_more, line_all}
use Rattle.grid.specs.Rect.{Place, place, rect}
use Rattle.grid.proofs.Rect.{before, rect-none, before_first, before_more, before_last}
use Rattle.as_rust.specs.Machine.{put, times, for, chunks}
use Rattle.as_rust.proofs.Machine.{put_is}

module _ {S : Type 0} where
  times_keeps : (P : ℕ → S → Type 0) (n : ℕ) (step : ℕ → S → S) (s : S) → P 0 s → ((i : ℕ) (t : S) → i < n → P i t → P (i + 1) (step i t))
      → P n (times n step s)
  unfolding times
  times_keeps P zero step s p k = p
  times_keeps P (suc n) step s p k =
      rw add-one at (k n (times n step s) (omega arith) (times_keeps P n step s p (λ i t b q. k i t (omega arith) q)))

  -- what holds before the loop and is kept by each turn holds after it
  pub for_keeps : (P : ℕ → S → Type 0) (a e : ℕ) (step : ℕ → S → S) (s : S) → a ≤ e → P a s
      → ((i : ℕ) (t : S) → a ≤ i → i < e → P i t → P (i + 1) (step i t)) → P e (for a e step s)
  for_keeps P a e step s l p k =
      let end : a + (e - a) ≡ e = omega arith in
      let begin : a + 0 ≡ a = omega arith in
      rw end at (times_keeps (λ j t. P (a + j) t) (e - a) (λ j. step (a + j)) s (rw begin p)
      (λ j t b q.
      let next : a + (j + 1) ≡ a + j + 1 = omega arith in
      rw next (k (a + j) t (omega arith) (omega arith) q)))

  times_ext : (n : ℕ) (f g : ℕ → S → S) (s : S) → ((i : ℕ) (t : S) → i < n → f i t ≡ g i t) → times n f s ≡ times n g s
  unfolding times
  times_ext zero f g s e = refl
  times_ext (suc n) f g s e = ap (f n) (times_ext n f g s (λ i t b. e i t (omega arith))) ∙ e n (times n g s) (omega arith)

  -- only the turns count
  pub for_ext : (a e : ℕ) (f g : ℕ → S → S) (s : S) → ((i : ℕ) (t : S) → a ≤ i → i < e → f i t ≡ g i t) → for a e f s ≡ for a e g s
  for_ext a e f g s h = times_ext (e - a) (λ j. f (a + j)) (λ j. g (a + j)) s (λ j t b. h (a + j) t (omega arith) (omega arith))

  -- as many turns, counted from elsewhere
  pub for_shift : (n a e : ℕ) (f g : ℕ → S → S) (s : S) → n ≡ e - a → ((i : ℕ) (t : S) → i < n → f i t ≡ g (a + i) t) → times n f s ≡ for a e g s
  for_shift n a e f g s q h = times_ext n f (λ j. g (a + j)) s h ∙ ap (λ (k : ℕ). times k (λ j. g (a + j)) s) q

-- ---- a buffer

module _ {A : Type 0} (w h : ℕ) (g : ℕ → ℕ → A) (xs : List A) (room : w * h ≤ length xs) where
  -- a turn that stores
  pub row_put : {ys : List A} {x y : ℕ} {v : A} → Row w h g xs ys y x → x < w → v ≡ g x y → Row w h g xs (put ys (y * w + x) v) y (x + 1)
  row_put {ys} {x} {y} {v} r b e = rw (put_is ys (y * w + x) v (omega (arith, r.steps.long, r.room))) (row_more w h g xs r b e)

  -- a part of a row
  pub row-part : (y lo hi : ℕ) (px : ℕ → A) {ys : List A} → lo ≤ hi → hi ≤ w → ((x : ℕ) → lo ≤ x → x < hi → px x ≡ g x y) → Row w h g xs ys y lo
      → Row w h g xs (for lo hi (λ x out. put out (y * w + x) (px x)) ys) y hi
  row-part y lo hi px {ys} l m e r =
      for_keeps (λ x zs. Row w h g xs zs y x) lo hi (λ x out. put out (y * w + x) (px x)) ys l r (λ x zs a b t. row_put t (omega arith) (e x a b))

-- rows, each from what the one before left
pub rows_loop : {A : Type 0} (w h : ℕ) (g : ℕ → ℕ → A) (xs : List A) → w * h ≤ length xs → (step : ℕ → List A → List A)
    → ((y : ℕ) (ys : List A) → y < h → w * h ≤ length ys → Row w h g ys ys y 0 → Row w h g ys (step y ys) y w)
    → for 0 h step xs ≡ filled (w * h) (plane w g) xs
rows_loop w h g xs room step k =
    rows_all w h g xs
    (for_keeps (λ y ys. Rows w h g xs ys y) 0 h step xs (omega arith) (rows_none w h g xs)
    (λ y ys a b r. rows_more w h g xs r b (k y ys b (omega (arith, r.long)) (row-none w h g xs r b)) (omega arith)))
    (omega arith)

-- a value at each pixel
pub pixels_loop : {A : Type 0} (w h : ℕ) (g : ℕ → ℕ → A) (px : ℕ → ℕ → A) (xs : List A) → w * h ≤ length xs
    → ((x y : ℕ) → x < w → y < h → px y x ≡ g x y)
    → for 0 h (λ y out. for 0 w (λ x out. put out (y * w + x) (px y x)) out) xs ≡ filled (w * h) (plane w g) xs
pixels_loop w h g px xs room e =
    rows_loop w h g xs room (λ y out. for 0 w (λ x out. put out (y * w + x) (px y x)) out) (λ y ys b l q.
    row-part w h g ys l y 0 w (px y) (omega arith) (omega arith) (λ x _ c. e x y c b) q)

-- `fill`
pub fill_loop : {A : Type 0} (f : ℕ → A) (v : A) (n : ℕ) (xs : List A) → length xs ≡ n → ((k : ℕ) → k < n → v ≡ f k)
    → for 0 (length xs) (λ i out. put out i v) xs ≡ filled n f xs
fill_loop f v n xs long e =
    line_all n f xs
    (for_keeps (λ i ys. Line n f xs ys i) 0 (length xs) (λ i out. put out i v) xs (omega arith) (line-none n f xs)
    (λ i ys a b t. rw (put_is ys i v (omega (arith, t.long))) (line_more n f xs t (omega arith) (e i (omega arith)))))
    (omega arith)

-- the chunks of a buffer of w * h entries are its h rows, each of w entries
pub chunks_are_rows : {A : Type 0} (w h : ℕ) (step : ℕ → ℕ → ℕ → List A → List A) (s : List A) → 0 < w → length s ≡ w * h
    → chunks w step s ≡ for 0 h (λ y s. step y (y * w) w s) s
unfolding chunks
chunks_are_rows w h step s b long =
    for_shift _ 0 h _ (λ y s. step y (y * w) w s) s count (λ i t c.
    let z : 0 + i ≡ i = omega arith in
    let n : min w (length s - i * w) ≡ w = omega (arith, row_in w {h = h} {y = i} (omega (arith, count)), long) in
    rw (z, n))
  where
    last : w - 1 < w
    last = omega arith

    count : (length s + (w - 1)) / w ≡ h - 0
    count = ap (λ (k : ℕ). (k + (w - 1)) / w) (long ∙ mul_comm w h) ∙ row_of last h ∙ omega arith

-- ---- a turn for each place of a rectangle, a row at a time
pub rect_loop : {S : Type 0} (P : List Place → S → Type 0) (ax ex ay ey : ℕ) (step : ℕ → ℕ → S → S) (s : S) → ax ≤ ex → ay ≤ ey → P [] s
    → ((x y : ℕ) (t : S) → ax ≤ x → x < ex → ay ≤ y → y < ey → P (before ax ex ay x y) t → P (before ax ex ay x y ++ (place x y ∷ [])) (step y x t))
    → P (rect ax ex ay ey) (for ay ey (λ y s. for ax ex (λ x s. step y x s) s) s)
rect_loop {S} P ax ex ay ey step s u v p k =
    for_keeps (λ y t. P (rect ax ex ay y) t) ay ey (λ y s. for ax ex (λ x s. step y x s) s) s v (rw rect-none p)
    (λ y t a b r. rw (← before_last ax ex ay y a) (row y t a b r))
  where
    row : (y : ℕ) (t : S) → ay ≤ y → y < ey → P (rect ax ex ay y) t → P (before ax ex ay ex y) (for ax ex (λ x s. step y x s) t)
    row y t a b r =
        for_keeps (λ x t. P (before ax ex ay x y) t) ax ex (λ x s. step y x s) t u (rw before_first r)
        (λ x t c d q. rw (before_more ax ex ay x y c) (k x y t c d a b q))
