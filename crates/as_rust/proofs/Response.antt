-- The Rust's response from differences of prefix sums is (largest - smallest)² of the four direct ray sums, as the f32
-- of document 01. Assumes nothing.
use mathlib.Core.Path.{◌≡◌, refl, sym, ap, ◌∙◌}
use mathlib.Core.Logic.{inl, inr}
use mathlib.Core.Bool.{Bool, true, false, cond, ◌&&◌, ◌||◌}
use mathlib.Core.List.{List}
use Prim.Native.Nat.{ℕ, ◌+◌, ◌-◌, ◌*◌, ◌^◌, ◌≤◌, ◌<◌, min, max}
use native.Mathlib.Nat.{le_trans}
use native.Mathlib.Omega.{arith}
use borrow.Author.Tests.{ltb-true, ltb-false, leb-true, leb-false}
use lib.Dec.{ltb, leb}
use lib.ListN.{length}
use lib.IntN.{ℤ, pos, ◌-ℤ◌, pos-+ℤ-pos, +ℤ-neg_ℤ_cancel}
use lib.Ieee.{Float}
use Rattle.grid.specs.Fill.{filled}
use Rattle.grid.specs.Plane.{plane}
use Rattle.grid.proofs.Loops.{Row}
use Rattle.grid.specs.Ways.{Way, along, down, fall, rise, pixel, up_to, ray, Inside, Reach}
use Rattle.grid.proofs.Ways.{endx, endy, lowx, lowy, none_past, run_at, ray-is, ray-most}
use Rattle.rays.specs.Response.{spread, square, response_at}
use Rattle.rays.proofs.Inner.{response_in, response_out}
use Rattle.as_rust.specs.Machine.{Machine, lit_0, ltℤ, sat, less, entry-at, put, for, chunks}
use Rattle.as_rust.specs.Response.{Cumsums, s_h, s_v, s_d1, s_d2, radon_response_at, compute_response_row, compute_response}
use Rattle.as_rust.proofs.Machine.{usize-is, less-is, sat-is}
use Rattle.as_rust.proofs.Tests.{and_true, and_false, or_true, or_false}
use Rattle.as_rust.proofs.Loops.{rows_loop, row-part, fill_loop, chunks_are_rows}
use Rattle.as_rust.proofs.Tables.{Image, Sums}

-- ---- a ray from two entries

pub minus : (a b c : ℕ) → a ≡ c + b → pos a -ℤ pos b ≡ pos c
minus a b c e = ap (λ (n : ℕ). pos n -ℤ pos b) e ∙ ap (λ (z : ℤ). z -ℤ pos b) (sym (pos-+ℤ-pos c b)) ∙ +ℤ-neg_ℤ_cancel (pos c) (pos b)

-- `x - r - 1` where r is below x
less_twice : (m : Machine) (r x : ℕ) → r < x → less m (less m x r) 1 ≡ x - r - 1
less_twice m r x l = rw (less-is m x r (omega arith), less-is m (x - r) 1 (omega arith))

-- where the entry before the ray's first pixel stands, and that there is none
abbrev Before : Way → ℕ → ℕ → ℕ → ℕ → ℕ → ℕ → Type 0
Before d w h r x y j = (0 < lowx d x r) × (lowx d x r ≤ w) × (0 < lowy d y r) × (lowy d y r ≤ h) × (j ≡ (lowy d y r - 1) * w + (lowx d x r - 1))

abbrev None : Way → ℕ → ℕ → ℕ → ℕ → Type 0
None d w r x y = Reach d w (lowx d x r) (lowy d y r) × (min (min (lowx d x r) (lowy d y r)) (w + 1 - lowx d x r) ≡ 0)

module _ (m : Machine) (img : List ℕ) (w h r x y : ℕ) (i : Image img w h) (small : r ≤ 7) (c : Inside w h r x y) where
  -- a difference of two entries, in a table
  ray_diff : (d : Way) {t : List ℤ} (s : Sums d img w h t) (b : Bool) (hi j : ℕ) → hi ≡ endy d y r * w + endx d x r
      → (b ≡ true → Before d w h r x y j) → (b ≡ false → None d w r x y)
      → sat m (entry-at m t hi -ℤ cond b (entry-at m t j) (pos 0)) ≡ pos (ray d (pixel img w) r x y)
  ray_diff d {t} s b hi j p u v =
      rw (p, s.at (endx d x r) (endy d y r) _ (in_x d) (in_y d), lo b u v, minus _ _ _ (ray-is d (pixel img w) w h r x y c)) (sat-is m _ fits)
    where
      in_x : (d : Way) → endx d x r < w
      in_x along = omega arith
      in_x down = omega arith
      in_x fall = omega arith
      in_x rise = omega arith

      in_y : (d : Way) → endy d y r < h
      in_y along = omega arith
      in_y down = omega arith
      in_y fall = omega arith
      in_y rise = omega arith

      fits : ray d (pixel img w) r x y < 2 ^ 32
      fits = omega (arith, ray-most d (pixel img w) 255 r x y i.deep)

      lo : (b : Bool) → (b ≡ true → Before d w h r x y j) → (b ≡ false → None d w r x y)
          → cond b (entry-at m t j) (pos 0) ≡ pos (up_to d (pixel img w) w (lowx d x r) (lowy d y r))
      lo true u v =
          let g = u refl in
          rw g.4 (s.at (lowx d x r - 1) (lowy d y r - 1) _ (omega arith) (omega arith))
          ∙ ap pos (run_at d (pixel img w) w (lowx d x r - 1) (lowy d y r - 1) (lowx d x r) (lowy d y r) refl (omega arith) (omega arith))
      lo false u v = ap pos (none_past d (pixel img w) w _ _ (v refl).0 (v refl).1)

-- ---- the greatest and the least

greater : (a b : ℕ) → cond (ltℤ (pos a) (pos b)) (pos b) (pos a) ≡ pos (max a b)
greater a b = go (ltb a b) refl
  where
    go : (t : Bool) → ltb a b ≡ t → cond t (pos b) (pos a) ≡ pos (max a b)
    go true e = ap pos (omega (arith, ltb-true a b e))
    go false e = ap pos (omega (arith, ltb-false a b e))

lesser : (a b : ℕ) → cond (ltℤ (pos b) (pos a)) (pos b) (pos a) ≡ pos (min a b)
lesser a b = go (ltb b a) refl
  where
    go : (t : Bool) → ltb b a ≡ t → cond t (pos b) (pos a) ≡ pos (min a b)
    go true e = ap pos (omega (arith, ltb-true b a e))
    go false e = ap pos (omega (arith, ltb-false b a e))

-- document 01 groups the four in pairs
spread-is : (a b c d : ℕ) → pos (max (max (max a b) c) d) -ℤ pos (min (min (min a b) c) d) ≡ pos (spread a b c d)
spread-is a b c d =
    rw (max_three (max a b) c d, min_three (min a b) c d)
    (minus (max (max a b) (max c d)) (min (min a b) (min c d)) (spread a b c d)
    (kept (min (min a b) (min c d)) (max (max a b) (max c d)) (le_trans (least a b c d) (greatest a b c d))))
  where
    max_three : (a b c : ℕ) → max (max a b) c ≡ max a (max b c)
    max_three a b c = omega arith

    min_three : (a b c : ℕ) → min (min a b) c ≡ min a (min b c)
    min_three a b c = omega arith

    kept : (v u : ℕ) → v ≤ u → u ≡ u - v + v
    kept v u l = omega arith

    least : (a b c d : ℕ) → min (min a b) (min c d) ≤ a
    least a b c d = omega arith

    greatest : (a b c d : ℕ) → a ≤ max (max a b) (max c d)
    greatest a b c d = omega arith

spread-most : (n a b c d : ℕ) → a ≤ n → b ≤ n → c ≤ n → d ≤ n → spread a b c d ≤ n
spread-most n a b c d p q r s = cut (max (max a b) (max c d)) (min (min a b) (min c d)) (both (max a b) (max c d) (both a b p q) (both c d r s))
  where
    both : (a b : ℕ) → a ≤ n → b ≤ n → max a b ≤ n
    both a b p q = omega arith

    cut : (u v : ℕ) → u ≤ n → u - v ≤ n
    cut u v l = omega arith

-- the four tables of an image
pub record Built (img : List ℕ) (cs : Cumsums) : Type 0 where
  pub image : Image img cs.w cs.h
  pub rows : Sums along img cs.w cs.h cs.row
  pub columns : Sums down img cs.w cs.h cs.col
  pub falling : Sums fall img cs.w cs.h cs.diag_pos
  pub rising : Sums rise img cs.w cs.h cs.diag_neg

module _ (m : Machine) (img : List ℕ) (cs : Cumsums) (b : Built img cs) (r : ℕ) (small : r ≤ 7) where
  abbrev w : ℕ
  w = cs.w

  abbrev h : ℕ
  h = cs.h

  abbrev f : ℕ → ℕ → ℕ
  f = pixel img cs.w

  module _ (x y : ℕ) (c : Inside cs.w cs.h r x y) where
    s_h_is : s_h m cs r x y ≡ pos (ray along f r x y)
    unfolding s_h
    s_h_is = ray_diff m img w h r x y b.image small c along b.rows (ltb r x) _ _ refl
        (λ e.
        let l : r < x = ltb-true r x e in
        let n : y ≡ y + 1 - 1 = omega arith in
        (omega arith, omega arith, omega arith, omega arith, λ i. n i * w + less_twice m r x l i))
        (λ e. let l : x ≤ r = ltb-false r x e in (omega arith, omega arith))

    s_v_is : s_v m cs r x y ≡ pos (ray down f r x y)
    unfolding s_v
    s_v_is = ray_diff m img w h r x y b.image small c down b.columns (ltb r y) _ _ refl
        (λ e.
        let l : r < y = ltb-true r y e in
        let n : x ≡ x + 1 - 1 = omega arith in
        (omega arith, omega arith, omega arith, omega arith, λ i. less_twice m r y l i * w + n i))
        (λ e. let l : y ≤ r = ltb-false r y e in (omega arith, omega arith))

    s_d1_is : s_d1 m cs r x y ≡ pos (ray fall f r x y)
    unfolding s_d1
    s_d1_is = ray_diff m img w h r x y b.image small c fall b.falling (ltb r x && ltb r y) _ _ refl
        (λ e.
        let l : r < x = ltb-true r x (and_true (ltb r x) (ltb r y) e).0 in
        let k : r < y = ltb-true r y (and_true (ltb r x) (ltb r y) e).1 in
        (omega arith, omega arith, omega arith, omega arith, λ i. less_twice m r y k i * w + less_twice m r x l i))
        (λ e. elim (and_false (ltb r x) (ltb r y) e) [
          | inl u ↦ (omega arith, omega (arith, ltb-false r x u))
          | inr u ↦ (omega arith, omega (arith, ltb-false r y u))
        ])

    s_d2_is : s_d2 m cs r x y ≡ pos (ray rise f r x y)
    unfolding s_d2
    s_d2_is =
        rw (usize-is m (x + r + 1) (omega (arith, c.right, b.image.wide)))
        (ray_diff m img w h r x y b.image small c rise b.rising (ltb r y && ltb (x + r + 1) w) _ _
        (λ i. (y + r) * w + less-is m x r c.left i)
        (λ e.
        let l : r < y = ltb-true r y (and_true (ltb r y) (ltb (x + r + 1) w) e).0 in
        let k : x + r + 1 < w = ltb-true (x + r + 1) w (and_true (ltb r y) (ltb (x + r + 1) w) e).1 in
        let n : x + r + 1 ≡ x + r + 1 + 1 - 1 = omega arith in
        (omega arith, omega arith, omega arith, omega arith, λ i. less_twice m r y l i * w + n i))
        (λ e. elim (and_false (ltb r y) (ltb (x + r + 1) w) e) [
          | inl u ↦ (omega arith, omega (arith, ltb-false r y u))
          | inr u ↦ (omega arith, omega (arith, ltb-false (x + r + 1) w u))
        ]))

    fits : spread (ray along f r x y) (ray down f r x y) (ray fall f r x y) (ray rise f r x y) < 2 ^ 32
    fits =
        let most : (d : Way) → ray d f r x y ≤ 255 * (2 * r + 1) = λ d. ray-most d f 255 r x y b.image.deep in
        omega (arith, spread-most (255 * (2 * r + 1)) _ _ _ _ (most along) (most down) (most fall) (most rise))

    at_as_rust : radon_response_at m cs r x y ≡ response_at (pixel img cs.w) cs.w cs.h r x y
    unfolding radon_response_at square
    at_as_rust =
        rw (s_h_is, s_v_is, s_d1_is, s_d2_is)
        (simp (greater, lesser, spread-is, sat-is m (spread (ray along f r x y) (ray down f r x y) (ray fall f r x y) (ray rise f r x y)) fits)
        (response_in f w h r x y c refl refl refl refl))

  -- ---- a row

  abbrev G : ℕ → ℕ → Float
  G = response_at (pixel img cs.w) cs.w cs.h r

  out : (x y : ℕ) → (Inside w h r x y → ⊥) → lit_0 ≡ G x y
  out x y n = response_out f w h r x y n

  row_as_rust : (y : ℕ) {xs : List Float} → 2 * r < w → y < h → w * h ≤ length xs → Row w h G xs xs y 0
      → Row w h G xs (compute_response_row m cs r y (y * w) w xs) y w
  unfolding compute_response_row
  row_as_rust y {xs} l below room q =
      rw (usize-is m (y + r) (omega (arith, b.image.high)), less-is m w r (omega arith), ends) (go (ltb y r || leb h (y + r)) refl)
    where
      ends : min w (w - r) ≡ w - r
      ends = omega arith

      go : (t : Bool) → (ltb y r || leb h (y + r)) ≡ t → Row w h G xs (cond t (for 0 w (λ i row. put row (y * w + i) lit_0) xs)
          (let row = for 0 r (λ i row. put row (y * w + i) lit_0) xs in
          let row = for r (w - r) (λ x row. put row (y * w + x) (radon_response_at m cs r x y)) row in
          for (w - r) w (λ i row. put row (y * w + i) lit_0) row)) y w
      go true e =
          row-part w h G xs room y 0 w (λ x. lit_0) (omega arith) (omega arith)
          (λ x u v. out x y (λ c. elim (or_true (ltb y r) (leb h (y + r)) e) [
            | inl t ↦ omega (arith, ltb-true y r t, c.above)
            | inr t ↦ omega (arith, leb-true h (y + r) t, c.below)
          ])) q
      go false e =
          let a : r ≤ y = ltb-false y r (or_false (ltb y r) (leb h (y + r)) e).0 in
          let z : y + r < h = leb-false h (y + r) (or_false (ltb y r) (leb h (y + r)) e).1 in
          row-part w h G xs room y (w - r) w (λ x. lit_0) (omega arith) (omega arith) (λ x u v. out x y (λ c. omega (arith, c.right)))
          (row-part w h G xs room y r (w - r) (λ x. radon_response_at m cs r x y) (omega arith) (omega arith)
          (λ x u v. at_as_rust x y (record { left = u; right = omega arith; above = a; below = z }))
          (row-part w h G xs room y 0 r (λ x. lit_0) (omega arith) (omega arith) (λ x u v. out x y (λ c. omega (arith, c.left))) q))

  pub response_as_rust : (xs : List Float) → length xs ≡ cs.w * cs.h
      → compute_response m cs r xs ≡ filled (cs.w * cs.h) (plane cs.w (response_at (pixel img cs.w) cs.w cs.h r)) xs
  unfolding compute_response
  response_as_rust xs long = rw (usize-is m (2 * r) (omega arith)) (go (leb w (2 * r) || leb h (2 * r)) refl)
    where
      all_plane : ((x y : ℕ) → lit_0 ≡ G x y) → (k : ℕ) → lit_0 ≡ plane w G k
      all_plane e k = unfold plane in e _ _

      go : (t : Bool) → (leb w (2 * r) || leb h (2 * r)) ≡ t
          → cond t (for 0 (length xs) (λ i row. put row i lit_0) xs) (chunks w (λ y at n row. compute_response_row m cs r y at n row) xs)
          ≡ filled (w * h) (plane w G) xs
      go true e =
          fill_loop (plane w G) lit_0 (w * h) xs long
          (λ k _. all_plane (λ x y. out x y (λ c. elim (or_true (leb w (2 * r)) (leb h (2 * r)) e) [
            | inl t ↦ omega (arith, leb-true w (2 * r) t, c.left, c.right)
            | inr t ↦ omega (arith, leb-true h (2 * r) t, c.above, c.below)
          ])) k)
      go false e =
          let l : 2 * r < w = leb-false w (2 * r) (or_false (leb w (2 * r)) (leb h (2 * r)) e).0 in
          chunks_are_rows w h (λ y at n row. compute_response_row m cs r y at n row) xs (omega arith) long
          ∙ rows_loop w h G xs (omega arith) _ (λ y ys below room q. row_as_rust y l below room q)
