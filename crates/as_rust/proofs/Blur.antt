-- The Rust's blur, in place and with its count in f32, is document 01's. Assumes nothing.
use mathlib.Core.Path.{◌≡◌, refl, sym, ap, ◌∙◌}
use mathlib.Core.Logic.{inl, inr}
use mathlib.Core.Bool.{Bool, true, false, cond, ◌||◌}
use mathlib.Core.List.{List}
use Prim.Native.Nat.{ℕ, zero, suc, ◌+◌, ◌-◌, ◌*◌, ◌/◌, ◌%◌, ◌≤◌, ◌<◌, min}
use native.Mathlib.Nat.{eq-or-lt_of_le, zero-mul, mul-zero, div-add-mod', mul-le-mul_right, mul-le-mul}
use native.Mathlib.Omega.{arith}
use borrow.Author.Tests.{eqb-true}
use lib.Dec.{T, eqb, eqb-suc-zero}
use lib.ListN.{length, get_or, length-set}
use lib.Seq.{get_or-set_same, get_or-set_other}
use lib.Ieee.{Float, nan, binary32, add, of_int, of_bits, to_bits, fits}
use Rattle.float.proofs.Computed.{every, every_at, alike, alike_same}
use Rattle.grid.specs.Fill.{filled}
use Rattle.grid.proofs.Fill.{filled_intro, filled_zero}
use Rattle.grid.specs.Plane.{plane}
use Rattle.grid.proofs.Plane.{getD_plane, pixel_in, row_in, next_row, column_in, row-number_in}
use Rattle.grid.specs.Fold.{fsum}
use Rattle.grid.proofs.Fold.{fold-none, fold_on}
use Rattle.means.specs.Means.{value_at, counted, window_sum, mean_at, column_mean}
use Rattle.blur.specs.Blur.{row_mean, blur_at, scratched}
use Rattle.as_rust.specs.Machine.{Machine, ◌⊕◌, ◌⊗◌, ◌⊘◌, lit_0, lit_1, as_f32, float_at, put, for, chunks}
use Rattle.as_rust.specs.Primitives.{horiz_px, horiz_kernel, vert_kernel, box_blur_inplace}
use Rattle.as_rust.proofs.Machine.{usize-is, less-is, inside, put_is}
use Rattle.as_rust.proofs.Tests.{or_true, or_false, above_0}
use Rattle.as_rust.proofs.Loops.{for_keeps, pixels_loop, chunks_are_rows}

-- ---- `n += 1.0` counts

one_more : ℕ → Bool
one_more k = alike (as_f32 k ⊕ lit_1) (as_f32 (k + 1))

counts : T (every one_more 8)
unfolding every one_more alike fits of_bits to_bits add of_int
counts = tt

count-on : (k : ℕ) → k < 8 → as_f32 k ⊕ lit_1 ≡ as_f32 (k + 1)
unfolding one_more
count-on k b = alike_same _ _ (every_at one_more 8 counts k b)

none_is : lit_0 ≡ as_f32 0
unfolding of_bits of_int
none_is = refl

-- ---- rows

module _ (m : Machine) (resp : List Float) (w h r : ℕ) (l : r ≤ 3) (whole : length resp ≡ w * h) (wide : w ≤ 8192) (high : h ≤ 8192) where
  horiz_as_rust : (x y : ℕ) → x < w → y < h → horiz_px m resp w r y x ≡ row_mean (value_at resp w) w r x y
  unfolding horiz_px row_mean mean_at window_sum
  horiz_as_rust x y a b =
      rw (usize-is m (y * w) (omega (arith, room, flat)), usize-is m (x + r + 1) (omega arith))
      (let s = for_keeps {S = Float × Float} (λ i s. (s.0 ≡ fsum g (i - (x - r))) × (s.1 ≡ as_f32 (i - (x - r)))) (x - r) (min (x + r + 1) w)
      (λ xx s. (s.0 ⊕ float_at m resp (y * w + xx), s.1 ⊕ lit_1)) (lit_0, lit_0) (omega arith)
      (rw none (fold-none (add binary32) lit_0 g 0 refl, none_is))
      (λ i s c d t.
      let n : i + 1 - (x - r) ≡ i - (x - r) + 1 = omega arith in
      let k : x - r + (i - (x - r)) ≡ i = omega arith in (
        fold_on (add binary32) lit_0 g (i - (x - r)) (i + 1 - (x - r)) n (rw k (inside resp (y * w + i) _ nan (omega (arith, room)))) t.0,
        rw n (ap (λ (n : Float). n ⊕ lit_1) t.1 ∙ count-on (i - (x - r)) (omega arith)),
      )) in
      (λ i. s.0 i ⊘ s.1 i))
    where
      g : ℕ → Float
      g k = value_at resp w (x - r + k) y

      none : x - r - (x - r) ≡ 0
      none = omega arith

      room : y * w + w ≤ w * h
      room = row_in w b

      flat : w * h ≤ 8192 * 8192
      flat = mul-le-mul wide high

-- ---- a row in place: what it holds, and the entries before and behind it as they were

record RowIs (a n : ℕ) (g : ℕ → Float) (ys dst : List Float) : Type 0 where
  long : length dst ≡ length ys
  is : (i : ℕ) → i < n → get_or dst (a + i) nan ≡ g i
  before : (k : ℕ) → k < a → get_or dst k nan ≡ get_or ys k nan
  behind : (k : ℕ) → a + n ≤ k → get_or dst k nan ≡ get_or ys k nan

-- the entries below x are new, the others as they were
record Turn (a n : ℕ) (g new : ℕ → Float) (ys dst : List Float) (x : ℕ) : Type 0 where
  long : length dst ≡ length ys
  is : (i : ℕ) → i < x → i < n → get_or dst (a + i) nan ≡ new i
  was : (i : ℕ) → x ≤ i → i < n → get_or dst (a + i) nan ≡ g i
  before : (k : ℕ) → k < a → get_or dst k nan ≡ get_or ys k nan
  behind : (k : ℕ) → a + n ≤ k → get_or dst k nan ≡ get_or ys k nan

module _ (m : Machine) (a n : ℕ) (ys : List Float) (room : a + n ≤ length ys) where
  turn_more : {g new : ℕ → Float} {dst : List Float} {x : ℕ} {v : Float} → Turn a n g new ys dst x → x < n → v ≡ new x
      → Turn a n g new ys (put dst (a + x) v) (x + 1)
  turn_more {dst = dst} {x = x} {v = v} t b e = rw (put_is dst (a + x) v (omega (arith, t.long))) (record {
    long = length-set dst (a + x) v ∙ t.long;
    is = λ i p q.
        let l : i ≤ x = omega arith in
        elim (eq-or-lt_of_le l) [
          | inl k ↦ rw k (get_or-set_same dst (a + x) v nan (omega (arith, t.long)) ∙ e)
          | inr k ↦ get_or-set_other dst (a + x) (a + i) v nan (λ z. omega arith) ∙ t.is i k q
        ];
    was = λ i p q. get_or-set_other dst (a + x) (a + i) v nan (λ z. omega arith) ∙ t.was i (omega arith) q;
    before = λ k p. get_or-set_other dst (a + x) k v nan (λ z. omega arith) ∙ t.before k p;
    behind = λ k p. get_or-set_other dst (a + x) k v nan (λ z. omega arith) ∙ t.behind k p;
  })

  -- `for (x, v) in row.iter_mut() { *v = step(x, *v); }`
  phase : (g : ℕ → Float) (step : ℕ → Float → Float) (dst : List Float) → RowIs a n g ys dst
      → RowIs a n (λ i. step i (g i)) ys (for 0 n (λ x dst. put dst (a + x) (step x (float_at m dst (a + x)))) dst)
  phase g step dst r =
      let t = for_keeps (λ x zs. Turn a n g (λ i. step i (g i)) ys zs x) 0 n
      (λ x dst. put dst (a + x) (step x (float_at m dst (a + x)))) dst (omega arith)
      (record { long = r.long; is = λ i p q. absurd (omega arith); was = λ i p q. r.is i q; before = r.before; behind = r.behind })
      (λ x zs _ b t. turn_more t b (ap (step x) (inside zs (a + x) _ nan (omega (arith, t.long)) ∙ t.was x (omega arith) b))) in
      record { long = t.long; is = λ i b. t.is i b b; before = t.before; behind = t.behind }

  row_ext : (g h : ℕ → Float) (dst : List Float) → ((i : ℕ) → i < n → g i ≡ h i) → RowIs a n g ys dst → RowIs a n h ys dst
  row_ext g h dst e r = record { long = r.long; is = λ i b. r.is i b ∙ e i b; before = r.before; behind = r.behind }

-- ---- columns

module _ (m : Machine) (g : ℕ → ℕ → Float) (w h r : ℕ) (small : r ≤ 3) (high : h ≤ 8192) (scratch : List Float)
    (holds : (x y : ℕ) (out : Float) → x < w → y < h → get_or scratch (y * w + x) out ≡ g x y) where
  kernel_as_rust : (y : ℕ) → y < h → (ys : List Float) → w * h ≤ length ys
      → RowIs (y * w) w (λ x. column_mean g h r x y) ys (vert_kernel m scratch w h r y (y * w) w ys)
  unfolding vert_kernel column_mean window_sum
  kernel_as_rust y b ys room =
      rw (usize-is m (y + r + 1) (omega arith), less-is m (min (y + r + 1) h) (y - r) (omega arith), whole_row)
      (let fit : y * w + w ≤ length ys = omega (arith, row_in w b) in
      let start : RowIs (y * w) w (λ i. get_or ys (y * w + i) nan) ys ys =
      record { long = refl; is = λ i p. refl; before = λ k p. refl; behind = λ k p. refl } in
      let zeros = row_ext m (y * w) w ys fit (λ i. lit_0) (sums (y - r)) _ (λ i p. fold-none (add binary32) lit_0 _ (y - r - (y - r)) (omega arith))
      (phase m (y * w) w ys fit _ (λ i v. lit_0) ys start) in
      let added = for_keeps (λ yy dst. RowIs (y * w) w (sums yy) ys dst) (y - r) (min (y + r + 1) h)
      (λ yy dst. for 0 w (λ i dst. put dst (y * w + i) (float_at m dst (y * w + i) ⊕ float_at m scratch (yy * w + i))) dst) _ (omega arith) zeros
      (λ yy dst c d t.
      let n : yy + 1 - (y - r) ≡ yy - (y - r) + 1 = omega arith in
      let k : y - r + (yy - (y - r)) ≡ yy = omega arith in
      row_ext m (y * w) w ys fit (λ i. sums yy i ⊕ float_at m scratch (yy * w + i)) (sums (yy + 1)) _
      (λ i p. fold_on (add binary32) lit_0 _ (yy - (y - r)) (yy + 1 - (y - r)) n (rw k (holds i yy _ p (omega arith))) refl)
      (phase m (y * w) w ys fit (sums yy) (λ i v. v ⊕ float_at m scratch (yy * w + i)) dst t)) in
      phase m (y * w) w ys fit (sums (min (y + r + 1) h)) (λ i v. v ⊗ (lit_1 ⊘ as_f32 (counted h r y))) _ added)
    where
      whole_row : min w w ≡ w
      whole_row = omega arith

      sums : ℕ → ℕ → Float
      sums yy i = fsum (λ j. g i (y - r + j)) (yy - (y - r))

  -- ---- all rows, one after the other

  module _ (old : List Float) (long : length old ≡ w * h) where
    record Done (y : ℕ) (ys : List Float) : Type 0 where
      same : length ys ≡ length old
      rows : (x b : ℕ) → x < w → b < y → get_or ys (b * w + x) nan ≡ column_mean g h r x b
      behind : (k : ℕ) → w * h ≤ k → get_or ys k nan ≡ get_or old k nan

    done_more : (y : ℕ) (ys : List Float) → y < h → Done y ys → Done (y + 1) (vert_kernel m scratch w h r y (y * w) w ys)
    done_more y ys b d =
        let k = kernel_as_rust y b ys (omega (arith, d.same, long)) in
        record {
          same = k.long ∙ d.same;
          rows = λ x c p q.
              let l : c ≤ y = omega arith in
              elim (eq-or-lt_of_le l) [
                | inl z ↦ rw z (k.is x p)
                | inr z ↦ k.before (c * w + x) (omega (arith, next_row w c, mul-le-mul_right w z)) ∙ d.rows x c p z
              ];
          behind = λ i p. k.behind i (omega (arith, row_in w b)) ∙ d.behind i p;
        }

    vert_as_rust : for 0 h (λ y resp. vert_kernel m scratch w h r y (y * w) w resp) old ≡ filled (w * h) (plane w (column_mean g h r)) old
    unfolding plane
    vert_as_rust =
        let out = for 0 h (λ y resp. vert_kernel m scratch w h r y (y * w) w resp) old in
        let d = for_keeps Done 0 h (λ y resp. vert_kernel m scratch w h r y (y * w) w resp) old (omega arith)
        (record { same = refl; rows = λ x c p q. absurd (omega arith); behind = λ k p. refl }) (λ y ys _ b d. done_more y ys b d) in
        filled_intro nan (w * h) _ old _ d.same
        (λ k p q. sym (ap (λ (i : ℕ). get_or out i nan) (div-add-mod' k w)) ∙ d.rows (k % w) (k / w) (column_in w h p) (row-number_in w h p))
        d.behind

-- ---- what the two buffers hold at the end

module _ (m : Machine) (resp scratch : List Float) (w h : ℕ) (wide : w ≤ 8192) (high : h ≤ 8192) (long : length resp ≡ w * h)
    (room : length scratch ≡ w * h) where
  abbrev g : ℕ → ℕ → Float
  g = value_at resp w

  pub record Blurred (r : ℕ) (out : List Float × List Float) : Type 0 where
    pub response : out.0 ≡ filled (w * h) (plane w (blur_at (value_at resp w) w h r)) resp
    pub scratched-is : out.1 ≡ scratched (value_at resp w) w h r scratch

  pub blur_as_rust : (r : ℕ) → r ≤ 3 → Blurred r (box_blur_inplace m resp scratch w h r)
  unfolding box_blur_inplace horiz_kernel
  blur_as_rust zero l = record { response = unfold plane blur_at in same; scratched-is = unfold scratched in refl }
    where
      same : resp ≡ filled (w * h) (λ k. g (k % w) (k / w)) resp
      same = filled_intro nan (w * h) _ resp resp refl (λ k b c. sym (ap (λ (j : ℕ). get_or resp j nan) (div-add-mod' k w))) (λ k b. refl)
  blur_as_rust (suc r) l = rw (eqb-suc-zero r) (go (eqb w 0 || eqb h 0) refl)
    where
      -- `scratch` after 172-178, and `resp` after 213-219
      rows : List Float
      rows = chunks w (λ y at n scratch. horiz_kernel m resp w (suc r) y at n scratch) scratch

      columns : List Float
      columns = chunks w (λ y at n dst. vert_kernel m rows w h (suc r) y at n dst) resp

      rows_are : 0 < w → rows ≡ filled (w * h) (plane w (row_mean g w (suc r))) scratch
      rows_are b =
          chunks_are_rows w h _ scratch b room
          ∙ pixels_loop w h (row_mean g w (suc r)) (λ y x. horiz_px m resp w (suc r) y x) scratch (omega (arith, room))
          (λ x y c d. horiz_as_rust m resp w h (suc r) l long wide high x y c d)

      at : 0 < w → (x y : ℕ) (out : Float) → x < w → y < h → get_or rows (y * w + x) out ≡ row_mean g w (suc r) x y
      at b x y out c d = rw (rows_are b) (getD_plane c (w * h) (row_mean g w (suc r)) scratch y out (pixel_in c d) (omega (arith, room)))

      empty : {A : Type 0} (n : ℕ) (f : ℕ → A) (xs : List A) → n ≡ 0 → xs ≡ filled n f xs
      empty n f xs e = rw e (filled_zero f xs)

      none : w * h ≡ 0 → Blurred (suc r) (resp, scratch)
      none e = record { response = empty (w * h) _ resp e; scratched-is = unfold scratched in empty (w * h) _ scratch e }

      go : (t : Bool) → (eqb w 0 || eqb h 0) ≡ t → Blurred (suc r) (cond t (resp, scratch) (columns, rows))
      go true e = elim (or_true (eqb w 0) (eqb h 0) e) [
        | inl z ↦ none (ap (λ (k : ℕ). k * h) (eqb-true w 0 z) ∙ zero-mul h)
        | inr z ↦ none (ap (λ (k : ℕ). w * k) (eqb-true h 0 z) ∙ mul-zero w)
      ]
      go false e =
          let b : 0 < w = above_0 w (or_false (eqb w 0) (eqb h 0) e).0 in
          record {
            response =
                unfold blur_at in (chunks_are_rows w h _ resp b long ∙ vert_as_rust m (row_mean g w (suc r)) w h (suc r) l high rows (at b) resp long);
            scratched-is = unfold scratched in rows_are b;
          }
