-- The Rust's four prefix tables hold the running sums along the four ways, and no sum leaves a table. Assumes nothing.
use mathlib.Core.Path.{◌≡◌, refl, sym, ap, ◌∙◌}
use mathlib.Core.Logic.{inl, inr}
use mathlib.Core.Bool.{Bool, true, false, cond, ◌&&◌}
use mathlib.Core.List.{List}
use Prim.Native.Nat.{ℕ, ◌+◌, ◌-◌, ◌*◌, ◌/◌, ◌%◌, ◌^◌, ◌≤◌, ◌<◌, min}
use native.Mathlib.Nat.{eq-or-lt_of_le, div-add-mod'}
use native.Mathlib.Omega.{arith}
use borrow.Author.Tests.{ltb-true, ltb-false}
use lib.Dec.{ltb}
use lib.ListN.{length, get_or, length-set}
use lib.Seq.{get_or-set_same, get_or-set_other}
use lib.IntN.{ℤ, pos, ◌+ℤ◌, pos-+ℤ-pos}
use Rattle.grid.specs.Fill.{filled}
use Rattle.grid.proofs.Fill.{filled_intro, length-filled}
use Rattle.grid.specs.Plane.{plane}
use Rattle.grid.proofs.Plane.{getD_plane, pixel_in, row-above, row_of, column_of, column_in, row-number_in}
use Rattle.grid.proofs.Loops.{Row, row_read}
use Rattle.grid.specs.Ways.{Way, along, down, fall, rise, pixel, up_to, run_sum, Reach}
use Rattle.grid.proofs.Ways.{prevx, prevy, none_past, run_on, run_at, run-most}
use Rattle.as_rust.specs.Machine.{Machine, sat, usize, less, byte_at, entry-at, put, for}
use Rattle.as_rust.specs.Response.{sat-row, sat-col, sat-diag_pos, sat-diag_neg}
use Rattle.as_rust.proofs.Machine.{usize-is, less-is, sat-is, inside, put_is}
use Rattle.as_rust.proofs.Tests.{and_true, and_false}
use Rattle.as_rust.proofs.Loops.{for_keeps, rows_loop, row_put}

abbrev pub run : Way → List ℕ → ℕ → ℕ → ℕ → ℤ
run d img w x y = pos (run_sum d (pixel img w) w x y)

-- a working image within document 01's limits
pub record Image (img : List ℕ) (w h : ℕ) : Type 0 where
  pub whole : length img ≡ w * h
  pub deep : (x y : ℕ) → pixel img w x y ≤ 255
  pub wide : w ≤ 8192
  pub high : h ≤ 8192

-- a table of w * h integers that holds the running sums
pub record Sums (d : Way) (img : List ℕ) (w h : ℕ) (t : List ℤ) : Type 0 where
  pub long : length t ≡ w * h
  pub at : (x y : ℕ) (out : ℤ) → x < w → y < h → get_or t (y * w + x) out ≡ run d img w x y

-- so it is that table
pub sums_fill : {d : Way} {img : List ℕ} {w h : ℕ} {t : List ℤ} → Sums d img w h t → t ≡ filled (w * h) (plane w (run d img w)) t
unfolding plane
sums_fill {d} {img} {w} {h} {t} s =
    filled_intro (pos 0) (w * h) _ t t refl
    (λ k b _. sym (ap (λ (j : ℕ). get_or t j (pos 0)) (div-add-mod' k w)) ∙ s.at (k % w) (k / w) (pos 0) (column_in w h b) (row-number_in w h b))
    (λ k _. refl)

module _ (m : Machine) (img : List ℕ) (w h : ℕ) (i : Image img w h) (old : List ℤ) (room : length old ≡ w * h) where
  filled_sums : (d : Way) {t : List ℤ} → t ≡ filled (w * h) (plane w (run d img w)) old → Sums d img w h t
  filled_sums d {t} e = record {
    long = ap length e ∙ length-filled (w * h) _ old ∙ room;
    at = λ x y out a b. rw e (getD_plane a (w * h) (run d img w) old y out (pixel_in a b) (omega (arith, room)));
  }

  -- a read of the image is inside it
  reads : (x y : ℕ) → x < w → y < h → byte_at m img (y * w + x) ≡ pixel img w x y
  reads x y a b = inside img (y * w + x) _ 0 (omega (arith, i.whole, pixel_in a b))

  plus : (a b c : ℕ) → b + a ≡ c → pos a +ℤ pos b ≡ pos c
  plus a b c e = pos-+ℤ-pos a b ∙ ap pos (omega arith)

  -- no running sum passes 255 · 8,192
  fits : (d : Way) (x y : ℕ) → x < w → y < h → run_sum d (pixel img w) w x y < 2 ^ 32
  fits d x y a b = omega (arith, run-most d (pixel img w) 255 8192 w (x + 1) (y + 1) i.deep (omega (arith, i.wide)) (omega (arith, i.high)))

  -- acc is what the line has before x and y; one pixel more, in a table
  more : (d : Way) (x y : ℕ) {acc : ℤ} → x < w → y < h → acc ≡ pos (up_to d (pixel img w) w (prevx d x) (prevy d y))
      → sat m (acc +ℤ pos (byte_at m img (y * w + x))) ≡ run d img w x y
  more d x y a b e = rw (e, reads x y a b, plus _ _ _ (run_on d (pixel img w) w x y a refl)) (sat-is m _ (fits d x y a b))

  pub row_sums : Sums along img w h (sat-row m img w h old)
  unfolding sat-row
  row_sums =
      filled_sums along
      (rows_loop w h (run along img w) old (omega arith) _ (λ y ys b l q.
      (for_keeps {S = ℤ × List ℤ} (λ x s. (s.0 ≡ pos (up_to along (pixel img w) w x (y + 1))) × Row w h (run along img w) ys s.1 y x) 0 w _
      (pos 0, ys) (omega arith)
      (ap pos (none_past along (pixel img w) w 0 (y + 1) (omega arith) (omega arith)), q)
      (λ x s _ c t.
      let e = more along x y c b t.0 in
      (e, row_put w h (run along img w) ys l t.1 c e))).1))

  -- what stands before x and y on a line that comes from the row above
  before : (d : Way) (t : Bool) (x y k : ℕ) {ys zs : List ℤ} → Row w h (run d img w) ys zs y x → w * h ≤ length ys
      → (t ≡ true → (0 < y) × (prevy d y ≡ y) × (0 < prevx d x) × (prevx d x ≤ w)
      × (k ≡ (y - 1) * w + (prevx d x - 1)) × ((y - 1) * w + (prevx d x - 1) < y * w + x))
      → (t ≡ false → Reach d w (prevx d x) (prevy d y) × (min (min (prevx d x) (prevy d y)) (w + 1 - prevx d x) ≡ 0))
      → cond t (entry-at m zs k) (pos 0) ≡ pos (up_to d (pixel img w) w (prevx d x) (prevy d y))
  before d true x y k {ys} r l u v =
      let g = u refl in
      row_read w h (run d img w) ys r l _ (prevx d x - 1) (y - 1) (omega arith) g.4 (omega arith)
      ∙ ap pos (run_at d (pixel img w) w (prevx d x - 1) (y - 1) (prevx d x) (prevy d y) refl (omega arith) (omega arith))
  before d false x y k r l u v = ap pos (none_past d (pixel img w) w _ _ (v refl).0 (v refl).1)

  -- a table written a row at a time, where what stands before a pixel is read from the table itself
  read_sums : (d : Way) (prev : ℕ → ℕ → List ℤ → ℤ)
      → ((x y : ℕ) (ys zs : List ℤ) → x < w → Row w h (run d img w) ys zs y x → w * h ≤ length ys
      → prev x y zs ≡ pos (up_to d (pixel img w) w (prevx d x) (prevy d y)))
      → Sums d img w h
      (for 0 h (λ y t. for 0 w (λ x t. put t (y * w + x) (sat m (prev x y t +ℤ pos (byte_at m img (y * w + x))))) t) old)
  read_sums d prev is =
      filled_sums d
      (rows_loop w h (run d img w) old (omega arith) _ (λ y ys b l q.
      for_keeps (λ x zs. Row w h (run d img w) ys zs y x) 0 w _ ys (omega arith) q
      (λ x zs _ c t. row_put w h (run d img w) ys l t c (more d x y c b (is x y ys zs c t l)))))

  pub falling_sums : Sums fall img w h (sat-diag_pos m img w h old)
  unfolding sat-diag_pos
  falling_sums = read_sums fall _ prev
    where
      prev : (x y : ℕ) (ys zs : List ℤ) → x < w → Row w h (run fall img w) ys zs y x → w * h ≤ length ys
          → cond (ltb 0 y && ltb 0 x) (entry-at m zs (less m y 1 * w + less m x 1)) (pos 0) ≡ pos (up_to fall (pixel img w) w x y)
      prev x y ys zs c t l =
          before fall (ltb 0 y && ltb 0 x) x y (less m y 1 * w + less m x 1) t l
          (λ e.
          let o : 0 < y = ltb-true 0 y (and_true (ltb 0 y) (ltb 0 x) e).0 in
          let p : 0 < x = ltb-true 0 x (and_true (ltb 0 y) (ltb 0 x) e).1 in
          (o, refl, p, omega arith, rw (less-is m y 1 o, less-is m x 1 p), omega (arith, row-above w o)))
          (λ e. elim (and_false (ltb 0 y) (ltb 0 x) e) [
            | inl u ↦ (omega arith, omega (arith, ltb-false 0 y u))
            | inr u ↦ (omega arith, omega (arith, ltb-false 0 x u))
          ])

  pub rising_sums : Sums rise img w h (sat-diag_neg m img w h old)
  unfolding sat-diag_neg
  rising_sums = read_sums rise _ prev
    where
      prev : (x y : ℕ) (ys zs : List ℤ) → x < w → Row w h (run rise img w) ys zs y x → w * h ≤ length ys
          → cond (ltb 0 y && ltb (usize m (x + 1)) w) (entry-at m zs (less m y 1 * w + (x + 1))) (pos 0)
          ≡ pos (up_to rise (pixel img w) w (x + 1 + 1) y)
      prev x y ys zs c t l =
          rw (usize-is m (x + 1) (omega (arith, i.wide)))
          (before rise (ltb 0 y && ltb (x + 1) w) x y (less m y 1 * w + (x + 1)) t l
          (λ e.
          let o : 0 < y = ltb-true 0 y (and_true (ltb 0 y) (ltb (x + 1) w) e).0 in
          let p : x + 1 < w = ltb-true (x + 1) w (and_true (ltb 0 y) (ltb (x + 1) w) e).1 in
          let n : x + 1 + 1 - 1 ≡ x + 1 = omega arith in
          (o, refl, omega arith, omega arith, rw (less-is m y 1 o, n), omega (arith, row-above w o)))
          (λ e. elim (and_false (ltb 0 y) (ltb (x + 1) w) e) [
            | inl u ↦ (omega arith, omega (arith, ltb-false 0 y u))
            | inr u ↦ (omega arith, omega (arith, ltb-false (x + 1) w u))
          ]))

  -- ---- column by column

  record Columns (x : ℕ) (t : List ℤ) : Type 0 where
    long : length t ≡ w * h
    done : (a b : ℕ) (out : ℤ) → a < x → a < w → b < h → get_or t (b * w + a) out ≡ run down img w a b

  record Column (x y : ℕ) (acc : ℤ) (t : List ℤ) : Type 0 where
    is : acc ≡ pos (up_to down (pixel img w) w (x + 1) y)
    left : Columns x t
    above : (b : ℕ) (out : ℤ) → b < y → b < h → get_or t (b * w + x) out ≡ run down img w x b

  other_column : (a b x y : ℕ) → a < w → x < w → a < x → (b * w + a ≡ y * w + x) → ⊥
  other_column a b x y p q l e =
      let s : a ≡ x = sym (column_of p b) ∙ ap (λ (k : ℕ). k % w) e ∙ column_of q y in
      omega arith

  other_row : (b x y : ℕ) → x < w → b < y → (b * w + x ≡ y * w + x) → ⊥
  other_row b x y q l e =
      let s : b ≡ y = sym (row_of q b) ∙ ap (λ (k : ℕ). k / w) e ∙ row_of q y in
      omega arith

  column_more : (x y : ℕ) {acc : ℤ} {t : List ℤ} → x < w → y < h → Column x y acc t
      → (let sum = sat m (acc +ℤ pos (byte_at m img (y * w + x))) in Column x (y + 1) sum (put t (y * w + x) sum))
  column_more x y {acc} {t} a b c =
      let e = more down x y a b c.is in
      let in_table : y * w + x < length t = omega (arith, c.left.long, pixel_in a b) in
      rw (put_is t (y * w + x) _ in_table)
      (record {
        is = e;
        left = record {
          long = length-set t _ _ ∙ c.left.long;
          done = λ i j out p q s. get_or-set_other t (y * w + x) (j * w + i) _ out (other_column i j x y q a p) ∙ c.left.done i j out p q s;
        };
        above = λ j out p q.
            let l : j ≤ y = omega arith in
            elim (eq-or-lt_of_le l) [
              | inl k ↦ rw k (get_or-set_same t (y * w + x) _ out in_table ∙ e)
              | inr k ↦ get_or-set_other t (y * w + x) (j * w + x) _ out (other_row j x y a k) ∙ c.above j out k q
            ];
      })

  columns_more : (x : ℕ) {acc : ℤ} {t : List ℤ} → Column x h acc t → Columns (x + 1) t
  columns_more x {acc} {t} c = record {
    long = c.left.long;
    done = λ i j out p q s.
        let l : i ≤ x = omega arith in
        elim (eq-or-lt_of_le l) [
          | inl k ↦ rw k (c.above j out s s)
          | inr k ↦ c.left.done i j out k q s
        ];
  }

  pub column_sums : Sums down img w h (sat-col m img w h old)
  unfolding sat-col
  column_sums =
      let all = for_keeps (λ x t. Columns x t) 0 w _ old (omega arith) (record { long = room; done = λ a b out p q s. absurd (omega arith) })
      (λ x t _ b r.
      columns_more x
      (for_keeps {S = ℤ × List ℤ} (λ y s. Column x y s.0 s.1) 0 h _ (pos 0, t) (omega arith)
      (record {
        is = ap pos (none_past down (pixel img w) w (x + 1) 0 (omega arith) (omega arith));
        left = r;
        above = λ j out p q. absurd (omega arith);
      })
      (λ y s _ c q. column_more x y b c q))) in
      record { long = all.long; at = λ x y out a b. all.done x y out a a b }
