-- The box blur by its roundings. Of a map whose values are whole numbers but for k roundings, a blurred value is its window's total by its
-- window's pixels, but for k and one for each column of the window, each row and one more: `roundings`, over the radius. Assumes nothing.
use mathlib.Core.Path.{◌≡◌, ◌∙◌}
use Prim.Native.Nat.{ℕ, zero, suc, ◌+◌, ◌-◌, ◌*◌, ◌^◌, ◌≤◌, ◌<◌}
use native.Mathlib.Nat.{le_trans, mul-le-mul, mul-le-mul_left, mul-pos, add-zero, zero-add, add-suc, mul-one, one-mul}
use native.Mathlib.Omega.{arith}
use lib.Dec.{T, lit<, lit≤}
use lib.IntN.{pos}
use lib.Ieee.{Float, binary32, fits, mul, div, of_int}
use lib.Ieee.Fits.{div-fits}
use lib.ListN.{length}
use Rattle.float.specs.Values.{f1}
use Rattle.float.proofs.Rounded.{Room, less-room, limit, Rounded, rounded_upto, add_rounded, mul_rounded, div_rounded}
use Rattle.float.proofs.Rounded.{reciprocal_rounded, first-rounded}
use Rattle.grid.specs.Fold.{fold, fsum, sum_to}
use Rattle.grid.proofs.Fold.{sum_one, sum-most}
use Rattle.means.specs.Means.{counted, window_sum, mean_at, column_mean}
use Rattle.blur.specs.Blur.{row_mean, blur_at}
use Rattle.blur.proofs.BlurRange.{count-value, window-few, window-some}
use Rattle.truth.specs.Truth.{window, total}
use Rattle.truth.proofs.Windows.{window-total, window_pixels}

-- ---- c values, each P i / q but for k roundings, c of a window's side

record Terms (f : ℕ → Float) (P : ℕ → ℕ) (k q c : ℕ) : Type 0 where
  roundings : k + c ≤ limit
  some : 0 < c
  seven : c ≤ 7
  whole : 0 < q
  room : Room (sum_to P c) (q * c)
  first : T (fits binary32 (f 0))
  is : (i : ℕ) → i < c → Rounded k (P i) q (f i)

own_room : (n q m : ℕ) → 0 < q → Room n (q * suc m) → Room n q
own_room n q m s r = record { some = s; few = omega (arith, r.few, mul-le-mul_left {m = 1} {n = suc m} q (omega arith)); most = r.most }

module _ (f : ℕ → Float) (P : ℕ → ℕ) (k q : ℕ) where
  -- a sum from zero: a rounding for each term but the first
  sum-rounded : (m : ℕ) → k + m ≤ limit → Room (sum_to P (suc m)) q → T (fits binary32 (f 0)) → ((i : ℕ) → i < suc m → Rounded k (P i) q (f i))
      → Rounded (k + m) (sum_to P (suc m)) q (fsum f (suc m))
  unfolding fold
  sum-rounded zero b r t h = rw (add-zero, zero-add) (first-rounded t (h 0 (omega arith)))
  sum-rounded (suc m) b r t h =
      let before = sum-rounded m (omega arith) (less-room (sum_to P (suc m)) (omega arith) r) t (λ i l. h i (omega arith)) in
      let next = rounded_upto (k + m) (omega arith) (h (suc m) (omega arith)) in
      rw add-suc (add_rounded (k + m) (sum_to P (suc m)) (P (suc m)) q (omega arith) r before next)

  all_rounded : (m : ℕ) → Terms f P k q (suc m) → Rounded (k + m) (sum_to P (suc m)) q (fsum f (suc m))
  all_rounded m t = sum-rounded m (omega (arith, t.roundings)) (own_room (sum_to P (suc m)) q m t.whole t.room) t.first t.is

  -- divided by their count: one more
  mean_rounded : (c : ℕ) → Terms f P k q c → Rounded (k + c) (sum_to P c) (q * c) (div binary32 (fsum f c) (of_int binary32 (pos c)))
  mean_rounded zero t = absurd (omega (arith, t.some))
  mean_rounded (suc m) t =
      let count = count-value (suc m) t.seven in
      rw add-suc (div_rounded (k + m) (sum_to P (suc m)) q (suc m) _ (omega (arith, t.roundings)) t.some t.room (all_rounded m t) count)

  -- multiplied by the rounded reciprocal of their count: two more
  scaled_rounded : (c : ℕ) → Terms f P k q c
      → Rounded (k + c + 1) (sum_to P c) (q * c) (mul binary32 (fsum f c) (div binary32 f1 (of_int binary32 (pos c))))
  scaled_rounded zero t = absurd (omega (arith, t.some))
  scaled_rounded (suc m) t =
      let S = sum_to P (suc m) in
      let count = count-value (suc m) t.seven in
      let part = reciprocal_rounded (suc m) (of_int binary32 (pos (suc m))) t.some (omega (arith, t.seven)) count in
      let e : k + suc m + 1 ≡ suc (k + m + 1) = omega arith in
      let one : S * 1 ≡ S = mul-one S in
      rw e (rw one at (mul_rounded (k + m) 1 S q 1 (suc m) (omega (arith, t.roundings)) (rw one t.room) (all_rounded m t) part))

-- ---- the two passes

-- as many as a blur of radius r has at most: sums and a quotient along a whole window, sums, a reciprocal and a product down it
abbrev pub roundings : ℕ → ℕ
roundings zero = 0
roundings (suc r) = 4 * suc r + 3

-- 7, 11 and 15
pub roundings_most : (r : ℕ) → r ≤ 3 → roundings r ≤ 15
roundings_most zero b = lit≤ tt
roundings_most (suc r) b = omega arith

side-most : (n r x : ℕ) → counted n r x ≤ 2 * r + 1
side-most n r x = omega arith

at_most : (k r c d : ℕ) → c ≤ 2 * r + 1 → d ≤ 2 * r + 1 → k + c + d + 1 ≤ k + (4 * r + 3)
at_most k r c d m n = omega arith

-- a map g that is G but for k roundings
module _ (k : ℕ) (K : k ≤ 16) (g : ℕ → ℕ → Float) (G : ℕ → ℕ → ℕ) (w h : ℕ) (below : (i j : ℕ) → G i j ≤ 2 ^ 32)
    (fit : (i j : ℕ) → T (fits binary32 (g i j))) (is : (i j : ℕ) → Rounded k (G i j) 1 (g i j)) where
  -- the window's total along row y
  along : ℕ → ℕ → ℕ → ℕ
  along r x y = sum_to (λ i. G (x - r + i) y) (counted w r x)

  along-most : (r x y : ℕ) → r ≤ 3 → along r x y ≤ 2 ^ 35
  unfolding along
  along-most r x y b =
      omega (arith, window-few w r x b, sum-most (λ i. G (x - r + i) y) (2 ^ 32) (counted w r x) (λ i. below (x - r + i) y))

  row-terms : (r x y : ℕ) → r ≤ 3 → x < w → Terms (λ i. g (x - r + i) y) (λ i. G (x - r + i) y) k 1 (counted w r x)
  unfolding along
  row-terms r x y b a =
      let n = window-few w r x b in
      let s = window-some w r x a in
      record {
        roundings = omega arith;
        some = s;
        seven = n;
        whole = lit< tt;
        room = record { some = omega arith; few = omega arith; most = le_trans (along-most r x y b) (lit≤ tt) };
        first = fit (x - r + 0) y;
        is = λ i _. is (x - r + i) y;
      }

  row-rounded : (r x y : ℕ) → r ≤ 3 → x < w → Rounded (k + counted w r x) (along r x y) (counted w r x) (row_mean g w r x y)
  unfolding row_mean mean_at window_sum along
  row-rounded r x y b a = rw one-mul at (mean_rounded (λ i. g (x - r + i) y) (λ i. G (x - r + i) y) k 1 (counted w r x) (row-terms r x y b a))

  -- the window's total
  both : ℕ → ℕ → ℕ → ℕ
  both r x y = sum_to (λ j. along r x (y - r + j)) (counted h r y)

  both_most : (r x y : ℕ) → r ≤ 3 → both r x y ≤ 2 ^ 40
  unfolding both
  both_most r x y b =
      omega (arith, window-few h r y b, sum-most (λ j. along r x (y - r + j)) (2 ^ 35) (counted h r y) (λ j. along-most r x (y - r + j) b))

  column_terms : (r x y : ℕ) → r ≤ 3 → x < w → y < h
      → Terms (λ j. row_mean g w r x (y - r + j)) (λ j. along r x (y - r + j)) (k + counted w r x) (counted w r x) (counted h r y)
  unfolding both row_mean mean_at
  column_terms r x y b a c =
      let n = window-few w r x b in
      let m = window-few h r y b in
      let s = window-some w r x a in
      let t = window-some h r y c in
      record {
        roundings = omega arith;
        some = t;
        seven = m;
        whole = s;
        room = record { some = mul-pos s t; few = le_trans (mul-le-mul n m) (lit≤ tt); most = both_most r x y b };
        first = div-fits binary32 _ _;
        is = λ j _. row-rounded r x (y - r + j) b a;
      }

  column_rounded : (r x y : ℕ) → r ≤ 3 → x < w → y < h
      → Rounded (k + counted w r x + counted h r y + 1) (both r x y) (counted w r x * counted h r y) (column_mean (row_mean g w r) h r x y)
  unfolding column_mean window_sum both
  column_rounded r x y b a c = scaled_rounded _ _ (k + counted w r x) (counted w r x) (counted h r y) (column_terms r x y b a c)

  -- radius 0: the window is the pixel
  alone : (n x : ℕ) → x < n → counted n 0 x ≡ 1
  alone n x b = omega arith

  total_alone : (x y : ℕ) → x < w → y < h → total G (window w h 0 x y) ≡ G x y
  total_alone x y a c =
      let ex : x - 0 + 0 ≡ x = omega arith in
      let ey : y - 0 + 0 ≡ y = omega arith in
      window-total w h 0 x y G ∙ rw (alone w x a, alone h y c, sum_one, sum_one, ex, ey)

  pub blur_rounded : (r x y : ℕ) → r ≤ 3 → x < w → y < h
      → Rounded (k + roundings r) (total G (window w h r x y)) (length (window w h r x y)) (blur_at g w h r x y)
  unfolding blur_at along both
  blur_rounded zero x y b a c = rw (total_alone x y a c, window_pixels w h 0 x y, alone w x a, alone h y c, add-zero) (is x y)
  blur_rounded (suc r) x y b a c =
      let used = at_most k (suc r) (counted w (suc r) x) (counted h (suc r) y) (side-most w (suc r) x) (side-most h (suc r) y) in
      rw (window-total w h (suc r) x y G, window_pixels w h (suc r) x y)
      (rounded_upto (k + roundings (suc r)) used (column_rounded (suc r) x y b a c))
