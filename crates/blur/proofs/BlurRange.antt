-- How small and how large a blurred value can be. Where every value of the map is zero or from 1 to 15 * 2 ^ j, a blurred value is zero or lies
-- between 2 ^ -6 and 2 ^ (4 + j): j is 20 for eight-bit pixels and 28 for twelve-bit ones. So it is never NaN, infinite or negative. Assumes nothing.
use mathlib.Core.Path.{◌≡◌, refl, subst}
use mathlib.Core.Logic.{◌⊎◌, inl, inr}
use mathlib.Core.Bool.{Bool, false, ◌&&◌}
use Prim.Native.Nat.{ℕ, zero, suc, ◌+◌, ◌-◌, ◌*◌, ◌^◌, ◌≤◌, ◌<◌}
use native.Mathlib.Nat.{mul_assoc, mul_comm, mul-le-mul_right, suc-mul}
use native.Mathlib.Omega.{arith}
use lib.Dec.{T, lit<, lit≤, leb, leb→le}
use lib.Pow.{pow-add}
use lib.IntN.{pos, negsuc}
use lib.Ieee.{Float, fin, binary32, add, mul, div, of_int, of_bits, round, le}
use lib.Ieee.Back.{round_whole}
use lib.Ieee.Exact.{HasValue}
use lib.Ieee.Fits.{and_l, and_r}
use lib.Ieee.Positive.{num, den, den_pos, positive, own_value}
use lib.Ieee.Scale.{finite}
use Rattle.float.specs.Values.{f0, f1}
use Rattle.float.proofs.Computed.{every, every_at}
use Rattle.float.proofs.Sized.{Held, held}
use Rattle.float.proofs.Ranged.{Ranged, Exact, exact, ranged_sized, ranged_wider, ranged_least, ranged_most, ranged_finite, ranged_above}
use Rattle.float.proofs.Ranged.{ranged_whole, add_left, add_right, mul_ranged, div_ranged, add_zeros, mul_zero_by, div_zero_by, zero_sized}
use Rattle.grid.specs.Fold.{fold, fsum}
use Rattle.means.specs.Means.{counted, window_sum, mean_at, column_mean}
use Rattle.means.proofs.MeanLaws.{place_in}
use Rattle.blur.specs.Blur.{row_mean, blur_at}

-- zero, or at least a / c and at most n
abbrev pub ZeroOr : ℕ → ℕ → ℕ → Float → Type 0
ZeroOr a c n v = (v ≡ f0) ⊎ Ranged a c n v

number : {a c n : ℕ} (v : Float) → ZeroOr a c n v → T (finite v) × T (le f0 v)
unfolding of_bits le
number v (inl p) = rw p (tt, tt)
number v (inr q) = (ranged_finite q, ranged_above q)

-- ---- counts and their reciprocals

pub count-value : (n : ℕ) → n ≤ 7 → HasValue (of_int binary32 (pos n)) false n 1
unfolding of_int
count-value n b = round_whole binary32 false n (omega arith)

-- what is wanted of the reciprocal of k: 15 k times it is at most 16, and it is at least an eighth
right : ℕ → Bool
right i =
    let x = div binary32 f1 (of_int binary32 (pos (suc i))) in
    positive x && (leb (15 * suc i * num x) (16 * den x) && leb (den x) (8 * num x))

pub record Reciprocal (k : ℕ) (x : Float) : Type 0 where
  pub above : T (positive x)
  pub most : 15 * k * num x ≤ 16 * den x
  pub least : den x ≤ 8 * num x

all_right : T (every right 7)
unfolding every right div of_int of_bits round
all_right = tt

reciprocal : (i : ℕ) → i < 7 → Reciprocal (suc i) (div binary32 f1 (of_int binary32 (pos (suc i))))
unfolding right
reciprocal i b =
    let x = div binary32 f1 (of_int binary32 (pos (suc i))) in
    let t = every_at right 7 all_right i b in
    let m = leb (15 * suc i * num x) (16 * den x) in
    let l = leb (den x) (8 * num x) in
    let u = and_r (positive x) (m && l) t in
    record { above = and_l (positive x) (m && l) t; most = leb→le _ _ (and_l m l u); least = leb→le _ _ (and_r m l u) }

one_of : (P : ℕ → Float → Type 0) → ((i : ℕ) → i < 7 → P (suc i) (div binary32 f1 (of_int binary32 (pos (suc i)))))
    → (k : ℕ) → 0 < k → k ≤ 7 → P k (div binary32 f1 (of_int binary32 (pos k)))
one_of P h zero a b = absurd (omega arith)
one_of P h (suc i) a b = h i (omega arith)

pub window-few : (n r x : ℕ) → r ≤ 3 → counted n r x ≤ 7
window-few n r x b = omega arith

pub window-some : (n r x : ℕ) → x < n → 0 < counted n r x
window-some n r x b = omega arith

module _ (j : ℕ) (J : j ≤ 90) where
  -- the greatest value of the map
  abbrev pub top : ℕ
  top = 15 * 2 ^ j

  -- sums of up to seven are values of the format
  held-sum : (i : ℕ) → i ≤ 7 → Held (i * top)
  held-sum i b = subst Held (mul_assoc i 15 (2 ^ j)) (held (i * 15) j (omega arith) (omega arith))

  held-top : Held top
  held-top = held 15 j (lit< tt) (omega arith)

  held-most : Held (16 * 2 ^ j)
  held-most = held 16 j (lit< tt) (omega arith)

  module _ (a c : ℕ) (C : 0 < c) (E : Exact a c) where
    sum_level : (f : ℕ → Float) (m : ℕ) → m ≤ 7 → ((k : ℕ) → k < m → ZeroOr a c top (f k)) → ZeroOr a c (m * top) (fsum f m)
    unfolding fold
    sum_level f zero b h = inl refl
    sum_level f (suc m) b h = go (sum_level f m (omega arith) (λ k l. h k (omega arith))) (h m (omega arith))
      where
        go : ZeroOr a c (m * top) (fsum f m) → ZeroOr a c top (f m) → ZeroOr a c (suc m * top) (add binary32 (fsum f m) (f m))
        go (inl p) (inl q) = inl (rw (p, q) add_zeros)
        go (inl p) (inr y) = inr (rw p (add_right (suc m * top) C E (held-sum (suc m) b) (omega (arith, suc-mul m top)) zero_sized y))
        go (inr x) (inl q) = inr (rw q (add_left (suc m * top) C E (held-sum (suc m) b) (omega (arith, suc-mul m top)) x zero_sized))
        go (inr x) (inr y) = inr (add_left (suc m * top) C E (held-sum (suc m) b) (omega (arith, suc-mul m top)) x (ranged_sized y))

    window_level : (f : ℕ → Float) (n r x : ℕ) → r ≤ 3 → ((k : ℕ) → k < n → ZeroOr a c top (f k))
        → ZeroOr a c (counted n r x * top) (window_sum f n r x)
    unfolding window_sum
    window_level f n r x b h = sum_level (λ k. f (x - r + k)) (counted n r x) (window-few n r x b) (λ k l. h (x - r + k) (place_in n r x k l))

  -- a sum of k values from 1 up, divided by k, is at least an eighth
  divided : (k : ℕ) (s : Float) → 0 < k → k ≤ 7 → ZeroOr 1 1 (k * top) s → ZeroOr 1 8 top (div binary32 s (of_int binary32 (pos k)))
  divided k s a b (inl p) = inl (rw p (div_zero_by 1 k (of_int binary32 (pos k)) a (count-value k b)))
  divided k s a b (inr h) =
      let high : k * top * 1 ≤ top * k = omega (arith, mul_comm k top) in
      inr (div_ranged 1 1 (k * top) 1 8 top 1 k (lit< tt) (lit< tt) a (exact 3 (lit≤ tt)) held-top (omega arith) high _ h (count-value k b))

  -- and a sum of k values from an eighth up, times the reciprocal of k, at least a sixty-fourth
  scaled : (k : ℕ) (s x : Float) → Reciprocal k x → ZeroOr 1 8 (k * top) s → ZeroOr 1 64 (16 * 2 ^ j) (mul binary32 s x)
  scaled k s x q (inl p) = inl (rw p (mul_zero_by (num x) (den x) x (own_value x q.above)))
  scaled k s x q (inr h) =
      let own = own_value x q.above in
      inr (mul_ranged 1 8 (k * top) 1 64 (16 * 2 ^ j) (num x) (den x) (lit< tt) (lit< tt) (den_pos x) (exact 6 (lit≤ tt)) held-most low high x h own)
    where
      low : 1 * (8 * den x) ≤ 1 * num x * 64
      low = omega (arith, q.least)

      high : k * top * num x ≤ 16 * 2 ^ j * den x
      high = omega (arith, mul-le-mul_right (2 ^ j) q.most)

  row_level : (g : ℕ → ℕ → Float) (w r x y : ℕ) → r ≤ 3 → x < w → ((k : ℕ) → k < w → ZeroOr 1 1 top (g k y)) → ZeroOr 1 8 top (row_mean g w r x y)
  unfolding row_mean mean_at
  row_level g w r x y b a h =
      let s = window_level 1 1 (lit< tt) (exact 0 (lit≤ tt)) (λ k. g k y) w r x b h in
      divided (counted w r x) _ (window-some w r x a) (window-few w r x b) s

  column_level : (g : ℕ → ℕ → Float) (h r x y : ℕ) → r ≤ 3 → y < h → ((k : ℕ) → k < h → ZeroOr 1 8 top (g x k))
      → ZeroOr 1 64 (16 * 2 ^ j) (column_mean g h r x y)
  unfolding column_mean
  column_level g h r x y b a e =
      let q = one_of Reciprocal reciprocal (counted h r y) (window-some h r y a) (window-few h r y b) in
      scaled (counted h r y) _ _ q (window_level 1 8 (lit< tt) (exact 3 (lit≤ tt)) (λ k. g x k) h r y b e)

  -- the blurred map
  pub blur_level : (g : ℕ → ℕ → Float) (w h r x y : ℕ) → r ≤ 3 → x < w → y < h → ((i k : ℕ) → i < w → k < h → ZeroOr 1 1 top (g i k))
      → ZeroOr 1 64 (16 * 2 ^ j) (blur_at g w h r x y)
  unfolding blur_at
  blur_level g w h zero x y b a c e = elim (e x y a c) [
    | inl p ↦ inl p
    | inr q ↦ inr (ranged_wider 1 64 (16 * 2 ^ j) (lit< tt) (lit≤ tt) (omega arith) q)
  ]
  blur_level g w h (suc r) x y b a c e =
      column_level (row_mean g w (suc r)) h (suc r) x y b c (λ k l. row_level g w (suc r) x k b a (λ i m. e i k m l))

  -- as comparisons
  pub blur_bounds : (g : ℕ → ℕ → Float) (w h r x y : ℕ) → r ≤ 3 → x < w → y < h → ((i k : ℕ) → i < w → k < h → ZeroOr 1 1 top (g i k))
      → (blur_at g w h r x y ≡ f0) ⊎ (T (le (fin false 1 (negsuc 5)) (blur_at g w h r x y)) × T (le (blur_at g w h r x y) (fin false 1 (pos (4 + j)))))
  blur_bounds g w h r x y b a c e = elim (blur_level g w h r x y b a c e) [
    | inl p ↦ inl p
    | inr q ↦ inr (ranged_least (fin false 1 (negsuc 5)) (lit< tt) (refl, refl) q, ranged_most (fin false 1 (pos (4 + j))) (refl, power) q)
  ]
    where
      power : 1 * 2 ^ (4 + j) * 1 ≡ 16 * 2 ^ j * 1
      power = omega (arith, pow-add 2 4 j)

  -- finite, and not below zero
  pub blur_number : (g : ℕ → ℕ → Float) (w h r x y : ℕ) → r ≤ 3 → x < w → y < h → ((i k : ℕ) → i < w → k < h → ZeroOr 1 1 top (g i k))
      → T (finite (blur_at g w h r x y)) × T (le f0 (blur_at g w h r x y))
  blur_number g w h r x y b a c e = number _ (blur_level g w h r x y b a c e)

-- ---- eight bits: whole numbers up to 255 * 15 squared

pub whole_in : (m n : ℕ) (v : Float) → HasValue v false n 1 → 1 ≤ n → n ≤ m → ZeroOr 1 1 m v
whole_in m n v e l b = inr (ranged_whole m n v e l b)

pub blur_eight : (g : ℕ → ℕ → Float) (w h r x y : ℕ) → r ≤ 3 → x < w → y < h → ((i k : ℕ) → i < w → k < h → ZeroOr 1 1 (15 * 2 ^ 20) (g i k))
    → (blur_at g w h r x y ≡ f0) ⊎ (T (le (fin false 1 (negsuc 5)) (blur_at g w h r x y)) × T (le (blur_at g w h r x y) (fin false 1 (pos 24))))
blur_eight = blur_bounds 20 (lit≤ tt)
