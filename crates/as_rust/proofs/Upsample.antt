-- The Rust's float upsampling is document 01's whole-number rule: every value on the way is an exact quarter. Assumes nothing.
use mathlib.Core.Path.{◌≡◌, refl, ap, ◌∙◌}
use mathlib.Core.Logic.{inl, inr}
use mathlib.Core.Bool.{Bool, true, false, ◌||◌}
use mathlib.Core.List.{List}
use Prim.Native.Nat.{ℕ, zero, suc, ◌+◌, ◌*◌, ◌/◌, ◌%◌, ◌^◌, ◌≤◌, ◌<◌, min}
use native.Mathlib.Nat.{mod-lt, zero-mul, mul-zero}
use native.Mathlib.Omega.{arith}
use borrow.Author.Tests.{eqb-true}
use lib.Dec.{eqb, lit<, lit≤}
use lib.ListN.{length}
use lib.IntN.{pos}
use lib.Ieee.{Float, of_bits}
use Rattle.grid.specs.Fill.{filled}
use Rattle.grid.proofs.Fill.{filled_zero}
use Rattle.grid.specs.Plane.{plane}
use Rattle.grid.proofs.Plane.{pixel_in}
use Rattle.grid.specs.Ways.{pixel}
use Rattle.upsample.specs.Upsample.{weighted, after, up_at}
use Rattle.as_rust.specs.Machine.{Machine, ◌⊕◌, ◌⊖◌, ◌⊗◌, lit_0, lit_1, lit_half, lit_255, floor, rounded, clamp}
use Rattle.as_rust.specs.Machine.{maxℤ, usize, less, as_usize, as_f32, to_isize, to_u8, byte_at}
use Rattle.as_rust.specs.Response.{out_px, row_kernel, upsample_bilinear_2x}
use Rattle.radon.specs.Finder.{Bytes}
use Rattle.as_rust.proofs.Machine.{usize-is, less-is, inside}
use Rattle.as_rust.proofs.Tests.{or_true, or_false, above_0}
use Rattle.as_rust.proofs.Loops.{pixels_loop, chunks_are_rows}
use Rattle.as_rust.proofs.Exact.{Val, val, add_val, sub_val, mul_val, finer, net, clamp-val}
use Rattle.as_rust.proofs.Exact.{cast_val, floor-val, rounded-val, usize-val, u8_val}

-- ---- the literals

half_is : Val 1 lit_half 1 0
unfolding of_bits
half_is = val refl

zero_is : Val 1 lit_0 0 0
unfolding of_bits
zero_is = val refl

one-is : Val 1 lit_1 2 0
unfolding of_bits
one-is = val refl

none_is : Val 0 lit_0 0 0
unfolding of_bits
none_is = val refl

top-is : Val 0 lit_255 255 0
unfolding of_bits
top-is = val refl

-- ---- 185-189 of a row, 191-195 of a column

module _ (i : ℕ) (b : i < 2 ^ 20) where
  place-val : Val 1 (as_f32 i ⊗ lit_half) i 0
  place-val = net i 0 (omega arith) (mul_val 0 (lit≤ tt) (cast_val i (omega arith)) half_is (omega arith) (omega arith))

  floor-is : Val 0 (floor (as_f32 i ⊗ lit_half)) (i / 2) 0
  floor-is = floor-val (i / 2) place-val (omega arith) refl

  first-is : as_usize (maxℤ (to_isize (floor (as_f32 i ⊗ lit_half))) (pos 0)) ≡ i / 2
  first-is = usize-val floor-is (omega arith)

  weight_is : Val 1 (clamp (as_f32 i ⊗ lit_half ⊖ floor (as_f32 i ⊗ lit_half)) lit_0 lit_1) (i % 2) 0
  weight_is =
      let d : Val 1 (as_f32 i ⊗ lit_half ⊖ floor (as_f32 i ⊗ lit_half)) (i % 2) 0 =
      net (i % 2) 0 (omega arith) (sub_val 1 (lit≤ tt) place-val (finer floor-is) (omega arith) (omega arith)) in
      rw (clamp-val d zero_is one-is (omega arith) (omega arith)) d

  -- 188, 194: the next column or row, or the last
  next_is : (m : Machine) (n : ℕ) → 0 < n → min (usize m (i / 2 + 1)) (less m n 1) ≡ after n (i / 2)
  next_is m n c = rw (usize-is m (i / 2 + 1) (omega arith), less-is m n 1 (omega arith))

-- ---- 200-203

-- between two pixels, in halves
module _ (p q t : ℕ) (P : p < 256) (Q : q < 256) {tx : Float} (w : Val 1 tx t 0) where
  mixed : t < 2 → Val 1 (as_f32 p ⊕ (as_f32 q ⊖ as_f32 p) ⊗ tx) (2 * p + q * t) (p * t)
  mixed l = go t l w
    where
      d : Val 0 (as_f32 q ⊖ as_f32 p) q p
      d = net q p (omega arith) (sub_val 0 (lit≤ tt) (cast_val q (omega arith)) (cast_val p (omega arith)) (omega arith) (omega arith))

      go : (t : ℕ) → t < 2 → Val 1 tx t 0 → Val 1 (as_f32 p ⊕ (as_f32 q ⊖ as_f32 p) ⊗ tx) (2 * p + q * t) (p * t)
      go zero l w = net _ _ (omega arith)
          (add_val 1 (lit≤ tt) (finer (cast_val p (omega arith))) (mul_val 0 (lit≤ tt) d w (omega arith) (omega arith)) (omega arith) (omega arith))
      go (suc zero) l w = net _ _ (omega arith)
          (add_val 1 (lit≤ tt) (finer (cast_val p (omega arith))) (mul_val 0 (lit≤ tt) d w (omega arith) (omega arith)) (omega arith) (omega arith))
      go (suc (suc t)) l w = absurd (omega arith)

-- the value in quarters, rounded, clamped and cast
module _ (p q s t : ℕ) (P : p < 256) (Q : q < 256) (S : s < 256) (R : t < 256) (tx ty : Float) where
  abbrev across : ℕ → ℕ → Float
  across p q = as_f32 p ⊕ (as_f32 q ⊖ as_f32 p) ⊗ tx

  abbrev stored : ℕ
  stored = to_u8 (clamp (rounded (across p q ⊕ (across s t ⊖ across p q) ⊗ ty)) lit_0 lit_255)

  kernel_is : (a b : ℕ) → a < 2 → b < 2 → Val 1 tx a 0 → Val 1 ty b 0 → stored ≡ weighted a b p q s t
  kernel_is a b l m u v = go a b l m u v
    where
      last : (n : ℕ) {x : Float} → n < 1021 → Val 2 x n 0 → to_u8 (clamp (rounded x) lit_0 lit_255) ≡ (n + 2) / 4
      last n l v =
          let r = rounded-val v (omega arith) in
          rw (clamp-val r none_is top-is (omega arith) (omega arith)) (u8_val r (omega arith))

      go : (a b : ℕ) → a < 2 → b < 2 → Val 1 tx a 0 → Val 1 ty b 0 → stored ≡ weighted a b p q s t
      go zero zero l m u v =
          let high = mixed p q 0 P Q u l in
          let low = mixed s t 0 S R u l in
          last (4 * p) (omega arith) (net _ _ (omega arith)
          (add_val 2 (lit≤ tt) (finer high)
          (mul_val 1 (lit≤ tt) (sub_val 1 (lit≤ tt) low high (omega arith) (omega arith)) v (omega arith) (omega arith)) (omega arith) (omega arith)))
          ∙ omega arith
      go (suc zero) zero l m u v =
          let high = mixed p q 1 P Q u l in
          let low = mixed s t 1 S R u l in
          last (2 * p + 2 * q) (omega arith) (net _ _ (omega arith)
          (add_val 2 (lit≤ tt) (finer high)
          (mul_val 1 (lit≤ tt) (sub_val 1 (lit≤ tt) low high (omega arith) (omega arith)) v (omega arith) (omega arith)) (omega arith) (omega arith)))
          ∙ omega arith
      go zero (suc zero) l m u v =
          let high = mixed p q 0 P Q u l in
          let low = mixed s t 0 S R u l in
          last (2 * p + 2 * s) (omega arith) (net _ _ (omega arith)
          (add_val 2 (lit≤ tt) (finer high)
          (mul_val 1 (lit≤ tt) (sub_val 1 (lit≤ tt) low high (omega arith) (omega arith)) v (omega arith) (omega arith)) (omega arith) (omega arith)))
          ∙ omega arith
      go (suc zero) (suc zero) l m u v =
          let high = mixed p q 1 P Q u l in
          let low = mixed s t 1 S R u l in
          last (p + q + s + t) (omega arith) (net _ _ (omega arith)
          (add_val 2 (lit≤ tt) (finer high)
          (mul_val 1 (lit≤ tt) (sub_val 1 (lit≤ tt) low high (omega arith) (omega arith)) v (omega arith) (omega arith)) (omega arith) (omega arith)))
          ∙ omega arith
      go zero (suc (suc b)) l m u v = absurd (omega arith)
      go (suc zero) (suc (suc b)) l m u v = absurd (omega arith)
      go (suc (suc a)) b l m u v = absurd (omega arith)

-- ---- a working pixel

module _ (m : Machine) (src : List ℕ) (w h : ℕ) (small : Bytes src) (whole : length src ≡ w * h) (wide : w ≤ 4096) (high : h ≤ 4096) where
  -- every read is inside
  reads : (x y : ℕ) → x < w → y < h → byte_at m src (y * w + x) ≡ pixel src w x y
  reads x y a b = inside src (y * w + x) _ 0 (omega (arith, pixel_in a b))

  -- a byte that is read is one
  reads_byte : (x y : ℕ) → x < w → y < h → byte_at m src (y * w + x) < 256
  reads_byte x y a b = rw (reads x y a b) (small (y * w + x))

  px_as_rust : (ix iy : ℕ) → ix < 2 * w → iy < 2 * h
      → (let sy = as_f32 iy ⊗ lit_half in
      let y0f = floor sy in
      let y0 = as_usize (maxℤ (to_isize y0f) (pos 0)) in
      out_px m src w y0 (min (usize m (y0 + 1)) (less m h 1)) (clamp (sy ⊖ y0f) lit_0 lit_1) ix) ≡ up_at (pixel src w) w h ix iy
  unfolding out_px up_at
  px_as_rust ix iy bx by =
      let x0 = ix / 2 in
      let y0 = iy / 2 in
      let x1 = after w x0 in
      let y1 = after h y0 in
      let X0 : x0 < w = omega arith in
      let Y0 : y0 < h = omega arith in
      let X1 : x1 < w = omega arith in
      let Y1 : y1 < h = omega arith in
      rw (
        first-is ix (omega arith),
        first-is iy (omega arith),
        next_is ix (omega arith) m w (omega arith),
        next_is iy (omega arith) m h
            (omega arith),
      )
      (kernel_is (byte_at m src (y0 * w + x0)) (byte_at m src (y0 * w + x1)) (byte_at m src (y1 * w + x0)) (byte_at m src (y1 * w + x1))
      (reads_byte x0 y0 X0 Y0) (reads_byte x1 y0 X1 Y0) (reads_byte x0 y1 X0 Y1) (reads_byte x1 y1 X1 Y1) _ _ (ix % 2) (iy % 2) (mod-lt ix (lit< tt))
      (mod-lt iy (lit< tt))
      (weight_is ix (omega arith)) (weight_is iy (omega arith))
      ∙ (λ i. weighted (ix % 2) (iy % 2) (reads x0 y0 X0 Y0 i) (reads x1 y0 X1 Y0 i) (reads x0 y1 X0 Y1 i) (reads x1 y1 X1 Y1 i)))

  -- ---- the whole function
  pub upsample_as_rust : (out : List ℕ) → length out ≡ 2 * w * (2 * h) → upsample_bilinear_2x m src w h out
      ≡ filled (2 * w * (2 * h)) (plane (2 * w) (up_at (pixel src w) w h)) out
  unfolding upsample_bilinear_2x row_kernel
  upsample_as_rust out long = go (eqb w 0 || eqb h 0) refl
    where
      empty : 2 * w * (2 * h) ≡ 0 → out ≡ filled (2 * w * (2 * h)) (plane (2 * w) (up_at (pixel src w) w h)) out
      empty e = rw e (filled_zero _ out)

      go : (t : Bool) → (eqb w 0 || eqb h 0) ≡ t → upsample_bilinear_2x m src w h out
          ≡ filled (2 * w * (2 * h)) (plane (2 * w) (up_at (pixel src w) w h)) out
      go true e = rw e (elim (or_true (eqb w 0) (eqb h 0) e) [
        | inl z ↦ empty (ap (λ (k : ℕ). 2 * k * (2 * h)) (eqb-true w 0 z) ∙ zero-mul (2 * h))
        | inr z ↦ empty (ap (λ (k : ℕ). 2 * w * (2 * k)) (eqb-true h 0 z) ∙ mul-zero (2 * w))
      ])
      go false e =
          let some : 0 < w = above_0 w (or_false (eqb w 0) (eqb h 0) e).0 in
          rw (e, usize-is m (2 * w) (omega arith), chunks_are_rows (2 * w) (2 * h) _ out (omega arith) long)
          (pixels_loop (2 * w) (2 * h) (up_at (pixel src w) w h) _ out (omega arith) px_as_rust)
