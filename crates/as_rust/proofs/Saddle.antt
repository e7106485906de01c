-- The Rust's saddle test, over an iterator of signed offsets, with any nearest root and sums from either zero, is document 01's. Assumes nothing.
use mathlib.Core.Path.{◌≡◌, refl, sym, ap, ◌∙◌}
use mathlib.Core.Logic.{◌⊎◌, inl, inr}
use mathlib.Core.Bool.{Bool, true, false, not, cond, ◌&&◌}
use mathlib.Core.List.{List, [], ◌∷◌, ◌++◌, foldl}
use Prim.Native.Nat.{ℕ, zero, suc, ◌+◌, ◌-◌, ◌*◌, ◌%◌, ◌^◌, ◌≤◌, ◌<◌, max}
use native.Mathlib.Nat.{one-mul, mul-le-mul}
use native.Mathlib.Omega.{arith}
use borrow.Author.Tests.{leb-true, leb-false}
use lib.Dec.{T, leb}
use lib.ListN.{length}
use lib.IntN.{ℤ, pos, negsuc, neg_ℤ, ◌+ℤ◌, ◌*ℤ◌}
use lib.Ieee.{Float, nan, inf, fin, binary32, minus, of_int, of_bits, to_bits, fits, add, mul, le}
use lib.Ieee.Fits.{add-fits}
use Rattle.float.proofs.Computed.{every, every_at, alike, alike_same}
use Rattle.grid.proofs.Plane.{pixel_in}
use Rattle.grid.specs.Each.{each, once, keep}
use Rattle.grid.proofs.Each.{each_append, length-each}
use Rattle.grid.proofs.Rect.{keep_rect_ext}
use Rattle.grid.specs.Rect.{Place, place, rect, range, from, line}
use Rattle.grid.proofs.All.{All, all_map, all_keep, all_rect, InRect, foldl-same}
use Rattle.grid.specs.Ways.{pixel}
use Rattle.saddle.specs.Saddle.{no_sums, no_moments, side, apart, disk, in_disk, offset, around, over_disk, moment_added, moments_of, mean_of}
use Rattle.saddle.specs.Saddle.{norm_added, norms_of, saddle_of, added, sums_of, magnitude, squares, saddle_at, by_curvatures}
use Rattle.saddle.specs.declared.Saddle.TheVariants.{Yes, Flat, Curved}
use Rattle.verdict.specs.Verdict.{is_kept, by_saddle}
use Rattle.saddle.proofs.Spread.{nearest_root, spread_squared, trace}
use Rattle.saddle_facts.proofs.Rooted.{never_outside, by_root}
use Rattle.as_rust.specs.Machine.{Machine, Sound, ◌⊕◌, ◌⊖◌, ◌⊗◌, ◌⊘◌, lit_0, lit_minus_0, lit_1, lit_0·2, abs}
use Rattle.as_rust.specs.Machine.{ltℤ, maxℤ, i64, as_isize, as_usize, as_f32, as_f32-signed, wrapping_add_signed, byte_at}
use Rattle.as_rust.specs.Detect.{inclusive, offsets, disk as disk-of, new, accepts}
use Rattle.as_rust.proofs.Machine.{usize-is, i64-is, inside}
use Rattle.as_rust.proofs.Tests.{at_least}
use Rattle.as_rust.proofs.Root.{root_is}

-- ---- 223-231

-- the offset of a place of the square
abbrev signed : ℕ → Place → ℤ × ℤ
signed k p = (minus p.x k, minus p.y k)

-- the iterators give the columns and the rows of the square, and the bound is document 01's: computed for each radius
abbrev signs : ℕ → List ℕ → List ℤ
signs k is = each (λ i. minus i k ∷ []) is

sides_are : (m : Machine) (k : ℕ) → k ≤ 7 → inclusive (i64 m (neg_ℤ (as_isize k))) (as_isize k) ≡ signs k (range 0 (side k))
    × (maxℤ (i64 m (as_isize k *ℤ as_isize k)) (pos 2) ≡ pos (max (k * k) 2))
unfolding i64 each range from
sides_are m zero l = (refl, refl)
sides_are m (suc zero) l = (refl, refl)
sides_are m (suc (suc zero)) l = (refl, refl)
sides_are m (suc (suc (suc zero))) l = (refl, refl)
sides_are m (suc (suc (suc (suc zero)))) l = (refl, refl)
sides_are m (suc (suc (suc (suc (suc zero))))) l = (refl, refl)
sides_are m (suc (suc (suc (suc (suc (suc zero)))))) l = (refl, refl)
sides_are m (suc (suc (suc (suc (suc (suc (suc zero))))))) l = (refl, refl)
sides_are m (suc (suc (suc (suc (suc (suc (suc (suc k)))))))) l = absurd (omega arith)

-- a filter of each row is the filter of the square
abbrev ours : ℕ → List Place → List (ℤ × ℤ)
ours k = each (λ p. signed k p ∷ [])

abbrev theirs : ℤ → List ℤ → List (ℤ × ℤ)
theirs dy = each (λ dx. (dx, dy) ∷ [])

module _ (k : ℕ) (test : ℤ → ℤ → Bool) where
  abbrev passes : Place → Bool
  passes p = test (minus p.y k) (minus p.x k)

  row_is : (j : ℕ) (is : List ℕ) → theirs (minus j k) (keep (test (minus j k)) (signs k is))
      ≡ ours k (keep passes (each (λ i. place i j ∷ []) is))
  unfolding each keep
  row_is j [] = refl
  row_is j (i ∷ is) = go _ _ (test (minus j k) (minus i k)) (row_is j is)
    where
      go : (a : List ℤ) (b : List Place) (t : Bool) → theirs (minus j k) a ≡ ours k b
          → theirs (minus j k) (once t (minus i k) ++ a) ≡ ours k (once t (place i j) ++ b)
      go a b true e = ap (λ (r : List (ℤ × ℤ)). signed k (place i j) ∷ r) e
      go a b false e = e

  rows_are : (is js : List ℕ) → each (λ dy. theirs dy (keep (test dy) (signs k is))) (signs k js)
      ≡ ours k (keep passes (each (λ j. each (λ i. place i j ∷ []) is) js))
  unfolding each keep
  rows_are is [] = refl
  rows_are is (j ∷ js) =
      let line = each (λ i. place i j ∷ []) is in
      let rest = each (λ j. each (λ i. place i j ∷ []) is) js in
      rw (each_append (λ p. once (passes p) p) line rest, each_append (λ p. signed k p ∷ []) (keep passes line) (keep passes rest))
      (rw (row_is j is, rows_are is js))

-- the offset's square has no sign
squared : (i k : ℕ) → minus i k *ℤ minus i k ≡ pos (apart i k * apart i k)
squared i k = go (leb k i) refl
  where
    go : (t : Bool) → leb k i ≡ t
        → cond t (pos (i - k)) (negsuc (k - suc i)) *ℤ cond t (pos (i - k)) (negsuc (k - suc i)) ≡ pos (apart i k * apart i k)
    go true e = let n : i - k ≡ apart i k = omega (arith, leb-true k i e) in ap (λ (z : ℕ). pos (z * z)) n
    go false e = let n : suc (k - suc i) ≡ apart i k = omega (arith, leb-false k i e) in ap (λ (z : ℕ). pos (z * z)) n

not_not : (t : Bool) → not (not t) ≡ t
not_not true = refl
not_not false = refl

-- the iterator gives document 01's disk in its order, and nothing on the way leaves isize
module _ (m : Machine) (k : ℕ) (l : k ≤ 7) where
  -- the square of an offset is at most r2
  near : ℤ → ℤ → ℤ → Bool
  near r2 dy dx = not (ltℤ r2 (i64 m (i64 m (dx *ℤ dx) +ℤ i64 m (dy *ℤ dy))))

  abbrev walked : ℤ → List ℤ → List (ℤ × ℤ)
  walked r2 l = each (λ dy. theirs dy (keep (near r2 dy) l)) l

  abbrev bound : ℤ
  bound = pos (max (k * k) 2)

  near-is : (i j : ℕ) → 0 ≤ i → i < side k → 0 ≤ j → j < side k → passes k (near bound) (place i j) ≡ in_disk k (place i j)
  unfolding near in_disk
  near-is i j o b p d =
      let u = apart i k * apart i k in
      let v = apart j k * apart j k in
      let x : apart i k ≤ 7 = omega arith in
      let y : apart j k ≤ 7 = omega arith in
      let xx = mul-le-mul x x in
      let yy = mul-le-mul y y in
      rw (squared i k, squared j k, i64-is m u (omega arith), i64-is m v (omega arith), i64-is m (u + v) (omega arith))
      (rw (at_least (max (k * k) 2) (u + v)) (not_not (leb (u + v) (max (k * k) 2))))

  offsets_are : offsets m k ≡ ours k (disk k)
  unfolding offsets disk rect line near
  offsets_are =
      let n = side k in
      ap (λ (r2 : ℤ). walked r2 (inclusive (i64 m (neg_ℤ (as_isize k))) (as_isize k))) (sides_are m k l).1
      ∙ ap (walked bound) (sides_are m k l).0
      ∙ rows_are k (near bound) (range 0 n) (range 0 n)
      ∙ ap (ours k) (keep_rect_ext (passes k (near bound)) (in_disk k) 0 n 0 n near-is)

-- ---- folds

module _ {A B C : Type 0} where
  -- over entries that are made of others
  made : (g : A → C → A) (h : B → C) (z : A) (l : List B) → foldl g z (each (λ b. h b ∷ []) l) ≡ foldl (λ s b. g s (h b)) z l
  unfolding each
  made g h z [] = refl
  made g h z (b ∷ l) = made g h (g z (h b)) l

  -- a part of the state
  part : (z : A) (p : A → B) (g : A → C → A) (k : B → C → B) (l : List C) → ((s : A) (c : C) → p (g s c) ≡ k (p s) c) → p (foldl g z l)
      ≡ foldl k (p z) l
  part z p g k [] e = refl
  part z p g k (c ∷ l) e = part (g z c) p g k l e ∙ ap (λ (s : B). foldl k s l) (e z c)

-- ---- 201-218

abbrev Three : Type 0
Three = Float × Float × Float

abbrev Two : Type 0
Two = Float × Float

abbrev moment_step : Float → Two → Float
moment_step s o = s ⊕ (o.0 ⊗ o.0 ⊕ o.1 ⊗ o.1)

abbrev norm_step : Float → Three → Two → Three
norm_step mean s o =
    let x = o.0 in
    let y = o.1 in
    let u = x ⊗ x ⊕ y ⊗ y ⊖ mean in
    let v = x ⊗ x ⊖ y ⊗ y in
    (s.0 ⊕ u ⊗ u, s.1 ⊕ v ⊗ v, s.2 ⊕ x ⊗ x ⊗ y ⊗ y)

-- the offset of a place, in f32
abbrev floats : ℕ → Place → Two
floats k p = (offset k p.x, offset k p.y)

-- `sum()` from -0.0 is `sum()` from 0.0, since the first step already is the same: computed for each radius
module _ (k : ℕ) where
  abbrev summed : Float → List Place → Float
  summed = foldl (λ s p. moment_step s (floats k p))

  begins : List Place → Bool
  begins [] = false
  begins (p ∷ ps) = alike (moment_step lit_minus_0 (floats k p)) (moment_step lit_0 (floats k p))

  begun : (ps : List Place) → T (begins ps) → summed lit_minus_0 ps ≡ summed lit_0 ps
  unfolding begins
  begun [] t = absurd t
  begun (p ∷ ps) t = ap (λ (s : Float). summed s ps) (alike_same _ _ t)

  from-minus : Bool
  from-minus = begins (disk k)

either_start : T (every from-minus 8)
unfolding every from-minus begins alike fits of_bits to_bits add mul of_int offset disk each keep range from line rect in_disk
either_start = tt

module _ (m : Machine) (k : ℕ) (l : k ≤ 7) where
  disk-is : disk-of m k ≡ each (λ p. floats k p ∷ []) (disk k)
  unfolding offset each
  disk-is = ap (each (λ o. (as_f32-signed o.0, as_f32-signed o.1) ∷ [])) (offsets_are m k l) ∙ twice (disk k)
    where
      twice : (ps : List Place) → each {B = Two} (λ o. (as_f32-signed o.0, as_f32-signed o.1) ∷ []) (each (λ p. signed k p ∷ []) ps)
          ≡ each (λ p. floats k p ∷ []) ps
      twice [] = refl
      twice (p ∷ ps) = ap (λ (r : List Two). floats k p ∷ r) (twice ps)

  count-is : length (disk-of m k) ≡ length (disk k)
  count-is = ap length disk-is ∙ length-each 1 (λ p. floats k p ∷ []) (λ p. refl) (disk k) ∙ one-mul _

  sum_is : (start : Float) → (start ≡ lit_0) ⊎ (start ≡ lit_minus_0) → foldl moment_step start (disk-of m k) ≡ (moments_of k).r2
  unfolding moments_of over_disk moment_added from-minus
  sum_is start e =
      ap (foldl moment_step start) disk-is ∙ made moment_step (floats k) start (disk k) ∙ begin e ∙ sym
      (part no_moments (λ s. s.r2) _ _ (disk k) (λ s p. refl))
    where
      begin : (start ≡ lit_0) ⊎ (start ≡ lit_minus_0) → summed k start (disk k) ≡ summed k lit_0 (disk k)
      begin (inl q) = rw q
      begin (inr q) = rw q (begun k (disk k) (every_at from-minus 8 either_start k (omega arith)))

  norms_are : (mean : Float) → foldl {B = Three} (norm_step mean) (lit_0, lit_0, lit_0) (disk-of m k)
      ≡ ((norms_of mean k).u, (norms_of mean k).v, (norms_of mean k).xy)
  unfolding norms_of over_disk norm_added
  norms_are mean =
      ap (foldl {B = Three} (norm_step mean) (lit_0, lit_0, lit_0)) disk-is
      ∙ made {A = Three} (norm_step mean) (floats k) (lit_0, lit_0, lit_0) (disk k)
      ∙ sym (part no_sums (λ s. (s.u, s.v, s.xy)) _ _ (disk k) (λ s p. refl))

  mean_is : Sound m → foldl moment_step m.start (disk-of m k) ⊘ as_f32 (length (disk-of m k)) ≡ mean_of k
  unfolding mean_of
  mean_is sound = rw (count-is, sum_is m.start sound.starts)

  pub new_is : Sound m → new m k
      ≡ record { k = k; mean_r2 = (saddle_of k).mean_r2; inv_norms = ((saddle_of k).inv_u, (saddle_of k).inv_v, (saddle_of k).inv_xy) }
  unfolding new saddle_of
  new_is sound = rw (mean_is sound, norms_are (mean_of k))

-- ---- 235-263

-- `wrapping_add_signed` does not wrap
placed : (x i k : ℕ) → k ≤ x → x ≤ 8192 → i < 2 * k + 1 → k ≤ 7 → wrapping_add_signed x (minus i k) ≡ x + i - k
placed x i k b c d l = go (leb k i) refl
  where
    go : (t : Bool) → leb k i ≡ t → (x + as_usize (cond t (pos (i - k)) (negsuc (k - suc i)))) % 2 ^ 64 ≡ x + i - k
    go true e = let n : k ≤ i = leb-true k i e in omega arith
    go false e = let n : i < k = leb-false k i e in omega arith

abs_is : (x : Float) → abs x ≡ magnitude x
unfolding abs magnitude
abs_is nan = refl
abs_is (inf s) = refl
abs_is (fin s k e) = refl

-- the disk of radius k about x and y lies in an image within the limits
pub record Within (image : List ℕ) (w h k x y : ℕ) : Type 0 where
  pub whole : length image ≡ w * h
  pub deep : (i j : ℕ) → pixel image w i j ≤ 4095
  pub left : k ≤ x
  pub right : x + k < w
  pub above : k ≤ y
  pub below : y + k < h
  pub wide : w ≤ 8192
  pub high : h ≤ 8192

module _ (m : Machine) (sound : Sound m) (image : List ℕ) (w h k x y : ℕ) (least : 1 ≤ k) (most : k ≤ 7) (c : Within image w h k x y) where
  abbrev sum_step : Three → ℤ × ℤ → Three
  sum_step s o =
      let px = wrapping_add_signed x o.0 in
      let py = wrapping_add_signed y o.1 in
      let i = as_f32 (byte_at m image (py * w + px)) in
      let dx = as_f32-signed o.0 in
      let dy = as_f32-signed o.1 in
      (s.0 ⊕ (dx ⊗ dx ⊕ dy ⊗ dy ⊖ (saddle_of k).mean_r2) ⊗ i, s.1 ⊕ (dx ⊗ dx ⊖ dy ⊗ dy) ⊗ i, s.2 ⊕ dx ⊗ dy ⊗ i)

  abbrev our_step : Three → Place → Three
  our_step s p =
      let i = around k (pixel image w) x y p in
      let dx = offset k p.x in
      let dy = offset k p.y in
      (s.0 ⊕ (dx ⊗ dx ⊕ dy ⊗ dy ⊖ (saddle_of k).mean_r2) ⊗ i, s.1 ⊕ (dx ⊗ dx ⊖ dy ⊗ dy) ⊗ i, s.2 ⊕ dx ⊗ dy ⊗ i)

  -- each read is inside the image
  reads : (p : Place) → InRect 0 (side k) 0 (side k) p → (s : Three) → sum_step s (signed k p) ≡ our_step s p
  unfolding offset
  reads p b s =
      let i : p.x < 2 * k + 1 = omega arith in
      let j : p.y < 2 * k + 1 = omega arith in
      let a : x + p.x - k < w = omega arith in
      let d : y + p.y - k < h = omega arith in
      rw (
        placed x p.x k c.left (omega arith) i most,
        placed y p.y k c.above (omega arith) j most,
        inside image ((y + p.y - k) * w + (x + p.x - k)) (m.byte ((y + p.y - k) * w + (x + p.x - k))) 0 (omega (arith, c.whole, pixel_in a d)),
      )

  square : All (InRect 0 (side k) 0 (side k)) (disk k)
  unfolding disk
  square = all_keep (InRect 0 (side k) 0 (side k)) (in_disk k) (rect 0 (side k) 0 (side k)) (all_rect 0 (side k) 0 (side k))

  sums_are : foldl {B = Three} sum_step (lit_0, lit_0, lit_0) (offsets m k)
      ≡ (let s = sums_of (saddle_of k) k (pixel image w) x y in (s.u, s.v, s.xy))
  unfolding sums_of over_disk added
  sums_are =
      ap (foldl {B = Three} sum_step (lit_0, lit_0, lit_0)) (offsets_are m k most)
      ∙ made {A = Three} sum_step (signed k) (lit_0, lit_0, lit_0) (disk k)
      ∙ foldl-same {B = Three} (λ s p. sum_step s (signed k p)) our_step (lit_0, lit_0, lit_0) (disk k)
      (all_map (InRect 0 (side k) 0 (side k)) (λ p. (s : Three) → sum_step s (signed k p) ≡ our_step s p) reads (disk k) square)
      ∙ sym (part no_sums (λ s. (s.u, s.v, s.xy)) _ our_step (disk k) (λ s p. refl))

  -- the machine's root is document 01's
  spread-is : m.sqrt (spread_squared (saddle_of k) (sums_of (saddle_of k) k (pixel image w) x y))
      ≡ nearest_root (spread_squared (saddle_of k) (sums_of (saddle_of k) k (pixel image w) x y))
  spread-is =
      root_is m.sqrt sound.roots _ _ (unfold squares in add-fits binary32 _ _) (never_outside k (pixel image w) x y least most c.deep)

  pub accepts_as_rust : accepts m (new m k) image w x y ≡ is_kept (by_saddle (saddle_at (saddle_of k) k (pixel image w) x y))
  unfolding accepts
  accepts_as_rust =
      let t = saddle_of k in
      let s = sums_of t k (pixel image w) x y in
      let root = nearest_root (spread_squared t s) in
      rw (new_is m k most sound, sums_are)
      (rw (by_root k (pixel image w) x y least most c.deep)
      (unfold squares by_curvatures in
      rw (spread-is, abs_is, usize-is m (k * k) (omega (arith, mul-le-mul most most)))
      (go (le lit_1 (root ⊗ as_f32 (k * k))) (le (magnitude (trace t s) ⊗ (lit_1 ⊕ lit_0·2)) (root ⊗ (lit_1 ⊖ lit_0·2))))))
    where
      go : (a b : Bool) → (a && b) ≡ is_kept (by_saddle (cond a (cond b Yes Curved) Flat))
      go true true = refl
      go true false = refl
      go false b = refl
