-- The saddle test never asks for a root that there is not: on an image of pixels up to 4,095, with what a radius from 1
-- to 7 fixes, 16 q q + 4 b b is finite and not negative. So the verdict is always by a root. Assumes nothing.
use mathlib.Core.Path.{◌≡◌, refl}
use mathlib.Core.Bool.{Bool, true, false, not, cond, ◌&&◌}
use mathlib.Core.List.{List, [], ◌∷◌, foldl}
use Prim.Native.Nat.{ℕ, zero, suc, ◌+◌, ◌-◌, ◌*◌, ◌^◌, ◌≤◌, ◌<◌}
use native.Mathlib.Omega.{arith}
use lib.Dec.{T, leb, lit<, lit≤, leb→le, nleb→lt}
use lib.IntN.{pos, negsuc}
use lib.Ieee.{Float, nan, inf, fin, up, down, binary32, of_bits, of_int, add, sub, mul, div}
use lib.Ieee.Fits.{and_l, and_r}
use Rattle.float.proofs.Computed.{every, every_at}
use Rattle.float.proofs.Sized.{Sized, sized, Small, small, held, power, small_mono, round_sized}
use Rattle.float.proofs.Sized.{mul_small, add_small, sub_small, add_plus, square-plus}
use Rattle.grid.specs.Each.{each, keep}
use Rattle.grid.specs.Rect.{Place, from, range, line, rect}
use Rattle.scalar.specs.Root.{root_of}
use Rattle.std.specs.Prelude.{Some}
use Rattle.saddle.specs.declared.SaddleTest.{SaddleTest}
use Rattle.saddle.specs.Saddle.{f4, f16, offset, disk, over_disk, no_sums, added, around, sums_of, saddle_of}
use Rattle.saddle.specs.Saddle.{squares, by_curvatures, judge, saddle_at}
use Rattle.saddle.proofs.Spread.{Added, nearest_root, spread_squared, trace}

-- ---- what a radius fixes: one test, computed for each

bounded : ℕ → Float → Bool
bounded n nan = false
bounded n (inf s) = false
bounded n (fin s m e) = leb (m * up e) (n * down e)

bounded_small : (n : ℕ) (x : Float) → T (bounded n x) → Small n x
unfolding bounded
bounded_small n nan t = absurd t
bounded_small n (inf s) t = absurd t
bounded_small n (fin s m e) t = small (sized (leb→le _ _ t))

-- at most n places, all of the square of side 15
few : ℕ → List Place → Bool
few n [] = true
few zero (p ∷ ps) = false
few (suc n) (p ∷ ps) = (leb p.x 14 && leb p.y 14) && few n ps

tame : SaddleTest → Bool
tame t = bounded 1 t.inv_v && bounded 1 t.inv_xy

known : ℕ → Bool
known i = few 149 (disk (suc i)) && tame (saddle_of (suc i))

every_radius : T (every known 7)
unfolding every known tame bounded few disk saddle_of keep each rect line range from of_bits add sub mul div of_int
every_radius = tt

of_radius : (k : ℕ) → 1 ≤ k → k ≤ 7 → T (few 149 (disk k)) × T (tame (saddle_of k))
unfolding known
of_radius zero l m = absurd (omega arith)
of_radius (suc i) l m =
    let t = every_at known 7 every_radius i (omega arith) in
    (and_l (few 149 (disk (suc i))) _ t, and_r (few 149 (disk (suc i))) _ t)

-- ---- a place adds at most 2 ^ 22

offset-small : (k i : ℕ) → k ≤ 7 → i ≤ 14 → Small 16 (offset k i)
unfolding offset of_int
offset-small k i b l = go (leb k i) (nleb→lt k i)
  where
    go : (w : Bool) → (T (not w) → i < k) → Small 16 (of_int binary32 (cond w (pos (i - k)) (negsuc (k - suc i))))
    go true f = small (round_sized false (i - k) 1 16 (lit< tt) (power 4 (lit≤ tt)) (omega arith))
    go false f = small (round_sized true (suc (k - suc i)) 1 16 (lit< tt) (power 4 (lit≤ tt)) (omega arith))

pixel-small : (v : ℕ) → v ≤ 4095 → Small 4096 (of_int binary32 (pos v))
unfolding of_int
pixel-small v b = small (round_sized false v 1 4096 (lit< tt) (power 12 (lit≤ tt)) (omega arith))

-- the two sums after m places
record After (m : ℕ) (s : Added) : Type 0 where
  v : Small (m * 2 ^ 22) s.v
  xy : Small (m * 2 ^ 22) s.xy

module _ (m : ℕ) (few-places : m < 256) where
  more : {x y : Float} → Small (m * 2 ^ 22) x → Small (2 ^ 22) y → Small ((m + 1) * 2 ^ 22) (add binary32 x y)
  more h k = add_small ((m + 1) * 2 ^ 22) (held (m + 1) 22 (omega arith) (lit≤ tt)) (omega arith) h k

  product : {x y : Float} → Small 16 x → Small 16 y → Small 256 (mul binary32 x y)
  product h k = mul_small 256 (power 8 (lit≤ tt)) (lit≤ tt) h k

  -- with a pixel
  times : {x y : Float} → Small 512 x → Small 4096 y → Small (2 ^ 22) (mul binary32 x y)
  times h k = mul_small (2 ^ 22) (power 22 (lit≤ tt)) (lit≤ tt) h k

  place-added : (t : SaddleTest) (dx dy i : Float) (s : Added) → Small 16 dx → Small 16 dy → Small 4096 i → After m s
      → After (m + 1) (added t dx dy i s)
  unfolding added
  place-added t dx dy i s X Y I A = record {
    v = more A.v (times (sub_small 512 (power 9 (lit≤ tt)) (lit≤ tt) (product X X) (product Y Y)) I);
    xy = more A.xy (times (small_mono (lit≤ tt) (product X Y)) I);
  }

-- ---- the places of a list

module _ (t : SaddleTest) (k : ℕ) (f : ℕ → ℕ → ℕ) (x y : ℕ) (radius : k ≤ 7) (deep : (i j : ℕ) → f i j ≤ 4095) where
  abbrev next : Added → Place → Added
  next s p = added t (offset k p.x) (offset k p.y) (around k f x y p) s

  places_added : (n m : ℕ) (ps : List Place) (s : Added) → n + m ≤ 256 → T (few n ps) → After m s
      → After 256 (foldl next s ps)
  unfolding few
  places_added n m [] s b h A = record { v = small_mono (omega arith) A.v; xy = small_mono (omega arith) A.xy }
  places_added zero m (p ∷ ps) s b h A = absurd h
  places_added (suc n) m (p ∷ ps) s b h A =
      let here = and_l (leb p.x 14 && leb p.y 14) (few n ps) h in
      let X : p.x ≤ 14 = leb→le _ _ (and_l (leb p.x 14) _ here) in
      let Y : p.y ≤ 14 = leb→le _ _ (and_r (leb p.x 14) (leb p.y 14) here) in
      places_added n (m + 1) ps (next s p) (omega arith) (and_r (leb p.x 14 && leb p.y 14) (few n ps) h)
      (place-added m (omega arith) t _ _ _ s (offset-small k p.x radius X) (offset-small k p.y radius Y)
      (pixel-small _ (deep _ _)) A)

-- ---- the root

four : Sized false 4 f4
unfolding of_bits
four = sized (lit≤ tt)

sixteen : Sized false 16 f16
unfolding of_bits
sixteen = sized (lit≤ tt)

squares-plus : (q b : Float) → Small (2 ^ 30) q → Small (2 ^ 30) b → Sized false (2 ^ 65) (squares q b)
unfolding squares
squares-plus q b Q B =
    add_plus (2 ^ 65) (power 65 (lit≤ tt)) (lit≤ tt)
    (square-plus (2 ^ 34) (2 ^ 64) (power 34 (lit≤ tt)) (power 64 (lit≤ tt)) (lit≤ tt) (lit≤ tt) sixteen Q)
    (square-plus (2 ^ 32) (2 ^ 62) (power 32 (lit≤ tt)) (power 62 (lit≤ tt)) (lit≤ tt) (lit≤ tt) four B)

has_root : {n : ℕ} {x : Float} → Sized false n x → root_of x ≡ Some (nearest_root x)
unfolding root_of
has_root (sized h) = refl

module _ (k : ℕ) (f : ℕ → ℕ → ℕ) (x y : ℕ) (least : 1 ≤ k) (most : k ≤ 7) (deep : (i j : ℕ) → f i j ≤ 4095) where
  abbrev sums : Added
  sums = sums_of (saddle_of k) k f x y

  sums_small : After 256 sums
  unfolding sums_of over_disk
  sums_small =
      places_added (saddle_of k) k f x y most deep 149 0 (disk k) no_sums (lit≤ tt) (of_radius k least most).0 start
    where
      start : After 0 no_sums
      start = unfold of_bits in record { v = small (sized (lit≤ tt)); xy = small (sized (lit≤ tt)) }

  pub never_outside : root_of (spread_squared (saddle_of k) sums) ≡ Some (nearest_root (spread_squared (saddle_of k) sums))
  unfolding tame
  never_outside =
      let t = saddle_of k in
      let g = (of_radius k least most).1 in
      let v = bounded_small 1 t.inv_v (and_l (bounded 1 t.inv_v) _ g) in
      let xy = bounded_small 1 t.inv_xy (and_r (bounded 1 t.inv_v) _ g) in
      has_root
      (squares-plus _ _
      (mul_small (2 ^ 30) (power 30 (lit≤ tt)) (lit≤ tt) sums_small.v v)
      (mul_small (2 ^ 30) (power 30 (lit≤ tt)) (lit≤ tt) sums_small.xy xy))

  -- so the verdict is by that root
  pub by_root : saddle_at (saddle_of k) k f x y
      ≡ by_curvatures k (trace (saddle_of k) sums) (nearest_root (spread_squared (saddle_of k) sums))
  unfolding saddle_at judge
  by_root = rw never_outside
