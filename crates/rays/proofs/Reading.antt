-- The eight entries about a pixel give its four rays. Assumes nothing.
use mathlib.Core.Path.{◌≡◌, refl, ap, ◌∙◌}
use mathlib.Core.Bool.{cond}
use mathlib.Core.List.{List}
use Prim.Native.Nat.{ℕ, ◌+◌, ◌-◌, ◌*◌, ◌≤◌, ◌<◌, min}
use native.Mathlib.Nat.{mul-le-mul_left}
use native.Mathlib.Omega.{arith}
use native.Mathlib.Decide.{dec_lt}
use lib.Dec.{ltb, leb}
use lib.ListN.{length, get_or}
use lib.Ieee.{Float}
use borrow.Author.Tests.{lt-ltb, le-ltb, le-leb, lt-leb}
use Rattle.grid.proofs.Plane.{row_in}
use Rattle.grid.specs.Ways.{Way, along, down, fall, rise, ray, Holds, Entry, Reach, Inside, Deep, up_to}
use Rattle.grid.proofs.Ways.{ray-most, ray_ext, ray_by, ray_deep, none_past, holds_at, endx, endy, lowx, lowy, prex, prey}
use Rattle.rays.specs.Response.{spread, square, response_at}
use Rattle.rays.specs.Shown.{shown, entry_at, Between, Held}
use Rattle.rays.proofs.Inner.{response_in}

-- ---- four numbers that are the four rays

pub record Cast (f : ℕ → ℕ → ℕ) (r x y a b c d : ℕ) : Type 0 where
  pub on_row : a ≡ ray along f r x y
  pub on-col : b ≡ ray down f r x y
  pub on-falling : c ≡ ray fall f r x y
  pub on-rising : d ≡ ray rise f r x y

-- what four reads gave, by what they promise
module _ {w h r x y : ℕ} {row col falling rising : List ℕ} (t : Held w h row col falling rising) (m : Inside w h r x y)
    {p q s u a b c d : ℕ} (k : Cast (shown row w) r x y p q s u) (i : a ≡ p) (j : b ≡ q) (v : c ≡ s) (z : d ≡ u) where
  -- none is over 15 pixels of 12 bits
  pub cast_small : r ≤ 7 → (a ≤ 61425) × (b ≤ 61425) × (c ≤ 61425) × (d ≤ 61425)
  cast_small l = (
    omega (arith, i, k.on_row, most along),
    omega (arith, j, k.on-col, most down),
    omega (arith, v, k.on-falling, most fall),
    omega (arith, z, k.on-rising, most rise),
  )
    where
      most : (d : Way) → ray d (shown row w) r x y ≤ 61425
      most d =
          let f : ℕ → ℕ → ℕ = λ x y. min (shown row w x y) 4095 in
          let e = ray_ext d (shown row w) f w h r x y m (λ x y a b. omega (arith, t.most x y a b)) in
          omega (arith, e, ray-most d f 4095 r x y (λ x y. omega arith))

  pub cast_response : {o : Float} → o ≡ square (spread a b c d) → o ≡ response_at (shown row w) w h r x y
  cast_response e = e ∙ response_in (shown row w) w h r x y m (i ∙ k.on_row) (j ∙ k.on-col) (v ∙ k.on-falling) (z ∙ k.on-rising)

-- ---- where an entry may be past the edge

entry-at : (t : List ℕ) (w h x y : ℕ) → y ≤ h → Entry t w h x y (entry_at t w x y)
unfolding entry_at
entry-at t w h x y l = record { is = λ d f s r. at d f s r (dec_lt 0 x) (dec_lt 0 y) (dec_lt w x) }
  where
    at : (d : Way) (f : ℕ → ℕ → ℕ) → Holds d f w h t → Reach d w x y → Dec (0 < x) → Dec (0 < y) → Dec (w < x)
        → cond (ltb 0 x) (cond (ltb 0 y) (cond (leb x w) (get_or t ((y - 1) * w + (x - 1)) 0) 0) 0) 0 ≡ up_to d f w x y
    at d f s r (no a) b c = rw (le-ltb 0 x (omega arith)) (none_past d f w x y r (omega arith))
    at d f s r (yes a) (no b) c = rw (lt-ltb 0 x a, le-ltb 0 y (omega arith)) (none_past d f w x y r (omega arith))
    at d f s r (yes a) (yes b) (yes c) = rw (lt-ltb 0 x a, lt-ltb 0 y b, lt-leb x w c) (none_past d f w x y r (omega arith))
    at d f s r (yes a) (yes b) (no c) =
        rw (lt-ltb 0 x a, lt-ltb 0 y b, le-leb x w (omega arith)) (holds_at s x y a (omega arith) b l refl)

-- the two entries of a ray: the difference does not wrap, and is the ray
pub record EdgeRay (d : Way) (f : ℕ → ℕ → ℕ) (t : List ℕ) (w r x y x0 y0 x1 y1 : ℕ) : Type 0 where
  pub reads : Between t w x0 y0 x1 y1
  pub is : entry_at t w x1 y1 - entry_at t w x0 y0 ≡ ray d f r x y

edge_ray : (d : Way) {f : ℕ → ℕ → ℕ} {w h r x y x0 y0 x1 y1 : ℕ} {t : List ℕ} → Holds d f w h t → Inside w h r x y → w ≤ 8192 → h ≤ 8192
    → w * h ≤ length t
    → x0 ≡ lowx d x r → y0 ≡ lowy d y r → x1 ≡ endx d x r + 1 → y1 ≡ endy d y r + 1 → EdgeRay d f t w r x y x0 y0 x1 y1
edge_ray d {f} {w} {h} {r} {x} {y} {t = t} s m u v l p q p' q' =
    let k = at d in
    let e = ray_by d s m (entry-at t w h _ _ k.1) (entry-at t w h _ _ k.0) in
    let o : EdgeRay d f t w r x y (lowx d x r) (lowy d y r) (endx d x r + 1) (endy d y r + 1) = record {
      reads = record {
        wide = u;
        high = (omega arith, omega arith);
        long = (omega (arith, mul-le-mul_left w k.0), omega (arith, mul-le-mul_left w k.1));
        least = e.0;
      };
      is = e.1;
    } in
    rw (p, q, p', q') o
  where
    at : (d : Way) → (lowy d y r ≤ h) × (endy d y r + 1 ≤ h)
    at along = omega arith
    at down = omega arith
    at fall = omega arith
    at rise = omega arith

-- the four, as code that counts from 1 reads them
pub record EdgeRays (w r x y : ℕ) (row col falling rising : List ℕ) : Type 0 where
  pub on_row : EdgeRay along (shown row w) row w r x y (x - r) (y + 1) (x + 1 + r) (y + 1)
  pub on-col : EdgeRay down (shown row w) col w r x y (x + 1) (y - r) (x + 1) (y + 1 + r)
  pub on-falling : EdgeRay fall (shown row w) falling w r x y (x - r) (y - r) (x + 1 + r) (y + 1 + r)
  pub on-rising : EdgeRay rise (shown row w) rising w r x y (x + 1 + r + 1) (y - r) (x - r + 1) (y + 1 + r)

pub edge_rays : {w h r x y : ℕ} {row col falling rising : List ℕ} → Held w h row col falling rising → Inside w h r x y
    → EdgeRays w r x y row col falling rising
edge_rays t m = record {
  on_row = edge_ray along t.rows m t.wide t.high t.row-long (omega arith) (omega arith) (omega arith) (omega arith);
  on-col = edge_ray down t.columns m t.wide t.high t.col-long (omega arith) (omega arith) (omega arith) (omega arith);
  on-falling = edge_ray fall t.falls m t.wide t.high t.falling-long (omega arith) (omega arith) (omega arith) (omega arith);
  on-rising = edge_ray rise t.rises m t.wide t.high t.rising-long (omega arith) (omega arith) (omega arith) (omega arith);
}

-- and what they differ by
pub edge_cast : {w r x y : ℕ} {row col falling rising : List ℕ} → EdgeRays w r x y row col falling rising
    → Cast (shown row w) r x y (entry_at row w (x + 1 + r) (y + 1) - entry_at row w (x - r) (y + 1))
    (entry_at col w (x + 1) (y + 1 + r) - entry_at col w (x + 1) (y - r))
    (entry_at falling w (x + 1 + r) (y + 1 + r) - entry_at falling w (x - r) (y - r))
    (entry_at rising w (x - r + 1) (y + 1 + r) - entry_at rising w (x + 1 + r + 1) (y - r))
edge_cast e = record { on_row = e.on_row.is; on-col = e.on-col.is; on-falling = e.on-falling.is; on-rising = e.on-rising.is }

-- ---- where all eight are in the image

pub record DeepRay (d : Way) (f : ℕ → ℕ → ℕ) (t : List ℕ) (r x y i j : ℕ) : Type 0 where
  pub reads : (i < length t) × (j < length t) × (get_or t j 0 ≤ get_or t i 0)
  pub is : get_or t i 0 - get_or t j 0 ≡ ray d f r x y

deep_ray : (d : Way) {f : ℕ → ℕ → ℕ} {w h r x y i j : ℕ} {t : List ℕ} → Holds d f w h t → Deep w h r x y → w * h ≤ length t
    → i ≡ endy d y r * w + endx d x r → j ≡ prey d y r * w + prex d x r → (i < w * h) × (j < w * h) → DeepRay d f t r x y i j
deep_ray d s m l p q u =
    let e = ray_deep d s m p q in
    record { reads = (omega arith, omega arith, e.0); is = e.1 }

pub record DeepRays (w r x y : ℕ) (row col falling rising : List ℕ) : Type 0 where
  pub on_row : DeepRay along (shown row w) row r x y (y * w + x + r) (y * w + x - (r + 1))
  pub on-col : DeepRay down (shown row w) col r x y ((y + r) * w + x) ((y - (r + 1)) * w + x)
  pub on-falling : DeepRay fall (shown row w) falling r x y ((y + r) * w + x + r) ((y - (r + 1)) * w + x - (r + 1))
  pub on-rising : DeepRay rise (shown row w) rising r x y ((y + r) * w + x - r) ((y - (r + 1)) * w + x + (r + 1))

-- and what they differ by
pub deep_cast : {w r x y : ℕ} {row col falling rising : List ℕ} → DeepRays w r x y row col falling rising
    → Cast (shown row w) r x y (get_or row (y * w + x + r) 0 - get_or row (y * w + x - (r + 1)) 0)
    (get_or col ((y + r) * w + x) 0 - get_or col ((y - (r + 1)) * w + x) 0)
    (get_or falling ((y + r) * w + x + r) 0 - get_or falling ((y - (r + 1)) * w + x - (r + 1)) 0)
    (get_or rising ((y + r) * w + x - r) 0 - get_or rising ((y - (r + 1)) * w + x + (r + 1)) 0)
deep_cast e = record { on_row = e.on_row.is; on-col = e.on-col.is; on-falling = e.on-falling.is; on-rising = e.on-rising.is }

module _ {w h r x y : ℕ} {row col falling rising : List ℕ} (t : Held w h row col falling rising) (m : Deep w h r x y) where
  -- where the rows y, y + r and y - r - 1 end
  rows : (y * w + w ≤ w * h) × ((y + r) * w + w ≤ w * h) × ((y - (r + 1)) * w + w ≤ w * h)
  rows = (row_in w (omega arith), row_in w m.below, row_in w (omega arith))

  pub deep_rays : DeepRays w r x y row col falling rising
  deep_rays =
      let k = rows in
      let e : y - (r + 1) ≡ y - r - 1 = omega arith in
      let n : (y - (r + 1)) * w ≡ (y - r - 1) * w = ap (λ (z : ℕ). z * w) e in
      record {
        on_row = deep_ray along t.rows m t.row-long (omega arith) (omega arith) (omega arith);
        on-col = deep_ray down t.columns m t.col-long (omega arith) (omega arith) (omega arith);
        on-falling = deep_ray fall t.falls m t.falling-long (omega arith) (omega arith) (omega arith);
        on-rising = deep_ray rise t.rises m t.rising-long (omega arith) (omega arith) (omega arith);
      }
