-- Facts about the response: which pixels are inside, all zero in a narrow or low image, the same for a raised image,
-- and from the pixels inside alone. Assumes nothing.
use mathlib.Core.Path.{◌≡◌, refl, sym, ap, ◌∙◌}
use mathlib.Core.Bool.{Bool, true, false, cond, ◌&&◌}
use Prim.Native.Nat.{ℕ, ◌+◌, ◌-◌, ◌*◌, ◌≤◌, ◌<◌, min, max}
use native.Mathlib.Omega.{arith}
use lib.Dec.{T, ltb, leb, ltb→lt, leb→le}
use lib.Ieee.Fits.{and_l, and_r}
use borrow.Author.Tests.{le-leb, lt-ltb}
use Rattle.float.specs.Values.{f0}
use Rattle.grid.specs.Ways.{Way, along, down, fall, rise, ray, Inside}
use Rattle.grid.proofs.Ways.{ray_raised, ray_ext}
use Rattle.rays.specs.Response.{spread, square, ray_spread, within, response_at}

module _ (w h r x y : ℕ) where
  pub inside_of : T (within w h r x y) → Inside w h r x y
  inside_of t =
      let u = and_r (leb r x) (ltb (x + r) w && (leb r y && ltb (y + r) h)) t in
      let v = and_r (ltb (x + r) w) (leb r y && ltb (y + r) h) u in
      record {
        left = leb→le _ _ (and_l (leb r x) (ltb (x + r) w && (leb r y && ltb (y + r) h)) t);
        right = ltb→lt _ _ (and_l (ltb (x + r) w) (leb r y && ltb (y + r) h) u);
        above = leb→le _ _ (and_l (leb r y) (ltb (y + r) h) v);
        below = ltb→lt _ _ (and_r (leb r y) (ltb (y + r) h) v);
      }

  pub within_of : Inside w h r x y → within w h r x y ≡ true
  within_of m = rw (le-leb r x m.left, lt-ltb (x + r) w m.right, le-leb r y m.above, lt-ltb (y + r) h m.below)

-- a test that was made
module _ (w h r x y : ℕ) {t : Bool} (e : t ≡ within w h r x y) where
  pub found_out : (f : ℕ → ℕ → ℕ) → t ≡ false → f0 ≡ response_at f w h r x y
  unfolding response_at
  found_out f q = rw (sym e ∙ q)

module _ (f : ℕ → ℕ → ℕ) (w h r x y : ℕ) where
  -- 0 where the rays are not inside
  pub response_out : (Inside w h r x y → ⊥) → f0 ≡ response_at f w h r x y
  unfolding response_at
  response_out n = at (within w h r x y) (λ t. n (inside_of w h r x y t))
    where
      at : (b : Bool) → (T b → ⊥) → f0 ≡ cond b (square (ray_spread f r x y)) f0
      at true k = absurd (k tt)
      at false k = refl

  pub response_in : Inside w h r x y → {a b c d : ℕ} → a ≡ ray along f r x y → b ≡ ray down f r x y → c ≡ ray fall f r x y
      → d ≡ ray rise f r x y
      → square (spread a b c d) ≡ response_at f w h r x y
  unfolding response_at ray_spread
  response_in m p q s t = simp (p, q, s, t, within_of w h r x y m)

  -- "W or H at most 2r gives all zero"
  pub narrow_zero : w ≤ 2 * r → f0 ≡ response_at f w h r x y
  narrow_zero l = response_out (λ m. omega arith)

  pub low_zero : h ≤ 2 * r → f0 ≡ response_at f w h r x y
  low_zero l = response_out (λ m. omega arith)

-- ---- a raised image

max_raised : (a b k : ℕ) → max (a + k) (b + k) ≡ max a b + k
max_raised a b k = omega arith

min_raised : (a b k : ℕ) → min (a + k) (b + k) ≡ min a b + k
min_raised a b k = omega arith

less_raised : (a b k : ℕ) → a + k - (b + k) ≡ a - b
less_raised a b k = omega arith

-- each pixel b brighter: the same response
pub response_raised : (f : ℕ → ℕ → ℕ) (b w h r x y : ℕ) → response_at (λ x y. f x y + b) w h r x y ≡ response_at f w h r x y
unfolding response_at ray_spread
response_raised f b w h r x y = simp (ray_raised, max_raised, min_raised, less_raised)

-- ---- only the pixels inside count

pub spread_ext : (f g : ℕ → ℕ → ℕ) (w h r x y : ℕ) → Inside w h r x y → ((x y : ℕ) → x < w → y < h → f x y ≡ g x y)
    → ray_spread f r x y ≡ ray_spread g r x y
unfolding ray_spread
spread_ext f g w h r x y m e =
    let same : (d : Way) → ray d f r x y ≡ ray d g r x y = λ d. ray_ext d f g w h r x y m e in
    rw (same along, same down, same fall, same rise)

pub response_ext : (f g : ℕ → ℕ → ℕ) (w h r x y : ℕ) → ((x y : ℕ) → x < w → y < h → f x y ≡ g x y)
    → response_at f w h r x y ≡ response_at g w h r x y
unfolding response_at
response_ext f g w h r x y e = at (within w h r x y) (inside_of w h r x y)
  where
    at : (b : Bool) → (T b → Inside w h r x y) → cond b (square (ray_spread f r x y)) f0 ≡ cond b (square (ray_spread g r x y)) f0
    at true m = ap square (spread_ext f g w h r x y (m tt) e)
    at false m = refl
