-- Laws of The four ways through an image, the running sums along each, and the sum over a ray: a running sum less another.
use mathlib.Core.Path.{◌≡◌, refl, sym, ap, ◌∙◌}
use Prim.Native.Nat.{ℕ, ◌+◌, ◌-◌, ◌*◌, ◌≤◌, ◌<◌, min}
use native.Mathlib.Nat.{le_trans, mul-le-mul_left}
use native.Mathlib.Omega.{arith}
use mathlib.Core.List.{List}
use lib.ListN.{length, get_or}
use Rattle.grid.specs.Fill.{filled}
use Rattle.grid.specs.Plane.{plane}
use Rattle.grid.proofs.Plane.{getD_plane, pixel_in}
use Rattle.grid.specs.Fold.{sum_to}
use Rattle.grid.proofs.Fold.{sum_one, sum_split, sum_back, sum-most, sum_raised, fold-none, fold_ext}
use Rattle.grid.specs.Ways.{Way, backx, backy, count, last_sum, up_to, run_sum, rayx, rayy, ray}
use Rattle.grid.specs.Ways.{Inside, Reach, Holds, Entry, Deep, along, down, fall, rise}

-- ---- what is meant

-- ---- bounds, and a raised image

pub ray-most : (d : Way) (f : ℕ → ℕ → ℕ) (top r x y : ℕ) → ((x y : ℕ) → f x y ≤ top) → ray d f r x y ≤ top * (2 * r + 1)
unfolding ray
ray-most d f top r x y h = sum-most _ top (2 * r + 1) (λ j. h (rayx d x r j) (rayy d y r j))

pub ray_raised : (d : Way) (f : ℕ → ℕ → ℕ) (b r x y : ℕ) → ray d (λ x y. f x y + b) r x y ≡ ray d f r x y + b * (2 * r + 1)
unfolding ray
ray_raised d f b r x y = sum_raised _ b (2 * r + 1)

-- only the pixels inside count
pub ray_ext : (d : Way) (f g : ℕ → ℕ → ℕ) (w h r x y : ℕ) → Inside w h r x y → ((x y : ℕ) → x < w → y < h → f x y ≡ g x y)
    → ray d f r x y ≡ ray d g r x y
unfolding ray
ray_ext d f g w h r x y m e = fold_ext ◌+◌ 0 _ _ (2 * r + 1) (λ j b. e (rayx d x r j) (rayy d y r j) (at d j b).0 (at d j b).1)
  where
    at : (d : Way) (j : ℕ) → j < 2 * r + 1 → (rayx d x r j < w) × (rayy d y r j < h)
    at along j b = omega arith
    at down j b = omega arith
    at fall j b = omega arith
    at rise j b = omega arith

pub last_most : (d : Way) (f : ℕ → ℕ → ℕ) (top n x y : ℕ) → ((x y : ℕ) → f x y ≤ top) → last_sum d f n x y ≤ top * n
unfolding last_sum
last_most d f top n x y h = sum-most _ top n (λ k. h (backx d x k) (backy d y k))

last_none : (d : Way) (f : ℕ → ℕ → ℕ) (x y : ℕ) → last_sum d f 0 x y ≡ 0
unfolding last_sum
last_none d f x y = sym (fold-none ◌+◌ 0 _ 0 refl)

-- ---- telescoping: m steps back, and k more

backx_back : (d : Way) (x m k : ℕ) → 0 < x → backx d (backx d x m - 1) k ≡ backx d (x - 1) (m + k)
backx_back along x m k b = omega arith
backx_back down x m k b = refl
backx_back fall x m k b = omega arith
backx_back rise x m k b = omega arith

backy_back : (d : Way) (y m k : ℕ) → backy d (backy d y m - 1) k ≡ backy d (y - 1) (m + k)
backy_back along y m k = refl
backy_back down y m k = omega arith
backy_back fall y m k = omega arith
backy_back rise y m k = omega arith

count_back : (d : Way) (w x y m : ℕ) → m ≤ count d w x y → count d w x y ≡ m + count d w (backx d x m) (backy d y m)
count_back along w x y m b = omega arith
count_back down w x y m b = omega arith
count_back fall w x y m b = omega arith
count_back rise w x y m b = omega arith

-- a running sum is the last m pixels and the running sum m steps back
pub up_to_back : (d : Way) (f : ℕ → ℕ → ℕ) (w x y m : ℕ) → 0 < x → m ≤ count d w x y
    → up_to d f w x y ≡ last_sum d f m (x - 1) (y - 1) + up_to d f w (backx d x m) (backy d y m)
unfolding last_sum
up_to_back d f w x y m p b =
    let n = count d w (backx d x m) (backy d y m) in
    let g : ℕ → ℕ = λ k. f (backx d (x - 1) k) (backy d (y - 1) k) in
    ap (sum_to g) (count_back d w x y m b)
    ∙ sum_split g m n
    ∙ ap (λ (s : ℕ). sum_to g m + s) (fold_ext ◌+◌ 0 _ _ n (λ k u. sym (λ i. f (backx_back d x m k p i) (backy_back d y m k i))))

-- ---- a step of a pass

-- the pixel before x and y on the line, counted from 1
abbrev pub prevx : Way → ℕ → ℕ
prevx along x = x
prevx down x = x + 1
prevx fall x = x
prevx rise x = x + 1 + 1

abbrev pub prevy : Way → ℕ → ℕ
prevy along y = y + 1
prevy down y = y
prevy fall y = y
prevy rise y = y

pub run_step : (d : Way) (f : ℕ → ℕ → ℕ) (w x y : ℕ) → x < w → run_sum d f w x y ≡ f x y + up_to d f w (prevx d x) (prevy d y)
unfolding last_sum
run_step d f w x y b =
    up_to_back d f w (x + 1) (y + 1) 1 (omega arith) (at d).0
    ∙ ap (λ (n : ℕ). n + up_to d f w (backx d (x + 1) 1) (backy d (y + 1) 1)) (sum_one _ ∙ (λ i. f ((at d).1 i) ((at d).2 i)))
    ∙ (λ i. f x y + up_to d f w ((at d).3 i) ((at d).4 i))
  where
    at : (d : Way) → (1 ≤ count d w (x + 1) (y + 1)) × (backx d (x + 1 - 1) 0 ≡ x) × (backy d (y + 1 - 1) 0 ≡ y)
        × (backx d (x + 1) 1 ≡ prevx d x) × (backy d (y + 1) 1 ≡ prevy d y)
    at along = omega arith
    at down = omega arith
    at fall = omega arith
    at rise = omega arith

-- there is nothing past the edge
pub none_past : (d : Way) (f : ℕ → ℕ → ℕ) (w x y : ℕ) → Reach d w x y → min (min x y) (w + 1 - x) ≡ 0 → 0 ≡ up_to d f w x y
none_past d f w x y r e = rw (none d r e) (sym (last_none d f (x - 1) (y - 1)))
  where
    none : (d : Way) → Reach d w x y → min (min x y) (w + 1 - x) ≡ 0 → count d w x y ≡ 0
    none along r e = omega arith
    none down r e = omega arith
    none fall r e = omega arith
    none rise r e = omega arith

-- a step where the line has a pixel before, of running sum a; and one where it has none
pub run_on : (d : Way) (f : ℕ → ℕ → ℕ) (w x y : ℕ) {a : ℕ} → x < w → a ≡ up_to d f w (prevx d x) (prevy d y) → f x y + a ≡ run_sum d f w x y
run_on d f w x y b e = omega (arith, run_step d f w x y b)

pub run-first : (d : Way) (f : ℕ → ℕ → ℕ) (w x y : ℕ) → x < w → Reach d w (prevx d x) (prevy d y)
    → min (min (prevx d x) (prevy d y)) (w + 1 - prevx d x) ≡ 0 → f x y ≡ run_sum d f w x y
run-first d f w x y b r e = omega (arith, run_step d f w x y b, none_past d f w (prevx d x) (prevy d y) r e)

-- a running sum at (a, b), by a column and a row counted from 1
pub run_at : (d : Way) (f : ℕ → ℕ → ℕ) (w a b : ℕ) (x y : ℕ) {v : ℕ} → v ≡ run_sum d f w a b → a + 1 ≡ x → b + 1 ≡ y → v ≡ up_to d f w x y
run_at d f w a b x y e p q = e ∙ (λ i. up_to d f w (p i) (q i))

-- no running sum passes the greatest pixel times the longer side
pub run-most : (d : Way) (f : ℕ → ℕ → ℕ) (top side w x y : ℕ) → ((x y : ℕ) → f x y ≤ top) → x ≤ side → y ≤ side → up_to d f w x y ≤ top * side
run-most d f top side w x y h a b = le_trans (last_most d f top (count d w x y) (x - 1) (y - 1) h) (most (count d w x y) (at d))
  where
    at : (d : Way) → count d w x y ≤ side
    at along = omega arith
    at down = omega arith
    at fall = omega arith
    at rise = omega arith

    most : (n : ℕ) → n ≤ side → top * n ≤ top * side
    most n l = mul-le-mul_left top l

-- only the pixels inside count
pub run_ext : (d : Way) (f g : ℕ → ℕ → ℕ) (w h x y : ℕ) → x < w → y < h → ((x y : ℕ) → x < w → y < h → f x y ≡ g x y)
    → run_sum d f w x y ≡ run_sum d g w x y
unfolding last_sum
run_ext d f g w h x y a b e =
    fold_ext ◌+◌ 0 _ _ (count d w (x + 1) (y + 1)) (λ k l. e (backx d (x + 1 - 1) k) (backy d (y + 1 - 1) k) (at d k l).0 (at d k l).1)
  where
    at : (d : Way) (k : ℕ) → k < count d w (x + 1) (y + 1) → (backx d (x + 1 - 1) k < w) × (backy d (y + 1 - 1) k < h)
    at along k l = omega arith
    at down k l = omega arith
    at fall k l = omega arith
    at rise k l = omega arith

-- ---- a table that holds the running sums of an image, whatever filled it

pub holds : (d : Way) (f : ℕ → ℕ → ℕ) (w h : ℕ) (old : List ℕ) {t : List ℕ} → w * h ≤ length old
    → t ≡ filled (w * h) (plane w (run_sum d f w)) old → Holds d f w h t
holds d f w h old l e = record { at = λ x y a b. rw e (getD_plane a (w * h) (run_sum d f w) old y 0 (pixel_in a b) l) }

-- an entry, by a column and a row counted from 1
pub holds_at : {d : Way} {f : ℕ → ℕ → ℕ} {w h : ℕ} {t : List ℕ} → Holds d f w h t → (x y : ℕ) {i : ℕ} → 0 < x → x ≤ w → 0 < y
    → y ≤ h → i ≡ (y - 1) * w + (x - 1)
    → get_or t i 0 ≡ up_to d f w x y
holds_at {d} {f} {w} s x y a b u v e =
    let p : x - 1 + 1 ≡ x = omega arith in
    let q : y - 1 + 1 ≡ y = omega arith in
    rw e (s.at (x - 1) (y - 1) (omega arith) (omega arith) ∙ (λ i. up_to d f w (p i) (q i)))

-- ---- a ray from two entries

-- the last pixel of a ray
abbrev pub endx : Way → ℕ → ℕ → ℕ
endx along x r = x + r
endx down x r = x
endx fall x r = x + r
endx rise x r = x - r

abbrev pub endy : Way → ℕ → ℕ → ℕ
endy along y r = y
endy down y r = y + r
endy fall y r = y + r
endy rise y r = y + r

-- where its line stands before its first pixel, counted from 1
abbrev pub lowx : Way → ℕ → ℕ → ℕ
lowx along x r = x - r
lowx down x r = x + 1
lowx fall x r = x - r
lowx rise x r = x + r + 1 + 1

abbrev pub lowy : Way → ℕ → ℕ → ℕ
lowy along y r = y + 1
lowy down y r = y - r
lowy fall y r = y - r
lowy rise y r = y - r

module _ (d : Way) (f : ℕ → ℕ → ℕ) (w h r x y : ℕ) (m : Inside w h r x y) where
  -- the ray is the line's last 2 r + 1 pixels up to its end: the rising one in the same order, the others from the other end
  ray_last : last_sum d f (2 * r + 1) (endx d x r) (endy d y r) ≡ ray d f r x y
  unfolding last_sum ray
  ray_last = go d
    where
      go : (d : Way)
          → sum_to (λ k. f (backx d (endx d x r) k) (backy d (endy d y r) k)) (2 * r + 1) ≡ sum_to (λ j. f (rayx d x r j) (rayy d y r j)) (2 * r + 1)
      go along = sum_back _ (2 * r + 1) ∙ fold_ext ◌+◌ 0 _ _ (2 * r + 1) (λ j b. ap (λ (u : ℕ). f u y) (omega arith))
      go down = sum_back _ (2 * r + 1) ∙ fold_ext ◌+◌ 0 _ _ (2 * r + 1) (λ j b. ap (λ (u : ℕ). f x u) (omega arith))
      go fall =
          sum_back _ (2 * r + 1)
          ∙ fold_ext ◌+◌ 0 _ _ (2 * r + 1) (λ j b.
          let p : x + r - (2 * r + 1 - 1 - j) ≡ x + j - r = omega arith in
          let q : y + r - (2 * r + 1 - 1 - j) ≡ y + j - r = omega arith in
          (λ i. f (p i) (q i)))
      go rise = fold_ext ◌+◌ 0 _ _ (2 * r + 1) (λ j b. ap (λ (u : ℕ). f u (y + r - j)) (omega arith))

  pub ray-is : up_to d f w (endx d x r + 1) (endy d y r + 1) ≡ ray d f r x y + up_to d f w (lowx d x r) (lowy d y r)
  ray-is =
      let p : endx d x r + 1 - 1 ≡ endx d x r = omega arith in
      let q : endy d y r + 1 - 1 ≡ endy d y r = omega arith in
      up_to_back d f w (endx d x r + 1) (endy d y r + 1) (2 * r + 1) (omega arith) (at d).0
      ∙ (λ i. last_sum d f (2 * r + 1) (p i) (q i) + up_to d f w ((at d).1 i) ((at d).2 i))
      ∙ ap (λ (n : ℕ). n + up_to d f w (lowx d x r) (lowy d y r)) ray_last
    where
      at : (d : Way) → (2 * r + 1 ≤ count d w (endx d x r + 1) (endy d y r + 1))
          × (backx d (endx d x r + 1) (2 * r + 1) ≡ lowx d x r) × (backy d (endy d y r + 1) (2 * r + 1) ≡ lowy d y r)
      at along = omega arith
      at down = omega arith
      at fall = omega arith
      at rise = omega arith

-- from the two entries that code reads, either of which may stand for what is past the edge
pub ray_by : (d : Way) {f : ℕ → ℕ → ℕ} {w h r x y p q : ℕ} {t : List ℕ} → Holds d f w h t → Inside w h r x y
    → Entry t w h (endx d x r + 1) (endy d y r + 1) p → Entry t w h (lowx d x r) (lowy d y r) q → (q ≤ p) × (p - q ≡ ray d f r x y)
ray_by d {f} {w} {h} {r} {x} {y} s m a b =
    let e = ray-is d f w h r x y m in
    let u = a.is d f s (end d) in
    let v = b.is d f s (low d) in
    (omega arith, omega arith)
  where
    end : (d : Way) → Reach d w (endx d x r + 1) (endy d y r + 1)
    end along = omega arith
    end down = omega arith
    end fall = omega arith
    end rise = omega arith

    low : (d : Way) → Reach d w (lowx d x r) (lowy d y r)
    low along = omega arith
    low down = omega arith
    low fall = omega arith
    low rise = omega arith

-- ---- deep in the image both entries are in it

-- the pixel before a ray's first
abbrev pub prex : Way → ℕ → ℕ → ℕ
prex along x r = x - r - 1
prex down x r = x
prex fall x r = x - r - 1
prex rise x r = x + r + 1

abbrev pub prey : Way → ℕ → ℕ → ℕ
prey along y r = y
prey down y r = y - r - 1
prey fall y r = y - r - 1
prey rise y r = y - r - 1

pub deep_inside : {w h r x y : ℕ} → Deep w h r x y → Inside w h r x y
deep_inside m = record { left = omega arith; right = omega arith; above = omega arith; below = omega arith }

-- i and j are where code reads
pub ray_deep : (d : Way) {f : ℕ → ℕ → ℕ} {w h r x y i j : ℕ} {t : List ℕ} → Holds d f w h t → Deep w h r x y
    → i ≡ endy d y r * w + endx d x r → j ≡ prey d y r * w + prex d x r
    → (get_or t j 0 ≤ get_or t i 0) × (get_or t i 0 - get_or t j 0 ≡ ray d f r x y)
ray_deep d {f} {w} {h} {r} {x} {y} {i} {j} {t} s m p q =
    let u : get_or t i 0 ≡ run_sum d f w (endx d x r) (endy d y r) = rw p (s.at (endx d x r) (endy d y r) (at d).0 (at d).1) in
    let v : get_or t j 0 ≡ run_sum d f w (prex d x r) (prey d y r) = rw q (s.at (prex d x r) (prey d y r) (at d).2 (at d).3) in
    let e = ray-is d f w h r x y (deep_inside m) in
    let l : up_to d f w (lowx d x r) (lowy d y r) ≡ run_sum d f w (prex d x r) (prey d y r) = λ k. up_to d f w ((at d).4 k) ((at d).5 k) in
    (omega arith, omega arith)
  where
    at : (d : Way)
        → (endx d x r < w) × (endy d y r < h) × (prex d x r < w) × (prey d y r < h) × (lowx d x r ≡ prex d x r + 1) × (lowy d y r ≡ prey d y r + 1)
    at along = omega arith
    at down = omega arith
    at fall = omega arith
    at rise = omega arith
