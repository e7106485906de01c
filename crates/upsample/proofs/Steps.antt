-- The steps of upsampling: two pixels of a row, a working row at either factor, and where the rows lie. Assumes nothing.
use mathlib.Core.Path.{◌≡◌, refl, sym, ap, ◌∙◌}
use Prim.Native.Nat.{ℕ, zero, suc, ◌+◌, ◌-◌, ◌*◌, ◌/◌, ◌%◌, ◌≤◌, ◌<◌, min}
use native.Mathlib.Nat.{one-mul, zero-add}
use native.Mathlib.Omega.{arith}
use mathlib.Core.List.{List, ◌++◌}
use lib.ListN.{length, take, drop, set, get_or, length-take, length-drop}
use lib.Seq.{take_all, get_or-take, get_or-drop, ext_get_or}
use Rattle.grid.proofs.Loops.{Line, line_more, line_all}
use Rattle.grid.specs.Fill.{filled}
use Rattle.grid.proofs.Fill.{filled_zero, filled_ext, length-filled, getD_filled}
use Rattle.grid.proofs.Part.{fill-part}
use Rattle.grid.proofs.Plane.{row_in}
use Rattle.grid.specs.Ways.{pixel}
use Rattle.upsample.specs.Upsample.{after, work_at}
use Rattle.upsample.specs.Kernel.{quarter, half, near, between}
use Rattle.upsample.specs.Fitting.{FittingImage, FittingRow, FittingAll}
use Rattle.upsample.proofs.Fits.{sides}
use Rattle.upsample.proofs.RoundedQuarter.{work_doubled, work_copied}

-- ---- the two working pixels of column x, in the row between t and l

module _ (t l : ℕ → ℕ) (w x : ℕ) where
  level : quarter (t x) (t x) (l x) (l x) ≡ between t l w (2 * x)
  unfolding between
  level =
      let e : 2 * x % 2 ≡ 0 = omega arith in
      let d : 2 * x / 2 ≡ x = omega arith in
      rw (e, d)

  halfway : (k : ℕ) → k ≡ after w x → quarter (t x) (t k) (l x) (l k) ≡ between t l w (2 * x + 1)
  unfolding between
  halfway k i =
      let e : (2 * x + 1) % 2 ≡ 1 = omega arith in
      let d : (2 * x + 1) / 2 ≡ x = omega arith in
      rw (e, d, i)

  pub line-two : (k : ℕ) {xs ys : List ℕ} {u v : ℕ} → Line (2 * w) (between t l w) xs ys (2 * x) → x < w → k ≡ after w x
      → u ≡ quarter (t x) (t x) (l x) (l x) → v ≡ quarter (t x) (t k) (l x) (l k)
      → Line (2 * w) (between t l w) xs (set (set ys (2 * x) u) (2 * x + 1) v) (2 * (x + 1))
  line-two k {xs} r b i p q =
      let e : 2 * (x + 1) ≡ 2 * x + 1 + 1 = omega arith in
      rw e (line_more (2 * w) _ xs (line_more (2 * w) _ xs r (omega arith) (p ∙ level)) (omega arith) (q ∙ halfway k i))

module _ (t l : ℕ → ℕ) (w : ℕ) where
  -- the last column has itself for the next
  pub line_last : (n x : ℕ) {xs ys : List ℕ} {m : ℕ} → Line (2 * w) (between t l w) xs ys (2 * x) → x < w → n ≡ w - 1 → n ≤ x
      → m ≡ quarter (t n) (t n) (l n) (l n) → set (set ys (2 * n) m) (2 * n + 1) m ≡ filled (2 * w) (between t l w) xs
  line_last n x {xs} r b e g p =
      let i : x ≡ n = omega arith in
      line_all (2 * w) _ xs (line-two t l w n n (rw i at r) (omega arith) (omega arith) p p) (omega arith)

  -- no column at all
  pub line_empty : (xs : List ℕ) → w ≡ 0 → xs ≡ filled (2 * w) (between t l w) xs
  line_empty xs e = rw e (filled_zero _ xs)

-- ---- the row of the image that starts at a

module _ (a : ℕ) (s : List ℕ) where
  pub part-from : take (length s - a) (drop a s) ≡ drop a s
  part-from = take_all (length s - a) (drop a s) (omega (arith, length-drop a s))

  pub part_at : (k : ℕ) → get_or (take (length s - a) (drop a s)) k 0 ≡ get_or s (a + k) 0
  part_at k = ap (λ (l : List ℕ). get_or l k 0) part-from ∙ get_or-drop a s k 0

-- the n entries of s from a on, in the place of the first of xs
pub row_copied : (a n : ℕ) (s xs : List ℕ) {zs : List ℕ} → a + n ≤ length s → n ≤ length xs → zs ≡ take (a + n - a) (drop a s)
    → zs ++ drop n xs ≡ filled n (λ k. get_or s (a + k) 0) xs
row_copied a n s xs l m z =
    rw (z ∙ taken) (fill-part 0 n f f xs (filled_zero f xs) (λ j _. ap f (omega arith))) ∙ ap (λ (k : ℕ). filled k f xs) (zero-add n)
  where
    f : ℕ → ℕ
    f k = get_or s (a + k) 0

    size : length (take (a + n - a) (drop a s)) ≡ n
    size = simp (length-take, length-drop) (omega arith)

    wide : length (take n xs) ≡ n
    wide = simp length-take (omega arith)

    at : (j : ℕ) → j < length (take (a + n - a) (drop a s)) → get_or (take (a + n - a) (drop a s)) j 0 ≡ get_or (filled n f (take n xs)) j 0
    at j b =
        let k : j < n = omega (arith, size, b) in
        let i : j < a + n - a = omega arith in
        rw (get_or-take, get_or-drop) (sym (getD_filled n f (take n xs) j 0 k (omega (arith, wide))))

    taken : take (a + n - a) (drop a s) ≡ filled n f (take n xs)
    taken = ext_get_or 0 _ _ (size ∙ sym (length-filled n f (take n xs) ∙ wide)) at

-- ---- a working row

-- the row of the image below working row y, or beside it, as the code finds it
near-row : (h y : ℕ) → y < 2 * h → min ((y + y % 2) / 2) (h - 1) ≡ near h y
near-row h y b = at (y % 2) refl
  where
    at : (a : ℕ) → y % 2 ≡ a → min ((y + a) / 2) (h - 1) ≡ half a (y / 2) (after h (y / 2))
    at zero e = omega arith
    at (suc zero) e = omega arith
    at (suc (suc a)) e = omega arith

-- at factor 1: the one row of the image
pub record Alone (w y pixels room : ℕ) : Type 0 where
  pub here : y * w + w ≤ pixels
  pub wide : w ≤ room

pub alone : {factor w h y pixels room : ℕ} → FittingRow factor w h y pixels room → factor ≡ 1 → Alone w y pixels room
alone {w = w} {h = h} {y = y} f e =
    let l : y < h = rw (e, one-mul h) at f.row in
    let m : y * w + w ≤ w * h = row_in w l in
    record { here = omega arith; wide = rw (e, one-mul w) at f.within }

module _ (img : List ℕ) (w h y factor : ℕ) (xs : List ℕ) where
  pub doubled : {j : ℕ} {ys : List ℕ} → factor ≡ 2 → y < factor * h → j ≡ min ((y + y % 2) / 2) (h - 1)
      → ys ≡ filled (2 * w) (between (λ k. get_or img (y / 2 * w + k) 0) (λ k. get_or img (j * w + k) 0) w) xs
      → ys ≡ filled (factor * w) (λ x. work_at factor (pixel img w) w h x y) xs
  unfolding between
  doubled e b i z =
      let n : near h y ≡ _ = sym (i ∙ near-row h y (rw e at b)) in
      z ∙ rw (e) (filled_ext (2 * w) _ _ xs (λ x u. rw (sym n) (sym (work_doubled 2 (pixel img w) w h x y refl))))

  pub copied : {ys : List ℕ} → factor ≡ 1 → ys ≡ filled w (λ k. get_or img (y * w + k) 0) xs
      → ys ≡ filled (factor * w) (λ x. work_at factor (pixel img w) w h x y) xs
  copied e z = z ∙ rw (e, one-mul w) (filled_ext w _ _ xs (λ x u. sym (work_copied 1 (pixel img w) w h x y refl)))

-- ---- where row y of the working image lies

pub record Turn (factor w h y pixels room : ℕ) : Type 0 where
  pub image : FittingImage factor w h pixels
  pub row : y < factor * h
  pub few : y < 8192
  pub here : y * (factor * w) + factor * w ≤ room

pub turn : {factor w h y pixels room : ℕ} → FittingAll factor w h pixels room → y < factor * h → Turn factor w h y pixels room
turn {factor} {w} f b = record { image = f.image; row = b; few = omega (arith, sides f.image); here = omega (arith, row_in (factor * w) b) }
