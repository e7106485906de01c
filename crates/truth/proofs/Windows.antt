-- A window's total as a sum over its rows, of sums along each, and its pixels as a product of two counts. Assumes nothing.
use mathlib.Core.Path.{◌≡◌, refl, sym, ap, ◌∙◌}
use mathlib.Core.List.{List, [], ◌∷◌, ◌++◌}
use Prim.Native.Nat.{ℕ, zero, suc, ◌+◌, ◌-◌, ◌*◌, ◌<◌, min}
use native.Mathlib.Nat.{zero-add, add-zero, add_assoc}
use native.Mathlib.Omega.{arith}
use lib.ListN.{length}
use Rattle.grid.specs.Each.{each}
use Rattle.grid.specs.Fold.{sum_to}
use Rattle.grid.proofs.Fold.{fold-none, fold_ext, sum_one, sum_split}
use Rattle.grid.specs.Rect.{Place, place, from, range, line, rect}
use Rattle.grid.proofs.Rect.{length-rect}
use Rattle.means.specs.Means.{counted}
use Rattle.means.proofs.MeanLaws.{place_in}
use Rattle.truth.specs.Truth.{window, total}

total-append : (g : ℕ → ℕ → ℕ) (l m : List Place) → total g (l ++ m) ≡ total g l + total g m
unfolding total
total-append g [] m = sym (zero-add _)
total-append g (p ∷ l) m = ap (λ (n : ℕ). g p.x p.y + n) (total-append g l m) ∙ sym (add_assoc _ _ _)

sum_first : (h : ℕ → ℕ) (n : ℕ) → sum_to h (suc n) ≡ h 0 + sum_to (λ k. h (1 + k)) n
sum_first h n =
    let e : suc n ≡ 1 + n = omega arith in
    ap (sum_to h) e ∙ sum_split h 1 n ∙ ap (λ (i : ℕ). i + sum_to (λ k. h (1 + k)) n) (sum_one h)

-- n lists one after the other
total-each : (g : ℕ → ℕ → ℕ) (f : ℕ → List Place) (a n : ℕ) → total g (each f (from a n)) ≡ sum_to (λ k. total g (f (a + k))) n
unfolding total each from
total-each g f a zero = fold-none ◌+◌ 0 _ 0 refl
total-each g f a (suc n) =
    let at : ℕ → ℕ = λ k. total g (f k) in
    let moved : (k : ℕ) → at (suc a + k) ≡ at (a + (1 + k)) = λ k. ap at (omega arith) in
    let first : at a ≡ at (a + 0) = ap at (sym (add-zero a)) in
    let rest = total-each g f (suc a) n ∙ fold_ext ◌+◌ 0 (λ k. at (suc a + k)) (λ k. at (a + (1 + k))) n (λ k _. moved k) in
    total-append g (f a) (each f (from (suc a) n)) ∙ omega (arith, first, rest, sum_first (λ k. at (a + k)) n)

total-line : (g : ℕ → ℕ → ℕ) (ax ex y : ℕ) → total g (line ax ex y) ≡ sum_to (λ i. g (ax + i) y) (ex - ax)
unfolding line range total
total-line g ax ex y = total-each g (λ x. place x y ∷ []) ax (ex - ax) ∙ fold_ext ◌+◌ 0 _ _ (ex - ax) (λ k _. add-zero (g (ax + k) y))

total-rect : (g : ℕ → ℕ → ℕ) (ax ex ay ey : ℕ)
    → total g (rect ax ex ay ey) ≡ sum_to (λ j. sum_to (λ i. g (ax + i) (ay + j)) (ex - ax)) (ey - ay)
unfolding rect range
total-rect g ax ex ay ey =
    total-each g (λ y. line ax ex y) ay (ey - ay) ∙ fold_ext ◌+◌ 0 _ _ (ey - ay) (λ j _. total-line g ax ex (ay + j))

module _ (w h r x y : ℕ) where
  pub window-total : (g : ℕ → ℕ → ℕ)
      → total g (window w h r x y) ≡ sum_to (λ j. sum_to (λ i. g (x - r + i) (y - r + j)) (counted w r x)) (counted h r y)
  unfolding window
  window-total g = total-rect g (x - r) (min (x + r + 1) w) (y - r) (min (y + r + 1) h)

  pub window_pixels : length (window w h r x y) ≡ counted w r x * counted h r y
  unfolding window
  window_pixels = length-rect (x - r) (min (x + r + 1) w) (y - r) (min (y + r + 1) h)

  -- of the map's own pixels alone
  pub window_ext : (f g : ℕ → ℕ → ℕ) → ((i j : ℕ) → i < w → j < h → f i j ≡ g i j)
      → total f (window w h r x y) ≡ total g (window w h r x y)
  window_ext f g e =
      window-total f
      ∙ fold_ext ◌+◌ 0 _ _ (counted h r y) (λ j b. fold_ext ◌+◌ 0 _ _ (counted w r x) (λ i a. e _ _ (place_in w r x i a) (place_in h r y j b)))
      ∙ sym (window-total g)
