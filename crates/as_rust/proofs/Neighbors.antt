-- The Rust's window tests, over signed offsets with the centre left out and places outside passed over, are document 01's where the window lies
-- inside. Assumes nothing.
use mathlib.Core.Path.{◌≡◌, refl, sym, ap, ◌∙◌}
use mathlib.Core.Bool.{Bool, true, false, not, cond, ◌&&◌, ◌||◌, true≢false}
use mathlib.Core.List.{List, [], ◌∷◌, ◌++◌}
use Prim.Native.Nat.{ℕ, zero, suc, ◌+◌, ◌-◌, ◌*◌, ◌^◌, ◌≤◌, ◌<◌}
use native.Mathlib.Omega.{arith}
use borrow.Author.Tests.{ltb-true, ltb-false, eq-eqb, ne_eqb, le-ltb, lt-ltb, eqb-true}
use lib.Dec.{ltb, eqb}
use lib.ListN.{length}
use lib.IntN.{ℤ, pos, negsuc, neg_ℤ, ◌+ℤ◌, ◌-ℤ◌, +ℤ_assoc, +ℤ_comm}
use lib.Ieee.{Float, nan, lt}
use Rattle.grid.proofs.Plane.{pixel_in}
use Rattle.grid.specs.Each.{any, count}
use Rattle.grid.proofs.Each.{any_none, any_append, count_none, count_yes, count_no, count_most}
use Rattle.grid.specs.Rect.{Place, place}
use Rattle.grid.proofs.Rect.{before, length_before}
use Rattle.float.proofs.Order.{lt_itself}
use Rattle.grid.specs.Ways.{value}
use Rattle.verdict.specs.Window.{at, same, beaten, positives}
use Rattle.as_rust.specs.Machine.{Machine, lit_0, is_0, i32, u32, float_at, for, how_many, for-signed, as_i32, as_usize}
use Rattle.as_rust.specs.Neighbors.{outside, is_local_max, count_positive_neighbors}
use Rattle.as_rust.proofs.Machine.{i32-is, i32-minus, i32_cast, u32-is, inside}
use Rattle.as_rust.proofs.Loops.{for_shift, rect_loop}
use Rattle.as_rust.proofs.Response.{minus}

-- ---- signed offsets: the i-th of `-r..=r` is i - r

negated : (m : Machine) (r : ℕ) → r ≤ 32 → i32 m (neg_ℤ (pos r)) ≡ neg_ℤ (pos r)
negated m zero l = i32-is m 0 (omega arith)
negated m (suc r) l = i32-minus m r (omega arith)

how_many_is : (r : ℕ) → how_many (neg_ℤ (pos r)) (pos r) ≡ 2 * r + 1
how_many_is zero = refl
how_many_is (suc r) = omega arith

shifted : (x i r : ℕ) → r ≤ x → pos x +ℤ (pos i -ℤ pos r) ≡ pos (x - r + i)
shifted x i r b = sym (+ℤ_assoc (pos x) (pos i) (neg_ℤ (pos r))) ∙ minus (x + i) r (x - r + i) (omega arith)

-- i - r is 0 just where x - r + i is x
centre : (x i r : ℕ) → r ≤ x → is_0 (pos i -ℤ pos r) ≡ eqb (x - r + i) x
centre x i zero b = ap is_0 (minus i 0 i (omega arith)) ∙ go (eqb i 0) refl
  where
    go : (t : Bool) → eqb i 0 ≡ t → t ≡ eqb (x - 0 + i) x
    go true e = sym (eq-eqb (x - 0 + i) x (omega (arith, eqb-true i 0 e)))
    go false e = sym (ne_eqb (x - 0 + i) x (λ z. let w : i ≡ 0 = omega arith in true≢false (sym (eq-eqb i 0 w) ∙ e)))
centre x i (suc r) b = go (ltb i (suc r)) refl
  where
    go : (t : Bool) → ltb i (suc r) ≡ t → is_0 (cond t (negsuc (suc r - suc i)) (pos (i - suc r))) ≡ eqb (x - suc r + i) x
    go true e = sym (ne_eqb (x - suc r + i) x (λ z. omega (arith, ltb-true i (suc r) e)))
    go false e = last (eqb (i - suc r) 0) refl
      where
        last : (t : Bool) → eqb (i - suc r) 0 ≡ t → t ≡ eqb (x - suc r + i) x
        last true f = sym (eq-eqb (x - suc r + i) x (omega (arith, eqb-true (i - suc r) 0 f, ltb-false i (suc r) e)))
        last false f = sym (ne_eqb (x - suc r + i) x (λ z. let w : i - suc r ≡ 0 = omega arith in true≢false (sym (eq-eqb (i - suc r) 0 w) ∙ f)))

-- a loop over them is a loop over the columns or rows about x
signed-for : {S : Type 0} (r x : ℕ) (f : ℤ → S → S) (g : ℕ → S → S) (s : S) → r ≤ x
    → ((i : ℕ) (t : S) → i < 2 * r + 1 → f (pos i -ℤ pos r) t ≡ g (x - r + i) t)
    → for-signed (neg_ℤ (pos r)) (pos r) f s ≡ for (x - r) (x + r + 1) g s
unfolding for-signed
signed-for r x f g s b e =
    for_shift (how_many (neg_ℤ (pos r)) (pos r)) (x - r) (x + r + 1) (λ i. f (neg_ℤ (pos r) +ℤ pos i)) g s (how_many_is r ∙ omega arith)
    (λ i t c. ap (λ (z : ℤ). f z t) (+ℤ_comm (neg_ℤ (pos r)) (pos i)) ∙ e i t (omega (arith, how_many_is r)))

-- the window of radius r about x and y lies in a map within the limits
pub record Clear (w h r x y : ℕ) : Type 0 where
  pub left : r ≤ x
  pub right : x + r < w
  pub above : r ≤ y
  pub below : y + r < h
  pub small : r ≤ 32
  pub wide : w ≤ 8192
  pub high : h ≤ 8192

-- nothing is passed over for being outside
none-outside : (w h x y : ℕ) → x < w → y < h → outside (pos x) (pos y) (pos w) (pos h) ≡ false
none-outside w h x y a b = rw (le-ltb x 0 (omega arith), le-ltb y 0 (omega arith), lt-ltb x w a, lt-ltb y h b)

not_any_one : (p : Place → Bool) (q : Place) (t : Bool) → p q ≡ t → not t ≡ not (any p (q ∷ []))
unfolding any
not_any_one p q true e = rw e
not_any_one p q false e = rw e

module _ (m : Machine) (s : List Float) (w h r x y : ℕ) (c : Clear w h r x y) (long : length s ≡ w * h) where
  abbrev f : ℕ → ℕ → Float
  f = value s w

  -- two loops over signed offsets are loops over the window's rows and columns
  sym_rect : {S : Type 0} (g : ℤ → ℤ → S → S) (k : ℕ → ℕ → S → S) (z : S)
      → ((i j : ℕ) (t : S) → i < 2 * r + 1 → j < 2 * r + 1 → g (pos j -ℤ pos r) (pos i -ℤ pos r) t ≡ k (y - r + j) (x - r + i) t)
      → for-signed (i32 m (neg_ℤ (pos r))) (pos r) (λ dy t. for-signed (i32 m (neg_ℤ (pos r))) (pos r) (λ dx t. g dy dx t) t) z
      ≡ for (y - r) (y + r + 1) (λ b t. for (x - r) (x + r + 1) (λ a t. k b a t) t) z
  sym_rect g k z e =
      rw (negated m r c.small)
      (signed-for r y (λ dy t. for-signed (neg_ℤ (pos r)) (pos r) (λ dx t. g dy dx t) t) (λ b t. for (x - r) (x + r + 1) (λ a t. k b a t) t) z
      c.above
      (λ j t b. signed-for r x (λ dx t. g (pos j -ℤ pos r) dx t) (λ a t. k (y - r + j) a t) t c.left (λ i t d. e i j t d b)))

  -- what the loop's body reads at an offset
  reads : (i j : ℕ) → i < 2 * r + 1 → j < 2 * r + 1 → float_at m s ((y - r + j) * w + (x - r + i)) ≡ f (x - r + i) (y - r + j)
  reads i j a b =
      inside s ((y - r + j) * w + (x - r + i)) _ nan
      (omega (arith, long, pixel_in {w = w} {h = h} {x = x - r + i} {y = y - r + j} (omega arith) (omega arith)))

  -- 21-31 and 56-66: a loop whose turn is k of three things, whether the offset is the centre's, whether its place is outside, and the value there
  window_loop : {S : Type 0} (k : Bool → Bool → Float → S → S) (z : S)
      → for-signed (i32 m (neg_ℤ (pos r))) (pos r) (λ dy t.
      for-signed (i32 m (neg_ℤ (pos r))) (pos r) (λ dx t.
      let xx = i32 m (as_i32 x +ℤ dx) in
      let yy = i32 m (as_i32 y +ℤ dy) in
      k (is_0 dx && is_0 dy) (outside xx yy (as_i32 w) (as_i32 h)) (float_at m s (as_usize yy * w + as_usize xx)) t) t) z
      ≡ for (y - r) (y + r + 1) (λ b t. for (x - r) (x + r + 1) (λ a t. k (eqb a x && eqb b y) false (f a b) t) t) z
  window_loop k z =
      rw (i32_cast x (omega arith), i32_cast y (omega arith), i32_cast w (omega arith), i32_cast h (omega arith))
      (sym_rect _ (λ b a t. k (eqb a x && eqb b y) false (f a b) t) z
      (λ i j t u v.
      rw (
        shifted x i r c.left,
        shifted y j r c.above,
        i32-is m (x - r + i) (omega arith),
        i32-is m (y - r + j) (omega arith),
        centre x i r c.left,
        centre y j r c.above,
        none-outside w h (x - r + i) (y - r + j) (omega arith) (omega arith),
        reads i j u v,
      )))

  -- a turn's test
  abbrev beats : ℕ → ℕ → Bool
  beats a b = lt (f x y) (f a b)

  pub max_as_rust : is_local_max m s w h x y (pos r) (f x y) ≡ not (beaten f r (place x y))
  unfolding is_local_max beaten
  max_as_rust =
      window_loop (λ here out v run. cond run (cond here true (cond out true (cond (lt (f x y) v) false true))) false) true
      ∙ rect_loop (λ l run. run ≡ not (any (λ q. lt (f x y) (at f q)) l)) (x - r) (x + r + 1) (y - r) (y + r + 1)
      (λ b a run. cond run (cond (eqb a x && eqb b y) true (cond (beats a b) false true)) false) true (omega arith) (omega arith) (rw any_none)
      (λ a b run _ _ _ _ e. rw (e, any_append) (go a b (any (λ q. lt (f x y) (at f q)) (before (x - r) (x + r + 1) (y - r) a b))))
    where
      go : (a b : ℕ) (t : Bool) → cond (not t) (cond (eqb a x && eqb b y) true (cond (beats a b) false true)) false
          ≡ not (t || any (λ q. lt (f x y) (at f q)) (place a b ∷ []))
      go a b true = refl
      go a b false = at_place (eqb a x) (eqb b y) (beats a b) refl refl refl
        where
          at_place : (p q t : Bool) → eqb a x ≡ p → eqb b y ≡ q → beats a b ≡ t → cond (p && q) true (cond t false true)
              ≡ not (any (λ q. lt (f x y) (at f q)) (place a b ∷ []))
          at_place true true t u v e =
              let d : beats a b ≡ false = (λ i. lt (f x y) (f (eqb-true a x u i) (eqb-true b y v i))) ∙ lt_itself (f x y) in
              not_any_one _ (place a b) false d
          at_place true false true u v e = not_any_one _ (place a b) true e
          at_place true false false u v e = not_any_one _ (place a b) false e
          at_place false q true u v e = not_any_one _ (place a b) true e
          at_place false q false u v e = not_any_one _ (place a b) false e

  abbrev counts : Place → Bool
  counts q = lt lit_0 (at f q) && not (same q (place x y))

  pub count_as_rust : count_positive_neighbors m s w h x y (pos r) ≡ positives f r (place x y)
  unfolding count_positive_neighbors positives
  count_as_rust =
      window_loop (λ here out v n. cond here n (cond out n (cond (lt lit_0 v) (u32 m (n + 1)) n))) 0
      ∙ rect_loop (λ l n. n ≡ count counts l) (x - r) (x + r + 1) (y - r) (y + r + 1)
      (λ b a n. cond (eqb a x && eqb b y) n (cond (lt lit_0 (f a b)) (u32 m (n + 1)) n)) 0 (omega arith) (omega arith) (count_none _)
      (λ a b n _ p _ q e. rw (u32-is m (n + 1) (few a b n p q e))
      (go (before (x - r) (x + r + 1) (y - r) a b) a b n e (eqb a x && eqb b y) (lt lit_0 (f a b)) refl refl))
    where
      -- the count is at most the number of places passed
      few : (a b n : ℕ) → a < x + r + 1 → b < y + r + 1 → n ≡ count counts (before (x - r) (x + r + 1) (y - r) a b) → n + 1 < 2 ^ 32
      few a b n p q e =
          omega (arith, count_most counts (before (x - r) (x + r + 1) (y - r) a b), length_before 8192 (x - r) (x + r + 1) (y - r) a b (omega arith))

      go : (l : List Place) (a b n : ℕ) → n ≡ count counts l → (t u : Bool) → (eqb a x && eqb b y) ≡ t → lt lit_0 (f a b) ≡ u
          → cond t n (cond u (n + 1) n) ≡ count counts (l ++ (place a b ∷ []))
      go l a b n e true true p q = count_no _ l (place a b) e (rw (p, q))
      go l a b n e true false p q = count_no _ l (place a b) e (rw (p, q))
      go l a b n e false true p q = count_yes _ l (place a b) e (rw (p, q))
      go l a b n e false false p q = count_no _ l (place a b) e (rw (p, q))
