-- Laws of `span a n g xs`: xs with the n entries from a on replaced by g a, g (a + 1), .., as far as xs goes. What a run within a buffer leaves.
use mathlib.Core.Path.{◌≡◌, refl, sym, ap, ◌∙◌}
use Prim.Native.Nat.{ℕ, zero, suc, ◌+◌, ◌-◌, ◌*◌, ◌≤◌, ◌<◌, suc-le-suc}
use native.Mathlib.Nat.{zero-add, suc-add, le_of_suc-le-suc, not-suc-le-zero}
use native.Mathlib.Omega.{arith}
use mathlib.Core.List.{List, [], ◌∷◌}
use lib.ListN.{length, get_or, set, length-set}
use Rattle.grid.specs.Fill.{filled}
use Rattle.grid.proofs.Fill.{filled_zero, filled_ext, fill_step, length-filled, filled_nil, getD_filled, get_d_beyond}
use Rattle.grid.specs.Plane.{plane}
use Rattle.grid.proofs.Plane.{plane-at}
use Rattle.grid.proofs.Loops.{Steps, steps_all, Row}
use Rattle.grid.specs.Span.{span}

module _ {ℓ} {A : Type ℓ} where
  span_none : (a : ℕ) (g : ℕ → A) (xs : List A) → xs ≡ span a 0 g xs
  unfolding span
  span_none zero g xs = filled_zero g xs
  span_none (suc a) g [] = refl
  span_none (suc a) g (x ∷ xs) = ap (λ (r : List A). x ∷ r) (span_none a (λ k. g (suc k)) xs)

  pub length-span : (a n : ℕ) (g : ℕ → A) (xs : List A) → length (span a n g xs) ≡ length xs
  unfolding span
  length-span zero n g xs = length-filled n g xs
  length-span (suc a) n g [] = refl
  length-span (suc a) n g (x ∷ xs) = ap suc (length-span a n (λ k. g (suc k)) xs)

  set-span : (a n : ℕ) (g : ℕ → A) (xs : List A) → set (span a n g xs) (a + n) (g (a + n)) ≡ span a (n + 1) g xs
  unfolding span
  set-span zero n g xs = rw zero-add (fill_step g xs n refl refl)
  set-span (suc a) n g [] = refl
  set-span (suc a) n g (x ∷ xs) = simp suc-add (ap (λ (r : List A). x ∷ r) (set-span a n (λ k. g (suc k)) xs))

  -- an entry before stays
  pub getD_before : (a n : ℕ) (g : ℕ → A) (xs : List A) (k : ℕ) (d : A) → k < a → get_or (span a n g xs) k d ≡ get_or xs k d
  unfolding span
  getD_before zero n g xs k d b = absurd (not-suc-le-zero b)
  getD_before (suc a) n g [] k d b = refl
  getD_before (suc a) n g (x ∷ xs) zero d b = refl
  getD_before (suc a) n g (x ∷ xs) (suc k) d b = getD_before a n (λ j. g (suc j)) xs k d (le_of_suc-le-suc b)

  -- one of the run, and one behind it
  pub getD_inside : (a n : ℕ) (g : ℕ → A) (xs : List A) (k : ℕ) (d : A) → a ≤ k → k < a + n → k < length xs → get_or (span a n g xs) k d ≡ g k
  unfolding span
  getD_inside zero n g xs k d u v b = getD_filled n g xs k d (omega arith) b
  getD_inside (suc a) n g [] k d u v b = absurd (not-suc-le-zero b)
  getD_inside (suc a) n g (x ∷ xs) zero d u v b = absurd (not-suc-le-zero u)
  getD_inside (suc a) n g (x ∷ xs) (suc k) d u v b = getD_inside a n (λ j. g (suc j)) xs k d (le_of_suc-le-suc u) (omega arith) (le_of_suc-le-suc b)

  pub getD_behind : (a n : ℕ) (g : ℕ → A) (xs : List A) (k : ℕ) (d : A) → a + n ≤ k → get_or (span a n g xs) k d ≡ get_or xs k d
  unfolding span
  getD_behind zero n g xs k d b = get_d_beyond n g xs k d (omega arith)
  getD_behind (suc a) n g [] k d b = refl
  getD_behind (suc a) n g (x ∷ xs) zero d b = absurd (omega arith)
  getD_behind (suc a) n g (x ∷ xs) (suc k) d b = getD_behind a n (λ j. g (suc j)) xs k d (omega arith)

  -- after the first a entries the next n
  pub span_filled : (a n : ℕ) (f g : ℕ → A) (xs : List A) → ((k : ℕ) → a ≤ k → k < a + n → g k ≡ f k)
      → span a n g (filled a f xs) ≡ filled (a + n) f xs
  unfolding span filled
  span_filled zero n f g xs e = rw zero-add (filled_ext n g f xs (λ k b. e k (omega arith) (omega arith)))
  span_filled (suc a) n f g [] e = sym (filled_nil (suc a + n) f)
  span_filled (suc a) n f g (x ∷ xs) e =
      simp suc-add (ap (λ (r : List A). f zero ∷ r)
      (span_filled a n (λ k. f (suc k)) (λ k. g (suc k)) xs (λ k l b. e (suc k) (suc-le-suc l) (omega arith))))

  -- ---- the entries from a and below i are done
  abbrev pub Spanning : ℕ → ℕ → (ℕ → A) → List A → List A → ℕ → Type ℓ
  Spanning a e g = Steps a e (λ i. span a (i - a) g)

module _ {ℓ} {A : Type ℓ} (a e : ℕ) (g : ℕ → A) (xs : List A) where
  pub spanning_none : a ≤ e → Spanning a e g xs xs a
  spanning_none b =
      let z : a - a ≡ 0 = omega arith in
      record { least = omega arith; most = b; fill = rw z (span_none a g xs); long = refl }

  pub spanning_more : {ys : List A} {i : ℕ} {v : A} → Spanning a e g xs ys i → i < e → v ≡ g i → Spanning a e g xs (set ys i v) (i + 1)
  spanning_more {ys} {i} {v} r b u =
      let p : i ≡ a + (i - a) = omega arith in
      let q : i + 1 - a ≡ i - a + 1 = omega arith in
      record {
        least = omega arith;
        most = omega arith;
        fill = (λ k. set (r.fill k) (p k) ((u ∙ ap g p) k)) ∙ set-span a (i - a) g xs ∙ ap (λ (n : ℕ). span a n g xs) (sym q);
        long = length-set ys i v ∙ r.long;
      }

  pub spanning_all : {ys : List A} {i : ℕ} → Spanning a e g xs ys i → e ≤ i → ys ≡ span a (e - a) g xs
  spanning_all r b = steps_all r b

  -- an entry before, read on the way
  pub spanning_before : {ys : List A} {i : ℕ} → Spanning a e g xs ys i → (k : ℕ) (d : A) → k < a → get_or ys k d ≡ get_or xs k d
  spanning_before {ys} {i} r k d b = rw r.fill (getD_before a (i - a) g xs k d b)

-- a run within row y, from column lo to before column hi
pub row-span {ℓ} : {A : Type ℓ} (w h : ℕ) (f : ℕ → ℕ → A) (g : ℕ → A) (xs : List A) {ys zs : List A} {y lo hi a e : ℕ}
    → Row w h f xs ys y lo → lo ≤ hi → hi ≤ w
    → a ≡ y * w + lo → e ≡ y * w + hi → zs ≡ span a (e - a) g ys → ((x : ℕ) → lo ≤ x → x < hi → g (y * w + x) ≡ f x y) → Row w h f xs zs y hi
row-span {A = A} w h f g xs {ys} {zs} {y} {lo} {hi} {a} {e} r l m p q z v = record {
  room = r.room;
  steps = record {
    least = omega arith;
    most = m;
    fill = z ∙ (λ i. span (p i) (size i) g (r.steps.fill i)) ∙ span_filled (y * w + lo) (hi - lo) (plane w f) g xs at
        ∙ ap (λ (n : ℕ). filled n (plane w f) xs) up;
    long = ap length z ∙ length-span a (e - a) g ys ∙ r.steps.long;
  };
}
  where
    size : e - a ≡ hi - lo
    size = omega arith

    up : y * w + lo + (hi - lo) ≡ y * w + hi
    up = omega arith

    at : (k : ℕ) → y * w + lo ≤ k → k < y * w + lo + (hi - lo) → g k ≡ plane w f k
    at k b c =
        let x = k - y * w in
        let n : k ≡ y * w + x = omega arith in
        let u : x < w = omega arith in
        ap g n ∙ v x (omega arith) (omega arith) ∙ sym (plane-at u f y) ∙ ap (plane w f) (sym n)
