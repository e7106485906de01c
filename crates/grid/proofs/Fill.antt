-- Laws of `filled n f xs`: xs with its first n entries replaced by f 0 .. f (n - 1), as far as xs goes. What every pass promises of its buffer.
use mathlib.Core.Path.{◌≡◌, refl, sym, ap, ◌∙◌}
use Prim.Native.Nat.{ℕ, zero, suc, ◌+◌, ◌≤◌, ◌<◌, suc-le-suc}
use native.Mathlib.Nat.{le_of_suc-le-suc, not-suc-le-zero, zero-lt-suc}
use native.Mathlib.Numerals.{add-one}
use native.Mathlib.Omega.{arith}
use native.Mathlib.Decide.{dec_lt}
use mathlib.Core.List.{List, [], ◌∷◌}
use lib.ListN.{length, get_or, set, take, drop}
use lib.Seq.{ext_get_or}
use Rattle.grid.specs.Fill.{filled}

module _ {ℓ} {A : Type ℓ} where
  pub filled_zero : (f : ℕ → A) (xs : List A) → xs ≡ filled zero f xs
  unfolding filled
  filled_zero f xs = refl

  pub filled_nil : (n : ℕ) (f : ℕ → A) → filled n f [] ≡ []
  unfolding filled
  filled_nil zero f = refl
  filled_nil (suc n) f = refl

  pub length-filled : (n : ℕ) (f : ℕ → A) (xs : List A) → length (filled n f xs) ≡ length xs
  unfolding filled
  length-filled zero f xs = refl
  length-filled (suc n) f [] = refl
  length-filled (suc n) f (x ∷ xs) = ap suc (length-filled n (λ k. f (suc k)) xs)

  -- the same of a list that is known to be one
  pub length-fill : (n : ℕ) (f : ℕ → A) (xs : List A) {ys : List A} → ys ≡ filled n f xs → length ys ≡ length xs
  length-fill n f xs h = ap length h ∙ length-filled n f xs

  -- ---- a turn of a loop

  -- no bound on i: past the end both sides are the list as it was
  set-filled : (i : ℕ) (f : ℕ → A) (xs : List A) → set (filled i f xs) i (f i) ≡ filled (suc i) f xs
  unfolding filled
  set-filled zero f [] = refl
  set-filled zero f (x ∷ xs) = refl
  set-filled (suc i) f [] = refl
  set-filled (suc i) f (x ∷ xs) = ap (λ (r : List A). f zero ∷ r) (set-filled i (λ k. f (suc k)) xs)

  -- what is stored is what the map has there
  pub fill_step : (f : ℕ → A) (xs : List A) (i : ℕ) {ys : List A} {v : A} → ys ≡ filled i f xs → v ≡ f i → set ys i v ≡ filled (i + 1) f xs
  fill_step f xs i h e = rw (h, e, add-one) (set-filled i f xs)

  -- ---- reading back

  pub getD_filled : (n : ℕ) (f : ℕ → A) (xs : List A) (k : ℕ) (d : A) → k < n → k < length xs → get_or (filled n f xs) k d ≡ f k
  unfolding filled
  getD_filled zero f xs k d h l = absurd (not-suc-le-zero h)
  getD_filled (suc n) f [] k d h l = absurd (not-suc-le-zero l)
  getD_filled (suc n) f (x ∷ xs) zero d h l = refl
  getD_filled (suc n) f (x ∷ xs) (suc k) d h l = getD_filled n (λ j. f (suc j)) xs k d (le_of_suc-le-suc h) (le_of_suc-le-suc l)

  -- an entry beyond stays
  pub get_d_beyond : (n : ℕ) (f : ℕ → A) (xs : List A) (k : ℕ) (d : A) → n ≤ k → get_or (filled n f xs) k d ≡ get_or xs k d
  unfolding filled
  get_d_beyond zero f xs k d h = refl
  get_d_beyond (suc n) f [] k d h = refl
  get_d_beyond (suc n) f (x ∷ xs) zero d h = absurd (not-suc-le-zero h)
  get_d_beyond (suc n) f (x ∷ xs) (suc k) d h = get_d_beyond n (λ j. f (suc j)) xs k d (le_of_suc-le-suc h)

  -- the entries beyond stay, all of them
  pub drop-filled : (n : ℕ) (f : ℕ → A) (xs : List A) → drop n (filled n f xs) ≡ drop n xs
  unfolding filled
  drop-filled zero f xs = refl
  drop-filled (suc n) f [] = refl
  drop-filled (suc n) f (x ∷ xs) = drop-filled n (λ k. f (suc k)) xs

  -- old contents change nothing that is written: two buffers with room for n entries have the same n entries afterwards
  pub written_same : (n : ℕ) (f : ℕ → A) (xs ys : List A) → n ≤ length xs → n ≤ length ys → take n (filled n f xs) ≡ take n (filled n f ys)
  unfolding filled
  written_same zero f xs ys h l = refl
  written_same (suc n) f [] ys h l = absurd (not-suc-le-zero h)
  written_same (suc n) f (x ∷ xs) [] h l = absurd (not-suc-le-zero l)
  written_same (suc n) f (x ∷ xs) (y ∷ ys) h l =
      ap (λ (r : List A). f zero ∷ r) (written_same n (λ k. f (suc k)) xs ys (le_of_suc-le-suc h) (le_of_suc-le-suc l))

  -- ---- equal buffers

  -- only f below n counts
  pub filled_ext : (n : ℕ) (f g : ℕ → A) (xs : List A) → ((k : ℕ) → k < n → f k ≡ g k) → filled n f xs ≡ filled n g xs
  unfolding filled
  filled_ext zero f g xs h = refl
  filled_ext (suc n) f g [] h = refl
  filled_ext (suc n) f g (x ∷ xs) h =
      λ i. h zero (zero-lt-suc n) i ∷ filled_ext n (λ k. f (suc k)) (λ k. g (suc k)) xs (λ k b. h (suc k) (suc-le-suc b)) i

  -- a pass over what an earlier pass filled
  pub filled-filled : (n m : ℕ) (f g : ℕ → A) (xs : List A) → n ≤ m → filled m g (filled n f xs) ≡ filled m g xs
  unfolding filled
  filled-filled zero m f g xs h = refl
  filled-filled (suc n) zero f g xs h = absurd (not-suc-le-zero h)
  filled-filled (suc n) (suc m) f g [] h = refl
  filled-filled (suc n) (suc m) f g (x ∷ xs) h =
      ap (λ (r : List A). g zero ∷ r) (filled-filled n m (λ k. f (suc k)) (λ k. g (suc k)) xs (le_of_suc-le-suc h))

  -- by the entries, for a pass that does not store them in order
  pub filled_intro : (d : A) (n : ℕ) (f : ℕ → A) (xs ys : List A) → length ys ≡ length xs
      → ((k : ℕ) → k < n → k < length ys → get_or ys k d ≡ f k) → ((k : ℕ) → n ≤ k → get_or ys k d ≡ get_or xs k d) → ys ≡ filled n f xs
  filled_intro d n f xs ys l h p =
      ext_get_or d ys (filled n f xs) (l ∙ sym (length-filled n f xs)) (λ k b. at k b (dec_lt k n))
    where
      at : (k : ℕ) → k < length ys → Dec (k < n) → get_or ys k d ≡ get_or (filled n f xs) k d
      at k b (yes m) = h k m b ∙ sym (getD_filled n f xs k d m (omega arith))
      at k b (no m) = p k (omega arith) ∙ sym (get_d_beyond n f xs k d (omega arith))
