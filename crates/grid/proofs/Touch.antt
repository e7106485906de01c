-- Laws of `touched d a e g xs`: xs with each entry from a and below e replaced by what g makes of its number and of itself, the others as they were.
use mathlib.Core.Path.{◌≡◌, refl, sym, ap, ◌∙◌}
use mathlib.Core.Bool.{and-false}
use Prim.Native.Nat.{ℕ, ◌+◌, ◌≤◌, ◌<◌}
use native.Mathlib.Decide.{dec_lt}
use native.Mathlib.Omega.{arith}
use mathlib.Core.List.{List}
use lib.ListN.{length, get_or, set, length-set}
use lib.Seq.{ext_get_or}
use lib.Dec.{leb}
use borrow.Author.Tests.{lt-ltb, le-ltb, le-leb, lt-leb}
use Rattle.grid.specs.Fill.{filled}
use Rattle.grid.proofs.Fill.{length-filled, length-fill, getD_filled, get_d_beyond, filled_ext, filled-filled, fill_step}
use Rattle.grid.proofs.Loops.{Steps, fill_again}
use Rattle.grid.specs.Touch.{changed, touched}

module _ {ℓ} {A : Type ℓ} where
  -- xs with its entries below i changed, where they are to be
  unfoldable pub touching : A → ℕ → ℕ → (ℕ → A → A) → ℕ → List A → List A
  touching d a e g i xs = filled i (changed d a e g xs) xs

  -- the invariant of `for i in a..e { out[i] = g(i, out[i]); }`
  abbrev pub Span : A → ℕ → ℕ → (ℕ → A → A) → List A → List A → ℕ → Type ℓ
  Span d a e g = Steps a e (touching d a e g)

  -- entries that are filled with themselves
  pub filled-same : (d : A) (n : ℕ) (f : ℕ → A) (xs : List A) → ((j : ℕ) → j < n → f j ≡ get_or xs j d) → xs ≡ filled n f xs
  filled-same d n f xs h = ext_get_or d xs (filled n f xs) (sym (length-filled n f xs)) (λ j b. at j b (dec_lt j n))
    where
      at : (j : ℕ) → j < length xs → Dec (j < n) → get_or xs j d ≡ get_or (filled n f xs) j d
      at j b (yes m) = sym (getD_filled n f xs j d m b ∙ h j m)
      at j b (no m) = sym (get_d_beyond n f xs j d (omega arith))

module _ {ℓ} {A : Type ℓ} (d : A) (a e : ℕ) (g : ℕ → A → A) (xs : List A) where
  inside : (j : ℕ) → a ≤ j → j < e → changed d a e g xs j ≡ g j (get_or xs j d)
  inside j b m = rw (le-leb a j b, lt-ltb j e m)

  under : (j : ℕ) → j < a → changed d a e g xs j ≡ get_or xs j d
  under j b = rw (lt-leb a j b)

  past : (j : ℕ) → e ≤ j → changed d a e g xs j ≡ get_or xs j d
  past j b = rw (le-ltb j e b, and-false (leb a j))

  pub span_none : a ≤ e → Span d a e g xs xs a
  unfolding touching
  span_none b = record { least = omega arith; most = b; fill = filled-same d a _ xs under; long = refl }

  -- the entry as the loop reads it
  pub span_more : {ys : List A} {i : ℕ} {v : A} → Span d a e g xs ys i → i < e → v ≡ g i (get_or ys i d) → Span d a e g xs (set ys i v) (i + 1)
  unfolding touching
  span_more {ys} {i} {v} r b q = record {
    least = omega arith;
    most = omega arith;
    fill = fill_step _ xs i r.fill
        (q ∙ ap (g i) (ap (λ (l : List A). get_or l i d) r.fill ∙ get_d_beyond i _ xs i d (omega arith)) ∙ sym (inside i r.least b));
    long = length-set ys i v ∙ r.long;
  }

  pub span_all : {ys : List A} {i : ℕ} → Span d a e g xs ys i → e ≤ i → e ≤ length xs → ys ≡ touched d a e g xs
  unfolding touched touching
  span_all {ys} {i} r m l =
      let q : i ≡ e = omega arith in
      rw q at r.fill ∙ filled-same d (length xs) (changed d a e g xs) (filled e (changed d a e g xs) xs) at ∙ filled-filled e (length xs) _ _ xs l
    where
      at : (j : ℕ) → j < length xs → changed d a e g xs j ≡ get_or (filled e (changed d a e g xs) xs) j d
      at j b = go (dec_lt j e)
        where
          go : Dec (j < e) → changed d a e g xs j ≡ get_or (filled e (changed d a e g xs) xs) j d
          go (yes m) = sym (getD_filled e _ xs j d m b)
          go (no m) = past j (omega arith) ∙ sym (get_d_beyond e _ xs j d (omega arith))

  pub length-touched : length (touched d a e g xs) ≡ length xs
  unfolding touched
  length-touched = length-filled _ _ xs

  -- over what an earlier pass filled with f: h is what the two come to
  pub touched-on : (n : ℕ) (f h : ℕ → A) (old : List A) {ys : List A} → xs ≡ filled n f old → ys ≡ touched d a e g xs → length old ≡ n
      → ((j : ℕ) → j < n → a ≤ j → j < e → g j (f j) ≡ h j) → ((j : ℕ) → j < n → j < a → f j ≡ h j)
      → ((j : ℕ) → j < n → e ≤ j → f j ≡ h j) → ys ≡ filled n h old
  unfolding touched
  touched-on n f h old {ys} p q l u v w =
      q
      ∙ ap (λ (m : ℕ). filled m (changed d a e g xs) xs) (ap length p ∙ length-filled n f old ∙ l)
      ∙ filled_ext n _ h xs (λ j b. at j b (dec_lt j a) (dec_lt j e))
      ∙ ap (filled n h) p
      ∙ filled-filled n n f h old (omega arith)
    where
      was : (j : ℕ) → j < n → get_or xs j d ≡ f j
      was j b = ap (λ (k : List A). get_or k j d) p ∙ getD_filled n f old j d b (omega arith)

      at : (j : ℕ) → j < n → Dec (j < a) → Dec (j < e) → changed d a e g xs j ≡ h j
      at j b (yes m) k = under j m ∙ was j b ∙ v j b m
      at j b (no m) (yes k) = inside j (omega arith) k ∙ ap (g j) (was j b) ∙ u j b (omega arith) k
      at j b (no m) (no k) = past j (omega arith) ∙ was j b ∙ w j b (omega arith)

-- one pass over two parts, the second after the first: k does there what g does
module _ {ℓ} {A : Type ℓ} (d : A) (a e o : ℕ) (g k : ℕ → A → A) (xs : List A) (m : a ≤ e) (l : e ≤ o)
    (u : (j : ℕ) (v : A) → e ≤ j → j < o → k j v ≡ g j v) where
  pub touched_join : {ys zs : List A} → ys ≡ touched d a e g xs → zs ≡ touched d e o k ys → zs ≡ touched d a o g xs
  unfolding touched
  touched_join {ys} {zs} p q =
      touched-on d e o k ys (length xs) _ _ xs p q refl next (λ j _ b. first j b (dec_lt j a))
      (λ j _ b. past d a e g xs j (omega arith) ∙ sym (past d a o g xs j b))
    where
      next : (j : ℕ) → j < length xs → e ≤ j → j < o → k j (changed d a e g xs j) ≡ changed d a o g xs j
      next j _ b c = rw (past d a e g xs j b, inside d a o g xs j (omega arith) c) (u j _ b c)

      first : (j : ℕ) → j < e → Dec (j < a) → changed d a e g xs j ≡ changed d a o g xs j
      first j b (yes c) = under d a e g xs j c ∙ sym (under d a o g xs j c)
      first j b (no c) = inside d a e g xs j (omega arith) b ∙ sym (inside d a o g xs j (omega arith) (omega arith))

-- ---- sums that grow: S k is what each entry is after k turns, every one of which touches some

module _ {ℓ} {A : Type ℓ} where
  pub record Stage (n : ℕ) (S : ℕ → ℕ → A) (old out : List A) (k : ℕ) : Type ℓ where
    pub size : length old ≡ n
    pub fill : out ≡ filled n (S k) old
    pub long : length out ≡ length old

-- every entry is set, whatever was there
pub set_all {ℓ} : {A : Type ℓ} (d : A) (f : ℕ → A) (xs : List A) {ys : List A}
    → ys ≡ touched d 0 (length xs) (λ j _. f j) xs → ys ≡ filled (length xs) f xs
unfolding touched
set_all d f xs p = p ∙ filled_ext (length xs) _ f xs (λ j b. inside d 0 (length xs) (λ j _. f j) xs j (omega arith) b)

module _ {ℓ} {A : Type ℓ} (d : A) (n : ℕ) (S : ℕ → ℕ → A) where
  pub stage_none : (f : ℕ → A) (k : ℕ) (xs : List A) {ys : List A} → length xs ≡ n → ys ≡ touched d 0 (length xs) (λ j _. f j) xs
      → ((j : ℕ) → f j ≡ S k j) → Stage n S ys ys k
  stage_none f k xs {ys} l p u = record {
    size = length-fill _ _ xs (set_all d f xs p) ∙ l;
    fill = fill_again n (S k) xs (rw (← l) (set_all d f xs p ∙ filled_ext (length xs) f (S k) xs (λ j _. u j)));
    long = refl;
  }

  -- some turns more, in one pass
  pub stage_more : (a e : ℕ) (g : ℕ → A → A) (k l : ℕ) {xs ys zs : List A} → Stage n S xs ys k → zs ≡ touched d a e g ys
      → ((j : ℕ) → j < n → a ≤ j → j < e → g j (S k j) ≡ S l j) → ((j : ℕ) → j < n → j < a → S k j ≡ S l j)
      → ((j : ℕ) → j < n → e ≤ j → S k j ≡ S l j)
      → Stage n S xs zs l
  stage_more a e g k l {xs} {ys} {zs} r q u v w =
      let f : zs ≡ filled n (S l) xs = touched-on d a e g ys n (S k) (S l) xs r.fill q r.size u v w in
      record { size = r.size; fill = f; long = length-fill _ _ xs f }

  -- a second loop that goes on where the first stopped: `stage_on` is its start, `stage_join` puts both together
  pub stage_on : {xs ys : List A} {k : ℕ} → Stage n S xs ys k → Stage n S ys ys k
  stage_on {xs} {ys} {k} r = record { size = r.long ∙ r.size; fill = fill_again n (S k) xs r.fill; long = refl }

  pub stage_join : {xs ys zs : List A} {k l : ℕ} → Stage n S xs ys k → Stage n S ys zs l → Stage n S xs zs l
  stage_join {xs} {ys} {zs} {k} {l} r q =
      record {
        size = r.size;
        fill = q.fill ∙ ap (filled n (S l)) r.fill ∙ filled-filled n n (S k) (S l) xs (omega arith);
        long = q.long ∙ r.long;
      }

  -- from the buffer as it was before its entries were set
  pub stage_all : (f : ℕ → A) (k : ℕ) (xs : List A) {ys zs : List A} → length xs ≡ n
      → ys ≡ touched d 0 (length xs) (λ j _. f j) xs → Stage n S ys zs k → zs ≡ filled n (S k) xs
  stage_all f k xs {ys} {zs} l p r =
      r.fill ∙ ap (filled n (S k)) (rw l at (set_all d f xs p)) ∙ filled-filled n n f (S k) xs (omega arith)
