-- Laws of `each f l`: f of every entry of l, one after the other. A filter, a row of places and a list of numbers are
-- each an `each`, so `each_append` serves
use mathlib.Core.Path.{◌≡◌, refl, sym, ap, ◌∙◌}
use mathlib.Core.Bool.{Bool, true, false, ◌&&◌, ◌||◌, or_assoc, or-true, true≢false}
use Prim.Native.Nat.{ℕ, zero, suc, ◌+◌, ◌*◌, ◌≤◌}
use native.Mathlib.Nat.{mul-zero, mul-suc}
use native.Mathlib.Omega.{arith}
use mathlib.Core.List.{List, [], ◌∷◌, ◌++◌, append_assoc, append-nil}
use lib.ListN.{length, take, length-append}
use lib.Seq.{take-append-add, take-nil}
use Rattle.grid.specs.Each.{each, once, keep, count, any}

module _ {A B : Type 0} where
  pub each_append : (f : A → List B) (l m : List A) → each f (l ++ m) ≡ each f l ++ each f m
  unfolding each
  each_append f [] m = refl
  each_append f (a ∷ l) m = ap (λ (r : List B). f a ++ r) (each_append f l m) ∙ sym (append_assoc (f a) (each f l) (each f m))

  pub each_none : (f : A → List B) → each f [] ≡ []
  unfolding each
  each_none f = refl

  pub each-one : (f : A → List B) (a : A) → each f (a ∷ []) ≡ f a
  unfolding each
  each-one f a = append-nil (f a)

  -- one entry more
  pub each_more : (f : A → List B) (l : List A) (a : A) → each f (l ++ (a ∷ [])) ≡ each f l ++ f a
  each_more f l a = each_append f l (a ∷ []) ∙ ap (λ (r : List B). each f l ++ r) (each-one f a)

  pub each_ext : (f g : A → List B) → ((a : A) → f a ≡ g a) → (l : List A) → each f l ≡ each g l
  unfolding each
  each_ext f g h [] = refl
  each_ext f g h (a ∷ l) = λ i. h a i ++ each_ext f g h l i

  -- k numbers for each entry
  pub length-each : (k : ℕ) (f : A → List B) → ((a : A) → length (f a) ≡ k) → (l : List A) → length (each f l) ≡ k * length l
  unfolding each
  length-each k f h [] = sym (mul-zero k)
  length-each k f h (a ∷ l) = omega (arith, length-append (f a) (each f l), h a, length-each k f h l, mul-suc k (length l))

  pub take-each : (k : ℕ) (f : A → List B) → ((a : A) → length (f a) ≡ k) → (m : ℕ) (l : List A) → take (k * m) (each f l) ≡ each f (take m l)
  unfolding each
  take-each k f h zero l = rw mul-zero
  take-each k f h (suc m) [] = take-nil (k * suc m)
  take-each k f h (suc m) (a ∷ l) =
      let e : k * suc m ≡ length (f a) + k * m = omega (arith, h a, mul-suc k m) in
      rw (e, take-append-add, take-each k f h m l)

pub each-each : {A B C : Type 0} (f : A → List B) (g : B → List C) (l : List A) → each g (each f l) ≡ each (λ a. each g (f a)) l
unfolding each
each-each f g [] = refl
each-each {C = C} f g (a ∷ l) = each_append g (f a) (each f l) ∙ ap (λ (r : List C). each g (f a) ++ r) (each-each f g l)

module _ {A : Type 0} where
  pub keep-none : (p : A → Bool) → keep p [] ≡ []
  unfolding keep
  keep-none p = each_none _

  pub keep_more : (p : A → Bool) (l : List A) (a : A) → keep p (l ++ (a ∷ [])) ≡ keep p l ++ once (p a) a
  unfolding keep
  keep_more p l a = each_more _ l a

  pub keep_yes : (p : A → Bool) (l : List A) (a : A) → p a ≡ true → keep p (l ++ (a ∷ [])) ≡ keep p l ++ (a ∷ [])
  keep_yes p l a e = rw (keep_more, e)

  pub keep_no : (p : A → Bool) (l : List A) (a : A) → p a ≡ false → keep p (l ++ (a ∷ [])) ≡ keep p l
  keep_no p l a e = rw (keep_more, e) (append-nil (keep p l))

  pub keep_ext : (p q : A → Bool) → ((a : A) → p a ≡ q a) → (l : List A) → keep p l ≡ keep q l
  unfolding keep
  keep_ext p q h l = each_ext _ _ (λ a. ap (λ (b : Bool). once b a) (h a)) l

  -- a filter of a filter
  pub keep-keep : (p q : A → Bool) (l : List A) → keep q (keep p l) ≡ keep (λ a. p a && q a) l
  unfolding keep each
  keep-keep p q l = each-each (λ a. once (p a) a) (λ a. once (q a) a) l ∙ each_ext _ _ (λ a. at (p a) a) l
    where
      at : (b : Bool) (a : A) → each (λ c. once (q c) c) (once b a) ≡ once (b && q a) a
      at true a = append-nil (once (q a) a)
      at false a = refl

  pub count_none : (p : A → Bool) → 0 ≡ count p []
  unfolding count
  count_none p = rw keep-none

  pub count_yes : (p : A → Bool) (l : List A) (a : A) {n : ℕ} → n ≡ count p l → p a ≡ true → n + 1 ≡ count p (l ++ (a ∷ []))
  unfolding count
  count_yes p l a h e = rw (keep_yes p l a e, length-append, h)

  pub count_no : (p : A → Bool) (l : List A) (a : A) {n : ℕ} → n ≡ count p l → p a ≡ false → n ≡ count p (l ++ (a ∷ []))
  unfolding count
  count_no p l a h e = rw (keep_no p l a e) h

  pub count-append : (p : A → Bool) (l m : List A) → count p (l ++ m) ≡ count p l + count p m
  unfolding count keep
  count-append p l m = rw each_append (length-append (keep p l) (keep p m))

  pub count_most : (p : A → Bool) (l : List A) → count p l ≤ length l
  unfolding count keep each
  count_most p [] = omega arith
  count_most p (a ∷ l) = omega (arith, length-append (once (p a) a) (keep p l), one (p a), count_most p l)
    where
      one : (b : Bool) → length (once b a) ≤ 1
      one true = omega arith
      one false = omega arith

  pub count_never : (l : List A) → count (λ a. false) l ≡ 0
  unfolding count keep each
  count_never [] = refl
  count_never (a ∷ l) = count_never l

  -- where p holds q does: q counts no fewer
  pub count-within : (p q : A → Bool) → ((a : A) → p a ≡ true → q a ≡ true) → (l : List A) → count p l ≤ count q l
  unfolding count keep each
  count-within p q h [] = omega arith
  count-within p q h (a ∷ l) =
      omega (
        arith,
        length-append (once (p a) a) (keep p l),
        length-append (once (q a) a) (keep q l),
        one (p a) (q a) (h a),
        count-within p q h l,
      )
    where
      one : (b c : Bool) → (b ≡ true → c ≡ true) → length (once b a) ≤ length (once c a)
      one false c f = omega arith
      one true true f = omega arith
      one true false f = absurd (true≢false (sym (f refl)))

  pub any_none : (p : A → Bool) → any p [] ≡ false
  unfolding any
  any_none p = refl

  pub any_append : (p : A → Bool) (l m : List A) → any p (l ++ m) ≡ any p l || any p m
  unfolding any
  any_append p [] m = refl
  any_append p (a ∷ l) m = rw (any_append p l m) (sym (or_assoc (p a) (any p l) (any p m)))

  pub any_no : (p : A → Bool) (l : List A) (a : A) → any p l ≡ false → p a ≡ false → any p (l ++ (a ∷ [])) ≡ false
  unfolding any
  any_no p l a h e = rw (any_append, h, e)

  -- it is found on the way
  pub any_yes : (p : A → Bool) (l : List A) (a : A) (m : List A) → p a ≡ true → any p (l ++ (a ∷ m)) ≡ true
  unfolding any
  any_yes p l a m e = rw (any_append, e) (or-true (any p l))

-- entries that are made of others, one of each
module _ {A B : Type 0} (g : A → B) where
  pub count_made : (p : B → Bool) (l : List A) → count p (each (λ a. g a ∷ []) l) ≡ count (λ a. p (g a)) l
  unfolding count keep each
  count_made p [] = refl
  count_made p (a ∷ l) =
      omega (
        arith,
        length-append (once (p (g a)) (g a)) (keep p (each (λ b. g b ∷ []) l)),
        length-append (once (p (g a)) a) (keep (λ b. p (g b)) l),
        one (p (g a)),
        count_made p l,
      )
    where
      one : (b : Bool) → length (once b (g a)) ≡ length (once b a)
      one true = refl
      one false = refl

  pub any_made : (p : B → Bool) (l : List A) → any p (each (λ a. g a ∷ []) l) ≡ any (λ a. p (g a)) l
  unfolding any each
  any_made p [] = refl
  any_made p (a ∷ l) = ap (λ (b : Bool). p (g a) || b) (any_made p l)

pub any-each : {A B : Type 0} (p : B → Bool) (f : A → List B) (l : List A) → any p (each f l) ≡ any (λ a. any p (f a)) l
unfolding any each
any-each p f [] = refl
any-each p f (a ∷ l) = any_append p (f a) (each f l) ∙ ap (λ (b : Bool). any p (f a) || b) (any-each p f l)
