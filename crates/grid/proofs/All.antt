-- `All P l`: P holds of every entry of l. What a filter, a search or a fold says of a list depends on its entries alone. Assumes nothing.
use mathlib.Core.Path.{◌≡◌, refl, ap, ◌∙◌}
use mathlib.Core.Bool.{Bool, true, false, ◌||◌}
use mathlib.Core.List.{List, [], ◌∷◌, ◌++◌, foldl}
use Prim.Native.Nat.{ℕ, zero, suc, ◌+◌, ◌-◌, ◌≤◌, ◌<◌}
use native.Mathlib.Omega.{arith}
use lib.ListN.{take}
use Rattle.grid.specs.Each.{each, keep, once, any}
use Rattle.grid.specs.Rect.{Place, place, from, range, line, rect}

abbrev pub All : {A : Type 0} → (A → Type 0) → List A → Type 0
All P [] = Unit {0}
All P (a ∷ l) = P a × All P l

pub all_append : {A : Type 0} (P : A → Type 0) (l m : List A) → All P l → All P m → All P (l ++ m)
all_append P [] m p q = q
all_append P (a ∷ l) m p q = (p.0, all_append P l m p.1 q)

pub all_map : {A : Type 0} (P Q : A → Type 0) → ((a : A) → P a → Q a) → (l : List A) → All P l → All Q l
all_map P Q f [] p = tt
all_map P Q f (a ∷ l) p = (f a p.0, all_map P Q f l p.1)

all_each : {A B : Type 0} (P : B → Type 0) (Q : A → Type 0) (f : A → List B) → ((a : A) → Q a → All P (f a)) → (l : List A)
    → All Q l → All P (each f l)
unfolding each
all_each P Q f h [] q = tt
all_each P Q f h (a ∷ l) q = all_append P (f a) (each f l) (h a q.0) (all_each P Q f h l q.1)

-- a filter keeps what holds
pub all_keep : {A : Type 0} (P : A → Type 0) (t : A → Bool) (l : List A) → All P l → All P (keep t l)
unfolding keep
all_keep {A} P t l p = all_each P P (λ a. once (t a) a) (λ a q. at (t a) a q) l p
  where
    at : (b : Bool) (a : A) → P a → All P (once b a)
    at true a q = (q, tt)
    at false a q = tt

-- and so does a list's opening
pub all_take : {A : Type 0} (P : A → Type 0) (n : ℕ) (l : List A) → All P l → All P (take n l)
all_take P zero l p = tt
all_take P (suc n) [] p = tt
all_take P (suc n) (a ∷ l) p = (p.0, all_take P n l p.1)

-- the places of a rectangle are in it
abbrev pub Between : ℕ → ℕ → ℕ → Type 0
Between a e i = (a ≤ i) × (i < e)

all_from : (P : ℕ → Type 0) (a n : ℕ) → ((i : ℕ) → a ≤ i → i < a + n → P i) → All P (from a n)
unfolding from
all_from P a zero h = tt
all_from P a (suc n) h = (h a (omega arith) (omega arith), all_from P (suc a) n (λ i b c. h i (omega arith) (omega arith)))

all_range : (a e : ℕ) → All (Between a e) (range a e)
unfolding range
all_range a e = all_from (Between a e) a (e - a) (λ i b c. (b, omega arith))

abbrev pub InRect : ℕ → ℕ → ℕ → ℕ → Place → Type 0
InRect ax ex ay ey p = Between ax ex p.x × Between ay ey p.y

pub all_rect : (ax ex ay ey : ℕ) → All (InRect ax ex ay ey) (rect ax ex ay ey)
unfolding rect line
all_rect ax ex ay ey =
    all_each _ (Between ay ey) _
    (λ y b. all_each _ (Between ax ex) (λ x. place x y ∷ []) (λ x a. ((a, b), tt)) (range ax ex) (all_range ax ex))
    (range ay ey) (all_range ay ey)

-- ---- what agrees on every entry gives the same

pub each_same : {A B : Type 0} (f g : A → List B) (l : List A) → All (λ a. f a ≡ g a) l → each f l ≡ each g l
unfolding each
each_same f g [] h = refl
each_same f g (a ∷ l) h = λ i. h.0 i ++ each_same f g l h.1 i

pub keep_same : {A : Type 0} (p q : A → Bool) (l : List A) → All (λ a. p a ≡ q a) l → keep p l ≡ keep q l
unfolding keep
keep_same p q l h = each_same _ _ l (all_map _ _ (λ a e. ap (λ (b : Bool). once b a) e) l h)

pub any_same : {A : Type 0} (p q : A → Bool) (l : List A) → All (λ a. p a ≡ q a) l → any p l ≡ any q l
unfolding any
any_same p q [] h = refl
any_same p q (a ∷ l) h = λ i. h.0 i || any_same p q l h.1 i

pub foldl-same : {A B : Type 0} (f g : B → A → B) (z : B) (l : List A) → All (λ a. (s : B) → f s a ≡ g s a) l → foldl f z l ≡ foldl g z l
foldl-same f g z [] h = refl
foldl-same f g z (a ∷ l) h = ap (λ s. foldl f s l) (h.0 z) ∙ foldl-same f g (g z a) l h.1
