-- A list of whole entries in a buffer that may be too short: `written k f l old` has the k numbers of each entry of l, as far as whole entries fit.
-- `Listed` is the invariant of a loop that stores what p keeps; an inner loop, which knows the buffer only from where
-- that loop began, keeps `Onward`.
-- k is a parameter throughout. Assumes nothing.
use Rattle.std.specs.Prelude.{◌≡◌, Bool, ℕ, ◌/◌, List, [], ◌∷◌, length, take}
use Rattle.grid.specs.Each.{each, keep}

module _ {A : Type 0} where
  -- xs with its first entries replaced by vs, as far as xs goes: as long as xs, and no law needs a bound
  unfoldable pub over : List A → List A → List A
  over [] xs = xs
  over (v ∷ vs) [] = []
  over (v ∷ vs) (x ∷ xs) = v ∷ over vs xs

module _ {A B : Type 0} where
  -- the numbers of the entries of l, k for each, written into a buffer as far as whole entries fit
  unfoldable pub written : ℕ → (A → List B) → List A → List B → List B
  written k f l old = over (each f (take (length old / k) l)) old

  pub record Listed (k : ℕ) (f : A → List B) (p : A → Bool) (old out : List B) (n : ℕ) (l : List A) : Type 0 where
    pub count : n ≡ length (keep p l)
    pub fill : out ≡ written k f (keep p l) old
    pub long : length out ≡ length old

-- ---- an inner loop, which knows the buffer only as it was where the loop began: `mid`, with m entries listed of l₀
module _ {A B : Type 0} where
  pub record Onward (k : ℕ) (f : A → List B) (p : A → Bool) (mid : List B) (m : ℕ) (l₀ : List A) (out : List B) (n : ℕ) (l : List A) : Type 0 where
    pub on : (old : List B) → Listed k f p old mid m l₀ → Listed k f p old out n l
    pub same : length out ≡ length mid
