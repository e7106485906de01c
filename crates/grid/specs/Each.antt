-- `each f l`: f of every entry of l, one after the other. A filter, a row of places and a list of numbers are each an `each`, so `each_append` serves
-- them all: what a loop has gathered is, one entry later, the same with f of that entry behind it. Assumes nothing.
use Rattle.std.specs.Prelude.{Bool, true, false, ◌||◌, ℕ, List, [], ◌∷◌, ◌++◌, length}

module _ {A B : Type 0} where
  unfoldable pub each : (A → List B) → List A → List B
  each f [] = []
  each f (a ∷ l) = f a ++ each f l

-- ---- a filter, a count, and whether there is any
module _ {A : Type 0} where
  abbrev pub once : Bool → A → List A
  once true a = a ∷ []
  once false a = []

  -- the entries at which p holds, in order
  unfoldable pub keep : (A → Bool) → List A → List A
  keep p l = each (λ a. once (p a) a) l

  -- how many
  unfoldable pub count : (A → Bool) → List A → ℕ
  count p l = length (keep p l)

  -- whether there is one
  unfoldable pub any : (A → Bool) → List A → Bool
  any p [] = false
  any p (a ∷ l) = p a || any p l
