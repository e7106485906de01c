-- `touched d a e g xs`: xs with each entry from a and below e replaced by what g makes of its number and of itself, the others as they were.
-- What a loop promises that goes over a part of a buffer and reads each entry only to replace it. d stands for an entry outside. Assumes nothing.
use Rattle.std.specs.Prelude.{◌&&◌, cond, ℕ, List, length, get_or, leb, ltb}
use Rattle.grid.specs.Fill.{filled}

module _ {ℓ} {A : Type ℓ} where
  -- what becomes of entry j
  abbrev pub changed : A → ℕ → ℕ → (ℕ → A → A) → List A → ℕ → A
  changed d a e g xs j = cond (leb a j && ltb j e) (g j (get_or xs j d)) (get_or xs j d)

  unfoldable pub touched : A → ℕ → ℕ → (ℕ → A → A) → List A → List A
  touched d a e g xs = filled (length xs) (changed d a e g xs) xs
