-- `fold op z f n`: op applied from the left, as a loop does it: z, then f 0, f 1, .. f (n - 1). Whole sums, f32 sums in order and the greatest
-- of a map's values are each a fold, so a loop's turn and extensionality are said once. Assumes nothing.
use Rattle.std.specs.Prelude.{ℕ, zero, suc, ◌+◌, Float}
use Rattle.std.specs.Float.{binary32}
use Rattle.std.specs.Float.Ieee.{add}
use Rattle.float.specs.Values.{f0}

module _ {A B : Type 0} where
  unfoldable pub fold : (A → B → A) → A → (ℕ → B) → ℕ → A
  fold op z f zero = z
  fold op z f (suc n) = op (fold op z f n) (f n)

abbrev pub sum_to : (ℕ → ℕ) → ℕ → ℕ
sum_to f n = fold ◌+◌ 0 f n

abbrev pub fsum : (ℕ → Float) → ℕ → Float
fsum f n = fold (add binary32) f0 f n
