-- A row that is filled a run of columns at a time, each run lent as a part. Assumes nothing.
use mathlib.Core.Path.{◌≡◌, refl, ap, ◌∙◌}
use mathlib.Core.List.{List, ◌++◌}
use Prim.Native.Nat.{ℕ, ◌+◌, ◌-◌, ◌≤◌}
use native.Mathlib.Omega.{arith}
use lib.ListN.{length, take, drop, length-take, length-drop}
use Rattle.grid.specs.Fill.{filled}
use Rattle.grid.proofs.Fill.{length-fill}
use Rattle.grid.proofs.Part.{fill-part}

module _ {ℓ} {A : Type ℓ} where
  -- a run from a to before e is as long as that
  run_long : (a e : ℕ) (xs : List A) → e ≤ length xs → length (take (e - a) (drop a xs)) ≡ e - a
  run_long a e xs b = simp (length-take, length-drop) (omega arith)

  -- the entries below a are done, and those from a and below e come next
  pub run_more : (f : ℕ → A) (xs : List A) {ys zs : List A} (a e : ℕ) → ys ≡ filled a f xs → a ≤ e → e ≤ length xs
      → zs ≡ filled (length (take (e - a) (drop a ys))) (λ j. f (a + j)) (take (e - a) (drop a ys))
      → take a ys ++ (zs ++ drop (e - a) (drop a ys)) ≡ filled e f xs
  run_more f xs {ys} a e y l m z =
      let n : a + (e - a) ≡ e = omega arith in
      let k = run_long a e ys (omega (arith, length-fill _ _ _ y)) in
      rw (z, k) (fill-part a (e - a) f _ xs y (λ j b. refl)) ∙ ap (λ (k : ℕ). filled k f xs) n
