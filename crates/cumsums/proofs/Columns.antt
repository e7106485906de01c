-- A row of the column table: in the first row each column begins, below it each goes on from the row above. Assumes nothing.
use mathlib.Core.Path.{◌≡◌, refl, ap, ◌∙◌}
use mathlib.Core.Logic.{◌⊎◌, inl, inr}
use mathlib.Core.List.{List}
use Prim.Native.Nat.{ℕ, ◌+◌, ◌-◌, ◌*◌, ◌≤◌, ◌<◌}
use native.Mathlib.Nat.{eq-zero-or-pos}
use native.Mathlib.Omega.{arith}
use lib.ListN.{get_or}
use Rattle.grid.proofs.Plane.{row-above}
use Rattle.grid.specs.Span.{span}
use Rattle.grid.proofs.Span.{row-span}
use Rattle.grid.specs.Ways.{down, pixel}
use Rattle.cumsums.specs.Tables.{table_of}
use Rattle.cumsums.specs.Passes.{Above, Carries}
use Rattle.cumsums.proofs.Running.{Filling, row-start, row_begun, row_carried, row-whole, row_fits_lem}

-- how far back the row above stands, which is also how many columns go on: as the code finds it
abbrev Back : ℕ → ℕ → ℕ → Type 0
Back w y back = (y ≡ 0 → back ≡ 0) × (0 < y → back ≡ w)

module _ (w y : ℕ) {back : ℕ} (g : Back w y back) where
  back_cases : ((y ≡ 0) × (back ≡ 0)) ⊎ ((0 < y) × (back ≡ w))
  back_cases = elim (eq-zero-or-pos y) [ inl e ↦ inl (e, g.0 e) | inr l ↦ inr (l, g.1 l) ]

  pub back_most : back ≤ w
  back_most = elim back_cases [ inl e ↦ omega arith | inr e ↦ omega arith ]

-- from `first` on they go on; ys is what comes back from `begin`
module _ (img : List ℕ) (w y : ℕ) (xs : List ℕ) {back first : ℕ} (g : Back w y back) (f : first ≡ y * w + (w - back))
    (a : Above down img w y xs)
    {ys : List ℕ} (b : ys ≡ span (y * w) (first - y * w) (λ i. get_or img i 0) xs) where
  down_begun : Filling down img w y xs ys (w - back)
  down_begun =
      row_begun down img w y xs {lo = 0} {hi = w - back} (row-start down img w y xs a) (omega arith) (omega arith) (omega arith) f b
      (λ x l m. elim (back_cases w y g) [ inl e ↦ e.0 | inr e ↦ absurd (omega arith) ])

  pub down_carries : ((k : ℕ) → get_or img k 0 < 256) → Carries img ys first (y * w + w) back
  down_carries small = record {
    run = omega arith;
    least = λ k l m. elim (back_cases w y g) [ inl e ↦ omega arith | inr e ↦ omega (arith, row-above w e.0) ];
    apart = omega (arith, back_most w y g);
    image = a.image;
    room = omega (arith, a.room, down_begun.steps.long);
    small = λ k l m. row_fits_lem down img w y xs down_begun a small k (omega (arith, back_most w y g));
  }

  -- and zs what comes back from `carry`
  pub down-row : {zs : List ℕ} → zs ≡ span first (y * w + w - first) (λ i. get_or ys (i - back) 0 + get_or img i 0) ys
      → zs ≡ table_of down (pixel img w) w (y + 1) xs
  down-row {zs} z = row-whole down img w y xs (elim (back_cases w y g) [ inl e ↦ none e | inr e ↦ all e ])
    where
      none : (y ≡ 0) × (back ≡ 0) → Filling down img w y xs zs w
      none e =
          row-span w (y + 1) _ _ xs {lo = w - back} {hi = w} down_begun (omega arith) (omega arith) f refl z (λ x l m. absurd (omega arith))

      all : (0 < y) × (back ≡ w) → Filling down img w y xs zs w
      all e =
          let c = z ∙ ap (λ (k : ℕ). span first (y * w + w - first) (λ i. get_or ys (i - k) 0 + get_or img i 0) ys) e.1 in
          row_carried down img w y xs {lo = w - back} {hi = w} down_begun a.room (omega arith) (omega arith) f refl c
          (λ x l m. (e.0, omega arith))
