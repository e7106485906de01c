-- A test of three values one after the other is the test of each. Assumes nothing.
use Rattle.std.proofs.Common.{◌≡◌, refl, sym, arith, ℕ, zero, suc, ◌<◌, Bool, true, false, [], ◌∷◌}
use Rattle.std.specs.Prelude.{◌&&◌, Float, MatchBool}
use Rattle.std.specs.List.{AllWithin, HoldsAt}

and_false : (b : Bool) → false ≡ (b && false)
and_false true = refl
and_false false = refl

module _ (p : Float → Bool) (a b d : Float) where
  pub told : (r : Bool)
      → MatchBool r (AllWithin (λ x. p x ≡ true) (a ∷ b ∷ d ∷ []) 0 3)
      ((k : ℕ) × (k < 3) × HoldsAt (λ x. p x ≡ false) (a ∷ b ∷ d ∷ []) k)
      → r ≡ (p a && (p b && p d))
  told true h = rw (h 0 a (omega arith) (omega arith), h 1 a (omega arith) (omega arith), h 2 a (omega arith) (omega arith)) refl
  told false (zero, l, e) = rw (e a) refl
  told false (suc zero, l, e) = rw (e a) (and_false (p a))
  told false (suc (suc zero), l, e) = rw (e a, sym (and_false (p b))) (and_false (p a))
  told false (suc (suc (suc k)), l, e) = absurd (omega (arith, l))
