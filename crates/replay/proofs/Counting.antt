-- A walk that has a record more is nearer its end. Assumes nothing.
use Rattle.std.specs.Prelude.{◌≡◌, refl, Bool, true, List, [], ◌∷◌, ℕ, ◌<◌}
use Rattle.std.proofs.Common.{arith}
use Rattle.std.proofs.lemmas.Bool.Decides.{nat_tests}
use Rattle.replay.specs.declared.walk.Walk.{Walk}
use Rattle.replay.specs.Tallies.{onward, walked, Visited}

-- so a loop over the records ends: its measure is what is left
pub fewer : (s : List ℕ) (w v : Walk) (next wrong : ℕ) {go : Bool} → go ≡ onward s w → go ≡ true → v ≡ walked w next wrong → v.left < w.left
unfolding onward walked
fewer s w v next wrong p q r = rw r (grind (arith, nat_tests))

-- one record more is visited, and then the rest of them
pub one_visit_more : {V : Type 0} (visits : List ℕ → V → ℕ → ℕ → ℕ → V → Type 0) (s : List ℕ) (v u e : V) (w x z : Walk) (next wrong : ℕ) {go : Bool}
    → go ≡ onward s w → go ≡ true → visits s v w.next next wrong u → x ≡ walked w next wrong → Visited visits s u x e z → Visited visits s v w e z
unfolding Visited
one_visit_more visits s v u e w x z next wrong p q r t rest = ((next, wrong) ∷ rest.0, ((u, x), (rw (← p) q, r, t), rest.1))

-- no record is visited
pub no_visit_more : {V : Type 0} (visits : List ℕ → V → ℕ → ℕ → ℕ → V → Type 0) (s : List ℕ) (v : V) (w : Walk) → Visited visits s v w v w
unfolding Visited
no_visit_more visits s v w = ([], refl)
