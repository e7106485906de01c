-- What is found behind the places that a search has passed is the first. Assumes nothing.
use Rattle.std.proofs.Common.{arith}
use Rattle.std.specs.Prelude.{◌≡◌, Bool, true, false, ℕ, ◌≤◌, ◌<◌, Option, None, Some, unwrap_or}
use Rattle.std.specs.Option.{MatchOption}
use Rattle.crests.specs.Crests.{Passed, Next}
use Rattle.crests.proofs.Passing.{none-on}

pub next_first : (p : ℕ → Bool) (a e : ℕ) {i : ℕ} → Passed p a e i → (r : Option ℕ)
    → MatchOption r ((k : ℕ) → i ≤ k → k < e → p k ≡ false) (λ j. (i ≤ j) × (j < e) × (p j ≡ true) × ((k : ℕ) → i ≤ k → k < j → p k ≡ false))
    → Next p a e (unwrap_or r e)
next_first p a e {i} s None h = record {
  least = omega (arith, s.least, s.most);
  most = omega arith;
  none = none-on p a i e s.none h;
  found = λ l. absurd (omega arith);
}
next_first p a e {i} s (Some j) h = record {
  least = omega (arith, s.least, h.0);
  most = omega (arith, h.1);
  none = none-on p a i j s.none h.3;
  found = λ _. h.2;
}
