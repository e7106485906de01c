-- `peak_fit::Values::all_above` meets its contract. Assumes nothing.
use Rattle.std.proofs.Common.{◌≡◌, rules, true, false, [], ◌∷◌}
use Rattle.std.proofs.lemmas.Iterator.{cases_from_all, YieldsList-from_slice}
use borrow.Author.Tests.{tests}
use lib.Ieee.{lt}
use Rattle.float.specs.Values.{f0}
use Rattle.peak_fit.specs.PeakFit.{all_above}
use Rattle.peak_fit.proofs.Three.{told}
use Rattle.peak_fit.proofs.Values.all_above.Goals as goal

pub returns : goal.returns
unfolding all_above
returns c =
    told (lt f0) c.args.self.y_minus c.args.self.y_c c.args.self.y_plus _ (cases_from_all {all = c.args.self.y_minus ∷ c.args.self.y_c ∷ c.args.self.y_plus ∷ []} _ _ _ (λ x. lt f0 x ≡ true) (λ x. lt f0 x ≡ false) c.all.ensures.ran
    (YieldsList-from_slice _ cc) (λ x q k. search (rules, tests)) (λ x q k. search (rules, tests)))
