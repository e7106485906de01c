-- `peak_fit::Values::all_usable` meets its contract. Assumes nothing.
use Rattle.std.proofs.Common.{◌≡◌, rules, true, false, [], ◌∷◌}
use Rattle.std.proofs.lemmas.Iterator.{cases_from_all, YieldsList-from_slice}
use borrow.Author.Tests.{tests}
use Rattle.peak_fit.specs.PeakFit.{usable, all_usable}
use Rattle.peak_fit.proofs.Three.{told}
use Rattle.peak_fit.proofs.Values.all_usable.Goals as goal

pub returns : goal.returns
unfolding usable all_usable
returns c =
    told usable c.args.self.y_minus c.args.self.y_c c.args.self.y_plus _ (cases_from_all {all = c.args.self.y_minus ∷ c.args.self.y_c ∷ c.args.self.y_plus ∷ []} _ _ _ (λ x. usable x ≡ true) (λ x. usable x ≡ false) c.all.ensures.ran
    (YieldsList-from_slice _ cc) (λ x q k. search (rules, tests)) (λ x q k. search (rules, tests)))
