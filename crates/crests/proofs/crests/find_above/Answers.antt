-- `crests::crests::find_above` meets its contract: it looks on behind the eights that it passed. Assumes nothing.
use Rattle.std.proofs.Common.{◌≡◌, true, false, length, rules}
use borrow.Author.Tests.{tests}
use Rattle.std.proofs.lemmas.Iterator.{first_from_Range}
use Rattle.crests.specs.Crests.{over}
use Rattle.crests.proofs.Found.{next_first}
use Rattle.crests.proofs.crests.find_above.Goals as goal

pub returns-clause-next : goal.returns-clause-next
returns-clause-next c =
    let p = over c.args.floor c.args.s.now in
    next_first p 0 (length c.args.s.now) c.pass_eights.ensures c.find.result
    (first_from_Range _ _ _ c.find.result (λ k. p k ≡ true) (λ k. p k ≡ false) c.find.ensures.ran (λ x q k. search (rules, tests)) (λ x q k. search (rules, tests)))
