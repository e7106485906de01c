-- `record::numbers::stray_in_list` meets its contract: `any` along the list. Assumes nothing.
use Rattle.std.proofs.Common.{rules, ◌∙◌}
use Rattle.std.proofs.lemmas.Iterator.{YieldsList-from_slice}
use Rattle.std.proofs.lemmas.Iterator.Search.{any_from_yields_List}
use Rattle.record.specs.Record.{stray}
use Rattle.record.proofs.Strays.{any-is}
use Rattle.record.proofs.numbers.stray_in_list.Goals as goal

pub returns : goal.returns
returns c =
    any_from_yields_List stray _ _ _ c.any.ensures.ran (YieldsList-from_slice c.args.list.now cc)
    (λ x b q k. search rules)
    ∙ any-is stray _
