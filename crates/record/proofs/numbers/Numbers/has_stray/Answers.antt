-- `record::numbers::Numbers::has_stray` meets its contract: `any` along the places. Assumes nothing.
use Rattle.std.proofs.Common.{rules, ◌∙◌, refl, arith}
use Rattle.std.proofs.lemmas.Iterator.{YieldsList-from_range}
use Rattle.std.proofs.lemmas.Iterator.Search.{any_from_yields_List}
use Rattle.record.specs.Record.{stray, number_in}
use Rattle.record.proofs.Strays.{any_range-is}
use Rattle.record.proofs.numbers.Numbers.has_stray.Goals as goal

pub returns : goal.returns
returns c = rw (← c.len.ensures)
    (any_from_yields_List (λ i. stray (number_in c.args.self.file.now i)) _ _ _ c.any.ensures.ran (YieldsList-from_range 0 c.len.result c.len.result refl (omega arith))
    (λ x b q k. search rules)
    ∙ any_range-is _ _)
