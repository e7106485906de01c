-- `verdict::neighbors::Window::positives` meets its contract: the counts of the window's rows, together. Assumes nothing.
use Rattle.std.proofs.Common.{◌+◌, ◌-◌, arith, refl, rules}
use Rattle.std.proofs.lemmas.Iterator.{YieldsList-from_range, YieldsList-from_map}
use Rattle.std.proofs.lemmas.Iterator.Consumers.{YieldsList-at, sum_by_from_yields_List, fits_by_from_yields_list}
use Rattle.std.specs.List.{range_with_len}
use Rattle.verdict.proofs.Windows.{row_count, all_rows, counted_all}
use Rattle.verdict.proofs.neighbors.Window.positives.Goals as goal

pub sum-requires-clause-fits : goal.sum-requires-clause-fits
sum-requires-clause-fits c =
    let o = c.args.self.now in
    let h = row_count o.resp.now o.lies_in in
    fits_by_from_yields_list h (range_with_len (o.y - o.r) (o.y + o.r + 1 - (o.y - o.r))) c.map.result _
    (YieldsList-from_map _ h (YieldsList-at c.map.ensures.source (YieldsList-from_range (o.y - o.r) (o.y + o.r + 1) _ refl refl)) c.map.ensures.closure (λ yy n q k. search rules))
    (omega (arith, (all_rows o.resp.now o.lies_in).few, o.lies_in.high, o.lies_in.below))

pub returns : goal.returns
returns c =
    let o = c.args.self.now in
    let h = row_count o.resp.now o.lies_in in
    counted_all o.resp.now o.lies_in
    (sum_by_from_yields_List h (range_with_len (o.y - o.r) (o.y + o.r + 1 - (o.y - o.r))) c.map.result c.sum.result c.sum.ensures.ran
    (YieldsList-from_map _ h (YieldsList-at c.map.ensures.source (YieldsList-from_range (o.y - o.r) (o.y + o.r + 1) _ refl refl)) c.map.ensures.closure (λ yy n q k. search rules)))
