-- `verdict::neighbors::Window::is_local_max` meets its contract: none of the window's rows has a greater value. Assumes nothing.
use Rattle.std.proofs.Common.{◌+◌, ◌-◌, refl, rules}
use borrow.Author.Tests.{tests}
use Rattle.std.proofs.lemmas.Iterator.{cases_from_all, YieldsList-from_range}
use Rattle.verdict.proofs.Windows.{beaten-near, unbeaten, row_free, row_beats, RowFree, RowBeats}
use Rattle.verdict.proofs.neighbors.Window.is_local_max.Goals as goal

pub returns-then-near_beats : goal.returns-then-near_beats
returns-then-near_beats c =
    let o = c.args.self.now in
    beaten-near o.resp.now o.lies_in o.centre c.if-self-gt0.true c.near_beats.ensures c.if-near_beats.true

pub returns : goal.returns
returns c =
    let o = c.args.self.now in
    unbeaten o.resp.now o.lies_in o.centre
    (cases_from_all _ _ c.all.result (RowFree o.resp.now o.w o.x o.y o.r o.v) (RowBeats o.resp.now o.w o.x o.y o.r o.v)
    c.all.ensures.ran (YieldsList-from_range (o.y - o.r) (o.y + o.r + 1) _ refl refl)
    (λ yy q k. search (rules, tests, row_free o.resp.now o.lies_in o.v)) (λ yy q k. search (rules, tests, row_beats o.resp.now o.lies_in o.v)))
