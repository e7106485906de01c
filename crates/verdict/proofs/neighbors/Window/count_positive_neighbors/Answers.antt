-- `verdict::neighbors::Window::count_positive_neighbors` meets its contract: the window's count, less the centre where that is above zero.
use Rattle.std.proofs.Common.{◌≡◌, ◌+◌, arith}
use Rattle.grid.specs.Rect.{place}
use Rattle.grid.specs.Ways.{value}
use Rattle.verdict.specs.Window.{positives}
use Rattle.verdict.proofs.Windows.{positives_more, positives-same}
use Rattle.verdict.proofs.neighbors.Window.count_positive_neighbors.Goals.{Then-v}
use Rattle.verdict.proofs.neighbors.Window.count_positive_neighbors.Goals as goal

-- the centre was counted
one_more : (c : Then-v) → let o = c.args.self.now in c.positives-count.result ≡ positives (value o.resp.now o.w) o.r (place o.x o.y) + 1
one_more c =
    let o = c.args.self.now in
    positives_more _ o.r o.x o.y o.lies_in.left o.lies_in.above c.positives-count.ensures (rw o.centre at c.if-v.true)

pub overflow_sub-result : goal.overflow_sub-result
overflow_sub-result c = omega (arith, one_more c)

pub returns-then-v : goal.returns-then-v
returns-then-v c = omega (arith, one_more c)

pub returns-else-v : goal.returns-else-v
returns-else-v c =
    let o = c.args.self.now in
    positives-same _ o.r o.x o.y o.lies_in.left o.lies_in.above c.positives-count.ensures (rw o.centre at c.if-v.false)
