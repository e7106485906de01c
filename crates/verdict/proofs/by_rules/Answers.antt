-- `verdict::by_rules` meets its contract: each answer is the first rule that fails, from what the callees ensure. Assumes nothing.
use Rattle.verdict.proofs.Rules.{not_above_lem, is-beaten, too_few, as_saddle}
use Rattle.verdict.proofs.by_rules.Goals as goal

pub returns-then-not-v-scan : goal.returns-then-not-v-scan
returns-then-not-v-scan c =
    let o = c.args in
    not_above_lem o.scan o.resp.now o.image.now o.x o.y c.if-not-v-scan.true

pub returns-then-not-is_local_max : goal.returns-then-not-is_local_max
returns-then-not-is_local_max c =
    let o = c.args in
    is-beaten o.scan o.resp.now o.image.now o.x o.y c.if-not-v-scan.false c.is_local_max.ensures c.if-not-is_local_max.true

pub returns-then-count_positive_neighbors-params : goal.returns-then-count_positive_neighbors-params
returns-then-count_positive_neighbors-params c =
    let o = c.args in
    too_few o.scan o.resp.now o.image.now o.x o.y
    c.if-not-v-scan.false c.is_local_max.ensures c.if-not-is_local_max.false c.count_positive_neighbors.ensures c.if-count_positive_neighbors-params.true

pub returns : goal.returns
returns c =
    let o = c.args in
    as_saddle o.scan o.resp.now o.image.now o.x o.y
    c.if-not-v-scan.false c.is_local_max.ensures c.if-not-is_local_max.false c.count_positive_neighbors.ensures c.if-count_positive_neighbors-params.false
    c.ray_radius_clamped-k.ensures c.accepts.ensures c.from.ensures
