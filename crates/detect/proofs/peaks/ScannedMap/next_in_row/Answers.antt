-- `detect::peaks::ScannedMap::next_in_row` meets its contract: what the search passes over is not above the floor, or beaten. Assumes nothing.
use Rattle.std.proofs.Common.{arith}
use Rattle.detect.proofs.Tally.{plus_beaten}
use Rattle.detect.proofs.Scanning.{row-fits, next_is, next_few, end_or}
use Rattle.detect.proofs.peaks.ScannedMap.next_in_row.Goals as goal

pub overflow_add-tally : goal.overflow_add-tally
overflow_add-tally c =
    let m = c.args.self.now in
    let p = c.requires.within_row in
    let few = next_few m.scan m.resp.now c.args.y (row-fits m.judging p.3) p.0 p.1 p.2 c.next_candidate-next.ensures in
    omega (arith, few, m.judging.asked.wide, c.requires.tally.beaten)

pub returns-clause-passed : goal.returns-clause-passed
returns-clause-passed c =
    let m = c.args.self.now in
    let p = c.requires.within_row in
    let next = next_is m.scan m.resp.now c.args.y (row-fits m.judging p.3) p.0 p.1 p.2 c.next_candidate-next.ensures (plus_beaten c.args.tally.now _) in
    rw (c.then_some.ensures, end_or _ _ next.most) next
