-- `detect::peaks::ScannedMap::find_in_row` meets its contract. The invariant is `Scanned`: what the row has, up to the place where the search stands.
use Rattle.std.proofs.Common.{◌-◌}
use Rattle.detect.proofs.Scanning.{Scanned}
use Rattle.detect.proofs.peaks.ScannedMap.find_in_row.Given as goal

abbrev pub invariant-loop-x : goal.invariant-loop-x
invariant-loop-x l = Scanned l.self.scan l.self.resp.now l.self.image.now l.y l.initial.list l.initial.tally l.list l.tally l.from

abbrev pub decreases-loop-x : goal.decreases-loop-x
decreases-loop-x l = l.ex - l.from
