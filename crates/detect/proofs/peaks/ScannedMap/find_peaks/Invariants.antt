-- `detect::peaks::ScannedMap::find_peaks` meets its contract. The invariant is `FoundTo`: what is found and counted in the rows above. Assumes nothing.
use Rattle.detect.proofs.Rows.{FoundTo}
use Rattle.detect.proofs.peaks.ScannedMap.find_peaks.Given as goal

abbrev pub invariant-loop-y : goal.invariant-loop-y
invariant-loop-y l = FoundTo l.self.scan l.self.resp.now l.self.image.now l.initial.list l.list l.tally l.y
