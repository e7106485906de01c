-- `detect::peaks::ScannedMap::put_corner` meets its contract: what is stored are the corner's numbers. Assumes nothing.
use Rattle.detect.proofs.Scanning.{stored}
use Rattle.detect.proofs.peaks.ScannedMap.put_corner.Goals as goal

pub returns : goal.returns
returns c =
    stored c.args.self.now.scan c.args.list.now c.args.self.now.resp.now c.args.n c.args.x c.args.y c.requires.0
    c.fitted-px.ensures c.fitted-py.ensures c.store.ensures
