-- `detect::peaks::scan_of` meets its contract: the floor is the fraction of the map's maximum, and the saddle numbers are the radius's.
use Rattle.detect.proofs.Scanning.{scan_is}
use Rattle.detect.proofs.peaks.scan_of.Goals as goal

pub returns : goal.returns
returns c =
    let o = c.args in
    scan_is o.params o.resp.now o.w o.h c.requires.0 c.max_response.ensures c.requires.1
    c.ray_radius_clamped-k.ensures c.new-t.ensures
