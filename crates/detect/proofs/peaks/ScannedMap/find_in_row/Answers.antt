-- `detect::peaks::ScannedMap::find_in_row` meets its contract. The invariant is `Scanned`: what the row has, up to the place where the search stands.
use Rattle.std.proofs.Common.{arith}
use Rattle.detect.proofs.Scanning.{scan_none, scan_on, scan_turn, scan_all, candidate}
use Rattle.detect.proofs.peaks.ScannedMap.find_in_row.Goals as goal

pub loop-x-init : goal.loop-x-init
loop-x-init c = scan_none c.requires c.border-b.ensures

pub judge_and_list-requires : goal.judge_and_list-requires
judge_and_list-requires c =
    let on = scan_on c.requires c.border-b.ensures c.loop-x.invariant c.in-Some.ensures.passed in
    candidate c.requires c.border-b.ensures on c.in-Some.ensures.within

pub loop-x-preserved : goal.loop-x-preserved
loop-x-preserved c =
    let on = scan_on c.requires c.border-b.ensures c.loop-x.invariant c.in-Some.ensures.passed in
    scan_turn c.requires c.border-b.ensures on c.in-Some.ensures.within c.judge_and_list.ensures

pub returns : goal.returns
returns c =
    let on = scan_on c.requires c.border-b.ensures c.loop-x.invariant c.in_default.ensures.passed in
    scan_all c.requires c.border-b.ensures on (omega arith)
