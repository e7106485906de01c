-- `detect::peaks::ScannedMap::judge_and_list` meets its contract: stored or not, its verdict is tallied. Assumes nothing.
use Rattle.std.proofs.Common.{◌≡◌, ◌∙◌}
use Rattle.grid.specs.Rect.{place}
use Rattle.detect.specs.Scan.{verdict_in}
use Rattle.detect.proofs.Scanning.{near, judged-is, entered_no, entered_full, entered_put}
use Rattle.detect.proofs.peaks.ScannedMap.judge_and_list.Goals.{After-judge_at-v, then-is_kept+then-n-room, else-is_kept, else-is_kept-via-then-is_kept+else-n-room, else-is_kept-via-else-is_kept}
use Rattle.detect.proofs.peaks.ScannedMap.judge_and_list.Goals as goal

-- what is told of the candidate is its verdict
told : (c : After-judge_at-v) → c.judge_at-v.result
    ≡ verdict_in c.args.self.now.scan c.args.self.now.resp.now c.args.self.now.image.now (place c.args.x c.args.y)
told c =
    judged-is c.args.self.now.scan c.args.self.now.resp.now c.args.self.now.image.now c.args.x c.args.y c.requires.0 c.judge_at-v.ensures

pub put_corner-requires : goal.put_corner-requires
put_corner-requires c = (near c.requires.0, c.if-n-room.true)

pub returns : goal.returns
returns c =
    let o = c.args in
    let is = told (goal.at.returns c).After-judge_at-v in
    let kept = c.is_kept.ensures in
    rw c.count.ensures (elim c.if-is_kept.branch [
      | then-is_kept+then-n-room w ↦
          entered_put o.self.now.scan o.self.now.resp.now o.self.now.image.now o.x o.y o.list.now o.tally.now is kept w.if-is_kept.true w.if-n-room.true (w.list-is ∙ w.put_corner.ensures)
      | else-is_kept w ↦ rw w.list-is (elim w.else-is_kept.branch [
        | else-is_kept-via-then-is_kept+else-n-room u ↦
            entered_full o.self.now.scan o.self.now.resp.now o.self.now.image.now o.x o.y o.list.now o.tally.now is kept u.if-is_kept.true u.if-n-room.false
        | else-is_kept-via-else-is_kept u ↦
            entered_no o.self.now.scan o.self.now.resp.now o.self.now.image.now o.x o.y o.list.now o.tally.now is kept u.if-is_kept.false
      ])
    ])
