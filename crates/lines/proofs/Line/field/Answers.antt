-- `lines::Line::field` meets its contract. Assumes nothing.
use Rattle.lines.proofs.Digits.{numeral_asks, end-room, ended}
use Rattle.lines.proofs.Line.field.Goals as goal

pub number-requires : goal.number-requires
number-requires c = numeral_asks c.requires.0 c.args.self.now c.requires.1

pub push-requires : goal.push-requires
push-requires c = end-room c.requires.0 c.args.self.now c.requires.1 c.number.ensures

pub returns : goal.returns
returns c = ended c.requires.0 c.args.self.now c.args.end c.number.ensures c.push.ensures
