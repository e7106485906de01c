-- `deep_response`: the four differences are the four rays. Assumes nothing.
use Rattle.grid.proofs.Ways.{deep_inside}
use Rattle.rays.proofs.Reading.{DeepRays, deep_rays, deep_cast, cast_small, cast_response}
use Rattle.rays.proofs.rays.Cumsums.deep_response.Goals.{Start}
use Rattle.rays.proofs.rays.Cumsums.deep_response.Goals as goal

-- the eight entries, and the numbers on the way to them
rays : (c : Start)
    → DeepRays c.args.self.size.w c.args.self.size.r c.args.x c.args.y
    c.args.self.row.now c.args.self.col.now c.args.self.falling.now c.args.self.rising.now
rays c = deep_rays c.args.self.held c.requires

pub difference-s_h-requires : goal.difference-s_h-requires
difference-s_h-requires c = (rays (goal.at.difference-s_h-requires c).Start).on_row.reads

pub difference-s_v-requires : goal.difference-s_v-requires
difference-s_v-requires c = (rays (goal.at.difference-s_v-requires c).Start).on-col.reads

pub difference-s_d1-requires : goal.difference-s_d1-requires
difference-s_d1-requires c = (rays (goal.at.difference-s_d1-requires c).Start).on-falling.reads

pub difference-s_d2-requires : goal.difference-s_d2-requires
difference-s_d2-requires c = (rays (goal.at.difference-s_d2-requires c).Start).on-rising.reads

pub squared_spread-requires : goal.squared_spread-requires
squared_spread-requires c =
    let k = deep_cast (rays (goal.at.squared_spread-requires c).Start) in
    let m = deep_inside c.requires in
    cast_small c.args.self.held m k c.difference-s_h.ensures c.difference-s_v.ensures
    c.difference-s_d1.ensures c.difference-s_d2.ensures c.args.self.short

pub returns : goal.returns
returns c =
    let k = deep_cast (rays (goal.at.returns c).Start) in
    let m = deep_inside c.requires in
    cast_response c.args.self.held m k c.difference-s_h.ensures c.difference-s_v.ensures
    c.difference-s_d1.ensures c.difference-s_d2.ensures c.squared_spread.ensures
