-- `radon_response_at`: the four differences are the four rays, also where an entry is past the edge. Assumes nothing.
use Rattle.rays.proofs.Reading.{cast_small, cast_response, EdgeRays, edge_rays, edge_cast}
use Rattle.rays.proofs.rays.Cumsums.radon_response_at.Goals.{Start}
use Rattle.rays.proofs.rays.Cumsums.radon_response_at.Goals as goal

-- the eight entries
rays : (c : Start)
    → EdgeRays c.args.self.size.w c.args.self.size.r c.args.x c.args.y
    c.args.self.row.now c.args.self.col.now c.args.self.falling.now c.args.self.rising.now
rays c = edge_rays c.args.self.held c.requires

pub between-s_h-requires : goal.between-s_h-requires
between-s_h-requires c = (rays (goal.at.between-s_h-requires c).Start).on_row.reads

pub between-s_v-requires : goal.between-s_v-requires
between-s_v-requires c = (rays (goal.at.between-s_v-requires c).Start).on-col.reads

pub between-s_d1-requires : goal.between-s_d1-requires
between-s_d1-requires c = (rays (goal.at.between-s_d1-requires c).Start).on-falling.reads

pub between-s_d2-requires : goal.between-s_d2-requires
between-s_d2-requires c = (rays (goal.at.between-s_d2-requires c).Start).on-rising.reads

pub squared_spread-requires : goal.squared_spread-requires
squared_spread-requires c =
    cast_small c.args.self.held c.requires (edge_cast (rays (goal.at.squared_spread-requires c).Start))
    c.between-s_h.ensures c.between-s_v.ensures c.between-s_d1.ensures c.between-s_d2.ensures
    c.args.self.short

pub returns : goal.returns
returns c =
    cast_response c.args.self.held c.requires (edge_cast (rays (goal.at.returns c).Start))
    c.between-s_h.ensures c.between-s_v.ensures c.between-s_d1.ensures c.between-s_d2.ensures
    c.squared_spread.ensures
