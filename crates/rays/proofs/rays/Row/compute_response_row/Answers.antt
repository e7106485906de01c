-- `compute_response_row`: three runs, each of which goes on where the one before stopped. Assumes nothing.
use Rattle.std.proofs.Common.{ℕ, Float, rules, arith}
use Rattle.grid.proofs.Fill.{filled_zero}
use Rattle.rays.specs.Read.{read_at}
use Rattle.rays.proofs.Parts.{run_more}
use Rattle.rays.proofs.rays.Row.compute_response_row.Goals as goal

pub returns : goal.returns
returns c =
    let a = c.inner_from-first.result in
    let b = c.max-last.result in
    let f : ℕ → Float = λ x. read_at c.args.self.sums x c.args.self.y in
    let xs = c.args.out.now in
    let one = run_more f xs 0 a (filled_zero f xs) (omega arith) (omega arith) (c.fill_run.ensures f (λ x v l m e. search rules)) in
    let two = run_more f xs a b one (omega arith) (omega arith) (c.fill_run-2.ensures f (λ x v l m e. search rules)) in
    run_more f xs b c.args.self.sums.size.w two (omega arith) (omega arith) (c.fill_run-3.ensures f (λ x v l m e. search rules))
