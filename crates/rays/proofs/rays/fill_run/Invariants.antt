-- `fill_run`: a turn stores what a call gave. Assumes nothing.
use Rattle.std.proofs.Common.{ℕ, Float, ◌+◌, length}
use Rattle.grid.proofs.Loops.{Line}
use Rattle.rays.specs.Shown.{Computes}
use Rattle.rays.proofs.rays.fill_run.Given as goal

abbrev pub invariant-loop-i : goal.invariant-loop-i
invariant-loop-i g l =
    (f : ℕ → Float) → Computes (goal.F-post g l.f) f l.a (l.a + length l.initial.out)
    → Line (length l.initial.out) (λ j. f (l.a + j)) l.initial.out l.out l.i
