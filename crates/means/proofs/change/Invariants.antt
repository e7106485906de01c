-- `means::change` meets its contract: a turn changes one entry. Assumes nothing.
use Rattle.std.proofs.Common.{ℕ, Float}
use Rattle.std.specs.Float.{nan}
use Rattle.grid.proofs.Touch.{Span}
use Rattle.means.specs.Kernel.{Makes}
use Rattle.means.proofs.change.Given as goal

abbrev pub invariant-loop-x : goal.invariant-loop-x
invariant-loop-x g l =
    (h : ℕ → Float → Float) → Makes (goal.F-post g l.f) h → Span nan l.a l.e h l.initial.dst l.dst l.x
