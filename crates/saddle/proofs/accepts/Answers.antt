-- `saddle::accepts` meets its contract: the disk's test is `disk_fits`, and where it holds the sums are judged.
use mathlib.Core.Path.{◌≡◌, sym, ◌∙◌}
use mathlib.Core.Bool.{Bool, true, cond}
use Prim.Native.Nat.{ℕ}
use lib.ListN.{length}
use Rattle.saddle.specs.declared.SaddleTest.{SaddleTest}
use Rattle.saddle.specs.declared.Sums.{Sums}
use Rattle.saddle.specs.declared.Saddle.{Saddle}
use Rattle.saddle.specs.declared.Saddle.TheVariants.{Flat}
use Rattle.saddle.specs.Saddle.{sums_of, judge, saddle_at}
use Rattle.saddle.specs.Steps.{Around}
use Rattle.saddle.proofs.Fitting.{around}
use Rattle.saddle.proofs.accepts.Goals.{Then-disk_fits}
use Rattle.saddle.proofs.accepts.Goals as goal

-- what is judged where the disk fits
judged-so : (t : SaddleTest) (k : ℕ) (f : ℕ → ℕ → ℕ) (x y : ℕ) {b fits : Bool} {s : Sums} {d : Saddle}
    → b ≡ fits → b ≡ true → s ≡ sums_of t k f x y → d ≡ judge t k s → d ≡ cond fits (saddle_at t k f x y) Flat
unfolding saddle_at
judged-so t k f x y is e p q = q ∙ rw (p, ← is, e)

disk-around : (c : Then-disk_fits)
    → let o = c.args in Around o.k (length o.image.now) o.w o.h o.x o.y
disk-around c = around _ _ _ _ _ _ (sym c.disk_fits.ensures ∙ c.if-disk_fits.true)

pub new-disk-requires : goal.new-disk-requires
new-disk-requires c = (disk-around (goal.at.new-disk-requires c).Then-disk_fits).small

pub project-requires : goal.project-requires
project-requires c = rw c.new-disk.ensures (disk-around (goal.at.project-requires c).Then-disk_fits)

pub returns-then-disk_fits : goal.returns-then-disk_fits
returns-then-disk_fits c =
    judged-so _ _ _ _ _ c.disk_fits.ensures c.if-disk_fits.true (c.project.ensures ∙ rw c.new-disk.ensures)
    (c.judged.ensures ∙ rw c.new-disk.ensures)
