-- `replay::entries::compare` meets its contract: after i turns i entries were compared. Assumes nothing.
use Rattle.std.specs.Prelude.{◌≡◌}
use Rattle.replay.specs.declared.entries.Compared.{Compared}
use Rattle.replay.specs.Entries.{compared_of}
use Rattle.replay.proofs.entries.compare.Given as goal

abbrev pub invariant-loop-i : goal.invariant-loop-i
invariant-loop-i g l =
    ◌≡◌ {A = Compared} (record { next = l.next; wrong = l.wrong; values = l.i })
    (compared_of g.T.Entry.SIZE (g.T.Entry.entry_of l.buffer) g.T.Entry.listed_of l.s l.at l.i)
