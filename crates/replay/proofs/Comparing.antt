-- Entries of a buffer compared one after the other: what the loop keeps. Assumes nothing.
use Rattle.std.specs.Prelude.{◌≡◌, List, ℕ, suc, ◌+◌, min, length}
use Rattle.std.proofs.Common.{ap, ◌∙◌, add-one}
use Rattle.replay.specs.declared.entries.Compared.{Compared}
use Rattle.vectors.specs.Counts.{sum, differs}
use Rattle.replay.specs.Entries.{one_more, compared_of}

-- one entry more, from what each call gives
pub one_more_is : (size : ℕ) (entry : ℕ → ℕ) (listed : List ℕ → ℕ → ℕ) (s : List ℕ) (at i : ℕ) {next wrong found stated differ total behind : ℕ}
    → ◌≡◌ {A = Compared} (record { next = next; wrong = wrong; values = i }) (compared_of size entry listed s at i)
    → found ≡ entry i → stated ≡ listed s next → differ ≡ differs found stated → total ≡ sum wrong differ → behind ≡ min (next + size) (length s)
    → ◌≡◌ {A = Compared} (record { next = behind; wrong = total; values = i + 1 }) (compared_of size entry listed s at (i + 1))
unfolding compared_of
one_more_is size entry listed s at i {next = next} {wrong = wrong} {total = total} {behind = behind} u p q r t m =
    let now : Compared = record { next = next; wrong = wrong; values = i } in
    let one : ◌≡◌ {A = Compared} (record { next = behind; wrong = total; values = suc i }) (one_more size entry listed s i now) = rw (m, t, r, p, q) in
    rw add-one (one ∙ ap (one_more size entry listed s i) u)
