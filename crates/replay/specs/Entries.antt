-- The entries of a buffer against those of a list.
use Rattle.std.specs.Prelude.{List, ℕ, zero, suc, ◌+◌, min, length}
use Rattle.vectors.specs.Vectors.{word_at}
use Rattle.vectors.specs.Counts.{sum, differs}
use Rattle.replay.specs.declared.entries.Compared.{Compared}

-- One entry more, the i-th. An entry takes `size` bytes of a list; `entry` is what the buffer has there, `listed` what the list says at a place.
abbrev pub one_more : ℕ → (ℕ → ℕ) → (List ℕ → ℕ → ℕ) → List ℕ → ℕ → Compared → Compared
one_more size entry listed s i c = record {
  next = min (c.next + size) (length s);
  wrong = sum c.wrong (differs (entry i) (listed s c.next));
  values = suc i;
}

-- the first n entries of a buffer against the n that stand in the list s from a place on
unfoldable pub compared_of : ℕ → (ℕ → ℕ) → (List ℕ → ℕ → ℕ) → List ℕ → ℕ → ℕ → Compared
compared_of size entry listed s at zero = record { next = at; wrong = 0; values = 0 }
compared_of size entry listed s at (suc i) = one_more size entry listed s i (compared_of size entry listed s at i)

-- what was compared before, and what after it
abbrev pub both : Compared → Compared → Compared
both a b = record { next = b.next; wrong = sum a.wrong b.wrong; values = sum a.values b.values }

-- the two sides that stand at a place, and the answer 0
unfoldable pub sides_of : List ℕ → ℕ → ℕ → ℕ → ℕ → Compared
sides_of s at answer w h =
    let second : ℕ = min (at + 4) (length s) in
    record {
      next = min (second + 4) (length s);
      wrong = sum (sum (differs w (word_at s at)) (differs h (word_at s second))) (differs answer 0);
      values = 3;
    }
