-- How what agrees and what does not is counted, along the records of a list.
use Rattle.std.specs.Prelude.{◌≡◌, Bool, true, cond, ◌&&◌, List, None, Some, unwrap_or, ℕ, ◌-◌, eqb, ltb, length}
use Rattle.std.specs.List.{FoldsTo}
use Rattle.vectors.specs.Vectors.{after_line}
use Rattle.vectors.specs.Counts.{sum}
use Rattle.replay.specs.declared.walk.Tally.{Tally}
use Rattle.replay.specs.declared.walk.Walk.{Walk}

abbrev pub none : Tally
none = record { records = 0; wrong = 0; first = None }

-- one record more, in which so many things disagree: the first record in which any does is kept
unfoldable pub counted : Tally → ℕ → Tally
counted t wrong =
    cond (eqb wrong 0)
    (record { records = sum t.records 1; wrong = t.wrong; first = t.first })
    (record { records = sum t.records 1; wrong = sum t.wrong 1; first = Some (unwrap_or t.first t.records) })

-- before the first record; no list has more than 65,536
abbrev pub opened : List ℕ → Walk
opened s = record { next = after_line s; left = 65536; tally = none }

-- whether there is another record
unfoldable pub onward : List ℕ → Walk → Bool
onward s w = ltb 0 w.left && ltb w.next (length s)

-- after a record that ends before `next`
unfoldable pub walked : Walk → ℕ → ℕ → Walk
walked w next wrong = record { next = next; left = w.left - 1; tally = counted w.tally wrong }

-- one record's visit: there is a record more, it is visited where it stands, and what the visit answers is what the walk goes on by
abbrev pub Steps : {V : Type 0} → (List ℕ → V → ℕ → ℕ → ℕ → V → Type 0) → List ℕ → V × Walk → ℕ × ℕ → V × Walk → Type 0
Steps visits s p a q = (onward s p.1 ≡ true) × visits s p.0 p.1.next a.0 a.1 q.0 × (q.1 ≡ walked p.1 a.0 a.1)

-- visits of records in order, none left out between them, by answers of which each is (where the record ends, how many things in it disagree)
unfoldable pub Visited : {V : Type 0} → (List ℕ → V → ℕ → ℕ → ℕ → V → Type 0) → List ℕ → V → Walk → V → Walk → Type 0
Visited visits s v w v' w' = (answers : List (ℕ × ℕ)) × FoldsTo (Steps visits s) (v, w) answers (v', w')
