-- What the judge of a field that must hold one number answers: nothing, or its own refusal.
use Rattle.std.specs.Prelude.{cond, ℕ, eqb, Result, Ok, Err}
use Rattle.params.specs.declared.answers.Answer.{Answer}

-- v stands in the field, and it must be `due`
unfoldable pub held : Answer → ℕ → ℕ → Result (Unit {0}) Answer
held a v due = cond (eqb v due) (Ok tt) (Err a)
