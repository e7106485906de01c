-- How many of the bytes that are left are gone behind a camera's frame.
use Rattle.std.specs.Prelude.{ℕ, Result, Ok, Err}
use Rattle.params.specs.declared.answers.Answer.{Answer}

-- all, where it is not whole
abbrev pub gone_by : Result ℕ Answer → ℕ → ℕ
gone_by (Ok n) left = n
gone_by (Err answer) left = left
