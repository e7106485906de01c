-- Document 01, "Frame file and printed list": what a file is answered, where `limit` is the greatest length of one. The answers of the file
-- come before those of the finder.
use Rattle.std.specs.Prelude.{List, ℕ, drop, Result, Ok, Err}
use Rattle.params.specs.declared.answers.Answer.{Answer}
use Rattle.params.specs.declared.answers.Outcome.{Outcome}
use Rattle.params.specs.Answers.{refused}
use Rattle.frame.specs.declared.Header.{Header}
use Rattle.frame.specs.FrameFile.{read_of}
use Rattle.radon.specs.Finder.{Buffers, outcome_of, buffers_of}

-- "Before the table above come, lowest first: 10 .. 14"; the pixels are what follows the 20 bytes of the fields
abbrev pub outcome_for : List ℕ → Buffers → Result Header Answer → Outcome
outcome_for file b (Err answer) = refused answer
outcome_for file b (Ok h) = outcome_of (drop 20 file) h.width h.height h.params b

unfoldable pub file_outcome : ℕ → List ℕ → Buffers → Outcome
file_outcome limit file b = outcome_for file b (read_of limit file)

-- "With every refusal, later ones too, .. no buffer changes"
abbrev pub buffers_for : List ℕ → Buffers → Result Header Answer → Buffers
buffers_for file b (Err answer) = b
buffers_for file b (Ok h) = buffers_of (drop 20 file) h.width h.height h.params b

unfoldable pub file_buffers : ℕ → List ℕ → Buffers → Buffers
file_buffers limit file b = buffers_for file b (read_of limit file)
