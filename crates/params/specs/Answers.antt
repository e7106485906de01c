-- Document 01, "What comes back" and "Frame file and printed list", and document 02's refusals from 15 on: the number of each
-- answer.
use Rattle.std.specs.Prelude.{ℕ}
use Rattle.params.specs.declared.answers.Answer.{Answer}
use Rattle.params.specs.declared.answers.Verdicts.{Verdicts}
use Rattle.params.specs.declared.answers.Outcome.{Outcome}
use Rattle.params.specs.declared.answers.Answer.TheVariants as answer

abbrev pub number_of : Answer → ℕ
number_of answer.Complete = 0
number_of answer.ListFull = 1
number_of answer.SideTooLong = 2
number_of answer.ImageLength = 3
number_of answer.TooManyPixels = 4
number_of answer.RayRadius = 5
number_of answer.BlurRadius = 6
number_of answer.SuppressionRadius = 7
number_of answer.Threshold = 8
number_of answer.BufferTooShort = 9
number_of answer.FileTooLong = 10
number_of answer.FileTooShort = 11
number_of answer.Version = 12
number_of answer.StatedLength = 13
number_of answer.Mode = 14
number_of answer.FrameTooSmall = 15
number_of answer.RecordLength = 16
number_of answer.RecordVersion = 17
number_of answer.CornerCount = 18
number_of answer.NotFinite = 19
number_of answer.OutputTooShort = 20
number_of answer.Cameras = 21

-- no candidate is judged
abbrev pub no_verdicts : Verdicts
no_verdicts = record { not_above = 0; beaten = 0; too_few = 0; too_flat = 0; wrong_curvature = 0; kept = 0 }

-- "With every refusal, later ones too, W and H are reported as 0", and the count is 0. Document 02: "A refused frame reports six zeros."
abbrev pub refused : Answer → Outcome
refused a = record { answer = a; count = 0; w = 0; h = 0; verdicts = no_verdicts }
