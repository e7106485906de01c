-- Document 02, ticket 2, "All cameras of an arch at once": what each camera is told, and what the call leaves in the lent buffers. Of finding it says
-- nothing: what a camera is told and leaves is what a single call does, `file_outcome` and `file_buffers`. Where frames stand is in arch_plan/specs/Plan.
use Rattle.std.specs.Prelude.{cond, List, ◌++◌, ℕ, zero, suc, ◌*◌, Float, length, take, drop, replicate, Result, Ok, Err}
use Rattle.grid.specs.Fill.{filled}
use Rattle.params.specs.declared.answers.Answer.{Answer}
use Rattle.params.specs.declared.answers.Answer.TheVariants.{Complete, FileTooShort, Cameras}
use Rattle.params.specs.declared.answers.Outcome.{Outcome}
use Rattle.params.specs.Answers.{refused}
use Rattle.response.specs.Map.{accepts}
use Rattle.radon.specs.Finder.{Buffers}
use Rattle.frame_runner.specs.FileAnswer.{file_outcome, file_buffers}
use Rattle.arch.specs.declared.ArchOutcome.{ArchOutcome}
use Rattle.arch_plan.specs.Plan.{due_in, rest_at, share_size, arch_refusal}

-- ---- one camera, over what it is lent

-- "The answer, count and share of every frame that lies whole in the slice equal those of a single call", which has no limit on a file's length here:
-- "10 isn't given"
abbrev pub camera_outcome : List ℕ → Result ℕ Answer → Buffers → Outcome
camera_outcome rest (Ok n) b = file_outcome n (take n rest) b
camera_outcome rest (Err answer) b = refused answer

abbrev pub camera_buffers : List ℕ → Result ℕ Answer → Buffers → Buffers
camera_buffers rest (Ok n) b = file_buffers n (take n rest) b
camera_buffers rest (Err answer) b = b

-- ---- "one list in which each frame gets an equal share of whole corners, the remainder unused"

-- share i, with `size` numbers
abbrev pub share_of : ℕ → ℕ → List Float → List Float
share_of size i list = take size (drop (i * size) list)

-- "with that share as its list, with the work buffers as the earlier frames left them": of all buffers b, what camera i is lent
abbrev pub lent_to : ℕ → ℕ → Buffers → Buffers
lent_to size i b = record { map = b.map; list = share_of size i b.list }

-- and all buffers, where c is what it left of that
abbrev pub back_from : ℕ → ℕ → Buffers → Buffers → Buffers
back_from size i b c = record { map = c.map; list = take (i * size) b.list ++ (c.list ++ drop size (drop (i * size) b.list)) }

-- ---- camera after camera

-- all buffers as the first i cameras left them
unfoldable pub left_by : List ℕ → ℕ → Buffers → ℕ → Buffers
left_by frames size b zero = b
left_by frames size b (suc i) =
    let now = left_by frames size b i in
    back_from size i now (camera_buffers (rest_at frames i) (due_in (rest_at frames i)) (lent_to size i now))

-- what camera i is told
unfoldable pub told : List ℕ → ℕ → Buffers → ℕ → Outcome
told frames size b i = camera_outcome (rest_at frames i) (due_in (rest_at frames i)) (lent_to size i (left_by frames size b i))

-- ---- the call

-- how an entry beyond the camera count reads: as that of a camera for which nothing is left
abbrev pub no_frame : Outcome
no_frame = refused FileTooShort

-- the call's own answer, and an entry for each of up to eight cameras; with 21 "all counts 0"
unfoldable pub arch_outcome : ℕ → List ℕ → Buffers → ArchOutcome
arch_outcome cameras frames b =
    cond (accepts (arch_refusal cameras (length b.list)))
    (record { answer = Complete; cameras = filled cameras (told frames (share_size cameras (length b.list)) b) (replicate 8 no_frame) })
    (record { answer = Cameras; cameras = replicate 8 (refused Cameras) })

-- "no buffer changed" with 21
unfoldable pub arch_buffers : ℕ → List ℕ → Buffers → Buffers
arch_buffers cameras frames b =
    cond (accepts (arch_refusal cameras (length b.list)))
    (left_by frames (share_size cameras (length b.list)) b cameras)
    b
