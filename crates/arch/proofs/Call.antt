-- The call: refused, or taken and run camera after camera. Assumes nothing.
use mathlib.Core.Path.{◌≡◌, refl}
use mathlib.Core.List.{List}
use Prim.Native.Nat.{ℕ}
use Rattle.std.specs.Prelude.{Ok, Err}
use borrow.Author.Tests.{eq-eqb}
use lib.ListN.{length, replicate}
use Rattle.grid.specs.Fill.{filled}
use Rattle.params.specs.declared.answers.Answer.{Answer}
use Rattle.params.specs.declared.answers.Outcome.{Outcome}
use Rattle.params.specs.declared.answers.Answer.TheVariants.{Complete}
use Rattle.params.specs.Answers.{number_of, refused}
use Rattle.params.specs.Refusals.{as_result}
use Rattle.params.proofs.Judged.{ok_zero, err_is}
use Rattle.radon.specs.Finder.{Buffers}
use Rattle.arch_plan.specs.Plan.{share_size, arch_refusal}
use Rattle.arch_plan.proofs.Judged.{Takes, refuses, takes}
use Rattle.arch.specs.declared.ArchOutcome.{ArchOutcome}
use Rattle.arch.specs.Arch.{left_by, told, no_frame, arch_outcome, arch_buffers}

module _ (cameras : ℕ) (frames : List ℕ) (b : Buffers) where
  abbrev judged : Answer
  judged = arch_refusal cameras (length b.list)

  abbrev Answered : ArchOutcome → Buffers → Type 0
  Answered o after = (o ≡ arch_outcome cameras frames b) × (after ≡ arch_buffers cameras frames b)

  pub when_refused : {a : Answer} {none : Outcome} → Err a ≡ as_result judged → none ≡ refused a
      → Answered (record { answer = a; cameras = replicate 8 none }) b
  unfolding arch_outcome arch_buffers
  when_refused j e =
      let i = err_is judged refl j in
      rw (e, i.0, i.1, refuses cameras (length b.list) i.1) (refl, refl)

  module _ (j : Ok tt ≡ as_result judged) where
    zero : number_of judged ≡ 0
    zero = ok_zero judged refl j

    pub taken : Takes cameras (length b.list)
    taken = (takes cameras (length b.list) zero).1

    pub when_taken : {out : List Outcome} {after : Buffers} {s : ℕ} → s ≡ share_size cameras (length b.list)
        → (out ≡ filled cameras (told frames s b) (replicate 8 no_frame)) × (after ≡ left_by frames s b cameras)
        → Answered (record { answer = Complete; cameras = out }) after
    unfolding arch_outcome arch_buffers
    when_taken e (p, q) = rw (p, q, e, eq-eqb (number_of judged) 0 zero) (refl, refl)
