-- Which calls are taken: 21 is the only refusal, and a call that is not refused has two to eight cameras with a corner each. Assumes nothing.
use mathlib.Core.Path.{◌≡◌, refl}
use mathlib.Core.Bool.{Bool, true, false, cond}
use mathlib.Core.Logic.{◌⊎◌, inl, inr}
use Prim.Native.Nat.{ℕ, ◌/◌, ◌≤◌}
use native.Mathlib.Omega.{arith}
use borrow.Author.Tests.{ltb-false}
use lib.Dec.{ltb, eqb}
use Rattle.params.specs.declared.answers.Answer.TheVariants.{Complete, Cameras}
use Rattle.params.specs.Answers.{number_of}
use Rattle.detect.specs.Corners.{stride}
use Rattle.arch_plan.specs.Plan.{arch_refusal}

-- n cameras, and a list of m numbers
pub record Takes (n m : ℕ) : Type 0 where
  pub two : 2 ≤ n
  pub eight : n ≤ 8
  pub corner : n ≤ m / stride

-- three tests that refuse
tested : (s t u : Bool) → let a = cond s Cameras (cond t Cameras (cond u Cameras Complete)) in
    (a ≡ Cameras) ⊎ ((a ≡ Complete) × ((s ≡ false) × ((t ≡ false) × (u ≡ false))))
tested true t u = inl refl
tested false true u = inl refl
tested false false true = inl refl
tested false false false = inr (refl, (refl, (refl, refl)))

module _ (n m : ℕ) where
  judged : (arch_refusal n m ≡ Cameras) ⊎ ((arch_refusal n m ≡ Complete) × Takes n m)
  unfolding arch_refusal
  judged = elim (tested (ltb n 2) (ltb 8 n) (ltb (m / stride) n)) [
    | inl e ↦ inl e
    | inr (e, (s, (t, u))) ↦ inr (e, record { two = ltb-false n 2 s; eight = ltb-false 8 n t; corner = ltb-false (m / stride) n u })
  ]

  pub refuses : eqb (number_of (arch_refusal n m)) 0 ≡ false → arch_refusal n m ≡ Cameras
  refuses z = elim judged [ inl e ↦ e | inr (e, t) ↦ let z0 = rw e at z in cc ]

  pub takes : number_of (arch_refusal n m) ≡ 0 → (arch_refusal n m ≡ Complete) × Takes n m
  takes z = elim judged [
    | inl e ↦ absurd (let w : number_of Cameras ≡ 0 = rw e at z in omega arith)
    | inr t ↦ t
  ]
