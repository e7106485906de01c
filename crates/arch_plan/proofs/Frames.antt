-- Where a camera's frame is due: the tests of `due_in` in their order, and how many bytes are gone behind it. Assumes nothing.
use Rattle.std.specs.Prelude.{Result, Ok, Err}
use mathlib.Core.Path.{◌≡◌, refl, ap, ◌∙◌}
use mathlib.Core.Bool.{Bool, true, false, cond}
use mathlib.Core.List.{List}
use Prim.Native.Nat.{ℕ, ◌+◌, ◌-◌, ◌≤◌, ◌<◌}
use native.Mathlib.Omega.{arith}
use borrow.Author.Tests.{lt-ltb, le-ltb, ltb-false}
use lib.Dec.{ltb}
use lib.ListN.{length, drop}
use lib.Seq.{drop-length}
use Rattle.big_endian.specs.BigEndian.{word_at}
use Rattle.params.specs.declared.answers.Answer.{Answer}
use Rattle.params.specs.declared.answers.Answer.TheVariants.{FileTooShort, StatedLength}
use Rattle.arch_plan.specs.Plan.{due_in, behind}
use Rattle.arch_plan.specs.Gone.{gone_by}

module _ (rest : List ℕ) where
  pub too_short : length rest < 5 → Err FileTooShort ≡ due_in rest
  unfolding due_in
  too_short h = rw (lt-ltb (length rest) 5 h)

  -- n is the stated length
  module _ {n : ℕ} (is : n ≡ word_at rest 1) (five : 5 ≤ length rest) where
    pub past_the_end : length rest - 5 < n → Err StatedLength ≡ due_in rest
    unfolding due_in
    past_the_end h =
        let past : length rest < 5 + n = omega arith in
        rw (le-ltb (length rest) 5 five, ← is, lt-ltb (length rest) (5 + n) past)

    pub lies_whole : n ≤ length rest - 5 → Ok (5 + n) ≡ due_in rest
    unfolding due_in
    lies_whole h =
        let fits : 5 + n ≤ length rest = omega arith in
        rw (le-ltb (length rest) 5 five, ← is, le-ltb (length rest) (5 + n) fits)

  -- a frame that lies whole in what is left is no longer than that
  pub whole_in : {n : ℕ} → due_in rest ≡ Ok n → n ≤ length rest
  unfolding due_in
  whole_in {n} e = by_tests (ltb (length rest) 5) (ltb (length rest) (5 + word_at rest 1)) (ltb-false (length rest) (5 + word_at rest 1)) e
    where
      by_tests : (s t : Bool) → (t ≡ false → 5 + word_at rest 1 ≤ length rest)
          → cond s (Err FileTooShort) (cond t (Err StatedLength) (Ok (5 + word_at rest 1))) ≡ Ok n → n ≤ length rest
      by_tests true t h e = absurd (let z : ◌≡◌ {A = ℕ} 0 1 = cc in omega arith)
      by_tests false true h e = absurd (let z : ◌≡◌ {A = ℕ} 0 1 = cc in omega arith)
      by_tests false false h e =
          let same : 5 + word_at rest 1 ≡ n = cc in
          omega (arith, h refl)

  -- what is gone of it lies in it
  within : (d : Result ℕ Answer) → due_in rest ≡ d → gone_by d (length rest) ≤ length rest
  within (Ok n) e = whole_in e
  within (Err a) e = omega arith

  behind_it : (d : Result ℕ Answer) → drop (gone_by d (length rest)) rest ≡ behind rest d
  behind_it (Ok n) = refl
  behind_it (Err a) = drop-length rest

  -- and the next frame is due behind it
  module _ {n : ℕ} (gone : n ≡ gone_by (due_in rest) (length rest)) where
    pub gone_within : n ≤ length rest
    gone_within = omega (arith, within _ refl)

    pub next_rest : drop n rest ≡ behind rest (due_in rest)
    next_rest = ap (λ (k : ℕ). drop k rest) gone ∙ behind_it (due_in rest)
