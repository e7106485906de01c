-- What a judge gave, read back: nothing where the answer refuses nothing, and otherwise the answer itself. Assumes nothing.
use Rattle.std.proofs.Common.{◌≡◌, Bool, true, false, cond, refl, Result, Ok, Err}
use Rattle.std.proofs.lemmas.Bool.{eqb-true}
use Rattle.std.proofs.Math.Dec.{eqb}
use Rattle.params.specs.declared.answers.Answer.{Answer}
use Rattle.params.specs.Answers.{number_of}
use Rattle.params.specs.Refusals.{as_result}

abbrev Judgement : Type 0
Judgement = Result (Unit {0}) Answer

module _ (a : Answer) where
  -- where t says whether it refuses nothing
  abbrev judged : Bool → Judgement
  judged t = cond t (Ok tt) (Err a)

  accepts_by : (t : Bool) {r : Judgement} → r ≡ Ok tt → r ≡ judged t → t ≡ true
  accepts_by true e j = refl
  accepts_by false e j = cc

  pub ok_zero : {r : Judgement} → r ≡ Ok tt → r ≡ as_result a → number_of a ≡ 0
  ok_zero e j = eqb-true (number_of a) 0 (accepts_by (eqb (number_of a) 0) e j)

  refuses_by : (t : Bool) {r : Judgement} {b : Answer} → r ≡ Err b → r ≡ judged t → (b ≡ a) × (t ≡ false)
  refuses_by true e j = cc
  refuses_by false e j = (cc, refl)

  pub err_is : {r : Judgement} {b : Answer} → r ≡ Err b → r ≡ as_result a → (b ≡ a) × (eqb (number_of a) 0 ≡ false)
  err_is e j = refuses_by (eqb (number_of a) 0) e j
