-- What a call that is not refused has passed, and what it answers: the steps behind `detect_peaks_from_radon`. Assumes nothing.
use Rattle.std.specs.Prelude.{Ok, Err}
use mathlib.Core.Path.{◌≡◌, refl, ap, ◌∙◌}
use mathlib.Core.Bool.{Bool, true, false, ◌||◌, cond}
use Prim.Native.Nat.{ℕ, ◌*◌, ◌/◌, ◌≤◌, min}
use native.Mathlib.Omega.{arith}
use borrow.Author.Tests.{ltb-false, le-leb, lt-leb, leb-true, leb-false, eq-eqb}
use mathlib.Core.List.{List}
use lib.ListN.{length}
use lib.Dec.{ltb, leb, eqb}
use lib.Ieee.{Float}
use Rattle.params.specs.declared.answers.Answer.{Answer}
use Rattle.params.specs.declared.answers.Answer.TheVariants.{Complete, ListFull, SideTooLong, TooManyPixels}
use Rattle.params.specs.declared.answers.Verdicts.{Verdicts}
use Rattle.params.specs.declared.answers.Outcome.{Outcome}
use Rattle.params.specs.declared.settings.RadonDetectorParams.{RadonDetectorParams}
use Rattle.params.specs.Answers.{number_of, refused}
use Rattle.params.specs.Refusals.{or_else, map_refusal, list_refusal, room_refusal, as_result}
use Rattle.params.proofs.Judged.{ok_zero, err_is}
use Rattle.params.proofs.Accepted.{both_pass, map_passes, list_passes, room_passes}
use Rattle.verdict.specs.declared.Scan.{Scan}
use Rattle.detect.specs.Corners.{stride}
use Rattle.detect.specs.Detected.{working_refusal, peaks_refusal, refusal_for, full_or, peaks_outcome, list_of}
use Rattle.detect.specs.Scan.{scan_of, Asked, Found}

passed : (p q t : Bool) → number_of (cond (p || q) SideTooLong (cond t TooManyPixels Complete)) ≡ 0 → (p ≡ false) × (q ≡ false)
passed true q t e = absurd (omega arith)
passed false true t e = absurd (omega arith)
passed false false t e = (refl, refl)

pub working_passes : (w h : ℕ) → number_of (working_refusal w h) ≡ 0 → (w ≤ 8192) × (h ≤ 8192)
unfolding working_refusal
working_passes w h e =
    let a = passed (ltb 8192 w) (ltb 8192 h) (ltb 8388608 (w * h)) e in
    (ltb-false 8192 w a.0, ltb-false 8192 h a.1)

pub asked : (s : RadonDetectorParams) (w h a b : ℕ) → number_of (peaks_refusal w h s (min a b)) ≡ 0 → Asked s w h a b
unfolding peaks_refusal
asked s w h a b e =
    let last = room_refusal (w * h) (min a b) in
    let x = both_pass (working_refusal w h) (or_else (map_refusal s) (or_else (list_refusal w h s) last)) e in
    let y = both_pass (map_refusal s) (or_else (list_refusal w h s) last) x.1 in
    let z = both_pass (list_refusal w h s) last y.1 in
    let size = working_passes w h x.0 in
    let map = map_passes s y.0 in
    let list = list_passes w h s z.0 in
    let room = room_passes (w * h) (min a b) z.1 in
    record {
      wide = size.0;
      high = size.1;
      ray = map.ray;
      suppression = list.suppression;
      wider = list.wider;
      higher = list.higher;
      response = omega arith;
      working = omega arith;
    }

-- all are stored where all have room
leb_min : (a b : ℕ) → leb a (min a b) ≡ leb a b
leb_min a b = go (leb a b) refl
  where
    go : (t : Bool) → leb a b ≡ t → leb a (min a b) ≡ t
    go true e = le-leb a (min a b) (omega (arith, leb-true a b e))
    go false e = lt-leb a (min a b) (omega (arith, leb-false a b e))

pub all_stored : (found room : ℕ) {n : ℕ} {r : Answer} → n ≡ min found room → r ≡ full_or found n → r ≡ full_or found room
all_stored found room e f = f ∙ ap (full_or found) e ∙ ap (λ (t : Bool). cond t Complete ListFull) (leb_min found room)

-- ---- the two ends of a call, by what the judge gave

module _ (s : RadonDetectorParams) (w h : ℕ) (resp : List Float) (image : List ℕ) (old : List Float) where
  -- the two promises, of what is answered and of what the list holds
  abbrev Promised : Outcome → List Float → Type 0
  Promised r out = (r ≡ peaks_outcome s w h resp image (length old)) × (out ≡ list_of s w h resp image old)

  pub refuses : {a : Answer} {r : Outcome} → Err a ≡ as_result (refusal_for s w h resp image) → r ≡ refused a → Promised r old
  unfolding peaks_outcome list_of
  refuses j e =
      let i = err_is (refusal_for s w h resp image) refl j in
      rw i.1 (e ∙ ap refused i.0, refl)

  pub passes_on : Ok tt ≡ as_result (refusal_for s w h resp image) → Asked s w h (length resp) (length image)
  passes_on j = asked s w h (length resp) (length image) (ok_zero (refusal_for s w h resp image) refl j)

  pub answers : {c : Scan} {found : Verdicts} {out : List Float} {r : Answer} → Ok tt ≡ as_result (refusal_for s w h resp image)
      → c ≡ scan_of s w h resp → Found c resp image old found out
      → r ≡ full_or found.kept (length old / stride) → Promised (record { answer = r; count = found.kept; w = w; h = h; verdicts = found }) out
  unfolding peaks_outcome list_of
  answers j by t e =
      let q : eqb (number_of (refusal_for s w h resp image)) 0 ≡ true = eq-eqb _ 0 (ok_zero (refusal_for s w h resp image) refl j) in
      let f = rw by at t in
      let full = e ∙ ap (λ (n : ℕ). full_or n (length old / stride)) f.count in
      rw q ((λ i. record { answer = full i; count = f.count i; w = w; h = h; verdicts = f.verdicts i }), f.list)
