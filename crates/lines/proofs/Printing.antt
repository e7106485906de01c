-- Which line of the printed ones stands at a number, and how many there are. Assumes nothing.
use mathlib.Core.Path.{◌≡◌, refl, sym, ap, subst, ◌∙◌}
use mathlib.Core.Bool.{Bool, true, false, true≢false}
use denote.Enum.Bare.{sameb}
use Rattle.params.specs.contracts.answers.Answer.{the_type}
use mathlib.Core.List.{List, [], ◌∷◌, ◌++◌}
use mathlib.Core.Logic.{◌⊎◌, inl, inr}
use Prim.Native.Nat.{ℕ, zero, suc, ◌+◌, ◌-◌, ◌*◌, ◌≤◌, ◌<◌}
use native.Mathlib.Nat.{le_of_suc-le-suc, not-suc-le-zero, suc-mul, zero-mul, add_comm}
use native.Mathlib.Omega.{arith}
use borrow.Author.Tests.{lt-ltb, le-ltb, eq-eqb, ne_eqb}
use lib.Dec.{eqb}
use lib.Ieee.{Float}
use lib.ListN.{length, get_or, take, drop, length-append, get_or-append, get_or-eq_default}
use lib.Seq.{get_or-append-add, drop-drop, drop-cons}
use Rattle.params.specs.declared.answers.Answer.{Answer}
use Rattle.params.specs.declared.answers.Answer.TheVariants.{Complete, ListFull}
use Rattle.params.specs.declared.answers.Outcome.{Outcome}
use Rattle.params.specs.Answers.{number_of}
use Rattle.lines.specs.declared.Line.{Line}
use Rattle.lines.specs.Printed.{refused_line, first_line, corner_line, corner_lines, stored}
use Rattle.lines.specs.Printed.{full_line, last_lines, printed}
use Rattle.lines.specs.Lines.{Shows, blank}
use Rattle.lines.proofs.Appended.{shows}

-- ---- the corners' lines

pub length-corners : (stride n : ℕ) (list : List Float) → length (corner_lines stride n list) ≡ n
unfolding corner_lines
length-corners stride zero list = refl
length-corners stride (suc n) list = ap suc (length-corners stride n (drop stride list))

corner_at : (stride n : ℕ) (list : List Float) (k : ℕ) → k < n
    → get_or (corner_lines stride n list) k [] ≡ corner_line (take stride (drop (k * stride) list))
unfolding corner_lines
corner_at stride zero list k h = absurd (not-suc-le-zero h)
corner_at stride (suc n) list zero h = rw zero-mul
corner_at stride (suc n) list (suc k) h =
    let further = add_comm stride (k * stride) ∙ sym (suc-mul k stride) in
    corner_at stride n (drop stride list) k (le_of_suc-le-suc h)
    ∙ ap (λ (l : List Float). corner_line (take stride l)) (drop-drop (k * stride) stride list)
    ∙ ap (λ (m : ℕ). corner_line (take stride (drop m list))) further

-- three numbers of a list
pub three : (list : List Float) (at : ℕ) (d : Float) → at + 2 < length list
    → take 3 (drop at list) ≡ get_or list at d ∷ get_or list (at + 1) d ∷ get_or list (at + 2) d ∷ []
three list at d h =
    let e : at + 1 ≡ suc at = omega arith in
    let f : at + 2 ≡ suc (suc at) = omega arith in
    let a = drop-cons list at d (omega arith) in
    let b = drop-cons list (suc at) d (omega arith) in
    let c = drop-cons list (suc (suc at)) d (omega arith) in
    rw (e, f, a, b, c)

-- ---- a refusal's only line

pub refusal_number : (a : Answer) → (a ≡ Complete → ⊥) → (a ≡ ListFull → ⊥) → 1 < number_of a
refusal_number a h i = grind arith

-- n is the answer's number, and it is a refusal's
pub record Refusal (o : Outcome) (n : ℕ) : Type 0 where
  pub number : n ≡ number_of o.answer
  pub more : 1 < n

module _ (stride : ℕ) (list : List Float) {o : Outcome} {n : ℕ} (r : Refusal o n) where
  refusal : printed stride o list ≡ refused_line n ∷ []
  unfolding printed
  refusal = rw (← r.number, lt-ltb 1 n r.more)

  pub refused-length : 1 ≡ length (printed stride o list)
  refused-length = rw refusal

  pub refused-at : {i : ℕ} → i ≡ 0 → refused_line n ≡ get_or (printed stride o list) i []
  refused-at e = rw (refusal, e)

  pub refused_past : (i : ℕ) → (i ≡ 0 → ⊥) → [] ≡ get_or (printed stride o list) i []
  refused_past zero h = absurd (h refl)
  refused_past (suc i) h = rw refusal

-- ---- the lines of a list

-- n is the answer's number, and no refusal's; so many corners are stored
pub record Listing (stride : ℕ) (o : Outcome) (list : List Float) (n corners : ℕ) : Type 0 where
  pub number : n ≡ number_of o.answer
  pub few : n ≤ 1
  pub all : corners ≡ stored stride o.count list

few : (a : Answer) → (a ≡ Complete) ⊎ (a ≡ ListFull) → number_of a ≤ 1
few a (inl e) = rw e (omega arith)
few a (inr e) = rw e (omega arith)

-- `==` of an answer that is one of these
pub is_full : (a : Answer) → (a ≡ Complete) ⊎ (a ≡ ListFull) → true ≡ sameb the_type a ListFull → number_of a ≡ 1
is_full a (inl e) h = absurd (true≢false (rw e at h))
is_full a (inr e) h = rw e

pub not_full : (a : Answer) → (a ≡ Complete) ⊎ (a ≡ ListFull) → false ≡ sameb the_type a ListFull → number_of a ≡ 1 → ⊥
not_full a (inl e) h z = let k : ◌≡◌ {A = ℕ} 0 1 = rw e at z in omega arith
not_full a (inr e) h z = absurd (true≢false (sym (rw e at h)))

pub listing : {stride : ℕ} {o : Outcome} {list : List Float} {corners : ℕ} → (o.answer ≡ Complete) ⊎ (o.answer ≡ ListFull)
    → corners ≡ stored stride o.count list → Listing stride o list (number_of o.answer) corners
listing taken e = record { number = refl; few = few _ taken; all = e }

module _ {stride : ℕ} {o : Outcome} {list : List Float} {n corners : ℕ} (l : Listing stride o list n corners) where
  -- the corners' lines, and the one behind them
  abbrev corner_lines_lem : List (List ℕ)
  corner_lines_lem = corner_lines stride corners list

  abbrev last : List (List ℕ)
  last = last_lines (eqb n 1)

  listed : printed stride o list ≡ first_line o.w o.h o.count ∷ (corner_lines_lem ++ last)
  unfolding printed
  listed = rw (← l.number, le-ltb 1 n l.few, l.all)

  pub first-at : {i : ℕ} → i ≡ 0 → first_line o.w o.h o.count ≡ get_or (printed stride o list) i []
  first-at e = rw (listed, e)

  pub corner_line_lem : (i : ℕ) → (i ≡ 0 → ⊥) → i ≤ corners
      → corner_line (take stride (drop ((i - 1) * stride) list)) ≡ get_or (printed stride o list) i []
  corner_line_lem zero h m = absurd (h refl)
  corner_line_lem (suc k) h m =
      let e : suc k - 1 ≡ k = omega arith in
      let inside : k < length corner_lines_lem = omega (arith, length-corners stride corners list) in
      rw (listed, e, get_or-append corner_lines_lem last [] k inside) (sym (corner_at stride corners list k m))

  behind : (i : ℕ) → corners < i → get_or (printed stride o list) i [] ≡ get_or last (i - corners - 1) []
  behind zero h = absurd (not-suc-le-zero h)
  behind (suc k) h =
      let e : k ≡ length corner_lines_lem + (suc k - corners - 1) = omega (arith, length-corners stride corners list) in
      rw listed
      (ap (λ (j : ℕ). get_or (corner_lines_lem ++ last) j []) e
      ∙ get_or-append-add corner_lines_lem last (suc k - corners - 1) [])

  pub full_at : (i : ℕ) → n ≡ 1 → corners < i → i ≤ corners + 1 → full_line ≡ get_or (printed stride o list) i []
  full_at i e a b =
      let z : i - corners - 1 ≡ 0 = omega arith in
      rw (behind i a, eq-eqb n 1 e, z)

  pub none-at : (i : ℕ) → (n ≡ 1 → ⊥) → corners < i → [] ≡ get_or (printed stride o list) i []
  none-at i e a = rw (behind i a, ne_eqb n 1 e)

  pub past_at : (i : ℕ) → corners + 1 < i → [] ≡ get_or (printed stride o list) i []
  past_at i a =
      let z : 1 ≤ i - corners - 1 = omega arith in
      sym (behind i (omega arith) ∙ get_or-eq_default last [] (omega (arith, most (eqb n 1))))
    where
      most : (b : Bool) → length (last_lines b) ≤ 1
      most true = omega arith
      most false = omega arith

  long : length (printed stride o list) ≡ 1 + (corners + length last)
  long = rw (listed, length-append corner_lines_lem last, length-corners stride corners list) (omega arith)

  pub full_length : n ≡ 1 → corners + 2 ≡ length (printed stride o list)
  full_length e = omega (arith, rw (eq-eqb n 1 e) at long)

  pub whole_length : (n ≡ 1 → ⊥) → corners + 1 ≡ length (printed stride o list)
  whole_length e = omega (arith, rw (ne_eqb n 1 e) at long)

-- ---- a line that is shown

pub shows_as : {r : Line} {a b : List ℕ} → Shows a r → a ≡ b → Shows b r
shows_as {r} s e = subst (λ (t : List ℕ). Shows t r) e s

pub shows_nothing : {r : Line} → r ≡ blank → Shows [] r
shows_nothing e = shows [] e
