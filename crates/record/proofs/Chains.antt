-- Which lists the writer takes and which records the reader takes, fact by fact: the chains of refusals end in `Complete`
-- exactly there, and then the calls answer and leave what is read or written. `v` is the version and `k` the numbers a corner
-- has. Assumes nothing.
use mathlib.Core.Path.{◌≡◌, refl, sym, ap, ◌∙◌}
use mathlib.Core.Bool.{Bool, true, false, not, ◌||◌, cond, true≢false}
use mathlib.Core.List.{List, [], ◌∷◌}
use Prim.Native.Nat.{ℕ, zero, suc, ◌+◌, ◌-◌, ◌*◌, ◌≤◌, ◌<◌, suc-le-suc}
use native.Mathlib.Nat.{le_of_suc-le-suc, not-suc-le-zero, zero-lt-suc, mul-div-le}
use native.Mathlib.Omega.{arith}
use borrow.Author.Tests.{le-ltb, eq-eqb, ne_eqb}
use lib.Dec.{T, ltb, eqb}
use lib.Ieee.{Float, nan}
use lib.Ieee.Scale.{finite}
use lib.ListN.{length, get_or}
use lib.Seq.{length-take-le, get_or-take}
use Rattle.grid.specs.Each.{any}
use Rattle.grid.specs.Fill.{filled}
use Rattle.grid.specs.Over.{over}
use Rattle.grid.specs.Rect.{range}
use Rattle.grid.proofs.Each.{any_append}
use Rattle.grid.proofs.Rect.{range_at, any_range_none}
use Rattle.big_endian.specs.BigEndian.{byte_at, half_at}
use Rattle.params.specs.declared.answers.Answer.{Answer}
use Rattle.params.specs.declared.answers.Answer.TheVariants.{Complete, CornerCount, NotFinite, OutputTooShort}
use Rattle.params.specs.declared.answers.Outcome.{Outcome}
use Rattle.params.specs.Answers.{number_of, no_verdicts, refused}
use Rattle.params.proofs.Accepted.{neither}
use Rattle.record.specs.Record.{most, stray, outcome_with, corners_in, whole_of, head, following, record_of}
use Rattle.record.specs.Record.{write_refusal, write_outcome, written, stated_in, count_in, number_in, read_refusal, read_outcome, read_back}
use Rattle.record.proofs.Taken.{write_known, read_known}

-- ---- a chain of refusals

clear : (t : Bool) (a b : Answer) → t ≡ false → b ≡ Complete → cond t a b ≡ Complete
clear t a b e f = rw e f

both_false : (s t : Bool) → s ≡ false → t ≡ false → (s || t) ≡ false
both_false s t p q = rw (p, q)

true_not : (t : Bool) → t ≡ true → not t ≡ false
true_not t e = rw e

-- ---- numbers of which none is stray

not_stray : (x : Float) → T (finite x) → stray x ≡ false
not_stray x t = go (finite x) t
  where
    go : (b : Bool) → T b → not b ≡ false
    go true t = refl
    go false t = absurd t

is_finite : (x : Float) → stray x ≡ false → T (finite x)
is_finite x e = go (finite x) e
  where
    go : (b : Bool) → not b ≡ false → T b
    go true e = tt
    go false e = absurd (true≢false e)

module _ {A : Type 0} (p : A → Bool) (z : A) where
  any_false : (l : List A) → ((i : ℕ) → i < length l → p (get_or l i z) ≡ false) → any p l ≡ false
  unfolding any
  any_false [] h = refl
  any_false (a ∷ l) h = both_false (p a) (any p l) (h 0 (zero-lt-suc _)) (any_false l (λ i b. h (suc i) (suc-le-suc b)))

  none-at : (l : List A) → any p l ≡ false → (i : ℕ) → i < length l → p (get_or l i z) ≡ false
  unfolding any
  none-at [] e i b = absurd (not-suc-le-zero b)
  none-at (a ∷ l) e zero b = (neither (p a) (any p l) e).0
  none-at (a ∷ l) e (suc i) b = none-at l (neither (p a) (any p l) e).1 i (le_of_suc-le-suc b)

none_in_range : (p : ℕ → Bool) (n : ℕ) → any p (range 0 n) ≡ false → (i : ℕ) → i < n → p i ≡ false
unfolding any
none_in_range p n e i b =
    let r = range 0 i in
    let f : (any p r || any p (i ∷ range (i + 1) n)) ≡ false =
    sym (any_append p r (i ∷ range (i + 1) n)) ∙ ap (any p) (sym (range_at 0 i n (omega arith) b)) ∙ e in
    (neither (p i) (any p (range (i + 1) n)) (neither (any p r) (any p (i ∷ range (i + 1) n)) f).1).0

-- ---- the writer's list

pub whole_length : (k : ℕ) (list : List Float) → length (whole_of k list) ≡ k * corners_in k list
whole_length k list = length-take-le (k * corners_in k list) list (mul-div-le (length list) k)

-- the first n numbers are finite
abbrev pub Finite : ℕ → List Float → Type 0
Finite n list = (i : ℕ) → i < n → T (finite (get_or list i nan))

whole_finite : (k : ℕ) (list : List Float) → Finite (k * corners_in k list) list → any stray (whole_of k list) ≡ false
whole_finite k list h =
    any_false stray nan (whole_of k list)
    (λ i b.
    let c : i < k * corners_in k list = rw (whole_length k list) at b in
    rw (get_or-take (k * corners_in k list) list i nan c) (not_stray (get_or list i nan) (h i c)))

finite_whole : (k : ℕ) (list : List Float) → any stray (whole_of k list) ≡ false → Finite (k * corners_in k list) list
finite_whole k list e i c =
    let b : i < length (whole_of k list) = rw (whole_length k list) c in
    rw (get_or-take (k * corners_in k list) list i nan c) at (is_finite (get_or (whole_of k list) i nan) (none-at stray nan (whole_of k list) e i b))

pub record Takes (k : ℕ) (list : List Float) (room : ℕ) : Type 0 where
  pub few : corners_in k list ≤ most
  pub numbers : Finite (k * corners_in k list) list
  pub fits : head + 4 * (k * corners_in k list) ≤ room

module _ (k : ℕ) (list : List Float) (room : ℕ) where
  takes : Takes k list room → write_refusal k list room ≡ Complete
  unfolding write_refusal
  takes t =
      clear _ _ _ (le-ltb most (corners_in k list) t.few)
      (clear _ _ _ (whole_finite k list t.numbers)
      (clear _ _ _ (le-ltb room (head + 4 * (k * corners_in k list)) t.fits)
      refl))

  taken : write_refusal k list room ≡ Complete → Takes k list room
  taken e =
      let t = write_known k list room (ap number_of e) in
      record { few = t.few; numbers = finite_whole k list t.finite; fits = t.fits }

  -- finite numbers get another answer than 19, if any
  pub finite_passes : Finite (k * corners_in k list) list → write_refusal k list room ≡ NotFinite → ⊥
  unfolding write_refusal
  finite_passes h e =
      other (ltb most (corners_in k list)) (ltb room (head + 4 * (k * corners_in k list))) (rw (whole_finite k list h) at e)
    where
      other : (s t : Bool) → cond s CornerCount (cond t OutputTooShort Complete) ≡ NotFinite → ⊥
      other true t e =
          let z : ◌≡◌ {A = ℕ} 18 19 = ap number_of e in
          omega arith
      other false true e =
          let z : ◌≡◌ {A = ℕ} 20 19 = ap number_of e in
          omega arith
      other false false e =
          let z : ◌≡◌ {A = ℕ} 0 19 = ap number_of e in
          omega arith

-- ---- the reader's record

pub record Sound (v k : ℕ) (file : List ℕ) (room : ℕ) : Type 0 where
  pub long : head ≤ length file
  pub stated : stated_in file ≡ length file - 5
  pub first : byte_at file 0 ≡ v
  pub agrees : stated_in file ≡ following k (count_in file)
  pub few : count_in file ≤ most
  pub numbers : (i : ℕ) → i < k * count_in file → T (finite (number_in file i))
  pub fits : k * count_in file ≤ room

module _ (v k : ℕ) (file : List ℕ) (room : ℕ) where
  reads : Sound v k file room → read_refusal v k file room ≡ Complete
  unfolding read_refusal
  reads s =
      clear _ _ _
      (both_false _ _ (le-ltb (length file) head s.long) (true_not _ (eq-eqb (stated_in file) (length file - 5) s.stated)))
      (clear _ _ _ (true_not _ (eq-eqb (byte_at file 0) v s.first))
      (clear _ _ _
      (both_false _ _ (true_not _ (eq-eqb (stated_in file) (following k (count_in file)) s.agrees)) (le-ltb most (count_in file) s.few))
      (clear _ _ _ (any_range_none (λ i. stray (number_in file i)) 0 (k * count_in file) (λ i a b. not_stray (number_in file i) (s.numbers i b)))
      (clear _ _ _ (le-ltb room (k * count_in file) s.fits)
      refl))))

  sound : read_refusal v k file room ≡ Complete → Sound v k file room
  sound e =
      let t = read_known v k file room (ap number_of e) in
      record {
        long = t.long;
        stated = t.stated;
        first = t.version;
        agrees = t.agrees;
        few = t.few;
        numbers = λ i l. is_finite (number_in file i) (none_in_range (λ j. stray (number_in file j)) (k * count_in file) t.finite i l);
        fits = t.fits;
      }

-- ---- what is answered and left

abbrev pub complete : ℕ → ℕ → ℕ → Outcome
complete n w h = record { answer = Complete; count = n; w = w; h = h; verdicts = no_verdicts }

module _ (a : Answer) (n w h : ℕ) where
  pub answer_is : (outcome_with a n w h).answer ≡ a
  answer_is = go (eqb (number_of a) 0)
    where
      go : (t : Bool) → (cond t (record { answer = a; count = n; w = w; h = h; verdicts = no_verdicts }) (refused a)).answer ≡ a
      go true = refl
      go false = refl

  complete_is : a ≡ Complete → outcome_with a n w h ≡ complete n w h
  complete_is e = rw e

  pub refused-is : (number_of a ≡ 0 → ⊥) → outcome_with a n w h ≡ refused a
  refused-is z = rw (ne_eqb (number_of a) 0 z)

module _ (v k w h : ℕ) (list : List Float) (out : List ℕ) where
  pub written_takes : (write_outcome k w h list (length out)).answer ≡ Complete → Takes k list (length out)
  unfolding write_outcome
  written_takes e = taken k list (length out) (sym (answer_is (write_refusal k list (length out)) (corners_in k list) w h) ∙ e)

  pub wrote_is : Takes k list (length out) → write_outcome k w h list (length out) ≡ complete (corners_in k list) w h
  unfolding write_outcome
  wrote_is t = complete_is (write_refusal k list (length out)) (corners_in k list) w h (takes k list (length out) t)

  pub written_is : Takes k list (length out) → written v k w h list out ≡ over (record_of v k w h list) out
  unfolding written
  written_is t = rw (takes k list (length out) t)

module _ (v k : ℕ) (file : List ℕ) (old : List Float) where
  pub taken_sound : (read_outcome v k file (length old)).answer ≡ Complete → Sound v k file (length old)
  unfolding read_outcome
  taken_sound e =
      sound v k file (length old) (sym (answer_is (read_refusal v k file (length old)) (count_in file) (half_at file 5) (half_at file 7)) ∙ e)

  pub read_is : Sound v k file (length old) → read_outcome v k file (length old) ≡ complete (count_in file) (half_at file 5) (half_at file 7)
  unfolding read_outcome
  read_is s = complete_is (read_refusal v k file (length old)) (count_in file) (half_at file 5) (half_at file 7) (reads v k file (length old) s)

  pub back_is : Sound v k file (length old) → read_back v k file old ≡ filled (k * count_in file) (number_in file) old
  unfolding read_back
  back_is s = rw (reads v k file (length old) s)
