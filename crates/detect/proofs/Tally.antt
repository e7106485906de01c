-- The tally's laws: what a candidate that is judged, or one that is passed over, does to it; and the six counts by subtraction. Assumes nothing.
use mathlib.Core.Path.{◌≡◌, refl, sym, ap, ◌∙◌}
use mathlib.Core.Bool.{Bool, true, false, cond}
use Prim.Native.Nat.{ℕ, ◌+◌, ◌≤◌}
use native.Mathlib.Nat.{add-zero}
use native.Mathlib.Omega.{arith}
use borrow.Author.Tests.{eqb-true, eqb-false}
use mathlib.Core.List.{List, [], ◌∷◌, ◌++◌}
use lib.ListN.{length, length-append}
use lib.Dec.{eqb}
use Rattle.grid.specs.Each.{each, once, keep, count}
use Rattle.grid.proofs.Each.{count-append, count_yes, count_no}
use Rattle.params.specs.declared.answers.Verdicts.{Verdicts}
use Rattle.verdict.specs.declared.Verdict.{Verdict}
use Rattle.verdict.specs.declared.Verdict.TheVariants.{NotAbove, Beaten, TooFew, TooFlat, WrongCurvature, Kept}
use Rattle.verdict.specs.Verdict.{is_kept, rank, same_verdict}
use Rattle.detect.specs.Scan.{Tally, count_of, more, plus}

-- ---- verdicts by rank

pub early_dropped : (v : Verdict) → rank v ≤ 1 → is_kept v ≡ false
early_dropped NotAbove l = refl
early_dropped Beaten l = refl
early_dropped TooFew l = refl
early_dropped TooFlat l = refl
early_dropped WrongCurvature l = refl
early_dropped Kept l = absurd (omega arith)

-- the last rank is that of the kept
pub kept_last : (v : Verdict) → is_kept v ≡ eqb (rank v) 5
kept_last NotAbove = refl
kept_last Beaten = refl
kept_last TooFew = refl
kept_last TooFlat = refl
kept_last WrongCurvature = refl
kept_last Kept = refl

-- ---- n more that have the verdict v

module _ (t : Verdicts) where
  pub wider : {m n : ℕ} → Tally t m → m ≤ n → Tally t n
  wider h l = record {
    not_above = omega arith;
    beaten = omega arith;
    too_few = omega arith;
    too_flat = omega arith;
    wrong_curvature = omega arith;
    kept = omega arith;
  }

  module _ (v : Verdict) (n : ℕ) where
    plus_at : (u : Verdict) → count_of u (plus t v n) ≡ count_of u t + more v u n
    plus_at NotAbove = refl
    plus_at Beaten = refl
    plus_at TooFew = refl
    plus_at TooFlat = refl
    plus_at WrongCurvature = refl
    plus_at Kept = refl

    -- the count of u has them where u is v
    plus_yes : (u : Verdict) → same_verdict v u ≡ true → count_of u (plus t v n) ≡ count_of u t + n
    plus_yes u e = plus_at u ∙ ap (λ (b : Bool). count_of u t + cond b n 0) e

    plus_no : (u : Verdict) → same_verdict v u ≡ false → count_of u (plus t v n) ≡ count_of u t
    plus_no u e = plus_at u ∙ ap (λ (b : Bool). count_of u t + cond b n 0) e ∙ add-zero _

    pub tally-plus : {m : ℕ} → Tally t m → Tally (plus t v n) (m + n)
    tally-plus h = record {
      not_above = omega (arith, h.not_above, few NotAbove);
      beaten = omega (arith, h.beaten, few Beaten);
      too_few = omega (arith, h.too_few, few TooFew);
      too_flat = omega (arith, h.too_flat, few TooFlat);
      wrong_curvature = omega (arith, h.wrong_curvature, few WrongCurvature);
      kept = omega (arith, h.kept, few Kept);
    }
      where
        at_most : (b : Bool) → cond b n 0 ≤ n
        at_most true = omega arith
        at_most false = omega arith

        few : (u : Verdict) → more v u n ≤ n
        few u = at_most (same_verdict v u)

  -- as the code adds those that are beaten
  pub plus_beaten : (n : ℕ) → ◌≡◌ {A = Verdicts} (record {
    not_above = t.not_above;
    beaten = t.beaten + n;
    too_few = t.too_few;
    too_flat = t.too_flat;
    wrong_curvature = t.wrong_curvature;
    kept = t.kept;
  }) (plus t Beaten n)
  plus_beaten n = simp add-zero

  -- the kept ones
  pub kept_more : (v : Verdict) → is_kept v ≡ true → (plus t v 1).kept ≡ t.kept + 1
  kept_more v e = plus_yes v 1 Kept (sym (kept_last v) ∙ e)

  pub kept_same : (v : Verdict) → is_kept v ≡ false → (plus t v 1).kept ≡ t.kept
  kept_same v e = plus_no v 1 Kept (sym (kept_last v) ∙ e)

-- ---- what it has counted: v is the verdict on each of the places l

module _ {A : Type 0} (v : A → Verdict) (u : Verdict) (t : Verdicts) (l : List A) where
  -- the count of u is that of the places of its rank
  abbrev Counts : Verdicts → List A → Type 0
  Counts t l = count_of u t ≡ count (λ p. eqb (rank (v p)) (rank u)) l

  pub counts_more : (a : A) → Counts t l → Counts (plus t (v a) 1) (l ++ (a ∷ []))
  counts_more a h = go (same_verdict (v a) u) refl
    where
      go : (q : Bool) → same_verdict (v a) u ≡ q → Counts (plus t (v a) 1) (l ++ (a ∷ []))
      go true e = plus_yes t (v a) 1 u e ∙ count_yes _ l a h e
      go false e = plus_no t (v a) 1 u e ∙ count_no _ l a h e

  -- n of the places m are beaten, and none has passed more
  pub counts_passed : (m : List A) {n : ℕ} → 1 ≤ rank u → n ≡ count (λ p. eqb (rank (v p)) 1) m
      → (2 ≤ rank u → count (λ p. eqb (rank (v p)) (rank u)) m ≡ 0) → Counts t l → Counts (plus t Beaten n) (l ++ m)
  counts_passed m {n} b one none h = go (eqb 1 (rank u)) refl
    where
      go : (q : Bool) → eqb 1 (rank u) ≡ q → Counts (plus t Beaten n) (l ++ m)
      go true e =
          let s : 1 ≡ rank u = eqb-true 1 (rank u) e in
          plus_yes t Beaten n u e ∙ (λ i. h i + (one ∙ ap (λ (j : ℕ). count (λ p. eqb (rank (v p)) j) m) s) i)
          ∙ sym (count-append (λ p. eqb (rank (v p)) (rank u)) l m)
      go false e =
          plus_no t Beaten n u e ∙ h
          ∙ omega (arith, none (omega (arith, eqb-false 1 (rank u) e)), count-append (λ p. eqb (rank (v p)) (rank u)) l m)

-- ---- the six counts together

module _ {A : Type 0} (v : A → Verdict) where
  abbrev pub of : Verdict → List A → ℕ
  of u l = count (λ p. same_verdict (v p) u) l

  -- every entry is of one of the six
  pub six_are_all : (l : List A) → of NotAbove l + of Beaten l + of TooFew l + of TooFlat l + of WrongCurvature l + of Kept l ≡ length l
  unfolding count keep each
  six_are_all [] = refl
  six_are_all (a ∷ l) = omega (
    arith,
    next NotAbove,
    next Beaten,
    next TooFew,
    next TooFlat,
    next WrongCurvature,
    next Kept,
    one (v a),
    six_are_all l,
  )
    where
      here : Verdict → Verdict → ℕ
      here w u = length (once (same_verdict w u) a)

      next : (u : Verdict) → of u (a ∷ l) ≡ here (v a) u + of u l
      next u = length-append (once (same_verdict (v a) u) a) (keep (λ p. same_verdict (v p) u) l)

      one : (w : Verdict) → here w NotAbove + here w Beaten + here w TooFew + here w TooFlat + here w WrongCurvature + here w Kept ≡ 1
      one NotAbove = refl
      one Beaten = refl
      one TooFew = refl
      one TooFlat = refl
      one WrongCurvature = refl
      one Kept = refl
