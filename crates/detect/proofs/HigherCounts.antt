-- Demand 3, the six counts of a lower and a higher setting: a candidate keeps its verdict, or is not above the higher floor, or has too few for
-- the higher count. So with a higher fraction alone only "not above" grows. For every map. Assumes nothing.
use mathlib.Core.Path.{◌≡◌, refl, sym, ap, ◌∙◌}
use mathlib.Core.Logic.{◌⊎◌, inl, inr}
use mathlib.Core.Bool.{Bool, true, false, not, true≢false}
use Prim.Native.Nat.{ℕ, ◌+◌, ◌-◌, ◌*◌, ◌≤◌}
use native.Mathlib.Omega.{arith}
use lib.Dec.{T, leb}
use lib.Ieee.{Float, lt, le}
use Rattle.float.specs.Values.{f0, f1}
use lib.ListN.{length}
use Rattle.grid.specs.Each.{count}
use Rattle.grid.proofs.Each.{keep_ext, count-within}
use Rattle.grid.proofs.Rect.{length-rect}
use Rattle.grid.specs.Rect.{Place}
use Rattle.params.specs.declared.answers.Verdicts.{Verdicts}
use Rattle.params.specs.declared.settings.RadonDetectorParams.{RadonDetectorParams}
use Rattle.params.specs.Settings.{border_of}
use Rattle.saddle.specs.declared.Saddle.{Saddle}
use Rattle.saddle.specs.declared.Saddle.TheVariants.{Yes, Flat, Curved}
use Rattle.verdict.specs.declared.Verdict.{Verdict}
use Rattle.verdict.specs.declared.Verdict.TheVariants.{NotAbove, Beaten, TooFew, TooFlat, WrongCurvature, Kept}
use Rattle.verdict.specs.Window.{at, beaten, positives}
use Rattle.verdict.specs.Verdict.{first_failing, is_saddle, same_verdict, verdict}
use Rattle.detect.specs.Corners.{candidates, floor_of, having, verdicts_of}
use Rattle.detect.proofs.Tally.{six_are_all}
use Rattle.detect.proofs.Scanning.{not_above_is}
use Rattle.detect.proofs.HigherSettings.{raised, higher-floor, higher-count}

-- ---- together they are all candidates

abbrev pub total_of : Verdicts → ℕ
total_of v = v.not_above + v.beaten + v.too_few + v.too_flat + v.wrong_curvature + v.kept

-- "together they are (W − 2·border)(H − 2·border)"
pub total-is : (s : RadonDetectorParams) (w h : ℕ) (f : ℕ → ℕ → Float) (g : ℕ → ℕ → ℕ)
    → total_of (verdicts_of s w h f g) ≡ (w - 2 * border_of s) * (h - 2 * border_of s)
unfolding verdicts_of having
total-is s w h f g =
    let b = border_of s in
    let twice : (n : ℕ) → n - b - b ≡ n - 2 * b = λ n. omega arith in
    six_are_all (verdict s (floor_of s w h f) f g) (candidates w h b) ∙ length-rect b (w - b) b (h - b) ∙ rw (twice w, twice h)

-- ---- one candidate: its rules' answers at the lower setting, and those that a higher one makes sharper

-- the same verdict, or not above, or too few
module _ (m : Bool) (t : Saddle) where
  moved : (a a' e e' : Bool) → (T a' → T a) → (T e' → T e)
      → (first_failing a' m e' t ≡ first_failing a m e t) ⊎ ((first_failing a' m e' t ≡ NotAbove) ⊎ (first_failing a' m e' t ≡ TooFew))
  moved a false e e' f g = inr (inl refl)
  moved false true e e' f g = absurd (f tt)
  moved true true e false f g = few m
    where
      few : (m : Bool) → (first_failing true m false t ≡ first_failing true m e t) ⊎ ((first_failing true m false t ≡ NotAbove) ⊎ (first_failing true m false t ≡ TooFew))
      few false = inl refl
      few true = inr (inr refl)
  moved true true false true f g = absurd (g tt)
  moved true true true true f g = inl refl

  -- with the count as it is: the same, or not above
  moved_floor : (a a' e : Bool) → (T a' → T a) → (first_failing a' m e t ≡ first_failing a m e t) ⊎ (first_failing a' m e t ≡ NotAbove)
  moved_floor a false e f = inr refl
  moved_floor false true e f = absurd (f tt)
  moved_floor true true e f = inl refl

  -- with the floor as it is: the same, or too few
  moved_count : (a e e' : Bool) → (T e' → T e) → (first_failing a m e' t ≡ first_failing a m e t) ⊎ (first_failing a m e' t ≡ TooFew)
  moved_count false e e' g = inl refl
  moved_count true e false g = few m
    where
      few : (m : Bool) → (first_failing true m false t ≡ first_failing true m e t) ⊎ (first_failing true m false t ≡ TooFew)
      few false = inl refl
      few true = inr refl
  moved_count true false true g = absurd (g tt)
  moved_count true true true g = inl refl

-- who has u at the higher setting had it at the lower, if u is none of those that a candidate may come to
still : (v v' u : Verdict) → (v' ≡ v) ⊎ ((v' ≡ NotAbove) ⊎ (v' ≡ TooFew)) → same_verdict NotAbove u ≡ false → same_verdict TooFew u ≡ false
    → same_verdict v' u ≡ true → same_verdict v u ≡ true
still v v' u c a b e = elim c [
  | inl s ↦ ap (λ (v : Verdict). same_verdict v u) (sym s) ∙ e
  | inr d ↦ elim d [
    | inl s ↦ absurd (true≢false (sym e ∙ ap (λ (v : Verdict). same_verdict v u) s ∙ a))
    | inr s ↦ absurd (true≢false (sym e ∙ ap (λ (v : Verdict). same_verdict v u) s ∙ b))
  ]
]

still_few : (v v' : Verdict) → (v' ≡ v) ⊎ (v' ≡ NotAbove) → same_verdict v' TooFew ≡ true → same_verdict v TooFew ≡ true
still_few v v' c e = elim c [
  | inl s ↦ ap (λ (v : Verdict). same_verdict v TooFew) (sym s) ∙ e
  | inr s ↦ absurd (true≢false (sym e ∙ ap (λ (v : Verdict). same_verdict v TooFew) s))
]

-- who has too few at the lower has too few at the higher, where the floor is the same
few_still : (v v' : Verdict) → (v' ≡ v) ⊎ (v' ≡ TooFew) → same_verdict v TooFew ≡ true → same_verdict v' TooFew ≡ true
few_still v v' c e = elim c [ inl s ↦ ap (λ (v : Verdict). same_verdict v TooFew) s ∙ e | inr s ↦ ap (λ (v : Verdict). same_verdict v TooFew) s ]

-- below the lower floor is below the higher
below : (a a' : Bool) → (T a' → T a) → not a ≡ true → not a' ≡ true
below false false f e = refl
below false true f e = absurd (f tt)
below true a' f e = absurd (true≢false (sym e))

-- ---- the counts

-- what a higher fraction, a higher least count, or both may do
pub record HigherCounts (lower higher : Verdicts) : Type 0 where
  pub not_above_lem : lower.not_above ≤ higher.not_above
  pub beaten : higher.beaten ≤ lower.beaten
  pub too_flat_lem : higher.too_flat ≤ lower.too_flat
  pub wrong_curvature_lem : higher.wrong_curvature ≤ lower.wrong_curvature
  pub kept : higher.kept ≤ lower.kept
  -- none is lost: what one gains the others lose
  pub total : total_of higher ≡ total_of lower

module _ (s : RadonDetectorParams) (t : Float) (n w h : ℕ) (f : ℕ → ℕ → Float) (g : ℕ → ℕ → ℕ) where
  abbrev low : Place → Verdict
  low p = verdict s (floor_of s w h f) f g p

  abbrev high : Place → Verdict
  high p = verdict (raised s t n) (floor_of (raised s t n) w h f) f g p

  -- who has u at the higher has it at the lower, so the lower counts no fewer
  fewer : (u : Verdict) → ((p : Place) → same_verdict (high p) u ≡ true → same_verdict (low p) u ≡ true)
      → having (raised s t n) w h f g u ≤ having s w h f g u
  unfolding having
  fewer u e = count-within _ _ e (candidates w h (border_of s))

  more : (u : Verdict) → ((p : Place) → same_verdict (low p) u ≡ true → same_verdict (high p) u ≡ true)
      → having s w h f g u ≤ having (raised s t n) w h f g u
  unfolding having
  more u e = count-within _ _ e (candidates w h (border_of s))

  module _ (a : T (le f0 s.threshold_rel)) (b : T (le s.threshold_rel t)) (c : T (le f0 t)) (d : T (le t f1))
      (l : s.min_cluster_size ≤ n) where
    one : (p : Place) → (high p ≡ low p) ⊎ ((high p ≡ NotAbove) ⊎ (high p ≡ TooFew))
    unfolding verdict
    one p =
        moved (not (beaten f s.nms_radius p)) (is_saddle s g p) (lt (floor_of s w h f) (at f p)) (lt (floor_of (raised s t n) w h f) (at f p))
        (leb s.min_cluster_size (positives f s.nms_radius p)) (leb n (positives f s.nms_radius p))
        (higher-floor s t n w h f a b c d (at f p)) (higher-count s t n w h f l (positives f s.nms_radius p))

    low_still : (p : Place) → same_verdict (low p) NotAbove ≡ true → same_verdict (high p) NotAbove ≡ true
    low_still p e =
        not_above_is (raised s t n) (floor_of (raised s t n) w h f) f g p
        ∙ below (lt (floor_of s w h f) (at f p)) (lt (floor_of (raised s t n) w h f) (at f p)) (higher-floor s t n w h f a b c d (at f p))
        (sym (not_above_is s (floor_of s w h f) f g p) ∙ e)

    pub higher_counts : HigherCounts (verdicts_of s w h f g) (verdicts_of (raised s t n) w h f g)
    unfolding verdicts_of
    higher_counts = record {
      not_above_lem = more NotAbove low_still;
      beaten = fewer Beaten (λ p. still (low p) (high p) Beaten (one p) refl refl);
      too_flat_lem = fewer TooFlat (λ p. still (low p) (high p) TooFlat (one p) refl refl);
      wrong_curvature_lem = fewer WrongCurvature (λ p. still (low p) (high p) WrongCurvature (one p) refl refl);
      kept = fewer Kept (λ p. still (low p) (high p) Kept (one p) refl refl);
      total = total-is (raised s t n) w h f g ∙ sym (total-is s w h f g);
    }

-- a higher fraction alone: too few falls too, so that only "not above" grows
pub few-fall : (s : RadonDetectorParams) (t : Float) (w h : ℕ) (f : ℕ → ℕ → Float) (g : ℕ → ℕ → ℕ) → T (le f0 s.threshold_rel)
    → T (le s.threshold_rel t) → T (le f0 t) → T (le t f1)
    → (verdicts_of (raised s t s.min_cluster_size) w h f g).too_few ≤ (verdicts_of s w h f g).too_few
unfolding verdicts_of verdict
few-fall s t w h f g a b c d =
    let n = s.min_cluster_size in
    fewer s t n w h f g TooFew (λ p. still_few (low s t n w h f g p) (high s t n w h f g p)
    (moved_floor (not (beaten f s.nms_radius p)) (is_saddle s g p) (lt (floor_of s w h f) (at f p)) (lt (floor_of (raised s t n) w h f) (at f p))
    (leb n (positives f s.nms_radius p)) (higher-floor s t n w h f a b c d (at f p))))

-- a higher least count alone: what the first two rules say is as it was, and only "too few" grows
pub record HigherLeast (lower higher : Verdicts) : Type 0 where
  pub not_above_lem : higher.not_above ≡ lower.not_above
  pub beaten : higher.beaten ≡ lower.beaten
  pub too_few : lower.too_few ≤ higher.too_few

-- the third rule's answer does not tell who is beaten
third_not_asked : (a m e e' : Bool) (t : Saddle) → same_verdict (first_failing a m e' t) Beaten ≡ same_verdict (first_failing a m e t) Beaten
third_not_asked false m e e' t = refl
third_not_asked true false e e' t = refl
third_not_asked true true e e' t = past e' t ∙ sym (past e t)
  where
    past : (e : Bool) (t : Saddle) → same_verdict (first_failing true true e t) Beaten ≡ false
    past false t = refl
    past true Yes = refl
    past true Flat = refl
    past true Curved = refl

module _ (s : RadonDetectorParams) (n w h : ℕ) (f : ℕ → ℕ → Float) (g : ℕ → ℕ → ℕ) (l : s.min_cluster_size ≤ n) where
  abbrev up : RadonDetectorParams
  up = raised s s.threshold_rel n

  -- at the same floor
  abbrev before : Place → Verdict
  before p = verdict s (floor_of s w h f) f g p

  abbrev after : Place → Verdict
  after p = verdict up (floor_of s w h f) f g p

  counted : (p : Place) → (after p ≡ before p) ⊎ (after p ≡ TooFew)
  unfolding verdict
  counted p =
      moved_count (not (beaten f s.nms_radius p)) (is_saddle s g p) (lt (floor_of s w h f) (at f p))
      (leb s.min_cluster_size (positives f s.nms_radius p)) (leb n (positives f s.nms_radius p))
      (higher-count s s.threshold_rel n w h f l (positives f s.nms_radius p))

  low_same : (p : Place) → same_verdict (after p) NotAbove ≡ same_verdict (before p) NotAbove
  low_same p = not_above_is up (floor_of s w h f) f g p ∙ sym (not_above_is s (floor_of s w h f) f g p)

  beaten-same : (p : Place) → same_verdict (after p) Beaten ≡ same_verdict (before p) Beaten
  unfolding verdict
  beaten-same p = third_not_asked (lt (floor_of s w h f) (at f p)) (not (beaten f s.nms_radius p)) _ _ (is_saddle s g p)

  pub higher-least : HigherLeast (verdicts_of s w h f g) (verdicts_of up w h f g)
  unfolding verdicts_of having floor_of count
  higher-least = record {
    not_above_lem = ap length (keep_ext _ _ low_same (candidates w h (border_of s)));
    beaten = ap length (keep_ext _ _ beaten-same (candidates w h (border_of s)));
    too_few = count-within _ _ (λ p. few_still (before p) (after p) (counted p)) (candidates w h (border_of s));
  }
