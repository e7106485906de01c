-- The scan over the rows, and at its end the six counts: what was tallied, and the rest by subtraction. Assumes nothing.
use mathlib.Core.Path.{◌≡◌, refl, sym, ap, ◌∙◌}
use Prim.Native.Nat.{ℕ, ◌+◌, ◌-◌, ◌*◌, ◌≤◌, ◌<◌}
use native.Mathlib.Nat.{mul-le-mul}
use native.Mathlib.Omega.{arith}
use mathlib.Core.List.{List}
use lib.ListN.{length}
use lib.Ieee.{Float}
use Rattle.grid.proofs.Plane.{row_in}
use Rattle.grid.specs.Each.{count}
use Rattle.grid.proofs.Each.{count_none}
use Rattle.grid.specs.Rect.{Place}
use Rattle.grid.proofs.Rect.{length-rect, Down, down-none, down_all}
use Rattle.grid.specs.Over.{Listed}
use Rattle.grid.proofs.Over.{listed_none}
use Rattle.params.specs.declared.answers.Verdicts.{Verdicts}
use Rattle.params.specs.Answers.{no_verdicts}
use Rattle.verdict.specs.declared.Scan.{Scan}
use Rattle.verdict.specs.declared.Verdict.{Verdict}
use Rattle.verdict.specs.declared.Verdict.TheVariants.{NotAbove, Beaten, TooFew, TooFlat, WrongCurvature, Kept}
use Rattle.verdict.specs.Verdict.{rank}
use Rattle.detect.specs.Corners.{candidates, corners, having, verdicts_of, stride}
use Rattle.detect.specs.Scan.{floor_in, verdict_in, kept_in, ranked, numbers_in, border_in}
use Rattle.detect.specs.Scan.{Tally, count_of, above_of, by_subtraction, Judging, Finding, RowFound, Found}
use Rattle.detect.proofs.Tally.{of, six_are_all}

-- ---- the scan over the rows: the list and the tally, of the places l

pub record Summed (s : Scan) (resp : List Float) (image : List ℕ) (old out : List Float) (t : Verdicts) (l : List Place) : Type 0 where
  pub list : Listed stride (numbers_in s resp) (kept_in s resp image) old out t.kept l
  pub counts : (v : Verdict) → 1 ≤ rank v → count_of v t ≡ count (ranked s resp image (rank v)) l

pub record FoundTo (s : Scan) (resp : List Float) (image : List ℕ) (old out : List Float) (t : Verdicts) (y : ℕ) : Type 0 where
  pub down : Down (Summed s resp image old out t) (border_in s) (s.w - border_in s) (border_in s) (s.h - border_in s) y
  pub tally : Tally t (8192 * y)

zeros : (v : Verdict) → count_of v no_verdicts ≡ 0
zeros NotAbove = refl
zeros Beaten = refl
zeros TooFew = refl
zeros TooFlat = refl
zeros WrongCurvature = refl
zeros Kept = refl

module _ {s : Scan} {resp : List Float} {image : List ℕ} {old : List Float} where
  pub found_none : {b : ℕ} → b ≡ border_in s → 2 * border_in s < s.h → FoundTo s resp image old old no_verdicts b
  found_none e b =
      rw e (record {
        down = down-none _ _ _ _ _ (omega arith)
            (record { list = listed_none _ _ _ _; counts = λ v _. zeros v ∙ count_none _ });
        tally = record { not_above = omega arith; beaten = omega arith; too_few = omega arith; too_flat = omega arith; wrong_curvature = omega arith; kept = omega arith };
      })

  module _ {out : List Float} {t : Verdicts} {y : ℕ} (c : FoundTo s resp image old out t y) where
    pub finding : Judging s (length resp) (length image) → y < s.h - border_in s → Finding s y t (length resp) (length image)
    finding j b =
        let l : y < s.h = omega arith in
        record {
          judging = j;
          above = c.down.least;
          below = omega arith;
          row = omega (arith, j.asked.response, row_in s.w l);
          tally = c.tally;
        }

    pub found_more : {new : List Float} {u : Verdicts} → y < s.h - border_in s → RowFound s resp image y out t new u
        → FoundTo s resp image old new u (y + 1)
    found_more b q =
        let h = c.down.holds in
        record {
          down = record {
            least = omega arith;
            most = omega arith;
            holds = record { list = q.onward.on old h.list; counts = λ v g. q.tallied.on v g (h.counts v g) };
          };
          tally = q.tally;
        }

    -- all rows are passed
    pub found_inside : s.h - border_in s ≤ y → Summed s resp image old out t (candidates s.w s.h (border_in s))
    found_inside b = down_all _ _ _ _ _ c.down b

-- ---- the counts

module _ {s : Scan} {resp : List Float} {image : List ℕ} {old out : List Float} {t : Verdicts}
    (h : Summed s resp image old out t (candidates s.w s.h (border_in s)))
    {all : ℕ} (are : all ≡ (s.w - 2 * border_in s) * (s.h - border_in s - border_in s)) where
  abbrev inside : List Place
  inside = candidates s.w s.h (border_in s)

  -- how many of them have the verdict v
  abbrev those : Verdict → ℕ
  those v = of (verdict_in s resp image) v inside

  all_is : all ≡ length inside
  all_is =
      let B = border_in s in
      let two : s.w - 2 * B ≡ s.w - B - B = omega arith in
      are ∙ ap (λ (n : ℕ). n * (s.h - B - B)) two ∙ sym (length-rect B (s.w - B) B (s.h - B))

  -- the tally has all but those that are not above
  rest : above_of t + those NotAbove ≡ all
  rest =
      omega (
        arith,
        h.counts Beaten (omega arith),
        h.counts TooFew (omega arith),
        h.counts TooFlat (omega arith),
        h.counts WrongCurvature (omega arith),
        h.counts Kept (omega arith),
        all_is,
        six_are_all (verdict_in s resp image) inside,
      )

  -- the difference does not fall below 0
  pub subtracts : s.w ≤ 8192 → s.h ≤ 8192 → (all ≤ 8192 * 8192) × (above_of t ≤ all)
  subtracts w v =
      let wide : s.w - 2 * border_in s ≤ 8192 = omega arith in
      let high : s.h - border_in s - border_in s ≤ 8192 = omega arith in
      let most = mul-le-mul wide high in
      (rw are most, omega (arith, rest))

  pub found_all : {r : Verdicts} → s.floor ≡ floor_in s resp → r ≡ by_subtraction all t → Found s resp image old r out
  unfolding verdicts_of having corners count
  found_all e q =
      let beside : all - above_of t ≡ those NotAbove = omega (arith, rest) in
      let is : by_subtraction all t ≡ record {
        not_above = those NotAbove;
        beaten = those Beaten;
        too_few = those TooFew;
        too_flat = those TooFlat;
        wrong_curvature = those WrongCurvature;
        kept = those Kept;
      } = λ i. record {
        not_above = beside i;
        beaten = h.counts Beaten (omega arith) i;
        too_few = h.counts TooFew (omega arith) i;
        too_flat = h.counts TooFlat (omega arith) i;
        wrong_curvature = h.counts WrongCurvature (omega arith) i;
        kept = h.counts Kept (omega arith) i;
      } in
      record {
        verdicts = q ∙ rw e at is;
        count = ap (λ (r : Verdicts). r.kept) q ∙ rw e at h.list.count;
        list = rw e at h.list.fill;
      }
