-- How values at or under a floor are passed over: the steps behind the searches of `crests`, said once over what is searched for.
-- Assumes nothing.
use mathlib.Core.Path.{◌≡◌, refl, sym, ap, ◌∙◌}
use mathlib.Core.Logic.{◌⊎◌, inl, inr}
use mathlib.Core.Bool.{Bool, true, false, ◌||◌, cond, true≢false}
use Prim.Native.Nat.{ℕ, zero, suc, ◌+◌, ◌-◌, ◌≤◌, ◌<◌}
use native.Mathlib.Decide.{dec_le}
use native.Mathlib.Nat.{add-zero}
use native.Mathlib.Omega.{arith}
use mathlib.Core.List.{List, [], ◌∷◌, ◌++◌}
use borrow.Author.Tests.{ltb-true, lt-ltb, le-ltb, le-leb}
use lib.ListN.{length, take, drop, length-take, length-drop}
use lib.Seq.{get_or-take, get_or-drop}
use lib.Dec.{lit<, ltb}
use lib.Ieee.{Float, nan, lt}
use Rattle.std.specs.Prelude.{count_by}
use Rattle.std.proofs.lemmas.List.{take_all}
use Rattle.std.proofs.lemmas.List.Sums.{count_by_more_yes, count_by_more_no}
use Rattle.sizes.proofs.Fitting.{true_both}
use Rattle.grid.specs.Each.{count}
use Rattle.grid.proofs.Each.{count_made, count_none, count_yes, count_no}
use Rattle.grid.specs.Rect.{range, line}
use Rattle.grid.proofs.Rect.{range_none, range_more, range_made, count-line, count_range_ext, count_range_on, count_range_most, count_range_none}
use Rattle.crests.specs.Maximum.{entry}
use Rattle.crests.specs.Crests.{over, longest, above_count, above_from, crest, worth, four, eight, None, Passed, Went, Next, search_fits, Sought}

nor : (a b : Bool) → (a || b) ≡ false → (a ≡ false) × (b ≡ false)
nor true b h = absurd (true≢false h)
nor false b h = (refl, h)

module _ (p : ℕ → Bool) where
  none_here : (a : ℕ) → None p a a
  none_here a k h l = absurd (omega arith)

  pub none-on : (a m e : ℕ) → None p a m → None p m e → None p a e
  none-on a m e u v k h l = go (dec_le m k)
    where
      go : Dec (m ≤ k) → p k ≡ false
      go (yes b) = v k b l
      go (no b) = u k h (omega arith)

  none-one : (i j : ℕ) → j ≡ i + 1 → p i ≡ false → None p i j
  none-one i j q h k a b =
      let e : k ≡ i = omega arith in
      rw e h

  none-four : (i : ℕ) → four p i ≡ false → None p i (i + 4)
  none-four i h =
      let a = nor _ _ h in
      let b = nor _ _ a.0 in
      let d = nor _ _ b.0 in
      none-on i (i + 1) (i + 4) (none-one i _ refl d.0)
      (none-on (i + 1) (i + 2) (i + 4) (none-one (i + 1) _ (omega arith) d.1)
      (none-on (i + 2) (i + 3) (i + 4) (none-one (i + 2) _ (omega arith) b.1)
      (none-one (i + 3) _ (omega arith) a.1)))

  pub none-eight : (i : ℕ) → eight p i ≡ false → None p i (i + 8)
  none-eight i h =
      let u = nor (four p i) (four p (i + 4)) h in
      none-on i (i + 4) (i + 8) (none-four i u.0) (λ k a b. none-four (i + 4) u.1 k a (omega arith))

-- ---- a search for p from a to below e: the answers r and t are those of the code's tests, as they come

module _ (p : ℕ → Bool) (a e : ℕ) where
  pub passed_none : a ≤ e → Passed p a e a
  passed_none h = record { least = omega arith; most = h; none = none_here p a }

  module _ {i : ℕ} (s : Passed p a e i) where
    pub passed-eight : {r : Bool} → i + 8 ≤ e → r ≡ eight p i → r ≡ false → Passed p a e (i + 8)
    passed-eight b h t =
        record { least = omega arith; most = b; none = none-on p a i (i + 8) s.none (none-eight p i (sym h ∙ t)) }

    pub passed-one : {r : Bool} → i < e → r ≡ p i → r ≡ false → Passed p a e (i + 1)
    passed-one b h t =
        record { least = omega arith; most = omega arith; none = none-on p a i (i + 1) s.none (none-one p i (i + 1) refl (sym h ∙ t)) }

-- ---- how many are above

-- the entries above a floor, by their places
above_one : (floor : Float) (s : List Float) (i : ℕ) → i < length s → (t : Bool) → over floor s i ≡ t
    → count_by (lt floor) (take i s) ≡ count (over floor s) (range 0 i)
    → count_by (lt floor) (take (i + 1) s) ≡ count (over floor s) (range 0 i ++ (i ∷ []))
above_one floor s i b true u h = count_by_more_yes (lt floor) s i nan b u ∙ count_yes (over floor s) (range 0 i) i h u
above_one floor s i b false u h = count_by_more_no (lt floor) s i nan b u ∙ count_no (over floor s) (range 0 i) i h u

pub above-entries : (floor : Float) (s : List Float) → count_by (lt floor) s ≡ count (over floor s) (range 0 (length s))
above-entries floor s = rw (take_all (length s) s (omega arith)) at (go (length s) (omega arith))
  where
    go : (i : ℕ) → i ≤ length s → count_by (lt floor) (take i s) ≡ count (over floor s) (range 0 i)
    go zero b = rw range_none (count_none _)
    go (suc i) b =
        let e : suc i ≡ i + 1 = omega arith in
        rw (e, range_more 0 i (omega arith)) (above_one floor s i (omega arith) (over floor s i) refl (go i (omega arith)))

-- a part of row y, from column a to before e, counts what the row has there
pub part-above : (floor : Float) (f : ℕ → ℕ → Float) (part : List Float) (a e y : ℕ) {n : ℕ} → length part ≡ e - a → e - a ≤ longest
    → ((k : ℕ) → k < e - a → entry part k ≡ f (a + k) y) → n ≡ above_count floor part → n ≡ count (λ q. lt floor (f q.x q.y)) (line a e y)
unfolding above_count
part-above floor f part a e y l m is u =
    let counted = rw (l, le-leb (e - a) longest m) at u in
    counted ∙ rw count-line (count_range_ext _ _ 0 (e - a) (λ k _ b. ap (lt floor) (is k b)))

-- ---- crests

-- four answers are the four
pub four_is : (p : ℕ → Bool) (i : ℕ) {a b c d : Bool} → a ≡ p i → b ≡ p (i + 1) → c ≡ p (i + 2) → d ≡ p (i + 3)
    → ((a || b) || c) || d ≡ four p i
four_is p i a b c d = rw (a, b, c, d)

-- none of the four, and so none of the eight, is a crest where none is above the floor
no_four : (floor : Float) (s : List Float) (i : ℕ) → four (over floor s) i ≡ false → false ≡ four (crest floor s) i
no_four floor s i h =
    let low = none-four (over floor s) i h in
    let n : (k : ℕ) → k < 4 → false ≡ crest floor s (i + k) = λ k b. sym (rw (low (i + k) (omega arith) (omega arith))) in
    four_is (crest floor s) i (rw add-zero at (n 0 (lit< tt))) (n 1 (lit< tt)) (n 2 (lit< tt)) (n 3 (lit< tt))

pub no_crests : (floor : Float) (s : List Float) (i : ℕ) {r : Bool} → r ≡ eight (over floor s) i → r ≡ false → false ≡ eight (crest floor s) i
no_crests floor s i h t =
    let u = nor (four (over floor s) i) (four (over floor s) (i + 4)) (sym h ∙ t) in
    rw (← no_four floor s i u.0) (no_four floor s (i + 4) u.1)

-- ---- a search for crests that counts what it passes

module _ (floor : Float) (s : List Float) where
  -- from a to below i, and from there to below e
  above_on : (a i e : ℕ) {n m : ℕ} → a ≤ i → i ≤ e → n ≡ above_from floor s a i → m ≡ above_from floor s i e → n + m ≡ above_from floor s a e
  above_on a i e h k u v = (λ j. u j + v j) ∙ count_range_on (over floor s) a i e h k

  pub above-none : (a e : ℕ) → None (over floor s) a e → 0 ≡ above_from floor s a e
  above-none a e h = count_range_none (over floor s) a e h

  -- of a part of n from i on
  above-part : (i n : ℕ) {m : ℕ} → i + n ≤ length s → let part = take n (drop i s) in m ≡ count (over floor part) (range 0 (length part))
      → m ≡ above_from floor s i (i + n)
  above-part i n l e =
      let long : length (take n (drop i s)) ≡ n = simp (length-take, length-drop) (omega arith) in
      let size : i + n - i ≡ n = omega arith in
      let there = rw long at e in
      there
      ∙ count_range_ext _ (λ k. over floor s (i + k)) 0 n (λ k _ b. ap (lt floor) (get_or-take n (drop i s) k nan b ∙ get_or-drop i s k nan))
      ∙ sym (ap (count (over floor s)) (range_made i (i + n)) ∙ count_made (λ k. i + k) (over floor s) (range 0 (i + n - i)) ∙ rw size)

  module _ (a e : ℕ) where
    pub went_none : a ≤ e → Went floor s a e a 0
    went_none h = record { passed = passed_none (crest floor s) a e h; above = above-none a a (none_here (over floor s) a) }

    module _ {i n : ℕ} (w : Went floor s a e i n) where
      -- eight with none above
      pub went_low : {r : Bool} → i + 8 ≤ e → r ≡ eight (over floor s) i → r ≡ false → Went floor s a e (i + 8) n
      went_low b h t = record {
        passed = passed-eight (crest floor s) a e w.passed b (no_crests floor s i h t) refl;
        above = sym (add-zero n) ∙ above_on a i (i + 8) w.passed.least (omega arith) w.above
            (above-none i (i + 8) (none-eight (over floor s) i (sym h ∙ t)));
      }

      -- eight with some above and no crest
      pub went_slope : {r : Bool} {m : ℕ} → i + 8 ≤ e → e < length s → r ≡ eight (crest floor s) i → r ≡ false
          → let part = take (i + 8 - i) (drop i s) in m ≡ count (over floor part) (range 0 (length part)) → Went floor s a e (i + 8) (n + m)
      went_slope b l h t c =
          let size : i + 8 - i ≡ 8 = omega arith in
          record {
            passed = passed-eight (crest floor s) a e w.passed b h t;
            above = above_on a i (i + 8) w.passed.least (omega arith) w.above (above-part i 8 (omega arith) (rw size at c));
          }

      -- one that is no crest, above or not
      pub went_above : {r : Bool} → i < e → r ≡ crest floor s i → r ≡ false → over floor s i ≡ true → Went floor s a e (i + 1) (n + 1)
      went_above b h t u = record {
        passed = passed-one (crest floor s) a e w.passed b h t;
        above = rw (range_more a i w.passed.least) (count_yes (over floor s) (range a i) i w.above u);
      }

      pub went_under : i < e → over floor s i ≡ false → Went floor s a e (i + 1) n
      went_under b u = record {
        passed = passed-one (crest floor s) a e w.passed b (sym (rw u refl)) refl;
        above = rw (range_more a i w.passed.least) (count_no (over floor s) (range a i) i w.above u);
      }

      -- no more than it passed
      pub went_few : n ≤ i
      went_few = omega (arith, w.above, count_range_most (over floor s) a i)

-- ---- the next place that is worth a verdict

-- what is first in a part from a on is first from a on
pub next_after : (p q : ℕ → Bool) (a e : ℕ) {n j : ℕ} → a ≤ e → n ≡ e - a → ((k : ℕ) → k < n → q k ≡ p (a + k)) → Next q 0 n j → Next p a e (a + j)
next_after p q a e b l is t = record {
  least = omega arith;
  most = omega (arith, t.most);
  none = λ k h v.
      let o : a + (k - a) ≡ k = omega arith in
      rw o at (sym (is (k - a) (omega (arith, t.most))) ∙ t.none (k - a) (omega arith) (omega arith));
  found = λ v. sym (is _ (omega arith)) ∙ t.found (omega arith);
}

module _ (r : ℕ) (floor : Float) (s : List Float) (a e : ℕ) where
  -- the part of the row that is searched
  abbrev part : List Float
  part = take (e - a) (drop a s)

  pub worth-above : {j : ℕ} → r ≤ 0 → a ≤ e → e ≤ length s → Next (over floor part) 0 (length part) j
      → Next (worth r floor s) a e (a + j) × (0 ≡ above_from floor s a (a + j))
  worth-above b l m t =
      let n : length part ≡ e - a = simp (length-take, length-drop) (omega arith) in
      let is : (k : ℕ) → k < length part → over floor part k ≡ worth r floor s (a + k) = λ k v.
      rw (le-ltb 0 r b) (ap (lt floor) (get_or-take (e - a) (drop a s) k nan (omega arith) ∙ get_or-drop a s k nan)) in
      let next = next_after (worth r floor s) (over floor part) a e l n is t in
      let low : None (over floor s) a _ = λ k h v. sym (under k) ∙ next.none k h v in
      (next, above-none floor s a _ low)
    where
      under : (k : ℕ) → worth r floor s k ≡ over floor s k
      under k = rw (le-ltb 0 r b)

-- what is not worth a verdict
pub not_worth : (r : ℕ) (floor : Float) (s : List Float) (k : ℕ) → worth r floor s k ≡ false
    → (over floor s k ≡ false) ⊎ ((0 < r) × (crest floor s k ≡ false))
not_worth r floor s k h = go (ltb 0 r) refl h
  where
    go : (t : Bool) → ltb 0 r ≡ t → cond t (crest floor s k) (over floor s k) ≡ false
        → (over floor s k ≡ false) ⊎ ((0 < r) × (crest floor s k ≡ false))
    go true e u = inr (ltb-true 0 r e, u)
    go false e u = inl u

-- ---- bounds that fit

pub bounds_so : (a e n : ℕ) → 1 ≤ a → a ≤ e → e < n → search_fits a e n ≡ true
bounds_so a e n u v w = true_both (le-leb 1 a u) (true_both (le-leb a e v) (lt-ltb e n w))

-- they fit, so what is answered is the next
pub sought_plain : {r : ℕ} {floor : Float} {s : List Float} {a e i n : ℕ} → 1 ≤ a → a ≤ e → e < length s → Sought r floor s a e i n
    → Next (worth r floor s) a e i × (n ≡ above_from floor s a i)
sought_plain {s = s} {a = a} {e = e} u v w t = t.fitting (bounds_so a e (length s) u v w)
