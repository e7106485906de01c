-- What the search along a row hands on: the first entry above a floor, the first crest, and the next place that is worth a verdict.
use Rattle.std.specs.Prelude.{◌≡◌, Bool, true, false, not, ◌||◌, ◌&&◌, cond, ℕ, ◌+◌, ◌-◌, ◌≤◌, ◌<◌, List, length, ltb, leb, Float}
use Rattle.std.specs.Float.Ieee.{lt}
use Rattle.grid.specs.Each.{count}
use Rattle.grid.specs.Rect.{range}
use Rattle.crests.specs.Maximum.{entry}

-- entry k is above the floor
abbrev pub over : Float → List Float → ℕ → Bool
over floor s k = lt floor (entry s k)

-- how many entries are, of a slice that a u32 can count; of a longer one, 0
abbrev pub longest : ℕ
longest = 4294967295

unfoldable pub above_count : Float → List Float → ℕ
above_count floor s = cond (leb (length s) longest) (count (over floor s) (range 0 (length s))) 0

-- how many are from a to below i
abbrev pub above_from : Float → List Float → ℕ → ℕ → ℕ
above_from floor s a i = count (over floor s) (range a i)

-- and no less than its two neighbours
abbrev pub crest : Float → List Float → ℕ → Bool
crest floor s k = over floor s k && (not (lt (entry s k) (entry s (k - 1))) && not (lt (entry s k) (entry s (k + 1))))

-- one of the four or of the eight from i on, grouped as the code has them
abbrev pub four : (ℕ → Bool) → ℕ → Bool
four p i = ((p i || p (i + 1)) || p (i + 2)) || p (i + 3)

abbrev pub eight : (ℕ → Bool) → ℕ → Bool
eight p i = four p i || four p (i + 4)

-- p holds at none from a to below e
abbrev pub None : (ℕ → Bool) → ℕ → ℕ → Type 0
None p a e = (k : ℕ) → a ≤ k → k < e → p k ≡ false

-- a search from a has passed what is before i, and found none
pub record Passed (p : ℕ → Bool) (a e i : ℕ) : Type 0 where
  pub least : a ≤ i
  pub most : i ≤ e
  pub none : None p a i

-- a search for crests has passed what is before i, n of it above the floor
pub record Went (floor : Float) (s : List Float) (a e i n : ℕ) : Type 0 where
  pub passed : Passed (crest floor s) a e i
  pub above : n ≡ above_from floor s a i

-- r is the first from a on at which p holds, or e
pub record Next (p : ℕ → Bool) (a e r : ℕ) : Type 0 where
  pub least : a ≤ r
  pub most : r ≤ e
  pub none : None p a r
  pub found : r < e → p r ≡ true

-- ---- the next place that is worth a verdict

-- above the floor and, where the window of radius r has them, no less than its two neighbours
abbrev pub worth : ℕ → Float → List Float → ℕ → Bool
worth r floor s k = cond (ltb 0 r) (crest floor s k) (over floor s k)

-- the places from a to before e have a neighbour to each side in a row of n
abbrev pub search_fits : ℕ → ℕ → ℕ → Bool
search_fits a e n = leb 1 a && (leb a e && ltb e n)

-- i is the first such place from a on, or e, and n of those before it are above the floor; e and 0 where they have not
pub record Sought (r : ℕ) (floor : Float) (s : List Float) (a e i n : ℕ) : Type 0 where
  pub fitting : search_fits a e (length s) ≡ true → Next (worth r floor s) a e i × (n ≡ above_from floor s a i)
  pub none : search_fits a e (length s) ≡ false → (i ≡ e) × (n ≡ 0)
