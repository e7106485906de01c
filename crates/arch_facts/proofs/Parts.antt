-- Plain laws of lists: a part, `take size (drop at l)`, and another put in its place; and two buffers whose first entries are written alike.
-- Assumes nothing.
use mathlib.Core.Path.{◌≡◌, refl, sym, ap, ◌∙◌}
use mathlib.Core.List.{List, ◌++◌, append_assoc}
use Prim.Native.Nat.{ℕ, ◌+◌, ◌-◌, ◌≤◌, max}
use native.Mathlib.Nat.{max-eq_left, max-eq_right}
use native.Mathlib.Decide.{dec_le}
use native.Mathlib.Omega.{arith}
use lib.ListN.{length, take, drop, take-append-drop}
use lib.Seq.{length-take-le, take_all, take-add, drop-drop, take_at, drop_at, take-append-le}
use lib.Seq.{paste, length-paste, drop-paste}
use Rattle.grid.proofs.Part.{part_taken}

module _ {A : Type 0} where
  -- entries that are the same from a place on are so further on
  pub drop_further : (n m : ℕ) (x y : List A) → n ≤ m → drop n x ≡ drop n y → drop m x ≡ drop m y
  drop_further n m x y l e =
      let sum : n + (m - n) ≡ m = omega arith in
      rw sum at (sym (drop-drop (m - n) n x) ∙ ap (drop (m - n)) e ∙ drop-drop (m - n) n y)

  -- a part of the first of two lists
  part_before : (at size : ℕ) (x y : List A) → at + size ≤ length x → take size (drop at (x ++ y)) ≡ take size (drop at x)
  part_before at size x y l =
      part_taken at size (x ++ y) ∙ ap (drop at) (take-append-le (at + size) x y l) ∙ sym (part_taken at size x)

  -- ---- l with c in place of the part of `size` entries from `at` on

  abbrev put_in : ℕ → ℕ → List A → List A → List A
  put_in at size c l = take at l ++ (c ++ drop size (drop at l))

  module _ (at size : ℕ) (c l : List A) (long : length c ≡ size) (fits : at + size ≤ length l) where
    pasted : put_in at size c l ≡ paste l at c size
    pasted =
        rw (drop-drop size at l, take_all size c (omega arith))
        (sym (append_assoc (take at l) c (drop (at + size) l)))

    pub put-long : length (put_in at size c l) ≡ length l
    put-long = ap length pasted ∙ length-paste l at c size fits (omega arith)

    -- the part itself
    pub part-put : take size (drop at (put_in at size c l)) ≡ c
    part-put =
        rw (drop_at (take at l) (c ++ drop size (drop at l)) at (length-take-le at l (omega arith)))
        (take_at c (drop size (drop at l)) size long)

    -- what stands behind it
    pub drop-put : (from : ℕ) → at + size ≤ from → drop from (put_in at size c l) ≡ drop from l
    drop-put from h =
        drop_further (at + size) from (put_in at size c l) l h (rw pasted (drop-paste l at c size (omega arith) (omega arith)))

    -- and a part before it
    pub part_before_put : (from n : ℕ) → from + n ≤ at → take n (drop from (put_in at size c l)) ≡ take n (drop from l)
    part_before_put from n h =
        let inside : from + n ≤ length (take at l) = omega (arith, length-take-le at l (omega arith)) in
        part_before from n (take at l) (c ++ drop size (drop at l)) inside
        ∙ sym (part_before from n (take at l) (drop at l) inside)
        ∙ ap (λ (r : List A). take n (drop from r)) (take-append-drop at l)

  -- ---- two buffers, x and y before and p and q after: the same first n entries are written, and those beyond stay

  pub record Wrote (n : ℕ) (x y p q : List A) : Type 0 where
    pub same : take n p ≡ take n q
    pub stays : drop n p ≡ drop n x
    pub stays_too : drop n q ≡ drop n y

  pub wrote_none : (n : ℕ) {x y : List A} → n ≡ 0 → Wrote n x y x y
  wrote_none n e = rw e (record { same = refl; stays = refl; stays_too = refl })

  -- one call after the other: as far as the one that wrote more
  module _ (m n : ℕ) {x y u v p q : List A} (first : Wrote m x y u v) (next : Wrote n u v p q) where
    further : n ≤ m → take m p ≡ take m q
    further l =
        let sum : n + (m - n) ≡ m = omega arith in
        let part : take (m - n) (drop n u) ≡ take (m - n) (drop n v) =
        part_taken n (m - n) u ∙ ap (drop n) (rw sum first.same) ∙ sym (part_taken n (m - n) v) in
        let rest : take (m - n) (drop n p) ≡ take (m - n) (drop n q) =
        ap (take (m - n)) next.stays ∙ part ∙ sym (ap (take (m - n)) next.stays_too) in
        rw sum at (take-add n (m - n) p ∙ (λ i. next.same i ++ rest i) ∙ sym (take-add n (m - n) q))

    stay : (x u p : List A) → drop m u ≡ drop m x → drop n p ≡ drop n u → drop (max m n) p ≡ drop (max m n) x
    stay x u p d e =
        drop_further n (max m n) p u (omega arith) e ∙ drop_further m (max m n) u x (omega arith) d

    pub wrote_then : Wrote (max m n) x y p q
    wrote_then = record {
      same = by (dec_le n m);
      stays = stay x u p first.stays next.stays;
      stays_too = stay y v q first.stays_too next.stays_too;
    }
      where
        by : Dec (n ≤ m) → take (max m n) p ≡ take (max m n) q
        by (yes l) = rw (max-eq_left l) (further l)
        by (no l) =
            let more : m ≤ n = omega arith in
            rw (max-eq_right more) next.same
