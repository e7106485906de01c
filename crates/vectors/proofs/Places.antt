-- Where the first line of a list ends: behind its first line feed, or at the end; and a word read from its place on. Assumes nothing.
use Rattle.std.specs.Prelude.{◌≡◌, refl, Bool, true, false, not, cond, Some, None, List, [], ◌∷◌, ℕ, suc, ◌+◌, ◌≤◌, min, eqb, length, drop, get_or, position}
use Rattle.std.specs.List.{position_or_len}
use Rattle.std.proofs.Common.{arith, ap, ◌∙◌}
use lib.Seq.{get_or-drop}
use Rattle.std.proofs.lemmas.Bool.Decides.{nat_tests}
use Rattle.std.proofs.lemmas.List.Quantifiers.{position-Some}
use Rattle.std.proofs.lemmas.List.Sums.{position_or_len_is}
use Rattle.big_endian.specs.BigEndian as big
use Rattle.vectors.specs.Vectors.{after_line}

cut : (t : Bool) (m n : ℕ) → cond t 1 (suc (min (m + 1) n)) ≡ min (cond (not t) (1 + m) 0 + 1) (suc n)
cut true m n = omega arith
cut false m n = omega arith

after_line_is : (s : List ℕ) → after_line s ≡ min (position_or_len (λ b. eqb b 10) s + 1) (length s)
unfolding after_line
after_line_is [] = refl
after_line_is (b ∷ s) = rw (after_line_is s) (cut (eqb b 10) (position_or_len (λ c. eqb c 10) s) (length s))

pub line_found : (s : List ℕ) (i : ℕ) → position (λ b. eqb b 10) s ≡ Some i → i + 1 ≡ after_line s
line_found s i e =
    let f = position-Some (λ b. eqb b 10) s i 0 e in
    let at = position_or_len_is (λ b. eqb b 10) s i 0 (omega (arith, f.0)) f.2 (λ h. f.1) in
    omega (arith, after_line_is s, at, f.0)

pub no_line : (s : List ℕ) → position (λ b. eqb b 10) s ≡ None → length s ≡ after_line s
no_line s e = grind (arith, nat_tests, after_line_is s)

-- a word that lies in the list, as it begins what stands from its place on
pub word_from : (s : List ℕ) (at : ℕ) → at + 4 ≤ length s → big.word_at (drop (min at (length s)) s) 0 ≡ big.word_at s at
word_from s at l =
    let here : min at (length s) ≡ at = omega arith in
    rw (here, byte 0 at (omega arith), byte (0 + 1) (at + 1) (omega arith), byte (0 + 2) (at + 2) (omega arith), byte (0 + 2 + 1) (at + 2 + 1) (omega arith)) refl
  where
    byte : (k j : ℕ) → at + k ≡ j → get_or (drop at s) k 0 ≡ get_or s j 0
    byte k j e = get_or-drop at s k 0 ∙ ap (λ (n : ℕ). get_or s n 0) e
