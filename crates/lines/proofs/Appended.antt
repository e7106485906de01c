-- How a line is put together: text after text is appended to it. Assumes nothing.
use mathlib.Core.Path.{◌≡◌, sym, ap, ◌∙◌}
use mathlib.Core.List.{List, [], ◌∷◌, ◌++◌, append_assoc}
use Prim.Native.Nat.{ℕ, zero, suc, ◌+◌, ◌-◌, ◌≤◌, ◌<◌}
use native.Mathlib.Nat.{add_assoc, add-zero, zero-add, suc-sub-suc, sub-zero, zero-sub}
use native.Mathlib.Numerals.{add-one}
use native.Mathlib.Omega.{arith}
use lib.ListN.{length, get_or, take, replicate, drop, length-append, length-replicate}
use lib.Seq.{sets, sets-eq, take-suc, length-take-le}
use Rattle.lines.specs.declared.Line.{Line}
use Rattle.lines.specs.Printed.{ascii, row}
use Rattle.lines.specs.Lines.{line_of, Shows, blank, appended, Grown}

sets_more : (l : List ℕ) (i : ℕ) (a b : List ℕ) → sets (sets l i a) (i + length a) b ≡ sets l i (a ++ b)
sets_more l i [] b = rw add-zero
sets_more l i (c ∷ a) b =
    let e : i + suc (length a) ≡ suc i + length a = omega arith in
    rw e (sets_more _ (suc i) a b)

pub appended_more : (l : Line) (a b : List ℕ) → appended (appended l a) b ≡ appended l (a ++ b)
unfolding appended
appended_more l a b = λ j. record {
  bytes = sets_more l.bytes l.len a b j;
  len = (add_assoc l.len (length a) (length b) ∙ ap (λ (n : ℕ). l.len + n) (sym (length-append a b))) j;
}

pub grown_more : {j k : ℕ} {l m r : Line} {a b : List ℕ} → Grown j l a m → Grown k m b r → Grown (j + k) l (a ++ b) r
grown_more {a = a} {b = b} g h = record {
  is = h.is ∙ ap (λ (x : Line). appended x b) g.is ∙ appended_more _ a b;
  most = omega (arith, length-append a b);
}

pub grown : (k : ℕ) {l r : Line} {text : List ℕ} → r ≡ appended l text → length text ≤ k → Grown k l text r
grown k e h = record { is = e; most = h }

pub appended_len : (l : Line) (text : List ℕ) {r : Line} → r ≡ appended l text → r.len ≡ l.len + length text
unfolding appended
appended_len l text e = ap (λ (x : Line). x.len) e

pub grown_len : {k : ℕ} {l r : Line} {text : List ℕ} → Grown k l text r → r.len ≤ l.len + k
grown_len {l = l} {text = text} g = omega (arith, appended_len l text g.is, g.most)

pub empty_len : {r : Line} → r ≡ blank → r.len ≡ 0
empty_len e = ap (λ (x : Line). x.len) e

drop-zeros : (k n : ℕ) → drop {A = ℕ} k (replicate n 0) ≡ replicate (n - k) 0
drop-zeros zero n = rw sub-zero
drop-zeros (suc k) zero = rw zero-sub
drop-zeros (suc k) (suc n) = rw suc-sub-suc (drop-zeros k n)

shown-at : (text : List ℕ) → length text ≤ 64 → appended blank text ≡ line_of text
unfolding appended
shown-at text h = λ j. record { bytes = bytes j; len = zero-add (length text) j }
  where
    zeros : drop {A = ℕ} (0 + length text) (replicate 64 0) ≡ replicate (64 - length text) 0
    zeros = drop-zeros (0 + length text) 64 ∙ ap (λ (n : ℕ). replicate (64 - n) 0) (zero-add (length text))

    bytes : sets (replicate 64 0) 0 text ≡ text ++ replicate (64 - length text) 0
    bytes =
        sets-eq text (replicate 64 0) 0 (omega (arith, length-replicate {A = ℕ} 64 0))
        ∙ ap (λ (r : List ℕ). text ++ r) zeros

-- a line that is known lies within its array
pub shows : (text : List ℕ) {r : Line} → r ≡ line_of text → Shows text r
shows text e = record { is = e; fits = rw e (omega (arith, length-append text (replicate (64 - length text) 0))) }

pub shown : {k : ℕ} {text : List ℕ} {l r : Line} → l ≡ blank → Grown k l text r → k ≤ 64 → Shows text r
shown {text = text} e g h =
    shows text (g.is ∙ ap (λ (l : Line). appended l text) e ∙ shown-at text (omega (arith, g.most)))

-- three fields make a line
pub three_shown : {i j k : ℕ} {l m n r : Line} (a b c : List ℕ) → l ≡ blank
    → Grown i l (a ++ ascii " ") m → Grown j m (b ++ ascii " ") n → Grown k n (c ++ ascii "\n") r
    → i + j + k ≤ 64 → Shows (row (a ∷ b ∷ c ∷ [])) r
unfolding row
three_shown a b c e f g h = shown e (simp append_assoc at (grown_more (grown_more f g) h))

-- ---- a text that is copied byte by byte

pub record Copied (line : Line) (s : List ℕ) (longer : Line) (i : ℕ) : Type 0 where
  pub most : i ≤ length s
  pub is : longer ≡ appended line (take i s)

module _ (line : Line) (s : List ℕ) where
  pub copied_none : Copied line s line 0
  unfolding appended
  copied_none = record {
    most = omega arith;
    is = ap (λ (n : ℕ). record { bytes = line.bytes; len = n }) (sym (add-zero line.len));
  }

  module _ {longer : Line} {i : ℕ} (c : Copied line s longer i) where
    pub copied_len : longer.len ≡ line.len + i
    copied_len = appended_len line (take i s) c.is ∙ ap (λ (n : ℕ). line.len + n) (length-take-le i s c.most)

    pub copied_more : {r : Line} → i < length s → r ≡ appended longer (get_or s i 0 ∷ []) → Copied line s r (i + 1)
    copied_more {r} h e = record { most = omega arith; is = is }
      where
        is : r ≡ appended line (take (i + 1) s)
        is =
            e ∙ ap (λ (l : Line). appended l (get_or s i 0 ∷ [])) c.is
            ∙ appended_more line (take i s) (get_or s i 0 ∷ [])
            ∙ ap (appended line) (sym (take-suc s i 0 h) ∙ ap (λ (n : ℕ). take n s) (sym (add-one i)))
