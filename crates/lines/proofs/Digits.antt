-- The two steps of `Line::number`, a single digit, and the digits before the last with that behind them; and a numeral
-- with a byte behind it. Assumes nothing.
use mathlib.Core.Path.{◌≡◌, sym, ap, ◌∙◌}
use mathlib.Core.Bool.{Bool, true, false}
use mathlib.Core.List.{[], ◌∷◌, ◌++◌}
use Prim.Native.Nat.{ℕ, ◌+◌, ◌-◌, ◌/◌, ◌%◌, ◌≤◌, ◌<◌}
use native.Mathlib.Omega.{arith}
use lib.Dec.{lit≤}
use lib.ListN.{length, length-append}
use Rattle.lines.specs.declared.Line.{Line}
use Rattle.lines.specs.Printed.{digit_of, numeral}
use Rattle.lines.specs.Lines.{Short, appended, Grown}
use Rattle.lines.proofs.Numerals.{single, falls}
use Rattle.lines.proofs.Numerals.{numeral_last, numeral_more, numeral-some, numeral-most}
use Rattle.lines.proofs.Appended.{appended_more, appended_len}

-- what `Line::number` asks, and the measure t of the call
pub record Due (line : Line) (base least n t : ℕ) : Type 0 where
  pub measure : n + least ≡ t
  pub two : 2 ≤ base
  pub most : base ≤ 16
  pub room : line.len + length (numeral base least n) ≤ 64

module _ {line : Line} {base least n t : ℕ} (due : Due line base least n t)
    {one : Bool} (is : one ≡ single base least n) where
  -- ---- one digit

  module _ (yes : one ≡ true) where
    pub last_room : line.len < 64
    last_room = omega (arith, due.room, numeral-some base due.two least n)

    pub last_is : {d : ℕ} {r : Line} → d ≡ digit_of n → r ≡ appended line (d ∷ [])
        → r ≡ appended line (numeral base least n)
    last_is f g =
        rw (numeral_last base due.two least n (sym is ∙ yes))
        (g ∙ ap (λ (d : ℕ). appended line (d ∷ [])) f)

  -- ---- the digits before the last, m of them at least, and the last

  module _ (no : one ≡ false) where
    module _ {m : ℕ} (less : m ≡ least - 1) where
      long : length (numeral base least n) ≡ length (numeral base m (n / base)) + 1
      long =
          rw (less, numeral_more base due.two least n (sym is ∙ no))
          (length-append (numeral base (least - 1) (n / base)) (digit_of (n % base) ∷ []))

      -- what the call for them asks: its measure falls
      pub before_last : (n / base + m < t) × (2 ≤ base) × (base ≤ 16)
          × (line.len + length (numeral base m (n / base)) ≤ 64)
      before_last = (
        rw (less, ← due.measure) (falls base due.two least n (sym is ∙ no)),
        due.two,
        due.most,
        omega (arith, due.room, long),
      )

      -- h is the line with them behind it
      module _ {h : Line} (higher : h ≡ appended line (numeral base m (n / base))) where
        pub push_room : h.len < 64
        push_room = omega (arith, due.room, long, appended_len line (numeral base m (n / base)) higher)

        pub more_is : {d : ℕ} {r : Line} → d ≡ digit_of (n % base) → r ≡ appended h (d ∷ [])
            → r ≡ appended line (numeral base least n)
        more_is {d} f g =
            rw (numeral_more base due.two least n (sym is ∙ no), ← less)
            (g ∙ ap (λ (x : Line). appended x (d ∷ [])) higher
            ∙ appended_more line (numeral base m (n / base)) (d ∷ [])
            ∙ ap (λ (c : ℕ). appended line (numeral base m (n / base) ++ (c ∷ []))) f)

-- ---- a numeral that is short, and a byte behind it

module _ {base least n : ℕ} (s : Short base least n) (line : Line) where
  most : length (numeral base least n) ≤ 20
  most = numeral-most base s.two least n 20 (lit≤ tt) s.few s.small

  module _ (room : line.len + 21 ≤ 64) where
    pub numeral_asks : (2 ≤ base) × (base ≤ 16) × (line.len + length (numeral base least n) ≤ 64)
    numeral_asks = (s.two, s.most, omega (arith, most))

    pub end-room : {h : Line} → h ≡ appended line (numeral base least n) → h.len < 64
    end-room e = omega (arith, most, appended_len line (numeral base least n) e)

  pub ended : (end : ℕ) {h r : Line} → h ≡ appended line (numeral base least n) → r ≡ appended h (end ∷ [])
      → Grown 21 line (numeral base least n ++ (end ∷ [])) r
  ended end e g = record {
    is = g ∙ ap (λ (x : Line). appended x (end ∷ [])) e ∙ appended_more line (numeral base least n) (end ∷ []);
    most = omega (arith, most, length-append (numeral base least n) (end ∷ []));
  }

-- a machine number in decimal
pub decimal-short : (n : ℕ) → n < 18446744073709551616 → Short 10 1 n
decimal-short n h = record { two = lit≤ tt; most = lit≤ tt; few = lit≤ tt; small = omega arith }
