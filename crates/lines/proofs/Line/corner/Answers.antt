-- `lines::Line::corner` meets its contract: three patterns of bits. Assumes nothing.
use mathlib.Core.Path.{◌≡◌}
use mathlib.Core.List.{[], ◌∷◌}
use Prim.Native.Nat.{ℕ}
use lib.Ieee.{Float, binary32, to_bits}
use Rattle.lines.specs.declared.Line.{Line}
use Rattle.lines.specs.Printed.{numeral, row, corner_line}
use Rattle.lines.specs.Lines.{Shows}
use Rattle.lines.proofs.Line.corner.Goals as goal

three-words : {a b c : ℕ} (x y z : Float) {r : Line}
    → a ≡ to_bits binary32 x → b ≡ to_bits binary32 y → c ≡ to_bits binary32 z
    → Shows (row (numeral 16 8 a ∷ numeral 16 8 b ∷ numeral 16 8 c ∷ [])) r → Shows (corner_line (x ∷ y ∷ z ∷ [])) r
unfolding corner_line
three-words x y z d e f s = rw (d, e, f) at s

pub returns : goal.returns
returns c =
    three-words _ _ _ c.bits.ensures c.bits-2.ensures c.bits-3.ensures c.three.ensures
