-- `squared_spread`: the f32 operations are those of `square`, on the greatest of four numbers less the least. Assumes nothing.
use mathlib.Core.Path.{◌≡◌}
use Prim.Native.Nat.{ℕ, ◌-◌, min, max}
use lib.IntN.{pos}
use lib.Ieee.{Float, binary32, of_int, mul}
use Rattle.rays.specs.Response.{spread, square}
use Rattle.rays.proofs.rays.squared_spread.Goals as goal

-- two by two, as the code goes
module _ (a b c d : ℕ) {p q hi s t lo : ℕ} {n : Float} where
  spread-by : p ≡ max a b → q ≡ max c d → hi ≡ max p q → s ≡ min a b → t ≡ min c d → lo ≡ min s t
      → n ≡ of_int binary32 (pos (hi - lo)) → mul binary32 n n ≡ square (spread a b c d)
  unfolding square
  spread-by p q hi s t lo n = rw (n, hi, lo, p, q, s, t)

pub returns : goal.returns
returns c =
    let o = c.args in
    spread-by o.a o.b o.c o.d c.max.ensures c.max-2.ensures c.max-hi.ensures
    c.min.ensures c.min-2.ensures c.min-lo.ensures c.from-n.ensures
