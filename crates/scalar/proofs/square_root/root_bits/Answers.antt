-- `scalar::square_root::root_bits` meets its contract: the pattern that it puts together is the nearest root's, and there is one. Assumes nothing.
use Rattle.std.proofs.Common.{◌≡◌, ℕ, ◌+◌, ◌*◌, ◌<◌, sym, subst, arith, lit<}
use Rattle.scalar.specs.Bits.{infinite}
use Rattle.scalar.specs.Root.{root_bits}
use Rattle.scalar.specs.Steps.{Scales, Rounds}
use Rattle.scalar.proofs.Nearest.{is_root, root_is, zero_root}
use Rattle.scalar.proofs.square_root.root_bits.Goals as goal

put-together : (b n h q : ℕ) → Scales b n h → Rounds n q → (h * 8388608 + q ≡ root_bits b) × (h * 8388608 + q < infinite)
put-together b n h q s r = (root_is b (h * 8388608 + q) (omega arith) (is_root b n h q s r), omega arith)

pub returns-then-b-eq0 : goal.returns-then-b-eq0
returns-then-b-eq0 c = (subst (λ (b : ℕ). 0 ≡ root_bits b) (sym c.if-b-eq0.true) (root_is 0 0 (lit< tt) zero_root), lit< tt)

pub returns : goal.returns
returns c =
    put-together c.args.b c.scaled-s.result.n c.scaled-s.result.h c.nearest_root-q.result
    c.scaled-s.ensures c.nearest_root-q.ensures
