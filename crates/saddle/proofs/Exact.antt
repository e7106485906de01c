-- What the code computes in floats in place of whole numbers is exact: the offsets i - k, and the count of a disk's
-- places. Each is one test that is computed. Assumes nothing.
use mathlib.Core.Path.{◌≡◌}
use mathlib.Core.Bool.{Bool}
use Prim.Native.Nat.{ℕ, ◌≤◌, ◌<◌}
use native.Mathlib.Omega.{arith}
use lib.Dec.{T}
use lib.ListN.{length}
use lib.IntN.{pos}
use lib.Ieee.{binary32, fits, to_bits, of_bits, of_int, add, sub, mul}
use Rattle.float.proofs.Computed.{every, every_at, alike, alike_same}
use Rattle.grid.specs.Each.{each, keep}
use Rattle.grid.specs.Rect.{from, range, line, rect}
use Rattle.saddle.specs.Saddle.{side, offset, disk, moments_of}

offset_alike : ℕ → ℕ → Bool
offset_alike k i = alike (sub binary32 (of_int binary32 (pos i)) (of_int binary32 (pos k))) (offset k i)

offsets : T (every (λ k. every (offset_alike k) 15) 8)
unfolding every offset_alike alike fits offset to_bits sub of_int
offsets = tt

pub offset-is : (k i : ℕ) → k ≤ 7 → i < side k
    → sub binary32 (of_int binary32 (pos i)) (of_int binary32 (pos k)) ≡ offset k i
unfolding offset_alike
offset-is k i b l =
    let row = every_at (λ k. every (offset_alike k) 15) 8 offsets k (omega arith) in
    alike_same _ _ (every_at (offset_alike k) 15 row i (omega arith))

counted : ℕ → Bool
counted k = alike (moments_of k).n (of_int binary32 (pos (length (disk k))))

counts : T (every counted 8)
unfolding every counted alike fits moments_of disk keep each rect line range from of_bits to_bits add mul of_int
counts = tt

pub count-is : (k : ℕ) → k ≤ 7 → (moments_of k).n ≡ of_int binary32 (pos (length (disk k)))
unfolding counted
count-is k b = alike_same _ _ (every_at counted 8 counts k (omega arith))
