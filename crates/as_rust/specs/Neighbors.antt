-- neighbors.rs. A signed loop variable is an i32.
use Rattle.std.specs.Prelude.{Bool, true, false, not, cond, ◌&&◌, ◌||◌, List, ℕ, ◌+◌, ◌*◌, ℤ, pos, neg_ℤ, ◌+ℤ◌, Float}
use Rattle.std.specs.Float.Ieee.{lt}
use Rattle.as_rust.specs.Machine.{Machine, lit_0, ltℤ, is_0, i32, u32, as_i32, as_usize, float_at, for-signed}

-- 28, 63
abbrev pub outside : ℤ → ℤ → ℤ → ℤ → Bool
outside xx yy wi hi = ltℤ xx (pos 0) || (ltℤ yy (pos 0) || (not (ltℤ xx wi) || not (ltℤ yy hi)))

-- 7-38. The early return is the state false, which stays; the slice is `resp`, since `data` is a word of this language.
unfoldable pub is_local_max : Machine → List Float → ℕ → ℕ → ℕ → ℕ → ℤ → Float → Bool
is_local_max m resp w h x y r v =
    let wi = as_i32 w in
    let hi = as_i32 h in
    let cx = as_i32 x in
    let cy = as_i32 y in
    for-signed (i32 m (neg_ℤ r)) r (λ dy run.
    for-signed (i32 m (neg_ℤ r)) r (λ dx run.
    cond run
    (cond (is_0 dx && is_0 dy) true
    (let xx = i32 m (cx +ℤ dx) in
    let yy = i32 m (cy +ℤ dy) in
    cond (outside xx yy wi hi) true
    (let vv = float_at m resp (as_usize yy * w + as_usize xx) in
    cond (lt v vv) false true)))
    false) run) true

-- 42-74. `count` is a u32, the result's type.
unfoldable pub count_positive_neighbors : Machine → List Float → ℕ → ℕ → ℕ → ℕ → ℤ → ℕ
count_positive_neighbors m resp w h x y r =
    let wi = as_i32 w in
    let hi = as_i32 h in
    let cx = as_i32 x in
    let cy = as_i32 y in
    for-signed (i32 m (neg_ℤ r)) r (λ dy count.
    for-signed (i32 m (neg_ℤ r)) r (λ dx count.
    cond (is_0 dx && is_0 dy) count
    (let xx = i32 m (cx +ℤ dx) in
    let yy = i32 m (cy +ℤ dy) in
    cond (outside xx yy wi hi) count
    (let vv = float_at m resp (as_usize yy * w + as_usize xx) in
    cond (lt lit_0 vv) (u32 m (count + 1)) count))) count) 0
