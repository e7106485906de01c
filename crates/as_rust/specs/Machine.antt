-- What Rust's integers, floats, slices and loops mean. What the Rust's text leaves open, and what a panic or a wrap would give, is one
-- parameter, `Machine`, and the theorems hold for every machine that is `Sound`. Definitions only.
use Rattle.std.specs.Prelude.{◌≡◌, ◌⊎◌, Bool, true, false, cond, List, [], ◌++◌, ℕ, zero, suc, ◌+◌, ◌-◌, ◌*◌, ◌/◌, ◌%◌, ◌^◌, min, ltb, leb, eqb, length, get_or, set, take, replicate, ℤ, pos, negsuc, ◌+ℤ◌, ◌-ℤ◌, Float}
use Rattle.std.specs.Float.{nan, inf, fin, binary32}
use Rattle.std.specs.Float.Ieee.{up, down, of_bits, is_nan, of_int, to_signed, to_unsigned, round, add, sub, mul, div, lt}
use Rattle.as_rust.specs.Root.{NearestRoots}

infixl 6 ◌⊕◌ ◌⊖◌
infixl 7 ◌⊗◌ ◌⊘◌
-- ---- what is left open

pub record Machine : Type 0 where
  -- `f32::ln`, the platform's. Assumed: it is one function, the same at every call (the standard library does not promise that)
  pub ln : Float → Float
  -- `f32::sqrt`
  pub sqrt : Float → Float
  -- what `sum()` of f32 starts at: -0.0 in newer standard libraries, 0.0 in older ones
  pub start : Float
  -- whether `x.max(y)` is x where neither is greater: of 0.0 and -0.0 it may be either
  pub first : Float → Float → Bool
  -- whether the crate is built with the feature radon-sat-u32: tables of u32 and not of i64
  pub narrow : Bool
  -- In place of a panic or a wrap: what a read at an index outside a slice gives, by the index, of bytes, of table entries and of floats; and what
  -- a signed and an unsigned operation gives whose result its type has not, by that result. Since these may be anything, a byte beyond all f32s
  -- and a NaN too, one that reached a result would show. (A read whose value is thrown away would not; the text has none, and proofs/Indices has
  -- a bound for each read.)
  pub byte : ℕ → ℕ
  pub entry : ℕ → ℤ
  pub float : ℕ → Float
  pub signed : ℤ → ℤ
  pub unsigned : ℤ → ℕ

-- ---- literals, by their patterns (that each is the nearest f32 to its decimal text: `literals` of proofs/Literals)

-- 0.0, -0.0, 1.0, 2.0, 4.0, 16.0, 255.0
abbrev pub lit_0 : Float
lit_0 = of_bits binary32 0x0000_0000

abbrev pub lit_minus_0 : Float
lit_minus_0 = of_bits binary32 0x8000_0000

abbrev pub lit_1 : Float
lit_1 = of_bits binary32 0x3f80_0000

abbrev pub lit_2 : Float
lit_2 = of_bits binary32 0x4000_0000

abbrev pub lit_4 : Float
lit_4 = of_bits binary32 0x4080_0000

abbrev pub lit_16 : Float
lit_16 = of_bits binary32 0x4180_0000

abbrev pub lit_255 : Float
lit_255 = of_bits binary32 0x437f_0000

-- 0.5, -0.5, 0.2, 0.28, -1e-12
abbrev pub lit_half : Float
lit_half = of_bits binary32 0x3f00_0000

abbrev pub lit_minus_half : Float
lit_minus_half = of_bits binary32 0xbf00_0000

abbrev pub lit_0·2 : Float
lit_0·2 = of_bits binary32 0x3e4c_cccd

abbrev pub lit_0·28 : Float
lit_0·28 = of_bits binary32 0x3e8f_5c29

abbrev pub lit_minus_1e_12 : Float
lit_minus_1e_12 = of_bits binary32 0xab8c_bccc

-- `f32::NEG_INFINITY`
abbrev pub neg_infinity : Float
neg_infinity = inf true

-- a machine whose root is the nearest f32, and whose sums start at a zero
pub record Sound (m : Machine) : Type 0 where
  pub roots : NearestRoots m.sqrt
  pub starts : (m.start ≡ lit_0) ⊎ (m.start ≡ lit_minus_0)

-- ---- f32

-- `x + y`, `x - y`, `x * y`, `x / y`
abbrev pub ◌⊕◌ : Float → Float → Float
x ⊕ y = add binary32 x y

abbrev pub ◌⊖◌ : Float → Float → Float
x ⊖ y = sub binary32 x y

abbrev pub ◌⊗◌ : Float → Float → Float
x ⊗ y = mul binary32 x y

abbrev pub ◌⊘◌ : Float → Float → Float
x ⊘ y = div binary32 x y

-- `x.floor()`: the greatest whole number that is at most x, with x's sign where that is 0
unfoldable pub floor : Float → Float
floor nan = nan
floor (inf s) = inf s
floor (fin false k e) = round binary32 false (k * up e / down e) 1
floor (fin true k e) = round binary32 true ((k * up e + (down e - 1)) / down e) 1

-- `x.round()`: the nearest whole number, halves away from 0, with x's sign
unfoldable pub rounded : Float → Float
rounded nan = nan
rounded (inf s) = inf s
rounded (fin s k e) = round binary32 s ((2 * (k * up e) + down e) / (2 * down e)) 1

-- `x.clamp(lo, hi)`: core's two `if`s, so that a NaN stays
unfoldable pub clamp : Float → Float → Float → Float
clamp x lo hi =
    let x = cond (lt x lo) lo x in
    cond (lt hi x) hi x

-- `x.max(y)`
unfoldable pub max_f32 : Machine → Float → Float → Float
max_f32 m x y =
    cond (is_nan x) y
    (cond (is_nan y) x
    (cond (lt x y) y
    (cond (lt y x) x
    (cond (m.first x y) x y))))

-- `x.abs()`, `x.is_finite()`
unfoldable pub abs : Float → Float
abs nan = nan
abs (inf s) = inf false
abs (fin s k e) = fin false k e

abbrev pub is_finite : Float → Bool
is_finite nan = false
is_finite (inf s) = false
is_finite (fin s k e) = true

-- ---- integers: i64, i32 and isize are ℤ, usize, u32 and u8 are ℕ, and isize and usize have 64 bits. The settings' u32s are any ℕ; an image's bytes
-- are below 256 by `Bytes` of crates/radon/specs/Finder, and what is stored as a byte comes from `to_u8`.

-- `a < b` on i64, i32 or isize
abbrev pub ltℤ : ℤ → ℤ → Bool
ltℤ (pos a) (pos b) = ltb a b
ltℤ (pos a) (negsuc b) = false
ltℤ (negsuc a) (pos b) = true
ltℤ (negsuc a) (negsuc b) = ltb b a

-- `a.max(b)`
abbrev pub maxℤ : ℤ → ℤ → ℤ
maxℤ a b = cond (ltℤ a b) b a

-- `z == 0`
abbrev pub is_0 : ℤ → Bool
is_0 (pos n) = eqb n 0
is_0 (negsuc n) = false

-- whether a signed type of h bits and a sign has z
abbrev pub has : ℕ → ℤ → Bool
has h (pos n) = ltb n (2 ^ h)
has h (negsuc n) = ltb n (2 ^ h)

-- the result of an operation on i64 or isize, on i32
unfoldable pub i64 : Machine → ℤ → ℤ
i64 m z = cond (has 63 z) z (m.signed z)

unfoldable pub i32 : Machine → ℤ → ℤ
i32 m z = cond (has 31 z) z (m.signed z)

-- the result of an operation on table entries: u32 or i64, by the feature
abbrev pub has-u32 : ℤ → Bool
has-u32 (pos n) = ltb n (2 ^ 32)
has-u32 (negsuc n) = false

unfoldable pub sat : Machine → ℤ → ℤ
unfolding i64
sat m z = cond m.narrow (cond (has-u32 z) z (m.signed z)) (i64 m z)

-- the result of a sum or a product on usize, on u32
unfoldable pub usize : Machine → ℕ → ℕ
usize m n = cond (ltb n (2 ^ 64)) n (m.unsigned (pos n))

unfoldable pub u32 : Machine → ℕ → ℕ
u32 m n = cond (ltb n (2 ^ 32)) n (m.unsigned (pos n))

-- `a - b` on usize
unfoldable pub less : Machine → ℕ → ℕ → ℕ
less m a b = cond (leb b a) (a - b) (m.unsigned (pos a -ℤ pos b))

-- ---- casts

-- `n as i32` of a u32 or a usize, `n as isize` of a usize: what is beyond wraps round
abbrev pub as_signed : ℕ → ℕ → ℤ
as_signed h n =
    let k = n % 2 ^ suc h in
    cond (ltb k (2 ^ h)) (pos k) (negsuc (2 ^ suc h - suc k))

abbrev pub as_i32 : ℕ → ℤ
as_i32 n = as_signed 31 n

abbrev pub as_isize : ℕ → ℤ
as_isize n = as_signed 63 n

-- `z as usize` of an i32 or an isize
abbrev pub as_usize : ℤ → ℕ
as_usize (pos n) = n
as_usize (negsuc n) = 2 ^ 64 - suc n

-- `n as f32` of an unsigned integer, `f32::from(n)` of a u8; `z as f32` of a signed one
abbrev pub as_f32 : ℕ → Float
as_f32 n = of_int binary32 (pos n)

abbrev pub as_f32-signed : ℤ → Float
as_f32-signed z = of_int binary32 z

-- `x as isize`, `x as u8` of an f32: toward 0, and the nearest end of the range beyond it
abbrev pub to_isize : Float → ℤ
to_isize x = to_signed 63 x

abbrev pub to_u8 : Float → ℕ
to_u8 x = to_unsigned 8 x

-- `x.wrapping_add_signed(o)` of a usize and an isize
abbrev pub wrapping_add_signed : ℕ → ℤ → ℕ
wrapping_add_signed x o = (x + as_usize o) % 2 ^ 64

-- ---- slices, which are lists

-- `s[i]` of bytes, of table entries, of floats. An index is a sum of products, without `usize` about it: one that usize has not is outside
-- every slice.
abbrev pub byte_at : Machine → List ℕ → ℕ → ℕ
byte_at m s i = get_or s i (m.byte i)

abbrev pub entry-at : Machine → List ℤ → ℕ → ℤ
entry-at m s i = get_or s i (m.entry i)

abbrev pub float_at : Machine → List Float → ℕ → Float
float_at m s i = get_or s i (m.float i)

module _ {A : Type 0} where
  -- `s[i] = v`. Outside, where the Rust panics, the slice is lost: nothing that is stored later brings it back.
  unfoldable pub put : List A → ℕ → A → List A
  put s i v = cond (ltb i (length s)) (set s i v) []

  -- `dst.copy_from_slice(src)`, which panics where the lengths differ: the slice is lost
  unfoldable pub copy_from_slice : List A → List A → List A
  copy_from_slice dst src = cond (eqb (length dst) (length src)) src []

  -- `v.resize(n, x)`
  unfoldable pub resize : List A → ℕ → A → List A
  resize v n x = take n v ++ replicate (n - length v) x

-- ---- loops

module _ {S : Type 0} where
  -- `for i in 0..n { s = step(i, s); }`
  unfoldable pub times : ℕ → (ℕ → S → S) → S → S
  times zero step s = s
  times (suc n) step s = step n (times n step s)

  -- `for i in a..e { s = step(i, s); }`
  abbrev pub for : ℕ → ℕ → (ℕ → S → S) → S → S
  for a e step s = times (e - a) (λ k. step (a + k)) s

-- how many numbers `a..=e` has
abbrev pub how_many : ℤ → ℤ → ℕ
how_many (pos a) (pos e) = suc e - a
how_many (negsuc a) (pos e) = suc a + suc e
how_many (pos a) (negsuc e) = 0
how_many (negsuc a) (negsuc e) = suc a - e

-- `for d in a..=e { s = step(d, s); }` on i32
unfoldable pub for-signed : {S : Type 0} → ℤ → ℤ → (ℤ → S → S) → S → S
unfolding times
for-signed a e step s = times (how_many a e) (λ i. step (a +ℤ pos i)) s

-- `for (i, row) in s.chunks_mut(w).enumerate() { step(i, row); }`: a row is told by where it begins in s and how many entries it has, w or what
-- is left. (w = 0 panics; each of the three calls comes after a test that w is not 0.)
unfoldable pub chunks : {A : Type 0} → ℕ → (ℕ → ℕ → ℕ → List A → List A) → List A → List A
unfolding times
chunks w step s =
    let n = length s in
    times ((n + (w - 1)) / w) (λ i s. step i (i * w) (min w (n - i * w)) s) s
