-- Where nothing leaves its type and no index its slice, the machine's operations are the numbers' own, whatever stands for a panic or a wrap.
-- Assumes nothing.
use mathlib.Core.Path.{◌≡◌, refl}
use mathlib.Core.Bool.{Bool, true, false, cond}
use mathlib.Core.List.{List, [], ◌∷◌}
use Prim.Native.Nat.{ℕ, zero, suc, ◌-◌, ◌%◌, ◌^◌, ◌≤◌, ◌<◌}
use native.Mathlib.Nat.{not-suc-le-zero, le_of_suc-le-suc}
use native.Mathlib.Omega.{arith}
use borrow.Author.Tests.{lt-ltb, le-leb, eq-eqb}
use lib.Dec.{ltb}
use lib.ListN.{length, get_or, set, take, replicate, length-append, length-take, length-replicate}
use lib.IntN.{pos, negsuc}
use Rattle.as_rust.specs.Machine.{Machine, i64, sat, i32, usize, u32, less, as_i32, put, copy_from_slice, resize}

module _ (m : Machine) where
  pub usize-is : (n : ℕ) → n < 2 ^ 64 → usize m n ≡ n
  unfolding usize
  usize-is n b = rw (lt-ltb n (2 ^ 64) b)

  pub u32-is : (n : ℕ) → n < 2 ^ 32 → u32 m n ≡ n
  unfolding u32
  u32-is n b = rw (lt-ltb n (2 ^ 32) b)

  pub less-is : (a b : ℕ) → b ≤ a → less m a b ≡ a - b
  unfolding less
  less-is a b l = rw (le-leb b a l)

  pub i64-is : (n : ℕ) → n < 2 ^ 63 → i64 m (pos n) ≡ pos n
  unfolding i64
  i64-is n b = rw (lt-ltb n (2 ^ 63) b)

  pub sat-is : (n : ℕ) → n < 2 ^ 32 → sat m (pos n) ≡ pos n
  unfolding sat
  sat-is n b = go m.narrow
    where
      go : (t : Bool) → cond t (cond (ltb n (2 ^ 32)) (pos n) (m.signed (pos n))) (i64 m (pos n)) ≡ pos n
      go true = rw (lt-ltb n (2 ^ 32) b)
      go false = i64-is n (omega arith)

  pub i32-is : (n : ℕ) → n < 2 ^ 31 → i32 m (pos n) ≡ pos n
  unfolding i32
  i32-is n b = rw (lt-ltb n (2 ^ 31) b)

  pub i32-minus : (n : ℕ) → n < 2 ^ 31 → i32 m (negsuc n) ≡ negsuc n
  unfolding i32
  i32-minus n b = rw (lt-ltb n (2 ^ 31) b)

pub i32_cast : (n : ℕ) → n < 2 ^ 31 → as_i32 n ≡ pos n
i32_cast n b =
    let e : n % 2 ^ 32 ≡ n = omega arith in
    rw (e, lt-ltb n (2 ^ 31) b)

module _ {A : Type 0} where
  -- a read inside a slice does not turn on what one outside gives
  pub inside : (s : List A) (i : ℕ) (d e : A) → i < length s → get_or s i d ≡ get_or s i e
  inside [] i d e b = absurd (not-suc-le-zero b)
  inside (x ∷ s) zero d e b = refl
  inside (x ∷ s) (suc i) d e b = inside s i d e (le_of_suc-le-suc b)

  pub put_is : (s : List A) (i : ℕ) (v : A) → i < length s → put s i v ≡ set s i v
  unfolding put
  put_is s i v b = rw (lt-ltb i (length s) b)

  pub copy_is : (dst src : List A) → length dst ≡ length src → copy_from_slice dst src ≡ src
  unfolding copy_from_slice
  copy_is dst src e = rw (eq-eqb (length dst) (length src) e)

  pub resize-long : (v : List A) (n : ℕ) (x : A) → length (resize v n x) ≡ n
  unfolding resize
  resize-long v n x = omega (arith, length-append (take n v) (replicate (n - length v) x), length-take n v, length-replicate (n - length v) x)
