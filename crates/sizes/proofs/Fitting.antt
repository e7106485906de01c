-- What `fits_in` and `square_fits` say and what they take, and a conjunction of tests taken apart. Assumes nothing.
use mathlib.Core.Path.{◌≡◌, refl, sym}
use mathlib.Core.Bool.{Bool, true, false, ◌&&◌, true≢false}
use Prim.Native.Nat.{ℕ, ◌+◌, ◌*◌, ◌≤◌, ◌<◌}
use borrow.Author.Tests.{ltb-true, lt-ltb, leb-true, le-leb}
use lib.Dec.{ltb, leb}
use Rattle.sizes.specs.Fits.{fits_in, clear_of, square_fits}

pub both_true : (a b : Bool) → a && b ≡ true → (a ≡ true) × (b ≡ true)
both_true true b e = (refl, e)
both_true false b e = absurd (true≢false (sym e))

pub true_both : {a b : Bool} → a ≡ true → b ≡ true → a && b ≡ true
true_both p q = rw (p, q)

-- a map that fits
pub record Fitting (w h room : ℕ) : Type 0 where
  pub wide : w ≤ 8192
  pub high : h ≤ 8192
  pub inside : w * h ≤ room

pub fitting : (w h room : ℕ) → fits_in w h room ≡ true → Fitting w h room
fitting w h room e =
    let a = both_true (leb w 8192) (leb h 8192 && leb (w * h) room) e in
    let b = both_true (leb h 8192) (leb (w * h) room) a.1 in
    record { wide = leb-true w 8192 a.0; high = leb-true h 8192 b.0; inside = leb-true (w * h) room b.1 }

pub fits_so : {w h room : ℕ} → Fitting w h room → fits_in w h room ≡ true
fits_so {w} {h} {room} f = true_both (le-leb w 8192 f.wide) (true_both (le-leb h 8192 f.high) (le-leb (w * h) room f.inside))

-- ---- a square in the map

clear_of_lem : (k c n : ℕ) → clear_of k c n ≡ true → (k ≤ c) × (c + k < n)
clear_of_lem k c n e =
    let a = both_true (leb k c) (ltb (c + k) n) e in
    (leb-true k c a.0, ltb-true (c + k) n a.1)

of_clear : (k c n : ℕ) → k ≤ c → c + k < n → clear_of k c n ≡ true
of_clear k c n a b = true_both (le-leb k c a) (lt-ltb (c + k) n b)

-- a square that fits
pub record Square (k n w h x y : ℕ) : Type 0 where
  pub map : Fitting w h n
  pub left : k ≤ x
  pub right : x + k < w
  pub above : k ≤ y
  pub below : y + k < h

pub square-fitting : (k n w h x y : ℕ) → square_fits k n w h x y ≡ true → Square k n w h x y
square-fitting k n w h x y e =
    let a = both_true (fits_in w h n) (clear_of k x w && clear_of k y h) e in
    let b = both_true (clear_of k x w) (clear_of k y h) a.1 in
    let across = clear_of_lem k x w b.0 in
    let down = clear_of_lem k y h b.1 in
    record { map = fitting w h n a.0; left = across.0; right = across.1; above = down.0; below = down.1 }

pub square_so : {k n w h x y : ℕ} → Square k n w h x y → square_fits k n w h x y ≡ true
square_so {k} {n} {w} {h} {x} {y} s =
    true_both (fits_so s.map) (true_both (of_clear k x w s.left s.right) (of_clear k y h s.above s.below))
