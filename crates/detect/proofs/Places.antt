-- Where a corner lies: its place in input pixels is a number from 0 to the frame's side, whatever the map has. Assumes nothing.
use mathlib.Core.Path.{refl}
use mathlib.Core.Bool.{true, false, cond}
use Prim.Native.Nat.{ℕ, zero, suc, ◌-◌, ◌*◌, ◌≤◌, ◌<◌}
use native.Mathlib.Nat.{mul-le-mul}
use native.Mathlib.Omega.{arith}
use lib.Dec.{T, lit<, lit≤, eqb}
use lib.IntN.{pos}
use lib.Ieee.{Float, binary32, of_bits, of_int, add, mul, le}
use lib.Ieee.Exact.{HasValue}
use lib.Ieee.Scale.{finite}
use Rattle.float.specs.Values.{f0, f1}
use Rattle.float.proofs.Ranged.{Ranged, exact, ranged_whole, ranged_wider, ranged_finite, ranged_above, ranged_most, mul_ranged}
use Rattle.float.proofs.Shifted.{Within, within_of_le, add_within, held_whole}
use Rattle.grid.specs.Rect.{Place}
use Rattle.grid.proofs.All.{All, all_keep, all_rect, InRect}
use Rattle.params.specs.declared.settings.RadonDetectorParams.{RadonDetectorParams}
use Rattle.params.specs.Settings.{factor_of, border_of}
use Rattle.params.specs.Coordinates.{to_input}
use Rattle.verdict.specs.Window.{at}
use Rattle.crests.specs.Maximum.{entry}
use Rattle.peak_fit.specs.PeakFit.{half, minus_half}
use Rattle.detect.specs.Corners.{corners, offsetX, offsetY, input_at, numbers}
use Rattle.peak_fit.proofs.Offsets.{Central, fit_central}

-- ---- one coordinate

half_is : HasValue half false 1 2
unfolding of_bits
half_is = (refl, refl)

minus_half-is : HasValue minus_half true 1 2
unfolding of_bits
minus_half-is = (refl, refl)

one-is : HasValue f1 false 1 1
unfolding of_bits
one-is = (refl, refl)

central_within : (x : Float) → Central x → Within 1 2 x
central_within x c = within_of_le 1 2 minus_half half x minus_half-is half_is c.least c.most

-- working pixel c of n, moved by at most half a pixel
moved : (n c : ℕ) (offset : Float) → n ≤ 8192 → 1 ≤ c → c < n → Central offset → Ranged 1 2 n (add binary32 (of_int binary32 (pos c)) offset)
unfolding of_int
moved n c offset most a b o =
    add_within 1 2 1 1 c n 1 2 (lit< tt) (lit< tt) (lit< tt) (exact 1 (lit≤ tt)) (held_whole n (omega arith)) (lit≤ tt) (omega arith)
    (ranged_whole c c _ (held_whole c (omega arith)) a (omega arith))
    (central_within offset o)

-- times 1 / q
part : (q side : ℕ) (y : Float) {x : Float} → 0 < q → q ≤ 2 → side ≤ 4096 → HasValue y false 1 q → Ranged 1 2 (q * side) x
    → Ranged 1 4 side (mul binary32 x y)
part q side y some two m v r =
    mul_ranged 1 2 (q * side) 1 4 side 1 q (lit< tt) (lit< tt) some (exact 2 (lit≤ tt)) (held_whole side (omega arith))
    (omega arith) (omega arith) y r v

-- times 1 at factor 1, times 0.5 at factor 2
scaled : (factor side : ℕ) {x : Float} → side ≤ 4096 → 1 ≤ factor → factor ≤ 2 → Ranged 1 2 (factor * side) x
    → Ranged 1 4 side (mul binary32 x (cond (eqb factor 1) f1 half))
scaled zero side m a b r = absurd (omega arith)
scaled (suc zero) side m a b r = part 1 side f1 (lit< tt) (lit≤ tt) m one-is r
scaled (suc (suc zero)) side m a b r = part 2 side half (lit< tt) (lit≤ tt) m half_is r
scaled (suc (suc (suc n))) side m a b r = absurd (omega arith)

pub input_ranged : (up side c : ℕ) (offset : Float) → side ≤ 4096 → 1 ≤ c → c < factor_of up * side → Central offset
    → Ranged 1 4 side (input_at up c offset)
unfolding input_at to_input
input_ranged up side c offset m a b o =
    let one : 1 ≤ factor_of up = omega arith in
    let two : factor_of up ≤ 2 = omega arith in
    let most : factor_of up * side ≤ 8192 = mul-le-mul two m in
    scaled (factor_of up) side m one two (moved (factor_of up * side) c offset most a b o)

-- ---- a corner's three numbers, on a frame w wide and h high

-- 4,096
abbrev pub f4096 : Float
f4096 = of_bits binary32 0x4580_0000

-- all three are finite, and the place lies on the frame, whose sides are at most 4,096
pub record OnFrame (w h : ℕ) (x y strength : Float) : Type 0 where
  pub x_finite : T (finite x)
  pub y_finite : T (finite y)
  pub strength_finite : T (finite strength)
  pub x_least : T (le f0 x)
  pub y_least : T (le f0 y)
  pub x_side : T (le x (of_int binary32 (pos w)))
  pub y_side : T (le y (of_int binary32 (pos h)))
  pub x_most : T (le x f4096)
  pub y_most : T (le y f4096)

to_side : (side : ℕ) {x : Float} → side ≤ 4096 → Ranged 1 4 side x → T (le x (of_int binary32 (pos side)))
unfolding of_int
to_side side m r = ranged_most _ (held_whole side (omega arith)) r

to_most : (side : ℕ) {x : Float} → side ≤ 4096 → Ranged 1 4 side x → T (le x f4096)
unfolding of_bits
to_most side m r = ranged_most _ (refl, refl) (ranged_wider 1 4 4096 (lit< tt) (lit≤ tt) m r)

on_frame : (w h : ℕ) {x y strength : Float} → w ≤ 4096 → h ≤ 4096 → Ranged 1 4 w x → Ranged 1 4 h y → T (finite strength)
    → OnFrame w h x y strength
on_frame w h u v a b t = record {
  x_finite = ranged_finite a;
  y_finite = ranged_finite b;
  strength_finite = t;
  x_least = ranged_above a;
  y_least = ranged_above b;
  x_side = to_side w u a;
  y_side = to_side h v b;
  x_most = to_most w u a;
  y_most = to_most h v b;
}

-- a candidate lies at least the border from every edge
abbrev pub Inner : RadonDetectorParams → ℕ → ℕ → Place → Type 0
Inner s w h p = InRect (border_of s) (w - border_of s) (border_of s) (h - border_of s) p

pub corners_inner : (s : RadonDetectorParams) (w h : ℕ) (f : ℕ → ℕ → Float) (g : ℕ → ℕ → ℕ) → All (Inner s w h) (corners s w h f g)
unfolding corners
corners_inner s w h f g = all_keep (Inner s w h) _ _ (all_rect (border_of s) (w - border_of s) (border_of s) (h - border_of s))

-- and so a corner of the working image, W wide and H high, is on the frame
module _ (s : RadonDetectorParams) (f : ℕ → ℕ → Float) (w h : ℕ) (wide : w ≤ 4096) (high : h ≤ 4096) (p : Place) where
  abbrev W : ℕ
  W = factor_of s.image_upsample * w

  abbrev H : ℕ
  H = factor_of s.image_upsample * h

  pub numbers_on_frame : Inner s W H p → T (finite (at f p))
      → OnFrame w h (entry (numbers s f p) 0) (entry (numbers s f p) 1) (entry (numbers s f p) 2)
  unfolding numbers
  numbers_on_frame c t =
      on_frame w h wide high
      (input_ranged s.image_upsample w p.x (offsetX s f p) wide (omega arith) (omega arith) (fit_central _ _ _ _))
      (input_ranged s.image_upsample h p.y (offsetY s f p) high (omega arith) (omega arith) (fit_central _ _ _ _))
      t
