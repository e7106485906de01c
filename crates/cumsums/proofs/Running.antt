-- Laws of the passes that fill the tables, over the way: what a run of entries adds to a row, and a row to the rows above. Assumes nothing.
use mathlib.Core.Path.{◌≡◌, refl, ap, ◌∙◌}
use mathlib.Core.Logic.{◌⊎◌, inl, inr}
use mathlib.Core.List.{List}
use Prim.Native.Nat.{ℕ, ◌+◌, ◌-◌, ◌*◌, ◌≤◌, ◌<◌, min}
use native.Mathlib.Nat.{mul_comm, eq-zero-or-pos}
use native.Mathlib.Omega.{arith}
use lib.ListN.{length, get_or}
use Rattle.grid.proofs.Fill.{length-fill, getD_filled}
use Rattle.grid.specs.Plane.{plane}
use Rattle.grid.proofs.Plane.{row_in, next_row, row-above, column_in, row-number_in}
use Rattle.grid.proofs.Loops.{Rows, Row, row-none, row_read, rows_on, rows_join}
use Rattle.grid.specs.Span.{span}
use Rattle.grid.proofs.Span.{row-span}
use Rattle.grid.specs.Ways.{Way, along, down, fall, rise, pixel}
use Rattle.cumsums.specs.Tables.{table_at, table_of}
use Rattle.cumsums.specs.Passes.{Above, Carries}
use Rattle.cumsums.proofs.Summed.{Begins, Goes, beforex, beforey, table_first, table_on, table_most}

-- how many entries before a pixel's entry that of the pixel before it on the line stands
abbrev pub behind : Way → ℕ → ℕ
behind along w = 1
behind down w = w
behind fall w = w + 1
behind rise w = w - 1

-- the line goes on at x and y from a pixel of the row above
abbrev pub FromAbove : Way → ℕ → ℕ → ℕ → Type 0
FromAbove d w x y = Goes d w x y × (beforey d y + 1 ≡ y)

-- where the entry of that pixel stands: in the row above
pub place : (d : Way) (w x y : ℕ) → x < w → FromAbove d w x y
    → (y * w + x - behind d w ≡ beforey d y * w + beforex d x) × (beforex d x < w) × (beforey d y * w + w ≡ y * w)
place along w x y l g = absurd (omega arith)
place down w x y l g = omega (arith, row-above w g.0)
place fall w x y l g = omega (arith, row-above w g.0.1)
place rise w x y l g = omega (arith, row-above w g.0.0)

-- a pixel is a byte
pub pixel-most : (img : List ℕ) (w : ℕ) → ((k : ℕ) → get_or img k 0 < 256) → (x y : ℕ) → pixel img w x y ≤ 255
pixel-most img w small x y = omega (arith, small (y * w + x))

-- ---- row y, where the rows above are done: `Row` has h, which is y + 1 here

module _ (d : Way) (img : List ℕ) (w y : ℕ) (xs : List ℕ) where
  abbrev pub Filling : List ℕ → ℕ → Type 0
  Filling ys x = Row w (y + 1) (table_at d (pixel img w) w) xs ys y x

  pub row-start : Above d img w y xs → Filling xs 0
  row-start a =
      row-none w (y + 1) _ xs (record { least = omega arith; most = omega arith; fill = rw (mul_comm w y) at a.done; long = refl }) (omega arith)

  -- what comes back from `begin`
  pub row_begun : {ys zs : List ℕ} {lo hi a e : ℕ} → Filling ys lo → lo ≤ hi → hi ≤ w → a ≡ y * w + lo → e ≡ y * w + hi
      → zs ≡ span a (e - a) (λ i. get_or img i 0) ys → ((x : ℕ) → lo ≤ x → x < hi → Begins d w x y) → Filling zs hi
  row_begun r l m p q z b =
      row-span w (y + 1) _ _ xs r l m p q z (λ x u v. table_first (pixel img w) w d x y (omega arith) (b x u v))

  -- and from `carry`
  pub row_carried : {ys zs : List ℕ} {lo hi a e : ℕ} → Filling ys lo → y * w + w ≤ length xs → lo ≤ hi → hi ≤ w
      → a ≡ y * w + lo → e ≡ y * w + hi
      → zs ≡ span a (e - a) (λ i. get_or ys (i - behind d w) 0 + get_or img i 0) ys
      → ((x : ℕ) → lo ≤ x → x < hi → FromAbove d w x y) → Filling zs hi
  row_carried r room l m p q z b =
      row-span w (y + 1) _ _ xs r l m p q z (λ x u v.
      let o = place d w x y (omega arith) (b x u v) in
      let all : w * (y + 1) ≤ length xs = omega (arith, next_row w y, mul_comm w (y + 1)) in
      ap (λ (k : ℕ). k + pixel img w x y) (row_read w (y + 1) _ xs r all 0 (beforex d x) (beforey d y) o.1 o.0 (omega arith))
      ∙ table_on (pixel img w) w d x y (b x u v).0)

  pub row-whole : {zs : List ℕ} → Filling zs w → zs ≡ table_of d (pixel img w) w (y + 1) xs
  row-whole r = rw (mul_comm w (y + 1), next_row w y) r.steps.fill

  -- the entries that a run goes on from fit
  pub row_fits_lem : {ys : List ℕ} {lo : ℕ} → Filling ys lo → Above d img w y xs → ((k : ℕ) → get_or img k 0 < 256) → (k : ℕ)
      → k < y * w + lo → get_or ys k 0 ≤ 255 * 8192
  unfolding plane
  row_fits_lem {ys} {lo} r a small k b =
      let l : k < w * (y + 1) = omega (arith, r.room, r.steps.most) in
      let e : get_or ys k 0 ≡ plane w (table_at d (pixel img w) w) k =
      rw r.steps.fill (getD_filled (y * w + lo) _ xs k 0 b (omega (arith, a.room, r.steps.most))) in
      rw e (table_most (pixel img w) w d 255 8192 _ _ (pixel-most img w small) (column_in w (y + 1) l) a.wide
      (omega (arith, a.high, row-number_in w (y + 1) l)))

-- ---- a row of a diagonal table: n of its lines go on from the row above

-- none does in the first row, and one begins in another
pub record Going (w y n : ℕ) : Type 0 where
  pub top : y ≡ 0 → n ≡ 0
  pub lower : 0 < y → n ≡ w - 1

-- as the code finds it
pub going_of : {w y d n : ℕ} → d ≡ w - 1 → (y ≡ 0 → n ≡ 0) × (0 < y → n ≡ d) → Going w y n
going_of e p = record { top = p.0; lower = λ l. p.1 l ∙ e }

module _ {w y n : ℕ} (g : Going w y n) where
  -- either none goes on, or the row is not the first and has columns
  going_cases : (n ≡ 0) ⊎ ((0 < y) × (n ≡ w - 1) × (0 < w))
  going_cases = elim (eq-zero-or-pos y) [
    | inl e ↦ inl (g.top e)
    | inr l ↦ elim (eq-zero-or-pos w) [ inl e ↦ inl (omega (arith, g.lower l)) | inr m ↦ inr (l, g.lower l, m) ]
  ]

  pub going_most : n ≤ w
  going_most = elim going_cases [ inl e ↦ omega arith | inr e ↦ omega arith ]

-- falling ones go on in the last columns
module _ (img : List ℕ) (w y : ℕ) (xs : List ℕ) {n : ℕ} (g : Going w y n) (a : Above fall img w y xs)
    {ys : List ℕ} (b : ys ≡ span (y * w) (y * w + w - n - y * w) (λ i. get_or img i 0) xs) where
  fall_begins : (x : ℕ) → x < w - n → min x y ≡ 0
  fall_begins x l = elim (eq-zero-or-pos y) [ inl e ↦ omega arith | inr m ↦ omega (arith, g.lower m) ]

  fall_goes : (x : ℕ) → w - n ≤ x → x < w → (0 < x) × (0 < y)
  fall_goes x l m = elim (going_cases g) [ inl e ↦ absurd (omega arith) | inr e ↦ omega arith ]

  fall_begun : Filling fall img w y xs ys (w - n)
  fall_begun =
      row_begun fall img w y xs {lo = 0} {hi = w - n} (row-start fall img w y xs a) (omega arith) (omega arith) (omega arith)
      (omega (arith, going_most g)) b (λ x l m. fall_begins x m)

  pub fall_carries : ((k : ℕ) → get_or img k 0 < 256) → Carries img ys (y * w + w - n) (y * w + w) (w + 1)
  fall_carries small = elim (going_cases g) [
    | inl e ↦ record {
      run = omega arith;
      least = λ k l m. absurd (omega arith);
      apart = omega arith;
      image = a.image;
      room = omega (arith, a.room, fall_begun.steps.long);
      small = λ k l m. absurd (omega arith);
    }
    | inr e ↦
        let u = row-above w e.0 in
        record {
          run = omega arith;
          least = λ k l m. omega arith;
          apart = omega arith;
          image = a.image;
          room = omega (arith, a.room, fall_begun.steps.long);
          small = λ k l m. row_fits_lem fall img w y xs fall_begun a small k (omega arith);
        }
  ]

  pub fall-row : {zs : List ℕ}
      → zs ≡ span (y * w + w - n) (y * w + w - (y * w + w - n)) (λ i. get_or ys (i - (w + 1)) 0 + get_or img i 0) ys
      → zs ≡ table_of fall (pixel img w) w (y + 1) xs
  fall-row z =
      row-whole fall img w y xs
      (row_carried fall img w y xs {lo = w - n} {hi = w} fall_begun a.room (omega arith) (omega arith)
      (omega (arith, going_most g)) refl z (λ x l m. (fall_goes x l m, omega (arith, fall_goes x l m))))

-- rising ones in the first, each from the entry w - 1 before
module _ (img : List ℕ) (w y : ℕ) (xs : List ℕ) {n : ℕ} (g : Going w y n) (a : Above rise img w y xs)
    {back : ℕ} (o : back ≡ w - 1) where
  rise_begins : (x : ℕ) → n ≤ x → x < w → min y (w - 1 - x) ≡ 0
  rise_begins x l m = elim (eq-zero-or-pos y) [ inl e ↦ omega arith | inr k ↦ omega (arith, g.lower k) ]

  rise_goes : (x : ℕ) → x < n → (0 < y) × (x + 1 < w)
  rise_goes x l = elim (going_cases g) [ inl e ↦ absurd (omega arith) | inr e ↦ omega arith ]

  pub rise_carries : ((k : ℕ) → get_or img k 0 < 256) → Carries img xs (y * w) (y * w + n) back
  rise_carries small = elim (going_cases g) [
    | inl e ↦ record {
      run = omega arith;
      least = λ k l m. absurd (omega arith);
      apart = omega arith;
      image = omega (arith, a.image);
      room = omega (arith, a.room);
      small = λ k l m. absurd (omega arith);
    }
    | inr e ↦
        let u = row-above w e.0 in
        record {
          run = omega arith;
          least = λ k l m. omega arith;
          apart = omega arith;
          image = omega (arith, a.image);
          room = omega (arith, a.room);
          small = λ k l m. row_fits_lem rise img w y xs (row-start rise img w y xs a) a small k (omega arith);
        }
  ]

  pub rise-row : {ys zs : List ℕ} → ys ≡ span (y * w) (y * w + n - y * w) (λ i. get_or xs (i - back) 0 + get_or img i 0) xs
      → zs ≡ span (y * w + n) (y * w + w - (y * w + n)) (λ i. get_or img i 0) ys
      → zs ≡ table_of rise (pixel img w) w (y + 1) xs
  rise-row p q =
      let c = p ∙ ap (λ (k : ℕ). span (y * w) (y * w + n - y * w) (λ i. get_or xs (i - k) 0 + get_or img i 0) xs) o in
      let r = row_carried rise img w y xs {lo = 0} {hi = n} (row-start rise img w y xs a) a.room
      (omega arith) (going_most g) (omega arith) refl c
      (λ x l m. (rise_goes x m, omega (arith, rise_goes x m))) in
      row-whole rise img w y xs
      (row_begun rise img w y xs {lo = n} {hi = w} r (going_most g) (omega arith) refl refl q (λ x l m. rise_begins x l m))

-- ---- the sum that is carried along a row: with the pixel at x it is the entry

pub record Carried (img : List ℕ) (w y x acc : ℕ) : Type 0 where
  pub is : acc + pixel img w x y ≡ table_at along (pixel img w) w x y

module _ (img : List ℕ) (w y : ℕ) where
  pub carried_none : Carried img w y 0 0
  unfolding table_at
  carried_none = record { is = omega arith }

  -- what is stored
  pub carried_entry : {x acc p : ℕ} → Carried img w y x acc → p ≡ pixel img w x y → acc + p ≡ table_at along (pixel img w) w x y
  carried_entry c q = rw q c.is

  pub carried_more : {x acc p : ℕ} → Carried img w y x acc → p ≡ pixel img w x y → Carried img w y (x + 1) (acc + p)
  carried_more {x} {acc} {p} c q =
      let n : x ≡ x + 1 - 1 = omega arith in
      let e : acc + p ≡ table_at along (pixel img w) w (x + 1 - 1) y = carried_entry c q ∙ ap (λ (k : ℕ). table_at along (pixel img w) w k y) n in
      record { is = ap (λ (k : ℕ). k + pixel img w (x + 1) y) e ∙ table_on (pixel img w) w along (x + 1) y (omega arith) }

  -- it fits
  pub carried_fits : {x acc : ℕ} → Carried img w y x acc → ((k : ℕ) → get_or img k 0 < 256) → x < w → w ≤ 8192 → y < 8192
      → acc + pixel img w x y ≤ 255 * 8192
  carried_fits {x} c small l u v = rw c.is (table_most (pixel img w) w along 255 8192 x y (pixel-most img w small) l u v)

-- ---- the loop over the rows

module _ (d : Way) (img : List ℕ) (w h : ℕ) (xs : List ℕ) {ys : List ℕ} {y : ℕ}
    (r : Rows w h (table_at d (pixel img w) w) xs ys y) (b : y < h) where
  -- what row y is filled from
  pub above_of : (w ≤ 8192) × (h ≤ 8192) × (w * h ≤ length img) × (w * h ≤ length xs) → Above d img w y ys
  above_of fits = record {
    wide = fits.0;
    high = omega (arith, fits.1);
    image = omega (arith, row_in w b, fits.2);
    room = omega (arith, row_in w b, r.long, fits.3);
    done = rw (mul_comm w y) (rows_on w h _ xs r).fill;
  }

  pub rows_next : {zs : List ℕ} → zs ≡ table_of d (pixel img w) w (y + 1) ys → Rows w h (table_at d (pixel img w) w) xs zs (y + 1)
  rows_next {zs} e =
      rows_join w h _ xs r (record { least = omega arith; most = omega arith; fill = rw (mul_comm (y + 1) w) e; long = length-fill _ _ ys e })
      (omega arith)
