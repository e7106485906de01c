-- The Rust's map: what `radon_response_u8` leaves in its buffers is document 01's working image, tables, response and scratch. Assumes nothing.
use mathlib.Core.Path.{◌≡◌, refl, sym, ap, ◌∙◌}
use mathlib.Core.Bool.{Bool, true, false, not, cond, ◌||◌}
use mathlib.Core.List.{List, [], ◌∷◌, map}
use Prim.Native.Nat.{ℕ, zero, suc, ◌+◌, ◌*◌, ◌/◌, ◌%◌, ◌≤◌, ◌<◌, max, ◌-◌, ◌^◌}
use native.Mathlib.Nat.{mul_comm, one-mul, le_of_suc-le-suc, not-suc-le-zero, mul-le-mul, div-add-mod'}
use native.Mathlib.Omega.{arith}
use native.Mathlib.Decide.{dec_lt}
use borrow.Author.Tests.{le-ltb, lt-ltb, le-leb, eq-eqb}
use lib.Dec.{ltb, leb}
use lib.ListN.{length, get_or, take, get_or-eq_default}
use lib.IntN.{ℤ, pos}
use lib.Ieee.{Float, nan}
use Rattle.grid.specs.Fill.{filled}
use Rattle.grid.proofs.Fill.{filled_intro, getD_filled, length-filled, filled-filled}
use Rattle.grid.specs.Plane.{plane}
use Rattle.grid.proofs.Plane.{plane_ext, getD_plane, pixel_in}
use Rattle.grid.specs.Ways.{Way, along, down, fall, rise, pixel, run_sum}
use Rattle.grid.proofs.Ways.{run_ext}
use Rattle.params.specs.declared.settings.RadonDetectorParams.{RadonDetectorParams}
use Rattle.params.specs.Settings.{factor_of, ray_of}
use Rattle.upsample.specs.Upsample.{up_at, work_at}
use Rattle.upsample.proofs.RoundedQuarter.{work_most}
use Rattle.cumsums.specs.Tables.{table_of}
use Rattle.cumsums.proofs.Summed.{table_filled}
use Rattle.rays.specs.Response.{response_at}
use Rattle.rays.proofs.Inner.{response_ext}
use Rattle.means.specs.Means.{value_at}
use Rattle.blur.specs.Blur.{row_mean, blur_at, scratched}
use Rattle.blur.proofs.BlurLaws.{row_mean_ext, blur_at_ext}
use Rattle.response.proofs.Runs.{Runs, side-most}
use Rattle.response.specs.Map.{Buffers, raw_at, map_at, mapped_by, mapped, side_of}
use Rattle.radon.specs.Finder.{Bytes}
use Rattle.as_rust.specs.Machine.{Machine, usize, copy_from_slice, resize}
use Rattle.as_rust.specs.Response.{RadonBuffers, Cumsums, image_upsample_clamped, ensure_capacity, upsample_bilinear_2x}
use Rattle.as_rust.specs.Response.{sat-row, sat-col, sat-diag_pos, sat-diag_neg, compute_response, radon_response_u8}
use Rattle.as_rust.specs.Primitives.{box_blur_inplace}
use Rattle.as_rust.specs.Runs.{SameMap}
use Rattle.as_rust.proofs.Machine.{usize-is, copy_is, resize-long}
use Rattle.as_rust.proofs.Upsample.{upsample_as_rust}
use Rattle.as_rust.proofs.Tables.{run, Image, Sums, sums_fill, row_sums, column_sums, falling_sums, rising_sums}
use Rattle.as_rust.proofs.Response.{Built, response_as_rust}
use Rattle.as_rust.proofs.Blur.{Blurred, blur_as_rust}

-- ---- the settings

pub clamped-is : (u : ℕ) → cond (ltb u 1) 1 (cond (ltb 2 u) 2 u) ≡ factor_of u
clamped-is zero = refl
clamped-is (suc zero) = refl
clamped-is (suc (suc zero)) = refl
clamped-is (suc (suc (suc u))) =
    let a : ltb (suc (suc (suc u))) 1 ≡ false = le-ltb (suc (suc (suc u))) 1 (omega arith) in
    let b : ltb 2 (suc (suc (suc u))) ≡ true = lt-ltb 2 (suc (suc (suc u))) (omega arith) in
    rw (a, b) (omega arith)

-- ---- the entries that are written, in two buffers

-- n entries of a longer buffer, each through g, and a buffer of just n
pub taken : {A B : Type 0} (g : A → B) (n : ℕ) (f : ℕ → A) (xs : List A) (ys : List B) → n ≤ length xs → length ys ≡ n
    → map g (take n (filled n f xs)) ≡ filled n (λ k. g (f k)) ys
unfolding filled
taken g zero f xs [] l e = refl
taken g zero f xs (y ∷ ys) l e = absurd (omega arith)
taken g (suc n) f [] ys l e = absurd (not-suc-le-zero l)
taken g (suc n) f (x ∷ xs) [] l e = absurd (omega arith)
taken {B = B} g (suc n) f (x ∷ xs) (y ∷ ys) l e =
    ap (λ (r : List B). g (f zero) ∷ r) (taken g n (λ k. f (suc k)) xs ys (le_of_suc-le-suc l) (omega arith))

pub taken_same : {A : Type 0} (n : ℕ) (f : ℕ → A) (xs ys : List A) → n ≤ length xs → length ys ≡ n → take n (filled n f xs) ≡ filled n f ys
unfolding filled
taken_same zero f xs [] l e = refl
taken_same zero f xs (y ∷ ys) l e = absurd (omega arith)
taken_same (suc n) f [] ys l e = absurd (not-suc-le-zero l)
taken_same (suc n) f (x ∷ xs) [] l e = absurd (omega arith)
taken_same {A} (suc n) f (x ∷ xs) (y ∷ ys) l e =
    ap (λ (r : List A). f zero ∷ r) (taken_same n (λ k. f (suc k)) xs ys (le_of_suc-le-suc l) (omega arith))

-- ---- 159-173: the lengths

pub record Sized (w h : ℕ) (b : RadonBuffers) : Type 0 where
  pub width : b.working_w ≡ w
  pub height : b.working_h ≡ h
  pub working-long : length b.working ≡ w * h
  pub row-long : length b.row_cumsum ≡ w * h
  pub col-long : length b.col_cumsum ≡ w * h
  pub pos_long : length b.diag_pos_cumsum ≡ w * h
  pub neg_long : length b.diag_neg_cumsum ≡ w * h
  pub response-long : length b.response ≡ w * h
  pub scratch-long : length b.blur_scratch ≡ w * h

pub ensured : (m : Machine) (b : RadonBuffers) (w h up : ℕ) → 1 ≤ up → up ≤ 2 → w ≤ 4096 → h ≤ 4096
    → Sized (up * w) (up * h) (ensure_capacity m b w h up)
unfolding ensure_capacity
ensured m b w h up l u wide high =
    let one : max up 1 ≡ up = omega arith in
    let W : up * w ≤ 8192 = side-most u wide in
    let H : up * h ≤ 8192 = side-most u high in
    let n : up * w * (up * h) ≤ 8192 * 8192 = mul-le-mul W H in
    rw (
      one,
      mul_comm w up,
      mul_comm h up,
      usize-is m (up * w) (omega arith),
      usize-is m (up * h) (omega arith),
      usize-is m (up * w * (up * h))
          (omega arith),
    )
    (record {
      width = refl;
      height = refl;
      working-long = resize-long b.working _ _;
      row-long = resize-long b.row_cumsum _ _;
      col-long = resize-long b.col_cumsum _ _;
      pos_long = resize-long b.diag_pos_cumsum _ _;
      neg_long = resize-long b.diag_neg_cumsum _ _;
      response-long = resize-long b.response _ _;
      scratch-long = resize-long b.blur_scratch _ _;
    })

-- ---- 545-550: the working image

module _ (m : Machine) (img : List ℕ) (w h : ℕ) (small : Bytes img) (whole : length img ≡ w * h) (wide : w ≤ 4096) (high : h ≤ 4096) where
  -- what the Rust's working image holds, over a buffer of its length
  pub record Work (factor : ℕ) (out : List ℕ) : Type 0 where
    pub old : List ℕ
    pub long : length old ≡ factor * w * (factor * h)
    pub is : out ≡ filled (factor * w * (factor * h)) (plane (factor * w) (work_at factor (pixel img w) w h)) old

  pub working-is : (factor : ℕ) (buffer : List ℕ) → 1 ≤ factor → factor ≤ 2 → length buffer ≡ factor * w * (factor * h)
      → Work factor (cond (ltb 1 factor) (upsample_bilinear_2x m img w h (resize buffer (usize m (4 * w * h)) 0)) (copy_from_slice buffer img))
  working-is zero buffer l u e = absurd (omega arith)
  working-is (suc zero) buffer l u e = record { old = img; long = whole ∙ sym ones; is = copy_is buffer img (e ∙ ones ∙ sym whole) ∙ same }
    where
      ones : 1 * w * (1 * h) ≡ w * h
      ones = rw (one-mul w, one-mul h)

      same : img ≡ filled (1 * w * (1 * h)) (plane (1 * w) (work_at 1 (pixel img w) w h)) img
      same = unfold plane work_at in rw (one-mul w, one-mul h)
          (filled_intro 0 (w * h) _ img img refl (λ k b c. sym (ap (λ (j : ℕ). get_or img j 0) (div-add-mod' k w))) (λ k b. refl))
  working-is (suc (suc zero)) buffer l u e = record {
    old = resize buffer n 0;
    long = long;
    is = upsample_as_rust m img w h small whole wide high (resize buffer n 0) long ∙ same;
  }
    where
      n : ℕ
      n = usize m (4 * w * h)

      four : usize m (4 * w * h) ≡ 2 * w * (2 * h)
      four =
          let a : 4 * w ≤ 4 * 4096 = omega arith in
          let b : 4 * w * h ≤ 4 * 4096 * 4096 = mul-le-mul a high in
          usize-is m (4 * w * h) (omega arith) ∙ omega arith

      long : length (resize buffer n 0) ≡ 2 * w * (2 * h)
      long = resize-long buffer n 0 ∙ four

      same : filled (2 * w * (2 * h)) (plane (2 * w) (up_at (pixel img w) w h)) (resize buffer n 0)
          ≡ filled (2 * w * (2 * h)) (plane (2 * w) (work_at 2 (pixel img w) w h)) (resize buffer n 0)
      same = unfold work_at in refl
  working-is (suc (suc (suc k))) buffer l u e = absurd (omega arith)

  -- it is an image of bytes, within the limits
  pub work_image : {factor : ℕ} {out : List ℕ} → factor ≤ 2 → Work factor out → Image out (factor * w) (factor * h)
  work_image {factor} {out} u k = record {
    whole = ap length k.is ∙ length-filled _ _ k.old ∙ k.long;
    deep = λ x y. entry (y * (factor * w) + x) (dec_lt (y * (factor * w) + x) (factor * w * (factor * h)));
    wide = side-most u wide;
    high = side-most u high;
  }
    where
      most : (x y : ℕ) → pixel img w x y ≤ 255
      most x y = omega (arith, small (y * w + x))

      flat : (i : ℕ) → plane (factor * w) (work_at factor (pixel img w) w h) i ≤ 255
      flat i = unfold plane in work_most factor (pixel img w) w h (i % (factor * w)) (i / (factor * w)) 255 most

      entry : (i : ℕ) → Dec (i < factor * w * (factor * h)) → get_or out i 0 ≤ 255
      entry i (yes b) =
          rw (
            k.is,
            getD_filled (factor * w * (factor * h)) (plane (factor * w) (work_at factor (pixel img w) w h)) k.old i 0 b
                (omega (arith, k.long)),
          ) (flat i)
      entry i (no b) =
          let n : length out ≡ factor * w * (factor * h) = ap length k.is ∙ length-filled _ _ k.old ∙ k.long in
          rw (get_or-eq_default out 0 {n = i} (omega arith)) (omega arith)

  pub work_at_lem : {factor : ℕ} {out : List ℕ} → Work factor out → (x y : ℕ) → x < factor * w → y < factor * h → pixel out (factor * w) x y
      ≡ work_at factor (pixel img w) w h x y
  work_at_lem {factor} k x y a b =
      rw k.is (getD_plane a (factor * w * (factor * h)) (work_at factor (pixel img w) w h) k.old y 0 (pixel_in a b) (omega (arith, k.long)))

-- ---- 552-582: from a working image on

module _ (m : Machine) (img : List ℕ) (W H r blur : ℕ) (work : ℕ → ℕ → ℕ)
    (is : (x y : ℕ) → x < W → y < H → pixel img W x y ≡ work x y) (i : Image img W H)
    (b : RadonBuffers) (s : Sized W H b) (small : r ≤ 7) (narrow : blur ≤ 3) where
  abbrev pub cs : Cumsums
  cs = record {
    row = sat-row m img W H b.row_cumsum;
    col = sat-col m img W H b.col_cumsum;
    diag_pos = sat-diag_pos m img W H b.diag_pos_cumsum;
    diag_neg = sat-diag_neg m img W H b.diag_neg_cumsum;
    w = W;
    h = H;
  }

  pub built : Built img cs
  built = record {
    image = i;
    rows = row_sums m img W H i b.row_cumsum s.row-long;
    columns = column_sums m img W H i b.col_cumsum s.col-long;
    falling = falling_sums m img W H i b.diag_pos_cumsum s.pos_long;
    rising = rising_sums m img W H i b.diag_neg_cumsum s.neg_long;
  }

  -- our table of the working image, as numbers, is the Rust's
  pub table_same : (d : Way) (t : List ℤ) → Sums d img W H t → (old : List ℕ) → W * H ≤ length old
      → map pos (take (W * H) (filled (W * H) (plane W (run_sum d work W)) old)) ≡ t
  unfolding plane
  table_same d t q old room =
      taken pos (W * H) (plane W (run_sum d work W)) old t room q.long
      ∙ plane_ext W H (λ x y. pos (run_sum d work W x y)) (run d img W) t (λ x y a c. ap pos (sym (run_ext d (pixel img W) work W H x y a c is)))
      ∙ sym (sums_fill q)

  abbrev raw : List Float
  raw = filled (W * H) (plane W (response_at work W H r)) b.response

  raw_is : compute_response m cs r b.response ≡ raw
  raw_is =
      response_as_rust m img cs built r small b.response s.response-long
      ∙ plane_ext W H _ _ b.response (λ x y a c. response_ext (pixel img W) work W H r x y is)

  raw_long : length raw ≡ W * H
  raw_long = length-filled (W * H) _ b.response ∙ s.response-long

  raw_at_lem : (x y : ℕ) → x < W → y < H → value_at raw W x y ≡ response_at work W H r x y
  raw_at_lem x y a c = getD_plane a (W * H) (response_at work W H r) b.response y nan (pixel_in a c) (omega (arith, s.response-long))

  abbrev pub after : List Float × List Float
  after = box_blur_inplace m (compute_response m cs r b.response) b.blur_scratch W H blur

  blurred : Blurred m raw b.blur_scratch W H i.wide i.high raw_long s.scratch-long blur after
  blurred = rw raw_is (blur_as_rust m raw b.blur_scratch W H i.wide i.high raw_long s.scratch-long blur narrow)

  pub response-is : after.0 ≡ filled (W * H) (plane W (blur_at (response_at work W H r) W H blur)) b.response
  response-is =
      blurred.response
      ∙ filled-filled (W * H) (W * H) _ _ b.response (omega arith)
      ∙ plane_ext W H _ _ b.response (λ x y a c. blur_at_ext (value_at raw W) (response_at work W H r) W H blur x y a c raw_at_lem)

  pub scratch-is : 0 < blur → after.1 ≡ filled (W * H) (plane W (row_mean (response_at work W H r) W blur)) b.blur_scratch
  scratch-is some = blurred.scratched-is ∙ go blur some
    where
      go : (blur : ℕ) → 0 < blur → scratched (value_at raw W) W H blur b.blur_scratch
          ≡ filled (W * H) (plane W (row_mean (response_at work W H r) W blur)) b.blur_scratch
      go zero l = absurd (omega arith)
      go (suc n) l = unfold scratched in
          plane_ext W H _ _ b.blur_scratch (λ x y a c. row_mean_ext (value_at raw W) (response_at work W H r) W (suc n) x y (λ j d. raw_at_lem j y d c))

-- ---- 512-589: the whole function

module _ (m : Machine) (img : List ℕ) (w h : ℕ) (p : RadonDetectorParams) (b : Buffers) (small : Bytes img)
    (runs : Runs (factor_of p.image_upsample) (ray_of p.ray_radius) p.response_blur_radius w h (length img) b)
    (pixels : side_of w p * side_of h p ≤ 8388608) (rust : RadonBuffers) where
  abbrev pub F : ℕ
  F = factor_of p.image_upsample

  abbrev sized : RadonBuffers
  sized = ensure_capacity m rust w h (factor_of p.image_upsample)

  sized_is : Sized (F * w) (F * h) sized
  sized_is = ensured m rust w h F runs.some runs.two runs.wide runs.high

  abbrev work : List ℕ
  work = cond (ltb 1 F) (upsample_bilinear_2x m img w h (resize sized.working (usize m (4 * w * h)) 0)) (copy_from_slice sized.working img)

  pub work_is : Work m img w h small runs.whole runs.wide runs.high F work
  work_is = working-is m img w h small runs.whole runs.wide runs.high F sized.working runs.some runs.two sized_is.working-long

  pub record Left (after : RadonBuffers) : Type 0 where
    pub same : SameMap (side_of w p) (side_of h p) p.response_blur_radius (mapped (pixel img w) w h p b) after
    pub image : Image after.working (side_of w p) (side_of h p)

  pub map_as_rust : Left (radon_response_u8 m img w h p rust)
  unfolding radon_response_u8 mapped_by map_at raw_at
  map_as_rust =
      let up : image_upsample_clamped p ≡ F = clamped-is p.image_upsample in
      let ray : max p.ray_radius 1 ≡ ray_of p.ray_radius = omega arith in
      let n : w * h ≤ 4096 * 4096 = mul-le-mul runs.wide runs.high in
      let f = work_at F (pixel img w) w h in
      let W = F * w in
      let H = F * h in
      let i = work_image m img w h small runs.whole runs.wide runs.high runs.two work_is in
      let is = work_at_lem m img w h small runs.whole runs.wide runs.high work_is in
      let r = ray_of p.ray_radius in
      let blur = p.response_blur_radius in
      let t = built m work W H r blur f is i sized sized_is runs.ray-most runs.blur_most in
      let table = table_same m work W H r blur f is i sized sized_is runs.ray-most runs.blur_most in
      -- the document's recurrence, as the sums that the laws use
      let shown : (d : Way) (old : List ℕ) → map pos (take (W * H) (table_of d f W H old))
      ≡ map pos (take (W * H) (filled (W * H) (plane W (run_sum d f W)) old)) =
      λ d old. ap (λ (l : List ℕ). map pos (take (W * H) l)) (table_filled f W d H old) in
      rw (usize-is m (w * h) (omega arith), eq-eqb (length img) (w * h) runs.whole, up, ray, sized_is.width, sized_is.height, narrow m.narrow)
      (record {
        same = record {
          width = refl;
          height = refl;
          working = taken_same (W * H) (plane W f) b.working work_is.old runs.working-room work_is.long ∙ sym work_is.is;
          row = shown along b.row ∙ table along _ t.rows b.row runs.row_room;
          col = shown down b.col ∙ table down _ t.columns b.col runs.col-room;
          falling = shown fall b.falling ∙ table fall _ t.falling b.falling runs.falling-room;
          rising = shown rise b.rising ∙ table rise _ t.rising b.rising runs.rising-room;
          response = taken_same (W * H) _ b.response sized.response runs.response-room sized_is.response-long
              ∙ sym (response-is m work W H r blur f is i sized sized_is runs.ray-most runs.blur_most);
          scratch =
              λ some. scratch_taken blur some ∙ sym (scratch-is m work W H r blur f is i sized sized_is runs.ray-most runs.blur_most some);
        };
        image = i;
      })
    where
      -- 255 · W · H is within u32
      narrow : (t : Bool) → (not t || leb (255 * (F * w * (F * h))) (2 ^ 32 - 1)) ≡ true
      narrow true = le-leb (255 * (F * w * (F * h))) (2 ^ 32 - 1) (omega (arith, pixels))
      narrow false = refl

      scratch_taken : (blur : ℕ) → 0 < blur
          → take (F * w * (F * h)) (scratched (raw_at F (ray_of p.ray_radius) (pixel img w) w h) (F * w) (F * h) blur b.scratch)
          ≡ filled (F * w * (F * h))
          (plane (F * w) (row_mean (response_at (work_at F (pixel img w) w h) (F * w) (F * h) (ray_of p.ray_radius)) (F * w) blur))
          sized.blur_scratch
      scratch_taken zero l = absurd (omega arith)
      scratch_taken (suc k) l =
          unfold scratched raw_at in taken_same (F * w * (F * h)) _ b.scratch sized.blur_scratch runs.scratch-room sized_is.scratch-long
