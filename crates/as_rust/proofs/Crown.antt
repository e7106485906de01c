-- Demand 2 as a theorem: what a call of ours leaves is what the Rust's own text leaves. For every image, settings and buffers that the call accepts,
-- over any buffers of the Rust's, on every machine that is sound: nothing turns on what a panic or a wrap would give, on which zero a sum starts at
-- or `max` gives, or on the tables' type, and the list's coordinates in Gaussian mode alone turn on the logarithm. Assumes nothing.
use mathlib.Core.Path.{◌≡◌, refl, sym, ap, ◌∙◌}
use mathlib.Core.Logic.{inl, inr}
use mathlib.Core.Bool.{true, false, cond, ◌&&◌}
use mathlib.Core.List.{List, [], ◌∷◌}
use Prim.Native.Nat.{ℕ, ◌+◌, ◌-◌, ◌*◌, ◌/◌, ◌%◌, ◌<◌, ◌≤◌}
use native.Mathlib.Nat.{one-mul}
use native.Mathlib.Omega.{arith}
use borrow.Author.Tests.{eq-eqb}
use lib.ListN.{length, get_or, take, length-take}
use lib.Seq.{get_or-take}
use lib.IntN.{pos}
use lib.Ieee.{Float, nan, binary32, of_bits, to_bits, le, lt}
use Rattle.float.proofs.Order.{lt_itself}
use Rattle.grid.specs.Fill.{filled}
use Rattle.grid.proofs.Fill.{getD_filled, length-filled}
use Rattle.grid.specs.Plane.{plane}
use Rattle.grid.proofs.Plane.{getD_plane, pixel_in, column_in, row-number_in}
use Rattle.grid.specs.Ways.{pixel}
use Rattle.grid.specs.Each.{each}
use Rattle.grid.proofs.Each.{each-each, each_ext, each-one, take-each, length-each}
use Rattle.grid.specs.Rect.{Place}
use Rattle.grid.specs.Over.{over, written}
use Rattle.grid.proofs.All.{all_map, each_same}
use Rattle.params.specs.declared.settings.RadonDetectorParams.{RadonDetectorParams}
use Rattle.params.specs.declared.settings.PeakFitMode.{PeakFitMode}
use Rattle.params.specs.declared.settings.PeakFitMode.TheVariants.{Parabolic, Gaussian}
use Rattle.params.specs.Settings.{existing_sites, factor_of, ray_of}
use Rattle.params.specs.Answers.{number_of}
use Rattle.params.proofs.Accepted.{map_accepted, all_accepted}
use Rattle.scalar.specs.Log.{log_of, terms, high, lowest, highest, difference, units_of, cut_third}
use Rattle.std.specs.Prelude.{Some, Ok}
use Rattle.scalar.proofs.Facts.{log_inside}
use Rattle.response.proofs.Runs.{Runs, runs_of}
use Rattle.response.specs.Map.{Buffers as MapBuffers, answered as map-answered, map_buffers_of, mapped_of, mapped_by, work_of, map_of, side_of, room_of}
use Rattle.response.proofs.MapFacts.{map_range}
use Rattle.response.proofs.Places.{map-fits}
use Rattle.grid.specs.Ways.{value}
use Rattle.detect.specs.Corners.{corners, numbers, stride}
use Rattle.detect.proofs.Inside.{corners-same}
use Rattle.detect.proofs.Places.{Inner, corners_inner}
use Rattle.radon.specs.Finder.{Buffers, Bytes, answered, found, outcome_of, buffers_of}
use Rattle.radon.proofs.Cases.{runs_by}
use Rattle.as_rust.specs.Machine.{Machine, Sound, lit_minus_0, lit_0}
use Rattle.as_rust.specs.Primitives.{is_gaussian, peak_frac, fit_peak_frac}
use Rattle.as_rust.specs.Response.{default, RadonBuffers, RadonResponseView, view, radon_response_u8}
use Rattle.as_rust.specs.Detect.{detect_peaks_from_radon}
use Rattle.as_rust.specs.Runs.{SameMap, SameFound, SameList, numbers_by, LogIsOurs, found_by, SameRun}
use Rattle.as_rust.proofs.Tests.{T_true}
use Rattle.as_rust.proofs.Map.{Left, map_as_rust}
use Rattle.as_rust.proofs.Root.{nearest_root, nearest-roots}
use Rattle.as_rust.proofs.Values.{Good}
use Rattle.as_rust.proofs.Detect.{listed, Held, Viewed, numbers_as_rust, detect_as_rust}

-- ---- the settings: the Rust's own defaults are those of the existing sites

pub default_is_existing_sites : default ≡ existing_sites
default_is_existing_sites = refl

-- ---- two maps and two images that agree inside have the same list

module _ (m : Machine) (p : RadonDetectorParams) (w h : ℕ) where
  -- numbers that agree at every candidate
  numbers-same : (a b : Place → List Float) (f : ℕ → ℕ → Float) (g : ℕ → ℕ → ℕ) → ((q : Place) → Inner p w h q → a q ≡ b q)
      → each (λ q. a q ∷ []) (corners p w h f g) ≡ each (λ q. b q ∷ []) (corners p w h f g)
  numbers-same a b f g e =
      each_same _ _ (corners p w h f g)
      (all_map (Inner p w h) (λ q. a q ∷ [] ≡ b q ∷ []) (λ q c. ap (λ (n : List Float). n ∷ []) (e q c)) (corners p w h f g)
      (corners_inner p w h f g))

  listed_same : (f g : ℕ → ℕ → Float) (a b : ℕ → ℕ → ℕ) → ((x y : ℕ) → x < w → y < h → f x y ≡ g x y) → ((x y : ℕ) → x < w → y < h → a x y ≡ b x y)
      → listed m p w h f a ≡ listed m p w h g b
  listed_same f g a b e d =
      ap (each (λ q. numbers_by m p f q ∷ [])) (corners-same p w h f g a b e d) ∙ numbers-same (numbers_by m p f) (numbers_by m p g) g b at
    where
      at : (q : Place) → Inner p w h q → numbers_by m p f q ≡ numbers_by m p g q
      at q c = unfold numbers_by in
          rw (
            e q.x q.y (omega arith) (omega arith),
            e (q.x - 1) q.y (omega arith) (omega arith),
            e (q.x + 1) q.y (omega arith) (omega arith),
            e q.x (q.y - 1) (omega arith) (omega arith),
            e q.x (q.y + 1) (omega arith) (omega arith),
          )

-- a list of corners, each with its numbers, written as far as they fit
written-each : {A B : Type 0} (k : ℕ) (f : A → List B) (l : List A) (old : List B) → written k f l old
    ≡ written k (λ corner. corner) (each (λ a. f a ∷ []) l) old
unfolding written
written-each {A} {B} k f l old = ap (λ (r : List B). over r old) (sym same)
  where
    n : ℕ
    n = length old / k

    same : each (λ corner. corner) (take n (each (λ a. f a ∷ []) l)) ≡ each f (take n l)
    same =
        let one : 1 * n ≡ n = one-mul n in
        ap (each (λ corner. corner)) (rw one at (take-each 1 (λ a. f a ∷ []) (λ a. refl) n l))
        ∙ each-each (λ a. f a ∷ []) (λ corner. corner) (take n l) ∙ each_ext _ f (λ a. each-one (λ corner. corner) (f a)) (take n l)

-- ---- the map

module _ (m : Machine) (img : List ℕ) (w h : ℕ) (p : RadonDetectorParams) (small : Bytes img) (rust : RadonBuffers) where
  -- `radon_response_u8`: working image, tables, response and scratch are those of the Rust's text
  pub map_is_the_rusts : (b : MapBuffers) → number_of (map-answered img w h p b) ≡ 0
      → SameMap (side_of w p) (side_of h p) p.response_blur_radius (map_buffers_of img w h p b) (radon_response_u8 m img w h p rust)
  unfolding map_buffers_of
  map_is_the_rusts b z =
      rw (eq-eqb (number_of (map-answered img w h p b)) 0 z)
      (map_as_rust m img w h p b small (runs_of w h p (length img) b refl refl refl z)
      (map_accepted w h (length img) p (room_of b) z).0.pixels rust).same

  -- W and H too
  pub map_sizes_are_the_rusts : (b : MapBuffers) → number_of (map-answered img w h p b) ≡ 0
      → mapped_of img w h p b
      ≡ Ok (record { w = (radon_response_u8 m img w h p rust).working_w; h = (radon_response_u8 m img w h p rust).working_h })
  unfolding mapped_of
  map_sizes_are_the_rusts b z =
      rw (eq-eqb (number_of (map-answered img w h p b)) 0 z)
      (λ i. Ok (record { w = sym (map_is_the_rusts b z).width i; h = sym (map_is_the_rusts b z).height i }))

  -- ---- the finder

  module _ (b : Buffers) (z : number_of (answered img w h p b) ≡ 0) where
    runs : Runs (factor_of p.image_upsample) (ray_of p.ray_radius) p.response_blur_radius w h (length img) b.map
    runs = runs_by w h p (length img) b.map z

    abbrev after : RadonBuffers
    after = radon_response_u8 m img w h p rust

    pixels : side_of w p * side_of h p ≤ 8388608
    pixels = (all_accepted w h (length img) p (room_of b.map) z).0.pixels

    left : Left m img w h p b.map small runs pixels rust after
    left = map_as_rust m img w h p b.map small runs pixels rust

    abbrev W : ℕ
    W = side_of w p

    abbrev H : ℕ
    H = side_of h p

    abbrev f : ℕ → ℕ → Float
    f = map_of (pixel img w) w h p

    -- working image, tables, response and scratch are those of the Rust's text
    pub finder_leaves_the_rusts_map : SameMap (side_of w p) (side_of h p) p.response_blur_radius (buffers_of img w h p b).map
        (radon_response_u8 m img w h p rust)
    unfolding buffers_of
    finder_leaves_the_rusts_map = rw (eq-eqb (number_of (answered img w h p b)) 0 z) left.same

    -- the view that the Rust hands on
    abbrev seen : RadonResponseView
    seen = record { «data» = after.response; image = after.working; w = side_of w p; h = side_of h p }

    seen_is : view after ≡ seen
    seen_is = λ i. record { «data» = after.response; image = after.working; w = left.same.width i; h = left.same.height i }

    response-is : after.response ≡ take (W * H) (filled (W * H) (plane W f) b.map.response)
    response-is = sym left.same.response ∙ (unfold mapped_by in refl)

    response-at : (k : ℕ) → k < W * H → get_or after.response k nan ≡ plane W f k
    response-at k c =
        rw response-is
        (get_or-take (W * H) (filled (W * H) (plane W f) b.map.response) k nan c
        ∙ getD_filled (W * H) (plane W f) b.map.response k nan c (omega (arith, runs.response-room)))

    value-at : (x y : ℕ) → x < W → y < H → value after.response W x y ≡ f x y
    value-at x y c d =
        rw response-is
        (get_or-take (W * H) (filled (W * H) (plane W f) b.map.response) (y * W + x) nan (pixel_in c d)
        ∙ getD_plane c (W * H) f b.map.response y nan (pixel_in c d) runs.response-room)

    pixel-at : (x y : ℕ) → x < W → y < H → pixel after.working W x y ≡ work_of (pixel img w) w h p x y
    unfolding mapped_by
    pixel-at x y c d =
        rw (← left.same.working)
        (get_or-take (W * H) (filled (W * H) (plane W (work_of (pixel img w) w h p)) b.map.working) (y * W + x) 0 (pixel_in c d)
        ∙ getD_plane c (W * H) (work_of (pixel img w) w h p) b.map.working y 0 (pixel_in c d) runs.working-room)

    -- a map's values, of the format
    map-held : (x y : ℕ) → x < W → y < H → Held (f x y)
    map-held x y c d = (
      map_range (factor_of p.image_upsample) (ray_of p.ray_radius) p.response_blur_radius (pixel img w) w h
          (λ x y. omega (arith, small (y * w + x))) runs.ray-most runs.blur_most x y c d,
      map-fits (factor_of p.image_upsample) (ray_of p.ray_radius) p.response_blur_radius (pixel img w) w h x y,
    )

    flat-held : (k : ℕ) → k < W * H → Held (plane W f k)
    unfolding plane
    flat-held k c = map-held (k % W) (k / W) (column_in W H c) (row-number_in W H c)

    viewed : Viewed seen
    viewed = record {
      long = ap length response-is ∙ length-take (W * H) (filled (W * H) (plane W f) b.map.response)
          ∙ omega (arith, length-filled (W * H) (plane W f) b.map.response, runs.response-room);
      good = λ k c. rw (response-at k c) (flat-held k c).0;
      fit = λ k c. rw (response-at k c) (flat-held k c).1;
      bytes = left.image;
    }

    module _ (sound : Sound m) where
      corners_are : found_by m p after ≡ each (λ q. numbers_by m p f q ∷ []) (found (pixel img w) w h p)
      unfolding found
      corners_are =
          let a = all_accepted w h (length img) p (room_of b.map) z in
          ap (λ (v : RadonResponseView). detect_peaks_from_radon m v p) seen_is
          ∙ detect_as_rust m sound seen p viewed a.1.ray a.2
          ∙ listed_same m p W H (value after.response W) f (pixel after.working W) (work_of (pixel img w) w h p) value-at pixel-at

      -- Whatever the machine's logarithm is: count, W and H, the places of the corners and their strengths are those of the Rust's text
      pub finder_finds_the_rusts_corners : SameFound (outcome_of img w h p b) (found (pixel img w) w h p) (numbers_by m p (map_of (pixel img w) w h p))
          (radon_response_u8 m img w h p rust) (found_by m p (radon_response_u8 m img w h p rust))
      unfolding outcome_of
      finder_finds_the_rusts_corners =
          let places = found (pixel img w) w h p in
          let n = length-each 1 (λ q. numbers_by m p f q ∷ []) (λ q. refl) places ∙ one-mul (length places) in
          rw (eq-eqb (number_of (answered img w h p b)) 0 z)
          (record {
            count = sym (ap length corners_are ∙ n);
            width = sym left.same.width;
            height = sym left.same.height;
            corners = corners_are;
          })

      -- and where it is asked and is ours, so is every number of the list
      pub finder_lists_the_rusts_corners : (p.peak_fit ≡ Gaussian → LogIsOurs m img w h p)
          → SameList b.list (buffers_of img w h p b).list (found_by m p (radon_response_u8 m img w h p rust))
      unfolding buffers_of
      finder_lists_the_rusts_corners logs =
          rw (eq-eqb (number_of (answered img w h p b)) 0 z)
          (written-each stride (numbers p f) (found (pixel img w) w h p) b.list
          ∙ ap (λ (l : List (List Float)). written stride (λ corner. corner) l b.list) (sym (corners_are ∙ ours_too)))
        where
          at : (q : Place) → Inner p W H q → numbers_by m p f q ≡ numbers p f q
          at q c = numbers_as_rust m p W H f map-held logs q.x q.y (omega arith) (omega arith) (omega arith) (omega arith)

          ours_too : each (λ q. numbers_by m p f q ∷ []) (found (pixel img w) w h p) ≡ each (λ q. numbers p f q ∷ []) (found (pixel img w) w h p)
          ours_too = unfold found in numbers-same m p W H (numbers_by m p f) (numbers p f) f (work_of (pixel img w) w h p) at

      -- in parabolic mode no logarithm is asked
      pub finder_lists_the_rusts_corners_parabolic : p.peak_fit ≡ Parabolic
          → SameList b.list (buffers_of img w h p b).list (found_by m p (radon_response_u8 m img w h p rust))
      finder_lists_the_rusts_corners_parabolic e = finder_lists_the_rusts_corners (λ g. let n : ◌≡◌ {A = ℕ} 0 1 = cc in absurd (omega arith))

-- ---- nothing turns on what stands for a panic or a wrap, nor on what the Rust's buffers held

fit_same : (m n : Machine) → ((v : Float) → m.ln v ≡ n.ln v) → (a c b : Float) (mode : PeakFitMode) → fit_peak_frac m a c b mode
    ≡ fit_peak_frac n a c b mode
unfolding fit_peak_frac
fit_same m n e a c b mode =
    let logs = is_gaussian mode && (lt lit_0 a && (lt lit_0 c && lt lit_0 b)) in
    λ i. peak_frac (cond logs (e a i) a) (cond logs (e c i) c) (cond logs (e b i) b)

module _ (m n : Machine) (img : List ℕ) (w h : ℕ) (p : RadonDetectorParams) (small : Bytes img) (a c : RadonBuffers) (b : Buffers)
    (z : number_of (answered img w h p b) ≡ 0) where
  pub rust_runs_alike : SameRun p.response_blur_radius (radon_response_u8 m img w h p a) (radon_response_u8 n img w h p c)
  rust_runs_alike =
      let x = finder_leaves_the_rusts_map m img w h p small a b z in
      let y = finder_leaves_the_rusts_map n img w h p small c b z in
      record {
        width = x.width ∙ sym y.width;
        height = x.height ∙ sym y.height;
        working = sym x.working ∙ y.working;
        row = sym x.row ∙ y.row;
        col = sym x.col ∙ y.col;
        falling = sym x.falling ∙ y.falling;
        rising = sym x.rising ∙ y.rising;
        response = sym x.response ∙ y.response;
        scratch = λ some. sym (x.scratch some) ∙ y.scratch some;
      }

  pub rust_lists_alike : Sound m → Sound n → ((v : Float) → m.ln v ≡ n.ln v) → found_by m p (radon_response_u8 m img w h p a)
      ≡ found_by n p (radon_response_u8 n img w h p c)
  rust_lists_alike s t e =
      (finder_finds_the_rusts_corners m img w h p small a b z s).corners
      ∙ each_ext _ _ (λ q. ap (λ (l : List Float). l ∷ []) (at q)) (found (pixel img w) w h p)
      ∙ sym (finder_finds_the_rusts_corners n img w h p small c b z t).corners
    where
      at : (q : Place) → numbers_by m p (map_of (pixel img w) w h p) q ≡ numbers_by n p (map_of (pixel img w) w h p) q
      at q = unfold numbers_by in simp (fit_same m n e)

-- ---- there is such a machine: with our root and our logarithm, and anything in place of a panic

unfoldable pub ours : Machine
ours = record {
  ln = λ v. difference (units_of terms (to_bits binary32 v)) (6 * cut_third terms);
  sqrt = nearest_root;
  start = lit_minus_0;
  first = λ x y. true;
  narrow = false;
  byte = λ i. 0;
  entry = λ i. pos 0;
  float = λ i. nan;
  signed = λ n. n;
  unsigned = λ n. 0;
}

pub ours_is_sound : Sound ours
unfolding ours
ours_is_sound = record { roots = nearest-roots; starts = inr refl }

pub ours_logs : (img : List ℕ) (w h : ℕ) (p : RadonDetectorParams) (b : Buffers) → Bytes img → number_of (answered img w h p b) ≡ 0
    → LogIsOurs ours img w h p
unfolding ours of_bits
ours_logs img w h p b small z x y c d t =
    let r = runs_by w h p (length img) b.map z in
    go (map_range (factor_of p.image_upsample) (ray_of p.ray_radius) p.response_blur_radius (pixel img w) w h
    (λ x y. omega (arith, small (y * w + x))) r.ray-most r.blur_most x y c d)
  where
    go : Good (map_of (pixel img w) w h p x y) → log_of terms high (map_of (pixel img w) w h p x y) ≡ Some (ours.ln (map_of (pixel img w) w h p x y))
    go (inl e) = absurd (rw (e, lt_itself) at t)
    go (inr g) = log_inside terms high (map_of (pixel img w) w h p x y) (T_true (le lowest _) g.0) (T_true (le _ (highest high)) g.1)
