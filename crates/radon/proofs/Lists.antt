-- What an accepted call leaves in the list, stated of `outcome_of` and `buffers_of` (specs/Finder): what the list is; that every number is
-- finite and every place lies on the frame; the list of a higher setting; and a shorter list. Assumes nothing.
use mathlib.Core.Path.{◌≡◌, sym, ap, ◌∙◌}
use mathlib.Core.Bool.{Bool}
use mathlib.Core.List.{List}
use Prim.Native.Nat.{ℕ, zero, suc, ◌+◌, ◌-◌, ◌*◌, ◌/◌, ◌%◌, ◌≤◌, ◌<◌, min}
use native.Mathlib.Nat.{add-zero}
use native.Mathlib.Omega.{arith}
use borrow.Author.Tests.{eq-eqb, le-leb, lt-leb}
use lib.Dec.{T, lit<}
use lib.ListN.{length, get_or, take, drop}
use lib.Seq.{get_or-take, take-length, length-take-le}
use lib.Ieee.{Float, nan, le}
use lib.Ieee.Scale.{finite}
use Rattle.grid.specs.Ways.{pixel}
use Rattle.grid.specs.Each.{each, keep, count}
use Rattle.grid.proofs.Each.{count_most}
use Rattle.grid.specs.Rect.{Place, place}
use Rattle.grid.specs.Over.{written}
use Rattle.grid.proofs.Over.{opening, shorter, past}
use Rattle.grid.proofs.Entries.{all_at, each-entry}
use Rattle.params.specs.declared.settings.RadonDetectorParams.{RadonDetectorParams}
use Rattle.params.specs.declared.answers.Answer.TheVariants.{Complete, ListFull}
use Rattle.params.specs.declared.answers.Verdicts.{Verdicts}
use Rattle.params.specs.declared.answers.Outcome.{Outcome}
use Rattle.params.specs.Settings.{factor_of, ray_of, border_of}
use Rattle.params.specs.Answers.{number_of}
use Rattle.params.proofs.Accepted.{all_accepted}
use Rattle.response.specs.Map.{room_of, side_of, map_of}
use Rattle.response.proofs.MapFacts.{SameWritten, same-written, map-number}
use Rattle.response.proofs.Runs.{Runs}
use Rattle.verdict.specs.Window.{at}
use Rattle.crests.specs.Maximum.{entry}
use Rattle.detect.specs.Corners.{corners, verdicts_of, numbers, stride}
use Rattle.detect.specs.Detected.{full_or}
use Rattle.detect.proofs.Scanning.{numbers-long}
use Rattle.detect.proofs.Kept.{kept_is_found}
use Rattle.detect.proofs.HigherSettings.{raised, passes_higher, higher-corners}
use Rattle.detect.proofs.HigherCounts.{total_of, total-is, HigherCounts, higher_counts, few-fall, HigherLeast, higher-least}
use Rattle.detect.proofs.Inside.{corners-same, list_same}
use Rattle.detect.proofs.Places.{OnFrame, Inner, corners_inner, numbers_on_frame}
use Rattle.radon.specs.Finder.{Buffers, Bytes, answered, found, judged, outcome_of, buffers_of}
use Rattle.radon.proofs.Cases.{found-is, judged-is, list-is}
use Rattle.radon.proofs.Left.{Accepted, map_left, image_left, list_left, runs, left_is, working-is, response-is, byte-most}

-- ---- what a call leaves, by name

-- the corners of that response and that working image, in row order
abbrev pub corners_left : List ℕ → ℕ → ℕ → RadonDetectorParams → Buffers → List Place
corners_left img w h p b = corners p (side_of w p) (side_of h p) (map_left img w h p b) (image_left img w h p b)

-- how many of its candidates have each verdict
abbrev pub verdicts_left : List ℕ → ℕ → ℕ → RadonDetectorParams → Buffers → Verdicts
verdicts_left img w h p b = verdicts_of p (side_of w p) (side_of h p) (map_left img w h p b) (image_left img w h p b)

-- "its room is its length divided by three, rounded down"
abbrev pub room_in : Buffers → ℕ
room_in b = length b.list / stride

-- how many corners are written: all, or as many as fit
abbrev pub written_by : List ℕ → ℕ → ℕ → RadonDetectorParams → Buffers → ℕ
written_by img w h p b = min (length (corners_left img w h p b)) (room_in b)

-- "The list takes three f32 a corner: x, y, strength": those of corner i of a list
abbrev pub x_of : List Float → ℕ → Float
x_of l i = entry l (stride * i)

abbrev pub y_of : List Float → ℕ → Float
y_of l i = entry l (stride * i + 1)

abbrev pub strength_of : List Float → ℕ → Float
strength_of l i = entry l (stride * i + 2)

-- ---- "What comes back": the answer and the list

pub record ListIs (img : List ℕ) (w h : ℕ) (p : RadonDetectorParams) (b : Buffers) : Type 0 where
  -- the total, and whether all of them fit
  pub count : (outcome_of img w h p b).count ≡ length (corners_left img w h p b)
  pub complete : length (corners_left img w h p b) ≤ room_in b → (outcome_of img w h p b).answer ≡ Complete
  pub full : room_in b < length (corners_left img w h p b) → (outcome_of img w h p b).answer ≡ ListFull
  -- W and H
  pub wide : (outcome_of img w h p b).w ≡ side_of w p
  pub high : (outcome_of img w h p b).h ≡ side_of h p
  -- the six counts, over the candidates of that response and that working image; kept is the total, and together they are
  -- "(W − 2·border)(H − 2·border)"
  pub verdicts : (outcome_of img w h p b).verdicts ≡ verdicts_left img w h p b
  pub kept : (outcome_of img w h p b).verdicts.kept ≡ (outcome_of img w h p b).count
  pub all : total_of (outcome_of img w h p b).verdicts ≡ (side_of w p - 2 * border_of p) * (side_of h p - 2 * border_of p)
  -- the numbers of the first corners, one after the other; entries beyond stay
  pub opens : take (stride * written_by img w h p b) (list_left img w h p b)
      ≡ each (numbers p (map_left img w h p b)) (take (written_by img w h p b) (corners_left img w h p b))
  pub beyond : drop (stride * written_by img w h p b) (list_left img w h p b) ≡ drop (stride * written_by img w h p b) b.list

-- a number of a list is one of a corner's three
number_finite : (w h : ℕ) (l : List Float) (i k : ℕ) → OnFrame w h (x_of l i) (y_of l i) (strength_of l i)
    → (r : ℕ) → k ≡ stride * i + r → r < stride → T (finite (entry l k))
number_finite w h l i k o zero e b =
    let d : k ≡ stride * i = omega arith in
    rw d o.x_finite
number_finite w h l i k o (suc zero) e b = rw e o.y_finite
number_finite w h l i k o (suc (suc zero)) e b = rw e o.strength_finite
number_finite w h l i k o (suc (suc (suc r))) e b = absurd (omega arith)

module _ (img : List ℕ) (w h : ℕ) (p : RadonDetectorParams) (b : Buffers) (accepted : Accepted img w h p b) where
  abbrev ran : Runs (factor_of p.image_upsample) (ray_of p.ray_radius) p.response_blur_radius w h (length img) b.map
  ran = runs img w h p b accepted

  -- what is found in the map is found in what was left of it
  pub corners-found : corners_left img w h p b ≡ found (pixel img w) w h p
  corners-found = rw (left_is img w h p b accepted) (found-is (pixel img w) w h p b.map ran.working-room ran.response-room)

  verdicts-judged : verdicts_left img w h p b ≡ judged (pixel img w) w h p
  verdicts-judged = rw (left_is img w h p b accepted) (judged-is (pixel img w) w h p b.map ran.working-room ran.response-room)

  written-left : written stride (numbers p (map_left img w h p b)) (corners_left img w h p b) b.list
      ≡ written stride (numbers p (map_of (pixel img w) w h p)) (found (pixel img w) w h p) b.list
  written-left = rw (left_is img w h p b accepted) (list-is (pixel img w) w h p b.map ran.working-room ran.response-room b.list)

  list_left_lem : list_left img w h p b ≡ written stride (numbers p (map_left img w h p b)) (corners_left img w h p b) b.list
  list_left_lem = ap (λ (o : Buffers). o.list) (left_is img w h p b accepted) ∙ sym written-left

  outcome_left : outcome_of img w h p b ≡ record {
    answer = full_or (length (corners_left img w h p b)) (room_in b);
    count = length (corners_left img w h p b);
    w = side_of w p;
    h = side_of h p;
    verdicts = verdicts_left img w h p b;
  }
  unfolding outcome_of
  outcome_left = rw (eq-eqb (number_of (answered img w h p b)) 0 accepted, corners-found, verdicts-judged)

  pub list_is_corners : ListIs img w h p b
  list_is_corners =
      let cs = corners_left img w h p b in
      let g = numbers p (map_left img w h p b) in
      let long = numbers-long p (map_left img w h p b) in
      let k = min (length cs) (room_in b) in
      let total = ap (λ (o : Outcome). o.count) outcome_left in
      let counts = ap (λ (o : Outcome). o.verdicts) outcome_left in
      record {
        count = total;
        complete = λ l. ap (λ (o : Outcome). o.answer) outcome_left ∙ rw (le-leb (length cs) (room_in b) l);
        full = λ l. ap (λ (o : Outcome). o.answer) outcome_left ∙ rw (lt-leb (length cs) (room_in b) l);
        wide = ap (λ (o : Outcome). o.w) outcome_left;
        high = ap (λ (o : Outcome). o.h) outcome_left;
        verdicts = counts;
        kept = ap (λ (v : Verdicts). v.kept) counts ∙ kept_is_found p _ _ _ _ ∙ sym total;
        all = ap total_of counts ∙ total-is p _ _ _ _;
        opens = ap (take (stride * k)) list_left_lem ∙ opening stride g long cs k b.list (omega arith) (omega arith);
        beyond = ap (drop (stride * k)) list_left_lem ∙ past stride g long cs b.list;
      }

  -- ---- "each place lies from 0 to 4,096 in x and y", and no number is a NaN or infinite

  abbrev corner_at : ℕ → Place
  corner_at i = get_or (corners_left img w h p b) i (place 0 0)

  -- number j of corner i
  number-left : (i j : ℕ) → i < written_by img w h p b → j < stride
      → entry (list_left img w h p b) (stride * i + j) ≡ entry (numbers p (map_left img w h p b) (corner_at i)) j
  number-left i j l c =
      let k = written_by img w h p b in
      let cs = corners_left img w h p b in
      let g = numbers p (map_left img w h p b) in
      let some : length (take k cs) ≡ k = length-take-le k cs (omega arith) in
      sym (get_or-take (stride * k) (list_left img w h p b) (stride * i + j) nan (omega arith))
      ∙ ap (λ (l : List Float). entry l (stride * i + j)) list_is_corners.opens
      ∙ each-entry stride g (numbers-long p (map_left img w h p b)) (take k cs) i j (place 0 0) nan (omega arith) c
      ∙ ap (λ (q : Place). entry (g q) j) (get_or-take k cs i (place 0 0) l)

  x_left : (i : ℕ) → i < written_by img w h p b → x_of (list_left img w h p b) i ≡ entry (numbers p (map_left img w h p b) (corner_at i)) 0
  x_left i l = ap (entry (list_left img w h p b)) (sym (add-zero (stride * i))) ∙ number-left i 0 l (lit< tt)

  -- its pixel is a candidate's, and its strength the value there
  pub corner_inner : (i : ℕ) → i < written_by img w h p b → Inner p (side_of w p) (side_of h p) (corner_at i)
  corner_inner i l =
      let inner = corners_inner p (side_of w p) (side_of h p) (map_left img w h p b) (image_left img w h p b) in
      all_at (Inner p (side_of w p) (side_of h p)) (corners_left img w h p b) i (place 0 0) inner (omega arith)

  pub strength_left : (i : ℕ) → i < written_by img w h p b → strength_of (list_left img w h p b) i ≡ at (map_left img w h p b) (corner_at i)
  unfolding numbers
  strength_left i l = number-left i 2 l (lit< tt)

  module _ (bytes : Bytes img) where
    -- the strength of a corner is a map value
    strength_finite : (q : Place) → Inner p (side_of w p) (side_of h p) q → T (finite (at (map_left img w h p b) q))
    strength_finite q c =
        let u : q.x < side_of w p = omega arith in
        let v : q.y < side_of h p = omega arith in
        let F = factor_of p.image_upsample in
        let R = ray_of p.ray_radius in
        rw (response-is img w h p b accepted q.x q.y u v)
        (map-number F R p.response_blur_radius (pixel img w) w h (byte-most img w bytes) ran.ray-most ran.blur_most q.x q.y u v).0

    -- every corner that is written
    pub list_on_frame : (i : ℕ) → i < written_by img w h p b
        → OnFrame w h (x_of (list_left img w h p b) i) (y_of (list_left img w h p b) i) (strength_of (list_left img w h p b) i)
    list_on_frame i l =
        let inner = corner_inner i l in
        rw (x_left i l, number-left i 1 l (lit< tt), number-left i 2 l (lit< tt))
        (numbers_on_frame p (map_left img w h p b) w h ran.wide ran.high (corner_at i) inner (strength_finite (corner_at i) inner))

    -- every number that is written
    pub list_finite : (k : ℕ) → k < stride * written_by img w h p b → T (finite (entry (list_left img w h p b) k))
    list_finite k l =
        let corner = list_on_frame (k / stride) (omega arith) in
        number_finite w h (list_left img w h p b) (k / stride) k corner (k % stride) (omega arith) (omega arith)

-- ---- "The higher setting's list is exactly those of the lower's corners that pass the higher floor and count, in order, bits unchanged."

-- of the lower's corners, those that pass the floor and the count of `raised p t n` in the map that the lower call left
abbrev pub passing : List ℕ → ℕ → ℕ → RadonDetectorParams → Float → ℕ → Buffers → List Place
passing img w h p t n low = keep (passes_higher (raised p t n) (side_of w p) (side_of h p) (map_left img w h p low)) (corners_left img w h p low)

-- p, and p with a fraction t and a least count n, `raised p t n`: of two calls over low and high, what they answered and left in their lists
pub record ListFiltered (img : List ℕ) (w h : ℕ) (p : RadonDetectorParams) (t : Float) (n : ℕ) (low high : Buffers)
    (lower higher : Outcome) (lower-left higher-left : List Float) : Type 0 where
  -- both leave the same map
  pub same_map : SameWritten (side_of w p * side_of h p) p.response_blur_radius
      (buffers_of img w h p low).map (buffers_of img w h (raised p t n) high).map
  -- the lower's count, answer and list
  pub lower_count : lower.count ≡ length (corners_left img w h p low)
  pub lower_answer : lower.answer ≡ Complete
  pub lower_list : take (stride * length (corners_left img w h p low)) lower-left
      ≡ each (numbers p (map_left img w h p low)) (corners_left img w h p low)
  -- the higher's
  pub higher-count : higher.count ≡ length (passing img w h p t n low)
  pub higher_answer : higher.answer ≡ Complete
  pub higher-list : take (stride * length (passing img w h p t n low)) higher-left
      ≡ each (numbers p (map_left img w h p low)) (passing img w h p t n low)

-- the calls of the finder
abbrev pub Filtered : List ℕ → ℕ → ℕ → RadonDetectorParams → Float → ℕ → Buffers → Buffers → Type 0
Filtered img w h p t n low high =
    let q = raised p t n in
    ListFiltered img w h p t n low high (outcome_of img w h p low) (outcome_of img w h q high) (list_left img w h p low) (list_left img w h q high)

-- a list with room for all of l
whole : (p : RadonDetectorParams) (f : ℕ → ℕ → Float) (l : List Place) (old : List Float) → length l ≤ length old / stride
    → take (stride * length l) (written stride (numbers p f) l old) ≡ each (numbers p f) l
whole p f l old r = opening stride (numbers p f) (numbers-long p f) l (length l) old r (omega arith) ∙ ap (each (numbers p f)) (take-length l)

fewer : (q : Place → Bool) (l : List Place) → length (keep q l) ≤ length l
unfolding count
fewer q l = count_most q l

-- "one image and two accepted settings, alike but for a higher threshold fraction, a higher least neighbour count, or both,
-- with list room for all corners of the lower"
module _ (img : List ℕ) (w h : ℕ) (p : RadonDetectorParams) (t : Float) (n : ℕ) (low high : Buffers)
    (lower : Accepted img w h p low) (higher : Accepted img w h (raised p t n) high)
    (fraction : T (le p.threshold_rel t)) (least : p.min_cluster_size ≤ n)
    (room-low : (outcome_of img w h p low).count ≤ room_in low) (room-high : (outcome_of img w h p low).count ≤ room_in high) where
  abbrev W : ℕ
  W = side_of w p

  abbrev H : ℕ
  H = side_of h p

  -- the map and the working image that both calls left
  abbrev f : ℕ → ℕ → Float
  f = map_left img w h p low

  abbrev g : ℕ → ℕ → ℕ
  g = image_left img w h p low

  maps_same : (x y : ℕ) → x < W → y < H → map_left img w h (raised p t n) high x y ≡ f x y
  maps_same x y u v = response-is img w h (raised p t n) high higher x y u v ∙ sym (response-is img w h p low lower x y u v)

  images_same : (x y : ℕ) → x < W → y < H → image_left img w h (raised p t n) high x y ≡ g x y
  images_same x y u v = working-is img w h (raised p t n) high higher x y u v ∙ sym (working-is img w h p low lower x y u v)

  narrowed : corners (raised p t n) W H f g ≡ passing img w h p t n low
  narrowed =
      let u = (all_accepted w h (length img) p (room_of low.map) lower).2 in
      let v = (all_accepted w h (length img) (raised p t n) (room_of high.map) higher).2 in
      higher-corners p t n W H f g u.least fraction v.least v.most least

  -- the higher's corners, and what it left in its list
  corners_kept : corners_left img w h (raised p t n) high ≡ passing img w h p t n low
  corners_kept = corners-same (raised p t n) W H _ f _ g maps_same images_same ∙ narrowed

  list_kept : list_left img w h (raised p t n) high ≡ written stride (numbers p f) (passing img w h p t n low) high.list
  unfolding numbers
  list_kept =
      list_left_lem img w h (raised p t n) high higher
      ∙ list_same (raised p t n) W H _ f _ g maps_same images_same high.list
      ∙ ap (λ (l : List Place). written stride (numbers p f) l high.list) narrowed

  pub higher_setting : Filtered img w h p t n low high
  higher_setting =
      let q = raised p t n in
      let cs = corners_left img w h p low in
      let ds = passing img w h p t n low in
      let L = list_is_corners img w h p low lower in
      let M = list_is_corners img w h q high higher in
      let few : length ds ≤ length cs = fewer (passes_higher q W H f) cs in
      let all-low : length cs ≤ room_in low = omega (arith, L.count) in
      let all-high : length cs ≤ room_in high = omega (arith, L.count) in
      record {
        same_map = rw (left_is img w h p low lower, left_is img w h q high higher)
            (same-written _ _ _ (pixel img w) w h (length img) low.map high.map (runs img w h p low lower) (runs img w h q high higher));
        lower_count = L.count;
        lower_answer = L.complete all-low;
        lower_list = ap (take (stride * length cs)) (list_left_lem img w h p low lower) ∙ whole p f cs low.list all-low;
        higher-count = M.count ∙ ap length corners_kept;
        higher_answer = M.complete (omega (arith, ap length corners_kept));
        higher-list = ap (take (stride * length ds)) list_kept ∙ whole p f ds high.list (omega arith);
      }

-- ---- the six counts of the two, whatever room their lists have

module _ (img : List ℕ) (w h : ℕ) (p : RadonDetectorParams) (b : Buffers) (accepted : Accepted img w h p b) where
  pub told-judged : (outcome_of img w h p b).verdicts ≡ judged (pixel img w) w h p
  unfolding outcome_of
  told-judged = rw (eq-eqb (number_of (answered img w h p b)) 0 accepted)

module _ (img : List ℕ) (w h : ℕ) (p : RadonDetectorParams) (t : Float) (n : ℕ) (low high : Buffers)
    (lower : Accepted img w h p low) (higher : Accepted img w h (raised p t n) high) where
  -- what two settings' counts are to each other, they are in what the two calls report
  by_told : (R : Verdicts → Verdicts → Type 0) → R (judged (pixel img w) w h p) (judged (pixel img w) w h (raised p t n))
      → R (outcome_of img w h p low).verdicts (outcome_of img w h (raised p t n) high).verdicts
  by_told R r = rw (told-judged img w h p low lower, told-judged img w h (raised p t n) high higher) r

  module _ (fraction : T (le p.threshold_rel t)) where
    pub higher-verdicts : p.min_cluster_size ≤ n
        → HigherCounts (outcome_of img w h p low).verdicts (outcome_of img w h (raised p t n) high).verdicts
    unfolding judged
    higher-verdicts least =
        let u = (all_accepted w h (length img) p (room_of low.map) lower).2 in
        let v = (all_accepted w h (length img) (raised p t n) (room_of high.map) higher).2 in
        by_told HigherCounts (higher_counts p t n (side_of w p) (side_of h p) _ _ u.least fraction v.least v.most least)

    pub fewer_too_few : n ≡ p.min_cluster_size
        → (outcome_of img w h (raised p t n) high).verdicts.too_few ≤ (outcome_of img w h p low).verdicts.too_few
    unfolding judged
    fewer_too_few same =
        let u = (all_accepted w h (length img) p (room_of low.map) lower).2 in
        let v = (all_accepted w h (length img) (raised p t n) (room_of high.map) higher).2 in
        by_told (λ a b. b.too_few ≤ a.too_few)
        (rw same (few-fall p t (side_of w p) (side_of h p) _ _ u.least fraction v.least v.most))

  pub higher_least_verdicts : t ≡ p.threshold_rel → p.min_cluster_size ≤ n
      → HigherLeast (outcome_of img w h p low).verdicts (outcome_of img w h (raised p t n) high).verdicts
  unfolding judged
  higher_least_verdicts same least = by_told HigherLeast (rw same (higher-least p n (side_of w p) (side_of h p) _ _ least))

-- ---- "A shorter list holds the opening corners of a longer one, with the same total."

pub record ListOpens (img : List ℕ) (w h : ℕ) (p : RadonDetectorParams) (short long : Buffers)
    (shorter longer : Outcome) (shorter-left longer-left : List Float) : Type 0 where
  pub same_total : shorter.count ≡ longer.count
  pub same-verdicts : shorter.verdicts ≡ longer.verdicts
  pub same-corners : corners_left img w h p short ≡ corners_left img w h p long
  -- what the shorter list holds is what the longer one begins with
  pub opening_corners : take (stride * written_by img w h p short) shorter-left ≡ take (stride * written_by img w h p short) longer-left

abbrev pub Opens : List ℕ → ℕ → ℕ → RadonDetectorParams → Buffers → Buffers → Type 0
Opens img w h p short long =
    ListOpens img w h p short long (outcome_of img w h p short) (outcome_of img w h p long) (list_left img w h p short) (list_left img w h p long)

module _ (img : List ℕ) (w h : ℕ) (p : RadonDetectorParams) (short long : Buffers)
    (accepts-short : Accepted img w h p short) (accepts-long : Accepted img w h p long)
    (no_longer : length short.list ≤ length long.list) where
  in_short : corners_left img w h p short ≡ found (pixel img w) w h p
  in_short = corners-found img w h p short accepts-short

  same : corners_left img w h p short ≡ corners_left img w h p long
  same = in_short ∙ sym (corners-found img w h p long accepts-long)

  pub shorter_list : Opens img w h p short long
  shorter_list =
      let f = map_of (pixel img w) w h p in
      let cs = found (pixel img w) w h p in
      let begin : Buffers → List Float = λ o. take (stride * min (length cs) (room_in short)) o.list in
      record {
        same_total = (list_is_corners img w h p short accepts-short).count ∙ ap length same ∙ sym (list_is_corners img w h p long accepts-long).count;
        same-verdicts = told-judged img w h p short accepts-short ∙ sym (told-judged img w h p long accepts-long);
        same-corners = same;
        opening_corners = rw in_short
            (ap begin (left_is img w h p short accepts-short)
            ∙ shorter stride (numbers p f) (numbers-long p f) cs short.list long.list (lit< tt) no_longer
            ∙ sym (ap begin (left_is img w h p long accepts-long)));
      }
