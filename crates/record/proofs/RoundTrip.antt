-- A record's bytes and its numbers, both ways: the fields and numbers of the record of a list are that list's, and a list of
-- bytes that is sound is the record of its own fields and numbers. Assumes nothing.
use mathlib.Core.Path.{◌≡◌, refl, sym, ap, ◌∙◌}
use mathlib.Core.Bool.{not}
use mathlib.Core.List.{List, [], ◌∷◌, ◌++◌}
use Prim.Native.Nat.{ℕ, zero, suc, ◌+◌, ◌-◌, ◌*◌, ◌/◌, ◌%◌, ◌≤◌, ◌<◌, suc-le-suc}
use native.Mathlib.Nat.{zero-lt-suc, lt_of_lt_of_le, mul-div-le, mul-div_cancel_left}
use native.Mathlib.Omega.{arith}
use lib.Dec.{T, lit<}
use lib.Ieee.{Float, nan, inf, fin, binary32, fits, is_nan, to_bits, of_bits}
use lib.Ieee.Bits.{of_bits-to_bits, to_bits-lt, to_bits-of_bits}
use lib.Ieee.Scale.{finite}
use lib.ListN.{length, get_or, take, drop, length-append, length-drop}
use lib.Seq.{length-take-le, take_all, get_or-append-add, get_or-take, get_or-drop, ext_get_or}
use Rattle.grid.specs.Each.{each}
use Rattle.grid.specs.Fill.{filled}
use Rattle.grid.proofs.Entries.{each-entry}
use Rattle.grid.proofs.Fill.{length-filled, getD_filled}
use Rattle.big_endian.specs.BigEndian.{byte_at, half_at, word_at, word_bytes}
use Rattle.big_endian.proofs.Numbers.{halves, words, half_bytes_lem, word_bytes_lem, half_back, word_back, word_below, Bytes, byte-below, opened-is}
use Rattle.record.specs.Record.{corners_in, whole_of, head, following, head_of, bytes_of, record_of, stated_in, count_in, number_in}
use Rattle.record.proofs.Puts.{bytes_long}
use Rattle.record.proofs.Chains.{whole_length, Takes, Sound}

-- every number is an f32
abbrev pub F32s : List Float → Type 0
F32s list = (i : ℕ) → i < length list → T (fits binary32 (get_or list i nan))

-- ---- lengths

pub length_record : (v k w h : ℕ) (list : List Float) → length (record_of v k w h list) ≡ head + 4 * (k * corners_in k list)
unfolding record_of
length_record v k w h list =
    length-append (head_of v k w h (corners_in k list)) (bytes_of (whole_of k list))
    ∙ ap (λ (n : ℕ). head + n) (bytes_long (whole_of k list) ∙ ap (λ (n : ℕ). 4 * n) (whole_length k list))

-- the first n entries of a list that is filled by them
take-filled : (n : ℕ) (f : ℕ → Float) (old list : List Float) → n ≤ length old → n ≤ length list
    → ((i : ℕ) → i < n → f i ≡ get_or list i nan) → take n (filled n f old) ≡ take n list
take-filled n f old list a b h =
    let l : length (take n (filled n f old)) ≡ n = length-take-le n (filled n f old) (omega (arith, length-filled n f old)) in
    ext_get_or nan (take n (filled n f old)) (take n list) (l ∙ sym (length-take-le n list b))
    (λ i c.
    let m : i < n = rw l at c in
    get_or-take n (filled n f old) i nan m ∙ getD_filled n f old i nan m (omega arith) ∙ h i m ∙ sym (get_or-take n list i nan m))

-- ---- the record of a list: what stands in it

module _ (v k w h : ℕ) (list : List Float) where
  abbrev file : List ℕ
  file = record_of v k w h list

  abbrev corners : ℕ
  corners = corners_in k list

  version_of : byte_at file 0 ≡ v
  unfolding record_of
  version_of = refl

  stated_of : stated_in file ≡ following k corners
  unfolding record_of
  stated_of = words (following k corners)

  pub width_of : half_at file 5 ≡ w
  unfolding record_of
  width_of = halves w

  pub height_of : half_at file 7 ≡ h
  unfolding record_of
  height_of = halves h

  pub count_of : count_in file ≡ corners
  unfolding record_of
  count_of = words corners

  -- byte j of number i
  byte_of : (i j at : ℕ) → i < k * corners → j < 4 → at ≡ head + (4 * i + j)
      → byte_at file at ≡ get_or (word_bytes (to_bits binary32 (get_or list i nan))) j 0
  unfolding record_of bytes_of
  byte_of i j at b c e =
      let n : i < length (whole_of k list) = omega (arith, whole_length k list) in
      ap (byte_at file) e
      ∙ get_or-append-add (head_of v k w h corners) (bytes_of (whole_of k list)) (4 * i + j) 0
      ∙ each-entry 4 (λ x. word_bytes (to_bits binary32 x)) (λ x. refl) (whole_of k list) i j nan 0 n c
      ∙ ap (λ (x : Float). get_or (word_bytes (to_bits binary32 x)) j 0) (get_or-take (k * corners) list i nan b)

  word_of : (i : ℕ) → i < k * corners → word_at file (head + 4 * i) ≡ to_bits binary32 (get_or list i nan)
  word_of i b =
      let at = head + 4 * i in
      rw (
        byte_of i 0 at b (lit< tt) (omega arith),
        byte_of i 1 (at + 1) b (lit< tt) (omega arith),
        byte_of i 2 (at + 2) b (lit< tt) (omega arith),
        byte_of i 3 (at + 2 + 1) b (lit< tt) (omega arith),
      )
      (words (to_bits binary32 (get_or list i nan)))

  number_of : F32s list → (i : ℕ) → i < k * corners → number_in file i ≡ get_or list i nan
  unfolding number_in
  number_of f i b =
      ap (of_bits binary32) (word_of i b)
      ∙ of_bits-to_bits binary32 (get_or list i nan) (f i (omega (arith, mul-div-le (length list) k)))

  -- it is sound, whatever room its list was taken with
  pub record_sound : (out room : ℕ) → F32s list → Takes k list out → k * corners ≤ room → Sound v k file room
  record_sound out room f t r =
      let long : length file ≡ head + 4 * (k * corners) = length_record v k w h list in
      record {
        long = omega arith;
        stated = stated_of ∙ omega arith;
        first = version_of;
        agrees = stated_of ∙ ap (following k) (sym count_of);
        few = rw count_of t.few;
        numbers = λ i b. let c : i < k * corners = rw count_of at b in rw (number_of f i c) (t.numbers i c);
        fits = rw count_of r;
      }

  -- and its numbers are the list's
  pub numbers_of : F32s list → (old : List Float) → k * corners ≤ length old
      → take (k * corners) (filled (k * corners) (number_in file) old) ≡ whole_of k list
  numbers_of f old r = take-filled (k * corners) (number_in file) old list r (mul-div-le (length list) k) (number_of f)

-- ---- it is bytes

bytes_bytes : (numbers : List Float) → F32s numbers → Bytes (bytes_of numbers)
unfolding bytes_of each
bytes_bytes [] f = tt
bytes_bytes (x ∷ numbers) f =
    let b = word_bytes_lem (to_bits binary32 x) (to_bits-lt binary32 x (f 0 (zero-lt-suc _))) in
    (b.0, (b.1, (b.2, (b.3, bytes_bytes numbers (λ i l. f (suc i) (suc-le-suc l))))))

whole_f32s : (k : ℕ) (list : List Float) → F32s list → F32s (whole_of k list)
whole_f32s k list f i b =
    let c : i < k * corners_in k list = rw (whole_length k list) at b in
    rw (get_or-take (k * corners_in k list) list i nan c) (f i (omega (arith, mul-div-le (length list) k)))

pub record_bytes : (v k w h : ℕ) (list : List Float) → v < 256 → w < 65536 → h < 65536 → corners_in k list < 4294967296
    → following k (corners_in k list) < 4294967296 → F32s list → Bytes (record_of v k w h list)
unfolding record_of
record_bytes v k w h list a b c d e f =
    let s = word_bytes_lem (following k (corners_in k list)) e in
    let x = half_bytes_lem w b in
    let y = half_bytes_lem h c in
    let n = word_bytes_lem (corners_in k list) d in
    let r = bytes_bytes (whole_of k list) (whole_f32s k list f) in
    (a, (s.0, (s.1, (s.2, (s.3, (x.0, (x.1, (y.0, (y.1, (n.0, (n.1, (n.2, (n.3, r)))))))))))))

-- ---- a list of bytes that is sound: it is the record of its fields and numbers

finite_no_nan : (x : Float) → T (finite x) → T (not (is_nan x))
unfolding is_nan
finite_no_nan nan t = absurd t
finite_no_nan (inf s) t = absurd t
finite_no_nan (fin s m e) t = tt

-- its first thirteen bytes
head_back : (v k : ℕ) (file : List ℕ) → Bytes file → head ≤ length file → byte_at file 0 ≡ v → stated_in file ≡ following k (count_in file)
    → file ≡ head_of v k (half_at file 5) (half_at file 7) (count_in file) ++ drop head file
head_back v k file b long first agrees =
    let p = byte-below file b in
    let s = word_back (byte_at file 1) (byte_at file 2) (byte_at file 3) (byte_at file 4) (p 2) (p 3) (p 4) in
    let w = half_back (byte_at file 5) (byte_at file 6) (p 6) in
    let h = half_back (byte_at file 7) (byte_at file 8) (p 8) in
    let n = word_back (byte_at file 9) (byte_at file 10) (byte_at file 11) (byte_at file 12) (p 10) (p 11) (p 12) in
    opened-is 13 0 file long
    ∙ rw (← agrees, s.0, s.1, s.2, s.3, w.0, w.1, h.0, h.1, n.0, n.1, n.2, n.3, first)

-- the bytes of a word
abbrev WordAs : ℕ → (ℕ → ℕ) → ℕ → Type 0
WordAs n byte at =
    (n / 16777216 ≡ byte at) × (n / 65536 % 256 ≡ byte (at + 1)) × (n / 256 % 256 ≡ byte (at + 2)) × (n % 256 ≡ byte (at + 2 + 1))

word_as : (file : List ℕ) → Bytes file → (at : ℕ) → WordAs (word_at file at) (byte_at file) at
word_as file b at =
    let p = byte-below file b in
    word_back (byte_at file at) (byte_at file (at + 1)) (byte_at file (at + 2)) (byte_at file (at + 2 + 1))
    (p (at + 1)) (p (at + 2)) (p (at + 2 + 1))

place_back : (n : ℕ) (byte : ℕ → ℕ) (at j : ℕ) → WordAs n byte at → j < 4 → get_or (word_bytes n) j 0 ≡ byte (at + j)
place_back n byte at zero s c = s.0 ∙ ap byte (omega arith)
place_back n byte at (suc zero) s c = s.1
place_back n byte at (suc (suc zero)) s c = s.2
place_back n byte at (suc (suc (suc zero))) s c = s.3 ∙ ap byte (omega arith)
place_back n byte at (suc (suc (suc (suc j)))) s c = absurd (omega arith)

word_in : (file : List ℕ) → Bytes file → (at : ℕ) → word_at file at < 4294967296
word_in file b at =
    let p = byte-below file b in
    word_below (byte_at file at) (byte_at file (at + 1)) (byte_at file (at + 2)) (byte_at file (at + 2 + 1))
    (p at) (p (at + 1)) (p (at + 2)) (p (at + 2 + 1))

bits_back : (file : List ℕ) (i : ℕ) → Bytes file → T (finite (number_in file i)) → to_bits binary32 (number_in file i) ≡ word_at file (head + 4 * i)
unfolding number_in
bits_back file i b t = to_bits-of_bits binary32 (word_at file (head + 4 * i)) (word_in file b (head + 4 * i)) (finite_no_nan _ t)

-- the bytes behind the first thirteen
module _ (file : List ℕ) (m : ℕ) (numbers : List Float) (b : Bytes file) (count : length numbers ≡ m)
    (bits : (i : ℕ) → i < m → to_bits binary32 (get_or numbers i nan) ≡ word_at file (head + 4 * i)) where
  rest_at : (x : ℕ) → x < 4 * m → get_or (drop head file) x 0 ≡ get_or (bytes_of numbers) x 0
  unfolding bytes_of
  rest_at x l =
      let i = x / 4 in
      let j = x % 4 in
      let at = head + 4 * i in
      let e : 4 * i + j ≡ x = omega arith in
      get_or-drop head file x 0
      ∙ ap (byte_at file) (omega arith)
      ∙ sym (place_back (word_at file at) (byte_at file) at j (word_as file b at) (omega arith))
      ∙ ap (λ (n : ℕ). get_or (word_bytes n) j 0) (sym (bits i (omega arith)))
      ∙ sym (each-entry 4 (λ y. word_bytes (to_bits binary32 y)) (λ y. refl) numbers i j nan 0 (omega arith) (omega arith))
      ∙ ap (λ (y : ℕ). get_or (bytes_of numbers) y 0) e

  rest_back : length file ≡ head + 4 * m → drop head file ≡ bytes_of numbers
  rest_back long =
      let d : length (drop head file) ≡ 4 * m = omega (arith, length-drop head file) in
      ext_get_or 0 (drop head file) (bytes_of numbers) (d ∙ omega (arith, bytes_long numbers)) (λ x l. rest_at x (omega arith))

-- a list of whole corners is its own whole corners
pub corners_of : (k n : ℕ) (numbers : List Float) → 0 < k → length numbers ≡ k * n → corners_in k numbers ≡ n
corners_of k n numbers p e = rw e (mul-div_cancel_left n p)

pub whole_of_lem : (k n : ℕ) (numbers : List Float) → 0 < k → length numbers ≡ k * n → whole_of k numbers ≡ numbers
whole_of_lem k n numbers p e = rw (corners_of k n numbers p e) (take_all (k * n) numbers (omega arith))

record_whole : (v k w h n : ℕ) (numbers : List Float) → 0 < k → length numbers ≡ k * n
    → record_of v k w h numbers ≡ head_of v k w h n ++ bytes_of numbers
unfolding record_of
record_whole v k w h n numbers p e = λ i. head_of v k w h (corners_of k n numbers p e i) ++ bytes_of (whole_of_lem k n numbers p e i)

whole_size : (size stated m : ℕ) → 13 ≤ size → stated ≡ size - 5 → stated ≡ 8 + 4 * m → size ≡ 13 + 4 * m
whole_size size stated m a b c = omega arith

module _ (v k : ℕ) (file : List ℕ) (old : List Float) (s : Sound v k file (length old)) where
  -- what the reader leaves at the list's beginning
  abbrev pub numbers : List Float
  numbers = take (k * count_in file) (filled (k * count_in file) (number_in file) old)

  pub numbers-length : length numbers ≡ k * count_in file
  numbers-length = length-take-le (k * count_in file) _ (rw (length-filled (k * count_in file) (number_in file) old) s.fits)

  number_at : (i : ℕ) → i < k * count_in file → get_or numbers i nan ≡ number_in file i
  number_at i l =
      get_or-take (k * count_in file) _ i nan l
      ∙ getD_filled (k * count_in file) (number_in file) old i nan l (lt_of_lt_of_le l s.fits)

  size_of : length file ≡ head + 4 * (k * count_in file)
  size_of = whole_size (length file) (stated_in file) (k * count_in file) s.long s.stated s.agrees

  pub record_back : 0 < k → Bytes file → file ≡ record_of v k (half_at file 5) (half_at file 7) numbers
  record_back p b =
      head_back v k file b s.long s.first s.agrees
      ∙ ap (λ (l : List ℕ). head_of v k (half_at file 5) (half_at file 7) (count_in file) ++ l)
      (rest_back file (k * count_in file) numbers b numbers-length
      (λ i l. ap (to_bits binary32) (number_at i l) ∙ bits_back file i b (s.numbers i l)) size_of)
      ∙ sym (record_whole v k (half_at file 5) (half_at file 7) (count_in file) numbers p numbers-length)

  -- its list is one that the writer takes
  pub numbers_taken : 0 < k → (room : ℕ) → length file ≤ room → Takes k numbers room
  numbers_taken p room r =
      let n : corners_in k numbers ≡ count_in file = corners_of k (count_in file) numbers p numbers-length in
      record {
        few = rw n s.few;
        numbers = λ i l. let m : i < k * count_in file = rw n at l in rw (number_at i m) (s.numbers i m);
        fits = rw n (rw size_of at r);
      }
