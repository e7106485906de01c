-- No good file is refused: the bytes that document 01 prescribes for a header and pixels are taken, and mean that
-- header and those pixels. And no other file is taken: every taken file is the one for its fields and pixels. Assumes
-- nothing.
use Rattle.std.specs.Prelude.{Result, Ok, Err}
use mathlib.Core.Path.{◌≡◌, refl, ◌∙◌}
use mathlib.Core.Bool.{Bool, true, false, cond}
use mathlib.Core.List.{List, ◌∷◌, ◌++◌}
use Prim.Native.Nat.{ℕ, ◌+◌, ◌-◌, ◌≤◌, ◌<◌}
use native.Mathlib.Omega.{arith}
use borrow.Author.Tests.{le-ltb, eq-eqb, ltb-false, eqb-true, not-false}
use lib.Dec.{lit<}
use lib.Ieee.{binary32, of_bits}
use lib.ListN.{length, drop, length-drop}
use Rattle.big_endian.specs.BigEndian.{byte_at, half_at, word_at, half_bytes, word_bytes}
use Rattle.big_endian.proofs.Numbers.{Bytes, halves, words, half_bytes_lem, word_bytes_lem, half_back, word_back, byte-below, opened-is}
use Rattle.params.specs.declared.answers.Answer.{Answer}
use Rattle.params.specs.declared.settings.PeakFitMode.{PeakFitMode}
use Rattle.params.specs.Settings.{mode_numbered}
use Rattle.frame.specs.declared.Header.{Header}
use Rattle.frame.specs.FrameFile.{header_of, with_mode, header_read, read_of}

-- what the fields hold, as numbers
pub record Fields : Type 0 where
  pub width : ℕ
  pub height : ℕ
  pub ray : ℕ
  pub upsampling : ℕ
  pub blur : ℕ
  pub mode : ℕ
  pub suppression : ℕ
  pub least : ℕ
  pub threshold : ℕ

-- each field can hold its number
pub record InRange (f : Fields) : Type 0 where
  pub width : f.width < 65536
  pub height : f.height < 65536
  pub ray : f.ray < 256
  pub upsampling : f.upsampling < 256
  pub blur : f.blur < 256
  pub mode : f.mode < 256
  pub suppression : f.suppression < 256
  pub least : f.least < 65536
  pub threshold : f.threshold < 4294967296

-- the file: byte 0, bytes 1 to 4, and so on to byte 19, then the pixels
abbrev pub file_of : Fields → List ℕ → List ℕ
file_of f pixels =
    1
    ∷ (word_bytes (15 + length pixels)
    ++ (half_bytes f.width
    ++ (half_bytes f.height
    ++ (f.ray ∷ f.upsampling ∷ f.blur ∷ f.mode ∷ f.suppression
    ∷ (half_bytes f.least
    ++ (word_bytes f.threshold ++ pixels))))))

-- the header with these numbers, where the mode's stands for `fit`
abbrev pub header_with : Fields → PeakFitMode → Header
header_with f fit = record {
  width = f.width;
  height = f.height;
  params = record {
    ray_radius = f.ray;
    image_upsample = f.upsampling;
    response_blur_radius = f.blur;
    peak_fit = fit;
    nms_radius = f.suppression;
    min_cluster_size = f.least;
    threshold_rel = of_bits binary32 f.threshold;
  };
}

pub good_file_taken : (limit : ℕ) (f : Fields) (fit : PeakFitMode) (pixels : List ℕ)
    → mode_numbered f.mode ≡ Ok fit → 20 + length pixels ≤ limit
    → read_of limit (file_of f pixels) ≡ Ok (header_with f fit)
unfolding read_of header_read header_of
good_file_taken limit f fit pixels m h =
    let n = length (file_of f pixels) in
    let long : n ≡ 20 + length pixels = omega arith in
    rw (
      le-ltb limit n (omega arith),
      le-ltb n 20 (omega arith),
      words (15 + length pixels),
      eq-eqb (15 + length pixels) (n - 5) (omega arith),
      m,
      halves f.width,
      halves f.height,
      halves f.least,
      words f.threshold,
    )

pub good_file_pixels : (f : Fields) (pixels : List ℕ) → drop 20 (file_of f pixels) ≡ pixels
good_file_pixels f pixels = refl

-- and it is a file: every entry is a byte
pub good_file_bytes : (f : Fields) (pixels : List ℕ) → InRange f → Bytes pixels → 15 + length pixels < 4294967296
    → Bytes (file_of f pixels)
good_file_bytes f pixels r b h =
    let n = word_bytes_lem (15 + length pixels) h in
    let w = half_bytes_lem f.width r.width in
    let v = half_bytes_lem f.height r.height in
    let l = half_bytes_lem f.least r.least in
    let t = word_bytes_lem f.threshold r.threshold in (
      lit< tt,
      (
        n.0,
        (
          n.1,
          (
            n.2,
            (
              n.3,
              (
                w.0,
                (
                  w.1,
                  (
                    v.0,
                    (
                      v.1,
                      (
                        r.ray,
                        (
                          r.upsampling,
                          (
                            r.blur,
                            (
                              r.mode,
                              (r.suppression, (l.0, (l.1, (t.0, (t.1, (t.2, (t.3, b))))))),
                            ),
                          ),
                        ),
                      ),
                    ),
                  ),
                ),
              ),
            ),
          ),
        ),
      ),
    )

-- ---- every taken file is such a file

-- the numbers that stand in a file's fields
abbrev pub fields_of : List ℕ → Fields
fields_of file = record {
  width = half_at file 5;
  height = half_at file 7;
  ray = byte_at file 9;
  upsampling = byte_at file 10;
  blur = byte_at file 11;
  mode = byte_at file 12;
  suppression = byte_at file 13;
  least = half_at file 14;
  threshold = word_at file 16;
}

past : (t : Bool) (a : Answer) (b : Result Header Answer) (h : Header) → cond t (Err a) b ≡ Ok h → (t ≡ false) × (b ≡ Ok h)
past true a b h e = absurd (let z : ◌≡◌ {A = ℕ} 0 1 = cc in omega arith)
past false a b h e = (refl, e)

-- a header that was taken has the mode that its number stands for
with_mode_lem : (file : List ℕ) (m : Result PeakFitMode Answer) (h : Header) → with_mode file m ≡ Ok h
    → (m ≡ Ok h.params.peak_fit) × (h ≡ header_of file h.params.peak_fit)
unfolding header_of
with_mode_lem file (Ok fit) h e =
    let is : h ≡ header_of file fit = cc in
    rw is (refl, refl)
with_mode_lem file (Err a) h e = absurd (let z : ◌≡◌ {A = ℕ} 0 1 = cc in omega arith)

pub taken_file_is : (limit : ℕ) (file : List ℕ) (h : Header) → Bytes file → read_of limit file ≡ Ok h
    → (file ≡ file_of (fields_of file) (drop 20 file)) × (length file ≤ limit)
    × (mode_numbered (byte_at file 12) ≡ Ok h.params.peak_fit)
    × (h ≡ header_with (fields_of file) h.params.peak_fit)
unfolding read_of header_read header_of
taken_file_is limit file h b e =
    let a = past _ _ _ h e in
    let c = past _ _ _ h a.1 in
    let d = past _ _ _ h c.1 in
    let f = past _ _ _ h d.1 in
    let g = with_mode_lem file (mode_numbered (byte_at file 12)) h f.1 in
    let long : 20 ≤ length file = ltb-false _ _ c.0 in
    let one : byte_at file 0 ≡ 1 = eqb-true _ _ (not-false _ d.0) in
    let stated : word_at file 1 ≡ length file - 5 = eqb-true _ _ (not-false _ f.0) in
    let rest : 15 + length (drop 20 file) ≡ word_at file 1 = omega (arith, length-drop 20 file) in
    let p = byte-below file b in
    let s = word_back (byte_at file 1) (byte_at file 2) (byte_at file 3) (byte_at file 4) (p 2) (p 3) (p 4) in
    let w = half_back (byte_at file 5) (byte_at file 6) (p 6) in
    let v = half_back (byte_at file 7) (byte_at file 8) (p 8) in
    let l = half_back (byte_at file 14) (byte_at file 15) (p 15) in
    let t = word_back (byte_at file 16) (byte_at file 17) (byte_at file 18) (byte_at file 19) (p 17) (p 18) (p 19) in (
      opened-is 20 0 file long
          ∙ rw (rest, s.0, s.1, s.2, s.3, w.0, w.1, v.0, v.1, l.0, l.1, t.0, t.1, t.2, t.3, one),
      ltb-false _ _ a.0,
      g.0,
      g.1,
    )
