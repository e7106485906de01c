-- Document 01, "Frame file and printed list": which frame files are taken, what their bytes mean, and which answer all
-- others get.
use Rattle.std.specs.Prelude.{◌≡◌, not, cond, List, ℕ, ◌+◌, ◌-◌, min, ltb, eqb, length, drop, Result, Ok, Err}
use Rattle.std.specs.Float.{binary32}
use Rattle.std.specs.Float.Ieee.{of_bits}
use Rattle.std.specs.Borrow.{Bor}
use Rattle.big_endian.specs.BigEndian.{byte_at, half_at, word_at}
use Rattle.params.specs.declared.answers.Answer.{Answer}
use Rattle.params.specs.declared.answers.Answer.TheVariants.{FileTooLong, FileTooShort, Version, StatedLength}
use Rattle.params.specs.declared.settings.PeakFitMode.{PeakFitMode}
use Rattle.params.specs.Settings.{mode_numbered}
use Rattle.frame.specs.declared.Header.{Header}

-- "Big-endian. Byte 0: version 1. Bytes 1 to 4: number of bytes that follow them. Then width, height (2 each), ray,
-- upsampling, blur, mode, suppression (1 each), least count (2), threshold bits (4), pixels"
unfoldable pub header_of : List ℕ → PeakFitMode → Header
header_of file mode = record {
  width = half_at file 5;
  height = half_at file 7;
  params = record {
    ray_radius = byte_at file 9;
    image_upsample = byte_at file 10;
    response_blur_radius = byte_at file 11;
    peak_fit = mode;
    nms_radius = byte_at file 13;
    min_cluster_size = half_at file 14;
    threshold_rel = of_bits binary32 (word_at file 16);
  };
}

-- a file with a mode of that number
abbrev pub with_mode : List ℕ → Result PeakFitMode Answer → Result Header Answer
with_mode file (Ok mode) = Ok (header_of file mode)
with_mode file (Err answer) = Err answer

-- "12 version not 1; 13 stated length wrong; 14 mode above 1": the fields of a file that has them all
unfoldable pub header_read : List ℕ → Result Header Answer
header_read file =
    cond (not (eqb (byte_at file 0) 1)) (Err Version)
    (cond (not (eqb (word_at file 1) (length file - 5))) (Err StatedLength)
    (with_mode file (mode_numbered (byte_at file 12))))

-- "Before the table above come, lowest first: 10 over 2,324 bytes; 11 under 20 bytes", where 2,324 is `limit`
unfoldable pub read_of : ℕ → List ℕ → Result Header Answer
read_of limit file =
    cond (ltb limit (length file)) (Err FileTooLong)
    (cond (ltb (length file) 20) (Err FileTooShort)
    (header_read file))

-- "The pixel part of a file is read where it stands": r is what follows the 20 bytes of the fields, and it is that part
-- of the file itself, from byte 20 on. A shorter file has no pixels: r is the empty part at its end.
pub record Pixels (file r : Bor (List ℕ)) : Type 0 where
  pub values : r.now ≡ drop 20 file.now
  pub itself : r.ref_ptr ≡ (file.ref_ptr.0, min 20 (length file.now) + file.ref_ptr.1)
