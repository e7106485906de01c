-- Frames run through the Rust's text as it stands in specs/, from empty buffers: document 01's, and records 322 and 190
-- of crates/replay_program/stdin,
-- with the numbers that the compiled Rust gave. Assumes nothing.
use mathlib.Core.Path.{◌≡◌, refl}
use mathlib.Core.List.{List, [], ◌∷◌}
use Prim.Native.Nat.{ℕ}
use lib.Ieee.{Float, binary32, of_bits, to_bits, of_int, to_signed, to_unsigned, is_nan, add, sub, mul, div, lt, le, eq}
use Rattle.grid.specs.Each.{each, keep}
use Rattle.grid.specs.Rect.{range, from}
use Rattle.scalar.specs.Root.{root_bits}
use Rattle.params.specs.declared.settings.RadonDetectorParams.{RadonDetectorParams}
use Rattle.radon.proofs.TableRun.{parabolic, fraction, framed}
use Rattle.as_rust.specs.Machine.{sat, floor, rounded, clamp, max_f32, abs, i64, i32, usize, u32, less}
use Rattle.as_rust.specs.Machine.{put, copy_from_slice, resize, times, for-signed, chunks}
use Rattle.as_rust.specs.Primitives.{peak_frac, fit_peak_frac, horiz_px, horiz_kernel, vert_kernel, box_blur_inplace}
use Rattle.as_rust.specs.Response.{s_h, s_v, s_d1, s_d2, new, ensure_capacity, out_px, row_kernel, upsample_bilinear_2x, sat-row, sat-col}
use Rattle.as_rust.specs.Response.{sat-diag_pos, sat-diag_neg, radon_response_at, compute_response_row, compute_response, radon_response_u8}
use Rattle.as_rust.specs.Neighbors.{is_local_max, count_positive_neighbors}
use Rattle.as_rust.specs.Detect.{relative_floor, offsets, new as new-saddle, accepts}
use Rattle.as_rust.specs.Detect.{process_pixel, greatest, rust_border, detect_peaks_from_radon}
use Rattle.as_rust.specs.Runs.{found_by}
use Rattle.as_rust.proofs.Crown.{ours}

abbrev corner : ℕ → ℕ → ℕ → List Float
corner x y strength = of_bits binary32 x ∷ of_bits binary32 y ∷ of_bits binary32 strength ∷ []

-- the Rust's two functions, one after the other
abbrev ran : List ℕ → ℕ → ℕ → RadonDetectorParams → List (List Float)
ran img w h p = found_by ours p (radon_response_u8 ours img w h p new)

-- document 01's frame
abbrev document_frame : List ℕ
document_frame = 200 ∷ 200 ∷ 200 ∷ 100 ∷ 0 ∷ 0 ∷ 0
    ∷ 200 ∷ 200 ∷ 200 ∷ 100 ∷ 0 ∷ 0 ∷ 0
    ∷ 200 ∷ 200 ∷ 200 ∷ 100 ∷ 0 ∷ 0 ∷ 0
    ∷ 100 ∷ 100 ∷ 100 ∷ 100 ∷ 100 ∷ 100 ∷ 100
    ∷ 0 ∷ 0 ∷ 0 ∷ 100 ∷ 200 ∷ 200 ∷ 200
    ∷ 0 ∷ 0 ∷ 0 ∷ 100 ∷ 200 ∷ 200 ∷ 200
    ∷ 0 ∷ 0 ∷ 0 ∷ 100 ∷ 200 ∷ 200 ∷ 200 ∷ []

abbrev document_settings : RadonDetectorParams
document_settings = framed

-- 5 by 3 at factor 2, blur radius 2, no suppression: six corners
abbrev small_frame : List ℕ
small_frame = 60 ∷ 66 ∷ 60 ∷ 53 ∷ 53
    ∷ 45 ∷ 59 ∷ 66 ∷ 49 ∷ 43
    ∷ 38 ∷ 43 ∷ 45 ∷ 47 ∷ 24 ∷ []

abbrev small_settings : RadonDetectorParams
small_settings = parabolic 1 2 2 0x3dcc_cccd 0 0

-- 14 by 11, ray radius 2: four corners with offsets
abbrev plain_frame : List ℕ
plain_frame = 153 ∷ 153 ∷ 153 ∷ 153 ∷ 153 ∷ 153 ∷ 153 ∷ 42 ∷ 42 ∷ 42 ∷ 153 ∷ 153 ∷ 153 ∷ 153
    ∷ 42 ∷ 42 ∷ 42 ∷ 42 ∷ 42 ∷ 42 ∷ 42 ∷ 42 ∷ 42 ∷ 42 ∷ 42 ∷ 42 ∷ 42 ∷ 42
    ∷ 42 ∷ 42 ∷ 42 ∷ 42 ∷ 42 ∷ 42 ∷ 42 ∷ 42 ∷ 42 ∷ 42 ∷ 42 ∷ 42 ∷ 42 ∷ 42
    ∷ 42 ∷ 42 ∷ 42 ∷ 42 ∷ 42 ∷ 42 ∷ 42 ∷ 42 ∷ 42 ∷ 42 ∷ 42 ∷ 42 ∷ 42 ∷ 42
    ∷ 153 ∷ 153 ∷ 153 ∷ 42 ∷ 42 ∷ 42 ∷ 153 ∷ 153 ∷ 153 ∷ 153 ∷ 153 ∷ 153 ∷ 153 ∷ 153
    ∷ 42 ∷ 42 ∷ 42 ∷ 42 ∷ 42 ∷ 42 ∷ 42 ∷ 42 ∷ 42 ∷ 42 ∷ 42 ∷ 42 ∷ 42 ∷ 42
    ∷ 153 ∷ 42 ∷ 42 ∷ 42 ∷ 153 ∷ 153 ∷ 153 ∷ 153 ∷ 153 ∷ 153 ∷ 153 ∷ 153 ∷ 153 ∷ 153
    ∷ 42 ∷ 42 ∷ 42 ∷ 153 ∷ 153 ∷ 153 ∷ 153 ∷ 153 ∷ 153 ∷ 153 ∷ 153 ∷ 153 ∷ 153 ∷ 153
    ∷ 42 ∷ 42 ∷ 153 ∷ 153 ∷ 153 ∷ 153 ∷ 153 ∷ 153 ∷ 153 ∷ 153 ∷ 153 ∷ 153 ∷ 153 ∷ 153
    ∷ 42 ∷ 153 ∷ 153 ∷ 153 ∷ 153 ∷ 153 ∷ 153 ∷ 153 ∷ 153 ∷ 153 ∷ 153 ∷ 153 ∷ 153 ∷ 153
    ∷ 153 ∷ 153 ∷ 153 ∷ 153 ∷ 153 ∷ 153 ∷ 153 ∷ 153 ∷ 153 ∷ 153 ∷ 153 ∷ 153 ∷ 153 ∷ 153 ∷ []

abbrev plain_settings : RadonDetectorParams
plain_settings = parabolic 2 1 0 fraction 2 1

-- what the compiled Rust prints for them
pub record Runs : Type 0 where
  pub document : ran document_frame 7 7 document_settings
      ≡ corner 0x4040_0000 0x4040_0000 0x481c_4000 ∷ []
  pub small : ran small_frame 5 3 small_settings
      ≡ corner 0x4030_0000 0x3fa0_0000 0x42af_eb85 ∷
      corner 0x4060_0000 0x3fa0_0000 0x4293_3333 ∷
      corner 0x3f80_0000 0x3fa0_0000 0x4251_1eb8 ∷
      corner 0x3fe0_0000 0x3fa0_0000 0x429c_3d71 ∷
      corner 0x4027_6093 0x3fc0_0000 0x42b7_1eb8 ∷
      corner 0x4060_0000 0x3fc0_0000 0x4293_3333 ∷ []
  pub plain : ran plain_frame 14 11 plain_settings
      ≡ corner 0x40b0_0000 0x409c_4ec5 0x47d8_9480 ∷
      corner 0x40c0_0000 0x40a3_b13b 0x47d8_9480 ∷
      corner 0x40e0_0000 0x40a0_0000 0x47d8_9480 ∷
      corner 0x4100_0000 0x4090_0000 0x47d8_9480 ∷ []

pub runs : Runs
unfolding ours times for-signed chunks put copy_from_slice resize floor rounded clamp max_f32 abs sat i64 i32 usize u32 less peak_frac
    fit_peak_frac horiz_px horiz_kernel vert_kernel box_blur_inplace ensure_capacity out_px row_kernel upsample_bilinear_2x sat-row
    sat-col sat-diag_pos sat-diag_neg s_h s_v s_d1 s_d2 radon_response_at compute_response_row compute_response radon_response_u8
    is_local_max count_positive_neighbors relative_floor offsets new-saddle accepts process_pixel greatest rust_border
    detect_peaks_from_radon each keep range from root_bits of_bits to_bits of_int to_signed to_unsigned is_nan add sub mul div lt le eq
runs = record { document = refl; small = refl; plain = refl }
