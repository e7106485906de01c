-- Demand 3, the list's room: a shorter list holds the opening corners of a longer one, with the same total; entries beyond stay. Assumes nothing.
use mathlib.Core.Path.{◌≡◌, refl}
use mathlib.Core.Bool.{Bool, true, false, cond}
use Prim.Native.Nat.{ℕ, ◌*◌, ◌/◌, ◌≤◌, min}
use mathlib.Core.List.{List}
use lib.ListN.{length, take, drop}
use lib.Dec.{eqb, lit<}
use lib.Ieee.{Float}
use Rattle.grid.proofs.Over.{shorter, past}
use Rattle.params.specs.declared.settings.RadonDetectorParams.{RadonDetectorParams}
use Rattle.params.specs.declared.answers.Outcome.{Outcome}
use Rattle.params.specs.Answers.{number_of, refused}
use Rattle.grid.specs.Ways.{pixel, value}
use Rattle.detect.specs.Corners.{verdicts_of, numbers, stride}
use Rattle.detect.specs.Detected.{refusal_for, found_in, full_or, peaks_outcome, list_of}
use Rattle.detect.proofs.Scanning.{numbers-long}
use Rattle.detect.proofs.HigherSettings.{accepted_list}

module _ (s : RadonDetectorParams) (w h : ℕ) (resp : List Float) (image : List ℕ) where
  -- how many entries of a list of this length are written
  abbrev pub written_length : ℕ → ℕ
  written_length len = stride * min (length (found_in s w h resp image)) (len / stride)

  abbrev done : ℕ → Outcome
  done len = record {
    answer = full_or (length (found_in s w h resp image)) (len / stride);
    count = length (found_in s w h resp image);
    w = w;
    h = h;
    verdicts = verdicts_of s w h (value resp w) (pixel image w);
  }

  -- the total does not depend on the room, and no count by verdict does
  pub same_total : (a b : ℕ) → ((peaks_outcome s w h resp image a).count ≡ (peaks_outcome s w h resp image b).count)
      × ((peaks_outcome s w h resp image a).verdicts ≡ (peaks_outcome s w h resp image b).verdicts)
  unfolding peaks_outcome
  same_total a b = go (eqb (number_of (refusal_for s w h resp image)) 0)
    where
      or_refused : Bool → ℕ → Outcome
      or_refused t n = cond t (done n) (refused (refusal_for s w h resp image))

      go : (t : Bool) → ((or_refused t a).count ≡ (or_refused t b).count) × ((or_refused t a).verdicts ≡ (or_refused t b).verdicts)
      go true = (refl, refl)
      go false = (refl, refl)

  module _ (short : List Float) (accepted : number_of (refusal_for s w h resp image) ≡ 0) where
    pub shorter_list : (long : List Float) → length short ≤ length long
        → take (written_length (length short)) (list_of s w h resp image short) ≡ take (written_length (length short)) (list_of s w h resp image long)
    shorter_list long l =
        rw (accepted_list s w h resp image short accepted, accepted_list s w h resp image long accepted)
        (shorter stride (numbers s (value resp w)) (numbers-long s (value resp w)) (found_in s w h resp image) short long (lit< tt) l)

    pub beyond : drop (written_length (length short)) (list_of s w h resp image short) ≡ drop (written_length (length short)) short
    beyond =
        rw (accepted_list s w h resp image short accepted)
        (past stride (numbers s (value resp w)) (numbers-long s (value resp w)) (found_in s w h resp image) short)
