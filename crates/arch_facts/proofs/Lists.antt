-- What demand 3 says of a list holds of any outcome and list that are those of a call of the finder: a camera's outcome and share are. Corners and map
-- are those of the call of the finder. Assumes nothing.
use mathlib.Core.Path.{◌≡◌}
use mathlib.Core.List.{List}
use Prim.Native.Nat.{ℕ}
use lib.Ieee.{Float}
use Rattle.params.specs.declared.answers.Outcome.{Outcome}
use Rattle.params.specs.declared.settings.RadonDetectorParams.{RadonDetectorParams}
use Rattle.detect.proofs.HigherSettings.{raised}
use Rattle.radon.specs.Finder.{Buffers, outcome_of}
use Rattle.radon.proofs.Left.{list_left}
use Rattle.radon.proofs.Lists.{ListFiltered, Filtered, ListOpens, Opens}

-- an outcome and a list that are those of the finder's call over b
pub record Finds (img : List ℕ) (w h : ℕ) (p : RadonDetectorParams) (b : Buffers) (o : Outcome) (list : List Float) : Type 0 where
  pub told : o ≡ outcome_of img w h p b
  pub left : list ≡ list_left img w h p b

module _ {img : List ℕ} {w h : ℕ} {p : RadonDetectorParams} {b c : Buffers} {o q : Outcome} {l k : List Float} where
  pub filtered : {t : Float} {m : ℕ} → Finds img w h p b o l → Finds img w h (raised p t m) c q k → Filtered img w h p t m b c
      → ListFiltered img w h p t m b c o q l k
  filtered f g F = rw (f.told, f.left, g.told, g.left) F

  pub opens : Finds img w h p b o l → Finds img w h p c q k → Opens img w h p b c → ListOpens img w h p b c o q l k
  opens f g F = rw (f.told, f.left, g.told, g.left) F
