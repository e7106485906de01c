-- Which of the two failed: reading standard input, or writing standard output.
use Rattle.std.specs.Prelude.{⊤}
use Rattle.corners.specs.declared.Fault.{Fault}
use Rattle.corners.specs.declared.Fault.TheVariants.{Reading, Writing}

abbrev pub IsReading : Fault → Type 0
IsReading (Reading e) = ⊤
IsReading (Writing e) = ⊥
