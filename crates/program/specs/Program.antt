-- Document 01, "Frame file and printed list": the lines that the program prints for a file, and for the file alone.
use Rattle.std.specs.Prelude.{List, ℕ, ◌*◌, replicate, Float}
use Rattle.float.specs.Values.{f0}
use Rattle.lines.specs.Printed.{printed}
use Rattle.radon.specs.Finder.{Buffers, lent}
use Rattle.frame_runner.specs.FileAnswer.{file_outcome, file_buffers}

-- "10 over 2,324 bytes"
abbrev pub limit : ℕ
limit = 2324

-- a list, and work buffers for that many working pixels with zeros in them
unfoldable pub blank : ℕ → List Float → Buffers
blank pixels list =
    lent (replicate pixels 0) (replicate pixels 0) (replicate pixels 0) (replicate pixels 0) (replicate pixels 0)
    (replicate pixels f0) (replicate pixels f0) list

-- the lines for a file over buffers: those of the outcome and of the list that is left
unfoldable pub lines_over : Buffers → List ℕ → List (List ℕ)
lines_over b file = printed 3 (file_outcome limit file b) (file_buffers limit file b).list

-- "The program .. has room for 2,304 working pixels and 256 corners."
unfoldable pub lines_of : List ℕ → List (List ℕ)
lines_of file = lines_over (blank 2304 (replicate (3 * 256) f0)) file
