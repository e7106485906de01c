-- Document 01, "View of the map": the record.
use Rattle.std.specs.Prelude.{ℕ, List, Float}
use Rattle.std.specs.Borrow.{Bor}
use Rattle.view.specs.declared.RadonResponseView.{RadonResponseView}

-- "`RadonResponseView` comes over: response and working image, width, height, all data. It is a record that refers to the two lent slices."
-- The references are the lent ones themselves.
abbrev pub view_of : Bor (List Float) → Bor (List ℕ) → ℕ → ℕ → RadonResponseView
view_of response image w h = record { «data» = response; image = image; w = w; h = h }
