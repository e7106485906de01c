-- The four lent tables as the struct `Tables` has them.
use Rattle.std.specs.Prelude.{◌≡◌}
use Rattle.cumsums.specs.Lent.{Lent, tables}
use Rattle.cumsums.specs.declared.Tables.{Tables}

-- what they hold
abbrev pub tables_now : Tables → Lent
tables_now b = tables b.row.now b.col.now b.falling.now b.rising.now

-- each is still the one that was lent
pub record SameTables (a b : Tables) : Type 0 where
  pub row : b.row.ghost_name ≡ a.row.ghost_name
  pub col : b.col.ghost_name ≡ a.col.ghost_name
  pub falling : b.falling.ghost_name ≡ a.falling.ghost_name
  pub rising : b.rising.ghost_name ≡ a.rising.ghost_name
