-- The seven lent buffers as the struct `WorkBuffers` has them.
use Rattle.std.specs.Prelude.{◌≡◌}
use Rattle.response.specs.Map.{Buffers, map_lent}
use Rattle.response.specs.declared.WorkBuffers.{WorkBuffers}

-- what they hold
abbrev pub map_now : WorkBuffers → Buffers
map_now b = map_lent b.working.now b.row.now b.col.now b.falling.now b.rising.now b.response.now b.scratch.now

-- each is still the one that was lent
pub record SameWork (a b : WorkBuffers) : Type 0 where
  pub working : b.working.ghost_name ≡ a.working.ghost_name
  pub row : b.row.ghost_name ≡ a.row.ghost_name
  pub col : b.col.ghost_name ≡ a.col.ghost_name
  pub falling : b.falling.ghost_name ≡ a.falling.ghost_name
  pub rising : b.rising.ghost_name ≡ a.rising.ghost_name
  pub response : b.response.ghost_name ≡ a.response.ghost_name
  pub scratch : b.scratch.ghost_name ≡ a.scratch.ghost_name
