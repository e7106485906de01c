-- The work buffers of two calls: what they write alike and leave beyond, one call after the other; and buffers that are as long as others. Assumes
-- nothing.
use mathlib.Core.Path.{◌≡◌, refl}
use mathlib.Core.List.{List}
use Prim.Native.Nat.{ℕ, zero, suc, max}
use native.Mathlib.Omega.{arith}
use lib.Ieee.{Float}
use lib.ListN.{length}
use Rattle.response.specs.Map.{Buffers as MapBuffers, room_of}
use Rattle.response.proofs.MapFacts.{SameWritten}
use Rattle.response.proofs.Beyond.{Stays}
use Rattle.radon.specs.Finder.{Buffers}
use Rattle.arch.proofs.Cameras.{SameLengths}
use Rattle.arch_facts.proofs.Parts.{Wrote, wrote_none, wrote_then}

-- ---- the seven work buffers: the first n entries, and the first s of the scratch

pub record Writes (n s : ℕ) (b c p q : MapBuffers) : Type 0 where
  pub working : Wrote n b.working c.working p.working q.working
  pub row : Wrote n b.row c.row p.row q.row
  pub col : Wrote n b.col c.col p.col q.col
  pub falling : Wrote n b.falling c.falling p.falling q.falling
  pub rising : Wrote n b.rising c.rising p.rising q.rising
  pub response : Wrote n b.response c.response p.response q.response
  pub scratch : Wrote s b.scratch c.scratch p.scratch q.scratch

pub writes_none : {b c : MapBuffers} → Writes 0 0 b c b c
writes_none = record {
  working = wrote_none 0 refl;
  row = wrote_none 0 refl;
  col = wrote_none 0 refl;
  falling = wrote_none 0 refl;
  rising = wrote_none 0 refl;
  response = wrote_none 0 refl;
  scratch = wrote_none 0 refl;
}

pub writes_then : (m s n t : ℕ) {b c d e p q : MapBuffers} → Writes m s b c d e → Writes n t d e p q → Writes (max m n) (max s t) b c p q
writes_then m s n t f g = record {
  working = wrote_then m n f.working g.working;
  row = wrote_then m n f.row g.row;
  col = wrote_then m n f.col g.col;
  falling = wrote_then m n f.falling g.falling;
  rising = wrote_then m n f.rising g.rising;
  response = wrote_then m n f.response g.response;
  scratch = wrote_then s t f.scratch g.scratch;
}

-- of n pixels, those that stand in the scratch: none without a blur
abbrev pub in_scratch : ℕ → ℕ → ℕ
in_scratch zero n = 0
in_scratch (suc r) n = n

pub none_in_scratch : (r : ℕ) → in_scratch r 0 ≡ 0
none_in_scratch zero = refl
none_in_scratch (suc r) = refl

module _ (n : ℕ) {b c p q : MapBuffers} where
  scratch_by : (blur : ℕ) → SameWritten n blur p q → Stays n blur b p → Stays n blur c q
      → Wrote (in_scratch blur n) b.scratch c.scratch p.scratch q.scratch
  scratch_by zero e u v = record { same = refl; stays = u.unused refl; stays_too = v.unused refl }
  scratch_by (suc r) e u v = record { same = e.scratch (omega arith); stays = u.scratch; stays_too = v.scratch }

  -- as the map's own theorems have it
  pub writes_by : (blur : ℕ) → SameWritten n blur p q → Stays n blur b p → Stays n blur c q → Writes n (in_scratch blur n) b c p q
  writes_by blur e u v = record {
    working = record { same = e.working; stays = u.working; stays_too = v.working };
    row = record { same = e.row; stays = u.row; stays_too = v.row };
    col = record { same = e.col; stays = u.col; stays_too = v.col };
    falling = record { same = e.falling; stays = u.falling; stays_too = v.falling };
    rising = record { same = e.rising; stays = u.rising; stays_too = v.rising };
    response = record { same = e.response; stays = u.response; stays_too = v.response };
    scratch = scratch_by blur e u v;
  }

-- ---- lengths

-- with other lists
pub with_lists : {b c : Buffers} → SameLengths b c → (x y : List Float) → length y ≡ length x
    → SameLengths (record { map = b.map; list = x }) (record { map = c.map; list = y })
with_lists s x y e = record {
  working = s.working;
  row = s.row;
  col = s.col;
  falling = s.falling;
  rising = s.rising;
  response = s.response;
  scratch = s.scratch;
  list = e;
}

pub rooms_same : {b c : Buffers} → SameLengths b c → room_of b.map ≡ room_of c.map
rooms_same s = cc

-- b and c are as long, and d and e as those
pub lengths_over : {b c d e : Buffers} → SameLengths b c → SameLengths b d → SameLengths c e → SameLengths d e
lengths_over s u v = record {
  working = cc;
  row = cc;
  col = cc;
  falling = cc;
  rising = cc;
  response = cc;
  scratch = cc;
  list = cc;
}
