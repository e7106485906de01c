-- Buffers that stay those that were lent, over calls one after the other. Assumes nothing.
use Rattle.std.proofs.Common.{refl, ◌∙◌}
use Rattle.response.specs.declared.WorkBuffers.{WorkBuffers}
use Rattle.response.specs.Work.{SameWork}

pub same_none : (b : WorkBuffers) → SameWork b b
same_none b = record {
  working = refl;
  row = refl;
  col = refl;
  falling = refl;
  rising = refl;
  response = refl;
  scratch = refl;
}

pub same_more : {a b c : WorkBuffers} → SameWork a b → SameWork b c → SameWork a c
same_more s t = record {
  working = t.working ∙ s.working;
  row = t.row ∙ s.row;
  col = t.col ∙ s.col;
  falling = t.falling ∙ s.falling;
  rising = t.rising ∙ s.rising;
  response = t.response ∙ s.response;
  scratch = t.scratch ∙ s.scratch;
}
