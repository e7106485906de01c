-- `detect::peaks::store` meets its contract: a part that is written over is its entries set. Assumes nothing.
use Rattle.std.proofs.Common.{◌+◌, ◌-◌, ◌*◌, ◌∙◌, ◌∷◌, [], sym, refl, arith}
use Rattle.std.proofs.lemmas.Slice.{put_mid-paste}
use Rattle.std.proofs.lemmas.List.Edits.{sets-eq}
use Rattle.detect.specs.Corners.{stride}
use Rattle.detect.proofs.peaks.store.Goals as goal

pub returns : goal.returns
returns c =
    let o = c.args in
    let new = o.x.0 ∷ o.y.0 ∷ o.strength ∷ [] in
    let i = stride * o.n in
    put_mid-paste i (i + 3 - i) o.list.now _ new 3 c.copy_from_slice.ensures.after (omega arith) refl
    ∙ sym (sets-eq new o.list.now i (omega (arith, c.requires)))
