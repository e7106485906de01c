-- What two reads gave, one after the other, stands at the front of the room.
use Rattle.std.proofs.Common.{◌≡◌, ℕ, ◌+◌, ◌≤◌, List, ◌++◌, length, take, drop, sym, ap, subst, ◌∙◌, drop_at, le_refl, length-take-le}
use Rattle.std.proofs.lemmas.Slice.{take-put_mid_below}
use Rattle.std.specs.Prelude.{Option}
use Rattle.std.specs.Io.KnownBytes.{Consumes}
use Rattle.std.proofs.KnownBytes.{Consumes-trans}
use borrow.Rule.Slice.PartMut.{put_mid, post_of}
use lib.Seq.{take-add, take-append-le}

front_more : (a k n : ℕ) (xs ys : List ℕ) → a ≤ length xs → n ≤ length ys
    → take a xs ++ take n ys ≡ take (a + n) (put_mid a k xs ys)
front_more a k n xs ys within fits =
    let zs = put_mid a k xs ys in
    let front = take-put_mid_below a k xs ys a (le_refl a) within in
    let behind = ap (take n) (drop_at (take a xs) (ys ++ post_of a k xs) a (length-take-le a xs within)) in
    let part = behind ∙ take-append-le n ys _ fits in
    sym (take-add a n zs ∙ ap (λ l. l ++ take n (drop a zs)) front ∙ ap (λ l. take a xs ++ l) part)

pub read_more : (old mid new : Option (List ℕ)) (a k n : ℕ) (xs ys : List ℕ) → a ≤ length xs → n ≤ length ys
    → Consumes old mid (take a xs) → Consumes mid new (take n ys)
    → Consumes old new (take (a + n) (put_mid a k xs ys))
read_more old mid new a k n xs ys within fits before read =
    subst (Consumes old new) (front_more a k n xs ys within fits) (Consumes-trans old mid new _ _ before read)
