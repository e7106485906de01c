-- The lines before one, and that one, are the lines before the next.
use Rattle.std.proofs.Common.{◌≡◌, ℕ, ◌+◌, ◌<◌, List, [], ◌∷◌, ◌++◌, append-nil, add-one, get_or, length, take, take-suc, sym, ap, subst, ◌∙◌}
use Rattle.std.specs.Prelude.{Option}
use Rattle.std.specs.List.{concat}
use Rattle.std.proofs.lemmas.List.Folds.{concat-append}
use Rattle.std.specs.Io.KnownBytes.{Appends}
use Rattle.std.proofs.KnownBytes.{Appends-trans}

lines_more : (xs : List (List ℕ)) (i : ℕ) → i < length xs → concat (take i xs) ++ get_or xs i [] ≡ concat (take (i + 1) xs)
lines_more xs i there =
    let line = get_or xs i [] in
    let more = ap (λ k. concat (take k xs)) (add-one i) ∙ ap concat (take-suc xs i [] there) in
    let apart = concat-append (take i xs) (line ∷ []) ∙ ap (λ l. concat (take i xs) ++ l) (append-nil line) in
    sym (more ∙ apart)

pub print_more : (old mid new : Option (List ℕ)) (xs : List (List ℕ)) (i : ℕ) → i < length xs
    → Appends old mid (concat (take i xs)) → Appends mid new (get_or xs i [])
    → Appends old new (concat (take (i + 1) xs))
print_more old mid new xs i there before line =
    subst (Appends old new) (lines_more xs i there) (Appends-trans old mid new _ _ before line)
