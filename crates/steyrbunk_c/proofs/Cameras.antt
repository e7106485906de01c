-- The loop that tells one camera after the other. Assumes nothing.
use Rattle.std.proofs.Common.{◌≡◌, refl, sym, ap, ◌∙◌, ℕ, ◌+◌, ◌*◌, ◌-◌, ◌≤◌, ◌<◌, List, [], ◌∷◌, ◌++◌, length, take, drop, append_assoc, append-nil, get_or, add-one, arith}
use Rattle.std.proofs.Math.Seq.{take-suc, take-append_seam, drop-append_seam, drop-drop, length-take-le}
use Rattle.std.proofs.lemmas.List.{take_all, drop_all}
use Rattle.grid.specs.Each.{each}
use Rattle.grid.proofs.Each.{each_none, each_more, length-each}
use Rattle.params.specs.declared.answers.Outcome.{Outcome}
use Rattle.steyrbunk_c.specs.Called.{camera_numbers}

ten : (o : Outcome) → length (camera_numbers o) ≡ 10
ten o = refl

-- the first i are told
pub record Telling (cameras : List Outcome) (old out : List ℕ) (i : ℕ) : Type 0 where
  pub many : length cameras ≡ 8
  pub most : i ≤ 8
  pub fill : out ≡ each camera_numbers (take i cameras) ++ drop (10 * i) old

module _ (cameras : List Outcome) (old : List ℕ) where
  pub telling_none : length cameras ≡ 8 → Telling cameras old old 0
  telling_none many = record { many = many; most = omega arith; fill = rw each_none }

  module _ {out : List ℕ} {i : ℕ} (t : Telling cameras old out i) where
    abbrev before : List ℕ
    before = each camera_numbers (take i cameras)

    at : length before ≡ 10 * i
    at = length-each 10 camera_numbers ten (take i cameras) ∙ ap (λ (k : ℕ). 10 * k) (length-take-le i cameras (omega (arith, t.many, t.most)))

    -- camera i's ten numbers are copied there: `told[a..a + 10]`
    pub telling_more : (d : Outcome) {nums : List ℕ} → nums ≡ camera_numbers (get_or cameras i d) → i < 8
        → Telling cameras old (take (10 * i) out ++ (nums ++ drop (10 * i + 10 - 10 * i) (drop (10 * i) out))) (i + 1)
    telling_more d {nums} e l =
        let o = get_or cameras i d in
        let more = drop (10 * i) old in
        let front : take (10 * i) out ≡ before =
        rw t.fill (ap (λ (n : ℕ). take n (before ++ more)) (sym at) ∙ take-append_seam before more) in
        let behind : drop (10 * i) out ≡ more =
        rw t.fill (ap (λ (n : ℕ). drop n (before ++ more)) (sym at) ∙ drop-append_seam before more) in
        let part : 10 * i + 10 - 10 * i ≡ 10 = omega arith in
        let end : 10 * i + 10 ≡ 10 * (i + 1) = omega arith in
        let rest : drop 10 more ≡ drop (10 * (i + 1)) old = drop-drop 10 (10 * i) old ∙ ap (λ (n : ℕ). drop n old) end in
        let next : take (i + 1) cameras ≡ take i cameras ++ (o ∷ []) = rw add-one (take-suc cameras i d (omega (arith, t.many))) in
        record {
          many = t.many;
          most = omega arith;
          fill = (λ k. front k ++ (e k ++ drop (part k) (behind k)))
              ∙ ap (λ (m : List ℕ). before ++ (camera_numbers o ++ m)) rest
              ∙ sym (append_assoc before (camera_numbers o) (drop (10 * (i + 1)) old))
              ∙ ap (λ (m : List ℕ). m ++ drop (10 * (i + 1)) old)
              (sym (ap (each camera_numbers) next ∙ each_more camera_numbers (take i cameras) o));
        }

    pub telling_all : 8 ≤ i → length old ≡ 80 → out ≡ each camera_numbers cameras
    telling_all done long =
        let all : take i cameras ≡ cameras = take_all i cameras (omega (arith, t.many)) in
        let none : drop (10 * i) old ≡ [] = drop_all (10 * i) old (omega arith) in
        t.fill ∙ (λ k. each camera_numbers (all k) ++ none k) ∙ append-nil (each camera_numbers cameras)
