-- The oldest of a list are what is left of the reversed list.
use Rattle.std.proofs.Common.{
  ◌≡◌,
  ℕ,
  ◌-◌,
  List,
  ◌++◌,
  length,
  take,
  drop,
  ap,
  sym,
  ◌∙◌,
  length-drop,
  slice_set,
  [],
  ◌∷◌,
}
use Rattle.std.specs.Prelude.{reverse}
use Rattle.std.proofs.lemmas.List.{reverse-append, reverse-reverse, length-reverse, take-append-drop}
use Rattle.std.proofs.Common.{append_assoc}
use Rattle.std.proofs.Math.Seq.{drop-append_seam, set-append_seam}

pub reverse-take : {X : Type 0} → (n : ℕ) (l : List X) → reverse (take n l)
    ≡ drop (length l - n) (reverse l)
reverse-take n l =
    let whole : reverse l ≡ reverse (drop n l) ++ reverse (take n l) =
    ap reverse (sym (take-append-drop n l)) ∙ reverse-append (take n l) (drop n l) in
    let long : length (reverse (drop n l)) ≡ length l - n =
    length-reverse (drop n l) ∙ length-drop n l in
    rw (whole, ← long) (sym (drop-append_seam (reverse (drop n l)) (reverse (take n l))))

-- what is put at a place, counted from the oldest
pub reverse-set : {X : Type 0} → (items newer older : List X) (before item : X) (place : ℕ)
    → reverse items ≡ newer ++ before ∷ older → length older ≡ place
    → reverse (slice_set items place item) ≡ newer ++ item ∷ older
reverse-set items newer older before item place e at =
    let ahead : items ≡ reverse older ++ before ∷ reverse newer =
    sym (reverse-reverse items) ∙ ap reverse e ∙ reverse-append newer (before ∷ older)
    ∙ ap (λ l. l ++ reverse newer) (reverse-append (before ∷ []) older)
    ∙ append_assoc (reverse older) (before ∷ []) (reverse newer) in
    let long : length (reverse older) ≡ place = length-reverse older ∙ at in
    rw (ahead, ← long) (ap reverse (set-append_seam (reverse older) before (reverse newer) item)
    ∙ reverse-append (reverse older) (item ∷ reverse newer)
    ∙ ap (λ l. l ++ reverse (reverse older)) (reverse-append (item ∷ []) (reverse newer)
    ∙ ap (λ l. l ++ item ∷ []) (reverse-reverse newer))
    ∙ append_assoc newer (item ∷ []) (reverse (reverse older))
    ∙ ap (λ l. newer ++ item ∷ l) (reverse-reverse older))
