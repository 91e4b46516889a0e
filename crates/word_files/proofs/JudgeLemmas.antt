-- What a line that is taken says of the file's lines.
use Rattle.std.proofs.Common.{◌≡◌, ℕ, ◌<◌, ◌+◌, ◌&&◌, List, [], ◌∷◌, ◌++◌, length, take, drop, Some, None, Bool, true, false, cond, nat_lt, nat_le, inl, inr, refl, sym, ap, ◌∙◌, arith}
use Rattle.std.proofs.lemmas.Bool.Decides.{nat_tests}
use Rattle.std.proofs.lemmas.Grind.{common_steps}
use Rattle.std.proofs.lemmas.Option.{slice_get_cases}
use Rattle.std.specs.List.{slice_get, list_all}
use Rattle.grammar.specs.Bytes.{is_hex, hexadecimal}
use Rattle.word_files.specs.Hex.{word_of}
use Rattle.word_files.specs.Lines.{lines_from, IsLineTaken}
use Rattle.word_files.proofs.LineLemmas.{left_none, left_some}

-- the item at a place, from what is left there
pub no_item : {X : Type 0} (xs : List X) (k : ℕ) → drop k xs ≡ [] → slice_get xs k ≡ None
no_item xs k e = elim (slice_get_cases xs k).1 [
  | inl w ↦ absurd (let there = left_some xs k w.0 w.2 in cc)
  | inr w ↦ w.1
]

pub item : {X : Type 0} (xs : List X) (k : ℕ) (x : X) (rest : List X) → drop k xs ≡ x ∷ rest → slice_get xs k ≡ Some x
item xs k x rest e = elim (slice_get_cases xs k).1 [
  | inl w ↦ (let there = left_some xs k w.0 w.2 in let is = w.2 in let same : w.0 ≡ x = cc in is ∙ ap Some same)
  | inr w ↦ absurd (let there = left_none xs k w.1 in cc)
]

pub items_after : {X : Type 0} (xs : List X) (k : ℕ) (x : X) (rest : List X) → drop k xs ≡ x ∷ rest → drop (k + 1) xs ≡ rest
items_after xs k x rest e = elim (slice_get_cases xs k).1 [
  | inl w ↦ (let there = left_some xs k w.0 w.2 in cc)
  | inr w ↦ absurd (let there = left_none xs k w.1 in cc)
]

and_false : {X : Type 0} (b : Bool) (x y : X) → cond (b && false) x y ≡ y
and_false true x y = refl
and_false false x y = refl

-- more than 32 bytes are no word
too_long : (bytes : List ℕ) → 32 < length bytes → word_of bytes ≡ None
too_long bytes h =
    let no : nat_le (length bytes) 32 ≡ false = grind (arith, nat_tests) in
    ap (λ t. cond (nat_lt 0 (length bytes) && (t && list_all is_hex bytes)) (Some (hexadecimal bytes)) None) no ∙ and_false (nat_lt 0 (length bytes)) _ _

-- the line says what its bytes that are taken say
pub taken_line : (file piece : List ℕ) (lines : List (List ℕ)) (k p q n : ℕ) → length piece ≡ 33 → drop k lines ≡ lines_from [] (drop p file) → IsLineTaken file p q piece (Some n)
    → (line : List ℕ) × (slice_get lines k ≡ Some line) × (word_of line ≡ word_of (take n piece))
taken_line file piece lines k p q n size left (inl taken) = (take n piece, item lines k _ _ (left ∙ taken), refl)
taken_line file piece lines k p q n size left (inr taken) = (
  take n piece ++ taken.1.0,
  item lines k _ _ (left ∙ taken.1.2),
  too_long (take n piece ++ taken.1.0) (grind (
    arith,
    common_steps,
    taken.0,
  )) ∙ sym (too_long (take n piece) (grind (arith, common_steps, taken.0))),
)

-- and where they are a word, the next line is ahead
pub taken_next : (file piece : List ℕ) (lines : List (List ℕ)) (k p q n v : ℕ)
    → length piece ≡ 33 → drop k lines ≡ lines_from [] (drop p file)
    → IsLineTaken file p q piece (Some n) → word_of (take n piece) ≡ Some v
    → drop (k + 1) lines ≡ lines_from [] (drop q file)
taken_next file piece lines k p q n v size left (inl taken) is = items_after lines k _ _ (left ∙ taken)
taken_next file piece lines k p q n v size left (inr taken) is =
    absurd (let none = too_long (take n piece) (grind (arith, common_steps, taken.0)) in cc)
