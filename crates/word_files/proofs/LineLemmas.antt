-- A line, byte by byte.
use Rattle.std.proofs.Common.{◌≡◌, ◌≢◌, ℕ, ◌<◌, ◌≤◌, ◌+◌, ◌==◌, List, [], ◌∷◌, ◌++◌, length, take, drop, set, Some, None, Bool, true, false, cond, suc, inl, inr, sym, ap, ◌∙◌, append_assoc, arith}
use Rattle.std.proofs.lemmas.Bool.Decides.{nat_tests}
use Rattle.std.proofs.lemmas.Grind.{common_steps}
use Rattle.std.proofs.lemmas.List.{append-nil, drop_all}
use Rattle.std.proofs.lemmas.Option.{slice_get_cases, get_or_from_slice_get}
use Rattle.std.proofs.Math.Numerals.{add-one}
use Rattle.std.proofs.Math.Seq.{drop-cons, take-suc-set}
use Rattle.std.specs.List.{slice_get}
use Rattle.word_files.specs.Lines.{lines_from}

-- what is left at a place: nothing, or a byte before what is left after it
pub left_none : {X : Type 0} (file : List X) (p : ℕ) → slice_get file p ≡ None → drop p file ≡ []
left_none file p e = elim (slice_get_cases file p).1 [
  | inl w ↦ absurd (let there = w.2 in cc)
  | inr w ↦ drop_all p file w.0
]

pub left_some : {X : Type 0} (file : List X) (p : ℕ) (b : X) → slice_get file p ≡ Some b → drop p file ≡ b ∷ drop (p + 1) file
left_some file p b e = elim (slice_get_cases file p).1 [
  | inl w ↦ rw add-one (drop-cons file p b w.1 ∙ ap (λ x. x ∷ drop (suc p) file) (get_or_from_slice_get file p b b e))
  | inr w ↦ absurd (let there = w.1 in cc)
]

-- a line that is begun goes on with a byte other than LF
line_goes_on : (begun bs : List ℕ) (b : ℕ) → b ≢ 10 → lines_from begun (b ∷ bs) ≡ lines_from (begun ++ b ∷ []) bs
line_goes_on begun bs b other =
    let no : (b == 10) ≡ false = grind (arith, nat_tests) in
    ap (λ t. cond t (begun ∷ lines_from [] bs) (lines_from (begun ++ b ∷ []) bs)) no

-- and at the end of the file
line_at_end : (begun : List ℕ) → 0 < length begun → lines_from begun [] ≡ begun ∷ []
line_at_end [] some = absurd (omega arith)
line_at_end (b ∷ bs) some =
    let no : (suc (length bs) == 0) ≡ false = grind (arith, nat_tests) in
    ap (λ t. cond t [] ((b ∷ bs) ∷ [])) no

-- so the first line begins with what is begun
BeginsWith : List ℕ → List (List ℕ) → Type 0
BeginsWith begun lines = (more : List ℕ) × (others : List (List ℕ)) × (lines ≡ (begun ++ more) ∷ others)

either : (t : Bool) (begun : List ℕ) (b : ℕ) (ended going : List (List ℕ)) → BeginsWith begun ended → BeginsWith (begun ++ b ∷ []) going → BeginsWith begun (cond t ended going)
unfolding BeginsWith
either true begun b ended going e g = e
either false begun b ended going e g = (b ∷ g.0, g.1, g.2 ∙ ap (λ line. line ∷ g.1) (append_assoc begun (b ∷ []) g.0))

pub begins_with : (begun bs : List ℕ) → 0 < length begun → (more : List ℕ) × (others : List (List ℕ)) × (lines_from begun bs ≡ (begun ++ more) ∷ others)
unfolding BeginsWith
begins_with begun [] some = ([], [], line_at_end begun some ∙ ap (λ line. line ∷ []) (sym (append-nil begun)))
begins_with begun (b ∷ bs) some = either (b == 10) begun b _ _ (
  [],
  lines_from [] bs,
  ap (λ line. line ∷ lines_from [] bs) (sym (append-nil begun)),
) (begins_with (begun ++ b
    ∷ []) bs (grind (arith, common_steps)))

-- a piece that takes the next byte, the LF, or the end of the file
pub goes_on : (file piece : List ℕ) (n p q b : ℕ) → slice_get file p ≡ Some b → b ≢ 10
    → n < length piece → q ≡ p + 1 → lines_from (take n piece) (drop p file) ≡ lines_from
    (take (n + 1) (set piece n b)) (drop q file)
goes_on file piece n p q b e other h at =
    ap (lines_from (take n piece)) (left_some file p b e) ∙ line_goes_on (take n piece) (drop (p + 1) file) b other
    ∙ ap (λ x. lines_from x (drop (p + 1) file)) (sym (ap (λ m. take m (set piece n b)) (add-one n) ∙ take-suc-set piece n b h))
    ∙ ap (λ r. lines_from (take (n + 1) (set piece n b)) (drop r file)) (sym at)

pub ends : (file begun : List ℕ) (p q b : ℕ) → slice_get file p ≡ Some b → b ≡ 10 → q ≡ p + 1 → lines_from begun (drop p file) ≡ begun ∷ lines_from [] (drop q file)
ends file begun p q b e is at =
    ap (lines_from begun) (left_some file p 10 (e ∙ ap Some is)) ∙ ap (λ r. begun ∷ lines_from [] (drop r file)) (sym at)

pub stops : (file begun : List ℕ) (p q : ℕ) → slice_get file p ≡ None → 0 < length begun → q ≡ p → lines_from begun (drop p file) ≡ begun ∷ lines_from [] (drop q file)
stops file begun p q e some at =
    let none = left_none file p e in
    ap (lines_from begun) none ∙ line_at_end begun some ∙ ap (λ r. begun ∷ lines_from [] r) (sym (ap (λ r. drop r file) at ∙ none))

pub some_taken : (xs : List ℕ) (n : ℕ) → 0 < n → n ≤ length xs → 0 < length (take n xs)
some_taken xs n some h = grind (arith, common_steps)
