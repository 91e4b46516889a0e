-- What the lines of a file say, line by line.
use Rattle.std.proofs.Common.{◌≡◌, ℕ, zero, suc, ◌+◌, ◌-◌, ◌^◌, ◌<◌, ◌≤◌, List, [], ◌∷◌, ◌++◌}
use Rattle.std.proofs.Common.{length, map, take, drop, Option, Some, None, option_map, Err, refl}
use Rattle.std.proofs.Common.{sym, ap, ◌∙◌, subst, append_assoc, arith}
use Rattle.std.specs.Prelude.{All, slice_get}
use Rattle.std.proofs.lemmas.List.{append-nil, length-map, length_push, map_push, take_all}
use Rattle.std.proofs.lemmas.Option.{slice_get-map}
use Rattle.word_files.proofs.LineLemmas.{left_none, left_some}
use Rattle.word_files.specs.Hex.{word_of}
use Rattle.word_files.specs.Lines.{lines_of}
use Rattle.word_files.specs.WordFiles.{IsOfLine}
use Rattle.word_files.specs.declared.error.WordError.{WordError}
use Rattle.word_files.specs.declared.error.WordError.TheVariants.{BadLine, WordRange, ReadFault, WriteFault, NoMemory}
use Rattle.word_lists.specs.Read.{said_by, IsFirstWrong, Reads}

-- the first lines say these words
abbrev pub Begins : List (Option ℕ) → List ℕ → Type 0
Begins said words = said ≡ map Some words ++ drop (length words) said

-- ---- one line

-- what a line says
pub said_at : (file : List ℕ) (n m : ℕ) (line : Option ℕ) → n ≡ m → option_map word_of (slice_get (lines_of file) n) ≡ Some line → slice_get (said_by file) m ≡ Some line
said_at file n m line same at = ap (slice_get (said_by file)) (sym same) ∙ slice_get-map word_of (lines_of file) n ∙ at

-- there is none behind the last one
pub said_past : (file : List ℕ) (n m : ℕ) → n ≡ m → slice_get (lines_of file) n ≡ None → slice_get (said_by file) m ≡ None
said_past file n m same at = ap (slice_get (said_by file)) (sym same) ∙ slice_get-map word_of (lines_of file) n ∙ ap (option_map word_of) at

-- ---- so many lines

pub begins_more : (said : List (Option ℕ)) (words : List ℕ) (w : ℕ) → Begins said words → slice_get said (length words) ≡ Some (Some w) → Begins said (words ++ w ∷ [])
begins_more said words w begins at =
    let n = length words in
    begins
    ∙ ap (λ rest. map Some words ++ rest) (left_some said n (Some w) at)
    ∙ sym (append_assoc (map Some words) (Some w ∷ []) (drop (n + 1) said))
    ∙ ap (λ front. front ++ drop (n + 1) said) (sym (map_push Some words w))
    ∙ ap (λ k. map Some (words ++ w ∷ []) ++ drop k said) (sym (length_push words w))

-- all lines of the file are read
pub all_there : (said : List (Option ℕ)) (words : List ℕ) (most : ℕ) → Begins said words → length words ≤ most → slice_get said (length words) ≡ None → take most said ≡ map Some words
all_there said words most begins within at =
    let whole : said ≡ map Some words = begins ∙ ap (λ rest. map Some words ++ rest) (left_none said (length words) at) ∙ append-nil (map Some words) in
    ap (take most) whole ∙ take_all most (map Some words) (omega (arith, length-map words Some))

-- the front of a list, past one of its items
take_over : (front behind : List (Option ℕ)) (x : Option ℕ) (n k : ℕ) → n ≡ length front + suc k → take n (front ++ x ∷ behind) ≡ front ++ x ∷ take k behind
take_over front behind x zero k e = absurd (omega arith)
take_over [] behind x (suc n) k e = let same : n ≡ k = omega arith in ap (λ m. x ∷ take m behind) same
take_over (y ∷ front) behind x (suc n) k e = ap (λ rest. y ∷ rest) (take_over front behind x n k (omega arith))

-- the next line says no word
pub first_wrong :
    (width : ℕ) (said : List (Option ℕ)) (words : List ℕ) (most : ℕ) (line : Option ℕ)
    → Begins said words → All (λ w. w < 2 ^ width) words → length words < most
    → slice_get said (length words) ≡ Some line
    → IsFirstWrong width (take most said) (length words + 1) line
first_wrong width said words most line begins fit within at =
    let n = length words in
    let whole : said ≡ map Some words ++ line ∷ drop (n + 1) said = begins ∙ ap (λ rest. map Some words ++ rest) (left_some said n line at) in
    record {
      words = words;
      behind = take (most - n - 1) (drop (n + 1) said);
      are = ap (take most) whole ∙ take_over (map Some words) (drop (n + 1) said) line most (most - n - 1) (omega (arith, length-map words Some));
      fit = fit;
      at = refl;
    }

-- so it is refused
pub refused :
    (name reader : List ℕ) (width reader_width most : ℕ) (file : List ℕ) (words : List ℕ) (read : ℕ) (e : WordError)
    → reader ≡ name → reader_width ≡ width
    → Begins (said_by file) words → All (λ w. w < 2 ^ width) words → length words < most → read ≡ length words
    → IsOfLine reader reader_width (read + 1) (slice_get (lines_of file) read) (Err e)
    → Reads name width (take most (said_by file)) (Err e)
refused name reader width reader_width most file words read (BadLine named number) own wide begins fit within same of = (
  of.0 ∙ own,
  subst (λ k. IsFirstWrong width (take most (said_by file)) k None) (ap (λ k. k + 1) (sym same) ∙ sym of.1)
      (first_wrong width (said_by file) words most None begins fit within (said_at file read (length words) None same of.2)),
)
refused name reader width reader_width most file words read (WordRange named number) own wide begins fit within same of =
    let value = of.2.0 in (
      of.0 ∙ own,
      (
        value,
        subst (λ n. 2 ^ n ≤ value) wide of.2.2,
        subst (λ k. IsFirstWrong width (take most (said_by file)) k (Some value)) (ap (λ k. k + 1) (sym same) ∙ sym of.1)
            (first_wrong width (said_by file) words most (Some value) begins fit within (said_at file read (length words) (Some value) same of.2.1)),
      ),
    )
refused name reader width reader_width most file words read ReadFault own wide begins fit within same of = tt
refused name reader width reader_width most file words read WriteFault own wide begins fit within same of = of
refused name reader width reader_width most file words read NoMemory own wide begins fit within same of = tt
