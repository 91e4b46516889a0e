-- A line read: where the input stands then, what is behind its words, and why it stops.
use Rattle.std.proofs.Common.{◌≡◌, ◌⊎◌, ℕ, ◌+◌, ◌^◌, ◌<◌, ◌≤◌, Bool, true, false, not, cond, nat_lt}
use Rattle.std.proofs.Common.{List, [], ◌∷◌, length, drop, Option, Some, None, is_some, option_map}
use Rattle.std.proofs.Common.{unwrap_or, Ok, Err, inl, inr, refl, sym, ap, ◌∙◌, subst, arith}
use Rattle.std.specs.Prelude.{IsSome, slice_get, option_and_then}
use Rattle.std.proofs.lemmas.Bool.{false≢true}
use Rattle.std.proofs.lemmas.Bool.Decides.{nat_tests}
use Rattle.std.specs.FinMap.{get}
use Rattle.mx_base.specs.Files.{Name, Held, Holds, Lacks, file_of}
use Rattle.mx_bits.specs.declared.word.Word.{Word}
use Rattle.word_files.specs.Hex.{word_of}
use Rattle.word_files.specs.Lines.{lines_of}
use Rattle.word_files.specs.WordFiles.{Follows, IsUnread, IsOfLine, Keeps}
use Rattle.word_files.specs.declared.refusal.Refusal.{Refusal}
use Rattle.word_files.specs.declared.refusal.Refusal.TheVariants as kept
use Rattle.word_files.specs.declared.reader.WordReader.{WordReader}
use Rattle.word_files.specs.declared.error.WordError.{WordError}
use Rattle.word_files.specs.declared.error.WordError.TheVariants as errors
use Rattle.word_files.proofs.LineLemmas.{left_none, left_some}
use Rattle.simulation.specs.Inputs.{InputFile, LineFault, word_in, before_words, words_in, words_of, fault_of_line, fault_in, fault_behind}
use Rattle.simulation.specs.Inputs as lines
use Rattle.simulation.specs.Inward.{with_waiting, words_behind, IsWithin, IsLacking, IsAt, HasEnded, IsFaulty, Stops, IsBegun}
use Rattle.simulation.specs.Errors.{stop_of, IsReadStop}
use Rattle.simulation.specs.declared.input.Input.{Input}

-- a file that is told is held or not
pub found_or_lacking : (held : Held) (name : Name) → IsSome held → ((file : List ℕ) × Holds held name file) ⊎ Lacks held name
found_or_lacking None name told = absurd (false≢true told)
found_or_lacking (Some files) name told = by (get files name) refl
  where
    by : (o : Option (List ℕ)) → get files name ≡ o → ((file : List ℕ) × Holds (Some files) name file) ⊎ Lacks (Some files) name
    by None e = inr (ap Some e)
    by (Some file) e = inl (file, ap Some e)

pub lacks_told : (held : Held) (name : Name) → Lacks held name → IsSome held
lacks_told None name lacks = absurd (cc)
lacks_told (Some files) name lacks = refl

-- the words from a line on
pub words_at_line : (width : ℕ) (all : List (List ℕ)) (n : ℕ) (line : List ℕ)
    → slice_get all n ≡ Some line → words_in width (drop n all) ≡ before_words
    (word_in width line) (words_in width (drop (n + 1) all))
words_at_line width all n line at = ap (words_in width) (left_some all n line at)

pub words_at_end : (width : ℕ) (all : List (List ℕ)) (n : ℕ) → slice_get all n ≡ None → words_in width (drop n all) ≡ []
words_at_end width all n at = ap (words_in width) (left_none all n at)

-- the line that is there, from what is said of it
pub some_line : (line : Option (List ℕ)) (said : Option ℕ) → option_map word_of line ≡ Some said → (l : List ℕ) × (line ≡ Some l) × (word_of l ≡ said)
some_line None said e = absurd (cc)
some_line (Some l) said e = (l, refl, (let q = e in cc))

pub word_in_width : (width : ℕ) (line : List ℕ) (v : ℕ) → word_of line ≡ Some v → v < 2 ^ width → word_in width line ≡ Some v
word_in_width width line v e h =
    let yes : nat_lt v (2 ^ width) ≡ true = grind (arith, nat_tests) in
    ap (option_and_then (λ w. cond (nat_lt w (2 ^ width)) (Some w) None)) e ∙ ap (λ t. cond t (Some v) None) yes

pub word_past_width : (width : ℕ) (line : List ℕ) (v : ℕ) → word_of line ≡ Some v → 2 ^ width ≤ v → word_in width line ≡ None
word_past_width width line v e h =
    let no : nat_lt v (2 ^ width) ≡ false = grind (arith, nat_tests) in
    ap (option_and_then (λ w. cond (nat_lt w (2 ^ width)) (Some w) None)) e ∙ ap (λ t. cond t (Some v) None) no

pub no_word : (width : ℕ) (line : List ℕ) → word_of line ≡ None → word_in width line ≡ None
no_word width line e = ap (option_and_then (λ w. cond (nat_lt w (2 ^ width)) (Some w) None)) e

-- what is behind the words, at the line where they end
fault_at_line : (f : InputFile) (all : List (List ℕ)) (n : ℕ) → f.lines ≡ Some all → length (words_of f) ≡ n → fault_behind f ≡ fault_of_line f.name (n + 1) (slice_get all n)
fault_at_line f all n lines count = ap (fault_in f.name (length (words_of f))) lines ∙ ap (λ k. fault_of_line f.name (k + 1) (slice_get all k)) count

-- where no word waits and none is read, the words that are left are those of the lines not read
module _ (f : InputFile) (left : List ℕ) (old : Input) (file : List ℕ) (w : IsWithin f file left old) (none : old.waiting ≡ None) where
  left_behind : left ≡ words_behind f.width file old
  left_behind = w.left_is ∙ ap (λ o. with_waiting o (words_behind f.width file old)) none

  -- where the next line is none, or says no word
  no_more : words_behind f.width file old ≡ [] → (left ≡ []) × (length (words_of f) ≡ old.reader.lines)
  no_more e = (left_behind ∙ e, w.count ∙ ap (λ ws. old.reader.lines + length ws) e ∙ omega arith)

  at_the_end : slice_get (lines_of file) old.reader.lines ≡ None → HasEnded f left
  at_the_end at =
      let n = no_more (words_at_end f.width (lines_of file) old.reader.lines at) in
      record { none_left = n.0; at_end = fault_at_line f (lines_of file) old.reader.lines w.lines n.1 ∙ ap (fault_of_line f.name (old.reader.lines + 1)) at }

  at_no_word : (line : List ℕ) → slice_get (lines_of file) old.reader.lines ≡ Some line
      → word_in f.width line ≡ None → (left ≡ [])
      × (fault_behind f ≡ fault_of_line f.name (old.reader.lines + 1) (Some line))
  at_no_word line at says =
      let e = words_at_line f.width (lines_of file) old.reader.lines line at ∙ ap (λ o. before_words o (words_in f.width (drop (old.reader.lines + 1) (lines_of file)))) says in
      let n = no_more e in
      (n.0, fault_at_line f (lines_of file) old.reader.lines w.lines n.1 ∙ ap (fault_of_line f.name (old.reader.lines + 1)) at)

  at_bad_line : option_map word_of (slice_get (lines_of file) old.reader.lines) ≡ Some None → IsFaulty f left (lines.BadLine f.name (old.reader.lines + 1))
  at_bad_line said =
      let l = some_line (slice_get (lines_of file) old.reader.lines) None said in
      let n = at_no_word l.0 l.1 (no_word f.width l.0 l.2) in
      record { none_left = n.0; behind = n.1 ∙ ap (λ o. Some (cond (is_some o) (lines.WordRange f.name (old.reader.lines + 1)) (lines.BadLine f.name (old.reader.lines + 1)))) l.2 }

  at_wide_line : (v : ℕ) → option_map word_of (slice_get (lines_of file) old.reader.lines) ≡ Some (Some v) → 2 ^ f.width ≤ v → IsFaulty f left (lines.WordRange f.name (old.reader.lines + 1))
  at_wide_line v said h =
      let l = some_line (slice_get (lines_of file) old.reader.lines) (Some v) said in
      let n = at_no_word l.0 l.1 (word_past_width f.width l.0 v l.2 h) in
      record { none_left = n.0; behind = n.1 ∙ ap (λ o. Some (cond (is_some o) (lines.WordRange f.name (old.reader.lines + 1)) (lines.BadLine f.name (old.reader.lines + 1)))) l.2 }

-- what a reader answered of the next line of an input
pub record IsRead (held : Held) (old : Input) (reader : WordReader) (word : Option Word) : Type 0 where
  pub name : reader.name ≡ old.reader.name
  pub width : reader.width ≡ old.reader.width
  pub unrefused : reader.refusal ≡ None
  pub lacking : Lacks held old.reader.name → IsUnread old.reader → ⊥
  pub line : (file : List ℕ) → Holds held old.reader.name file → Follows file old.reader
      → IsOfLine old.reader.name old.reader.width (old.reader.lines + 1)
      (slice_get (lines_of file) old.reader.lines) (Ok word)
  pub follows : (file : List ℕ) → Holds held old.reader.name file → Follows file old.reader → Follows file reader
  pub lines : reader.lines ≡ old.reader.lines + cond (is_some word) 1 0

module _ (held : Held) (f : InputFile) (left : List ℕ) (old : Input) (reader : WordReader) where
  read_within : (word : Option Word) (new : Input) → new.reader ≡ reader → new.waiting ≡ word
      → old.waiting ≡ None → IsRead held old reader word → (file : List ℕ)
      → Holds held old.reader.name file → f.width ≡ old.reader.width → IsWithin f file left old
      → IsWithin f file left new
  read_within None new is waits none r file holds width w =
      let at : slice_get (lines_of file) old.reader.lines ≡ None = r.line file holds w.follows in
      let same : new.reader.lines ≡ old.reader.lines = ap (λ (x : WordReader). x.lines) is ∙ r.lines ∙ omega arith in
      let behind : words_behind f.width file new ≡ words_behind f.width file old = ap (λ n. words_in f.width (drop n (lines_of file))) same in
      record {
        follows = subst (Follows file) (sym is) (r.follows file holds w.follows);
        lines = w.lines;
        count = w.count ∙ ap (λ n. n + length (words_behind f.width file old)) (sym same) ∙ ap (λ ws. new.reader.lines + length ws) (sym behind);
        left_is = left_behind f left old file w none ∙ sym behind ∙ sym (ap (λ o. with_waiting o (words_behind f.width file new)) waits);
      }
  read_within (Some x) new is waits none r file holds width w =
      let said = r.line file holds w.follows in
      let l = some_line (slice_get (lines_of file) old.reader.lines) (Some x.bits) said.0 in
      let same : new.reader.lines ≡ old.reader.lines + 1 = ap (λ (x : WordReader). x.lines) is ∙ r.lines in
      let fits : x.bits < 2 ^ f.width = subst (λ n. x.bits < 2 ^ n) (said.1 ∙ sym width) x.fits in
      let behind : words_behind f.width file old ≡ x.bits ∷ words_behind f.width file new =
      words_at_line f.width (lines_of file) old.reader.lines l.0 l.1
      ∙ ap (λ o. before_words o (words_in f.width (drop (old.reader.lines + 1) (lines_of file)))) (word_in_width f.width l.0 x.bits l.2 fits)
      ∙ ap (λ n. x.bits ∷ words_in f.width (drop n (lines_of file))) (sym same) in
      record {
        follows = subst (Follows file) (sym is) (r.follows file holds w.follows);
        lines = w.lines;
        count = w.count ∙ ap (λ ws. old.reader.lines + length ws) behind ∙ omega arith;
        left_is = left_behind f left old file w none ∙ behind ∙ sym (ap (λ o. with_waiting o (words_behind f.width file new)) waits);
      }

  pub read_stands : (word : Option Word) (new : Input) → new.reader ≡ reader → new.waiting ≡ word → old.waiting ≡ None → IsRead held old reader word → IsAt held f left old → IsAt held f left new
  read_stands word new is waits none r at =
      record {
        name = ap (λ (x : WordReader). x.name) is ∙ r.name ∙ at.name;
        width = ap (λ (x : WordReader). x.width) is ∙ r.width ∙ at.width;
        unrefused = ap (λ (x : WordReader). x.refusal) is ∙ r.unrefused;
        within = λ file holds. read_within word new is waits none r file (subst (λ n. Holds held n file) (sym at.name) holds) (sym at.width) (at.within file holds);
        lacking = λ lacks. absurd (r.lacking (subst (λ n. Lacks held n) (sym at.name) lacks) (at.lacking lacks).unread);
      }

  pub read_ended : (word : Option Word) → old.waiting ≡ None → IsRead held old reader word → IsAt held f left old → word ≡ None → IsSome held → HasEnded f left
  read_ended (Some x) none r at waits told = absurd (cc)
  read_ended None none r at waits told = by (found_or_lacking held f.name told)
    where
      by : ((file : List ℕ) × Holds held f.name file) ⊎ Lacks held f.name → HasEnded f left
      by (inl found) =
          let w = at.within found.0 found.1 in
          at_the_end f left old found.0 w none (r.line found.0 (subst (λ n. Holds held n found.0) (sym at.name) found.1) w.follows)
      by (inr lacks) = absurd (r.lacking (subst (λ n. Lacks held n) (sym at.name) lacks) (at.lacking lacks).unread)

-- why a reader stops
missing : (held : Held) (f : InputFile) (left : List ℕ) (old : Input) → IsLacking f left old → IsFaulty f left lines.Missing
missing held f left old l =
    record { none_left = l.none_left; behind = ap (fault_in f.name (length (words_of f))) l.lines }

pub read_stopped :
    (held : Held) (counted : Type 0) (f : InputFile) (left : List ℕ) (old : Input) (e : WordError)
    → old.waiting ≡ None
    → (e ≡ errors.ReadFault → counted ⊎ Lacks held old.reader.name)
    → (Lacks held old.reader.name → IsUnread old.reader → e ≡ errors.ReadFault)
    → ((file : List ℕ) → Holds held old.reader.name file → Follows file old.reader
    → IsOfLine old.reader.name old.reader.width (old.reader.lines + 1)
    (slice_get (lines_of file) old.reader.lines) (Err e))
    → (e ≡ errors.WriteFault → ⊥)
    → IsAt held f left old
    → Stops held counted f left (stop_of e)
read_stopped held counted f left old (errors.BadLine name number) none fault lacking line wrote at = λ told. by (found_or_lacking held f.name told)
  where
    by : ((file : List ℕ) × Holds held f.name file) ⊎ Lacks held f.name → IsFaulty f left (lines.BadLine name number)
    by (inl found) =
        let w = at.within found.0 found.1 in
        let said = line found.0 (subst (λ n. Holds held n found.0) (sym at.name) found.1) w.follows in
        let named : lines.BadLine f.name (old.reader.lines + 1) ≡ lines.BadLine name number = (let p = said.0 in let q = said.1 in let r = at.name in cc) in
        subst (IsFaulty f left) named (at_bad_line f left old found.0 w none said.2)
    by (inr lacks) = absurd (let q = lacking (subst (λ n. Lacks held n) (sym at.name) lacks) (at.lacking lacks).unread in cc)
read_stopped held counted f left old (errors.WordRange name number) none fault lacking line wrote at = λ told. by (found_or_lacking held f.name told)
  where
    by : ((file : List ℕ) × Holds held f.name file) ⊎ Lacks held f.name → IsFaulty f left (lines.WordRange name number)
    by (inl found) =
        let w = at.within found.0 found.1 in
        let said = line found.0 (subst (λ n. Holds held n found.0) (sym at.name) found.1) w.follows in
        let named : lines.WordRange f.name (old.reader.lines + 1) ≡ lines.WordRange name number = (let p = said.0 in let q = said.1 in let r = at.name in cc) in
        subst (IsFaulty f left) named (at_wide_line f left old found.0 w none said.2.0 said.2.1 (subst (λ n. 2 ^ n ≤ said.2.0) at.width said.2.2))
    by (inr lacks) = absurd (let q = lacking (subst (λ n. Lacks held n) (sym at.name) lacks) (at.lacking lacks).unread in cc)
read_stopped held counted f left old errors.ReadFault none fault lacking line wrote at = by (fault refl)
  where
    by : counted ⊎ Lacks held old.reader.name → counted ⊎ (IsSome held × IsFaulty f left lines.Missing)
    by (inl c) = inl c
    by (inr lacks) = inr (lacks_told held old.reader.name lacks, missing held f left old (at.lacking (subst (λ n. Lacks held n) at.name lacks)))
read_stopped held counted f left old errors.WriteFault none fault lacking line wrote at = absurd (wrote refl)
read_stopped held counted f left old errors.NoMemory none fault lacking line wrote at = tt

-- a reader writes nothing
pub no_write : (name : Name) (refusal : Option Refusal) (e : WordError) → Keeps name refusal (Err e) → e ≡ errors.WriteFault → ⊥
no_write name None e (inl h) q = absurd (cc)
no_write name (Some (kept.BadLine n)) e (inl h) q = absurd (cc)
no_write name (Some (kept.WordRange n)) e (inl h) q = absurd (cc)
no_write name (Some kept.ReadFault) e (inl h) q = absurd (cc)
no_write name (Some kept.NoMemory) e (inl h) q = absurd (cc)
no_write name refusal e (inr h) q = absurd (cc)

pub turned : (a b : Bool) → a ≡ not b → b ≡ not a
turned a true e = sym (ap not e)
turned a false e = sym (ap not e)

pub begins : (held : Held) (f : InputFile) (i : Input) → i.reader.name ≡ f.name
    → i.reader.width ≡ f.width → f.lines ≡ option_map lines_of
    (unwrap_or (file_of held f.name) None) → IsBegun i → IsAt held f (words_of f) i
begins held f i name width lines b =
    record {
      name = name;
      width = width;
      unrefused = b.unread.unrefused;
      within = λ file holds. (
          let here : f.lines ≡ Some (lines_of file) = lines ∙ ap (λ o. option_map lines_of (unwrap_or o None)) holds in
          let all : words_of f ≡ words_behind f.width file i = ap (λ o. words_in f.width (unwrap_or o [])) here ∙ ap (λ n. words_in f.width (drop n (lines_of file))) (sym b.lines) in
          record {
            follows = b.follows file;
            lines = here;
            count = ap length all ∙ (let z = b.lines in omega arith);
            left_is = all ∙ ap (λ o. with_waiting o (words_behind f.width file i)) (sym b.none_waits);
          });
      lacking = λ lacks. (
          let here : f.lines ≡ None = lines ∙ ap (λ o. option_map lines_of (unwrap_or o None)) lacks in
          record {
            lines = here;
            none_left = ap (λ o. words_in f.width (unwrap_or o [])) here;
            none_waits = b.none_waits;
            unread = b.unread;
          });
    }

pub nothing_waits : (o : Option Word) → is_some o ≡ false → o ≡ None
nothing_waits None e = refl
nothing_waits (Some w) e = absurd (false≢true (sym e))

-- so it stops a run as reading does
pub read_kind : (name : Name) (refusal : Option Refusal) (e : WordError) → Keeps name refusal (Err e) → IsReadStop (stop_of e)
read_kind name refusal (errors.BadLine file line) k = tt
read_kind name refusal (errors.WordRange file line) k = tt
read_kind name refusal errors.ReadFault k = tt
read_kind name refusal errors.WriteFault k = no_write name refusal errors.WriteFault k refl
read_kind name refusal errors.NoMemory k = tt
