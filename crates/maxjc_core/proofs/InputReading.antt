-- What reading input files one after another says of all of them.
use Rattle.std.proofs.Common.{
  ◌≡◌,
  ◌∙◌,
  ◌<◌,
  ◌+◌,
  ℕ,
  zero,
  suc,
  List,
  [],
  ◌∷◌,
  ◌++◌,
  length,
  take,
  drop,
  get_or,
  map,
  ◌≤◌,
  ◌^◌,
  ◌⊎◌,
  inl,
  inr,
  Option,
  Some,
  None,
  arith,
  refl,
  ap,
  sym,
  subst,
  length-append,
}
use Rattle.std.specs.Prelude.{IsSome, Result, Ok, Err, slice_get, slice_index}
use Rattle.std.specs.List.{Contains}
use Rattle.std.proofs.lemmas.List.Elements.{All-contains}
use Rattle.std.proofs.lemmas.Result.{IfErr-at_err}
use Rattle.std.proofs.lemmas.Option.{same_Some, get_or_from_slice_get}
use Rattle.manager_links.proofs.Pieces.{in_more, split_read}
use Rattle.manager_links.specs.declared.hosts.HostPort.{HostPort}
use Rattle.mx_base.specs.Files.{Name, Held, Holds, Lacks}
use Rattle.simulation.specs.Errors.{stop_of}
use Rattle.word_files.specs.declared.error.WordError.{WordError}
use Rattle.word_files.specs.declared.error.WordError.TheVariants as word_errors
use Rattle.word_lists.specs.Read.{AreWords, IsFirstWrong, Reads, said_by}
use Rattle.maxjc_core.specs.InputWords.{
  Reading,
  reading_of,
  readings_of,
  HasWords,
  HaveWords,
  IsLineFault,
  IsFirstLineFault,
  LacksLine,
  LacksWords,
}
use Rattle.maxjc_core.specs.CauseLines.{Cause}
use Rattle.maxjc_core.specs.ErrorCauses.{IfCause, stop_cause}
use Rattle.maxjc_core.proofs.CheckExclusion.{told_lacks}
use Rattle.maxjc_core.proofs.Reading.{found}
use Rattle.maxjc_core.proofs.Refusing.{some-same}

-- the reading at a place
pub reading-read : (ticks : List ℕ) (hosts : List HostPort) (files : List (Name × ℕ)) (n : ℕ)
    (host : HostPort) (file : Name × ℕ) (most : ℕ) → n < length hosts
    → length files ≡ length hosts → host ≡ get_or hosts n host → slice_get files n ≡ Some file
    → slice_get ticks host.port.kernel ≡ Some most
    → (n < length (readings_of ticks hosts files))
    × (reading_of file most ≡ get_or (readings_of ticks hosts files) n (reading_of file most))
reading-read ticks [] files n host file most lt same h f m = absurd (omega arith)
reading-read ticks (x ∷ xs) [] n host file most lt same h f m = absurd (omega (arith, same))
reading-read ticks (x ∷ xs) (y ∷ ys) zero host file most lt same h f m = (
  omega arith,
  ap (reading_of file) (sym (get_or_from_slice_get ticks host.port.kernel most 0 m))
      ∙ ap (λ (z : HostPort). reading_of file (slice_index ticks z.port.kernel)) h
      ∙ ap (λ (z : Name × ℕ). reading_of z (slice_index ticks x.port.kernel)) (sym (same_Some y file f)),
)
reading-read ticks (x ∷ xs) (y ∷ ys) (suc n) host file most lt same h f m =
    let rest = reading-read ticks xs ys n host file most (omega arith) (omega (arith, same)) h f m in
    let within = rest.0 in
    (omega (arith, within), rest.1)

-- the readings before it and behind it
pub reading-split : (ticks : List ℕ) (hosts : List HostPort) (files : List (Name × ℕ)) (n : ℕ)
    (host : HostPort) (file : Name × ℕ) (most : ℕ) → n < length hosts
    → length files ≡ length hosts → host ≡ get_or hosts n host → slice_get files n ≡ Some file
    → slice_get ticks host.port.kernel ≡ Some most
    → readings_of ticks hosts files
    ≡ take n (readings_of ticks hosts files)
    ++ reading_of file most ∷ drop (n + 1) (readings_of ticks hosts files)
reading-split ticks hosts files n host file most lt same h f m =
    let at = reading-read ticks hosts files n host file most lt same h f m in
    split_read (readings_of ticks hosts files) n (reading_of file most) at.0 at.1

-- as many are read as there are streams
pub readings-count : (ticks : List ℕ) (hosts : List HostPort) (files : List (Name × ℕ))
    → length files ≡ length hosts → length (readings_of ticks hosts files) ≡ length hosts
readings-count ticks [] files same = refl
readings-count ticks (x ∷ xs) [] same = absurd (omega (arith, same))
readings-count ticks (x ∷ xs) (y ∷ ys) same =
    ap suc (readings-count ticks xs ys (omega (arith, same)))

-- a fault behind readings that give words
pub later-fault : (held : Held) (front : List Reading) (lists : List (List ℕ)) (r : Reading)
    (back : List Reading) (cause : Cause) → HaveWords held front lists → IsLineFault held r cause
    → IsFirstLineFault held (front ++ r ∷ back) cause
later-fault held [] lists r back cause have fault = IsFirstLineFault.here r back cause fault
later-fault held (x ∷ front) [] r back cause have fault = absurd have
later-fault held (x ∷ front) (words ∷ lists) r back cause have fault =
    IsFirstLineFault.later x (front ++ r ∷ back) words cause have.0
    (later-fault held front lists r back cause have.1 fault)

-- so is a file that isn't held
pub later-lack : (held : Held) (front : List Reading) (lists : List (List ℕ)) (r : Reading)
    (back : List Reading) → HaveWords held front lists → LacksLine held r
    → LacksWords held (front ++ r ∷ back)
later-lack held [] lists r back have lacks = LacksWords.here r back lacks
later-lack held (x ∷ front) [] r back have lacks = absurd have
later-lack held (x ∷ front) (words ∷ lists) r back have lacks =
    LacksWords.later x (front ++ r ∷ back) words have.0
    (later-lack held front lists r back have.1 lacks)

-- ---- one reading

pub err-same : {A E : Type 0} {a b : E} → ◌≡◌ {A = Result A E} (Err a) (Err b) → a ≡ b
err-same {A} {E} {a} e = IfErr-at_err (λ b. a ≡ b) e refl

-- the words that were read of a file
pub has-words : (held : Held) (r : Reading) (words : List ℕ) → IsSome held
    → (Lacks held r.name → ⊥)
    → ((file : List ℕ) → Holds held r.name file → AreWords r.width (take r.most (said_by file)) words)
    → HasWords held r words
has-words held r words told lacks are =
    let f = found held r.name told lacks in
    HasWords.read f.0 words f.1 (are f.0 f.1)

-- why none were
pub line-fault : (held : Held) (r : Reading) (error : WordError) (cause : Cause) → IsSome held
    → (Lacks held r.name → ⊥)
    → ((file : List ℕ) → Holds held r.name file → Reads r.name r.width (take r.most (said_by file)) (Err error))
    → stop_cause (stop_of error) ≡ Some cause → IsLineFault held r cause
line-fault held r (word_errors.BadLine name line) cause told lacks reads is =
    let f = found held r.name told lacks in
    let first = reads f.0 f.1 in
    let same : Cause.BadLine r.name line ≡ cause =
    ap (λ n. Cause.BadLine n line) (sym first.0) ∙ some-same is in
    subst (IsLineFault held r) same (IsLineFault.bad_line f.0 line f.1 first.1)
line-fault held r (word_errors.WordRange name line) cause told lacks reads is =
    let f = found held r.name told lacks in
    let first = reads f.0 f.1 in
    let same : Cause.WordRange r.name line ≡ cause =
    ap (λ n. Cause.WordRange n line) (sym first.0) ∙ some-same is in
    subst (IsLineFault held r) same
    (IsLineFault.word_range f.0 line first.1.0 f.1 first.1.1 first.1.2)
line-fault held r word_errors.ReadFault cause told lacks reads is = absurd (cc)
line-fault held r word_errors.WriteFault cause told lacks reads is = absurd (cc)
line-fault held r word_errors.NoMemory cause told lacks reads is = absurd (cc)

-- the cause that an error of words is
pub own-line : (error : WordError) → (error ≡ word_errors.ReadFault → ⊥)
    → (error ≡ word_errors.WriteFault → ⊥) → (error ≡ word_errors.NoMemory → ⊥)
    → IfCause (stop_cause (stop_of error)) (λ cause. stop_cause (stop_of error) ≡ Some cause)
own-line (word_errors.BadLine name line) read write memory = refl
own-line (word_errors.WordRange name line) read write memory = refl
own-line word_errors.ReadFault read write memory = absurd (read refl)
own-line word_errors.WriteFault read write memory = absurd (write refl)
own-line word_errors.NoMemory read write memory = absurd (memory refl)

-- what was read is no error
pub ok-no-error : {A E : Type 0} {value : A} {error : E}
    → ◌≡◌ {A = Result A E} (Ok value) (Err error) → ⊥
ok-no-error e = absurd (cc)

-- nor one of two
pub no-error : {A E : Type 0} {value : A} {one other : E}
    → ◌≡◌ {A = Result A E} (Ok value) (Err one) ⊎ ◌≡◌ {A = Result A E} (Ok value) (Err other) → ⊥
no-error (inl e) = ok-no-error e
no-error (inr e) = ok-no-error e

-- an error that has a cause is neither a read fault nor want of memory
pub cause-held : {A : Type 0} {error : WordError} {cause : Cause}
    → stop_cause (stop_of error) ≡ Some cause
    → ◌≡◌ {A = Result A WordError} (Err error) (Err word_errors.ReadFault)
    ⊎ ◌≡◌ {A = Result A WordError} (Err error) (Err word_errors.NoMemory)
    → ⊥
cause-held {A} {error} {cause} is (inl e) =
    let same : error ≡ word_errors.ReadFault = err-same e in
    let none : None ≡ Some cause = ap (λ x. stop_cause (stop_of x)) (sym same) ∙ is in
    absurd (cc)
cause-held {A} {error} {cause} is (inr e) =
    let same : error ≡ word_errors.NoMemory = err-same e in
    let none : None ≡ Some cause = ap (λ x. stop_cause (stop_of x)) (sym same) ∙ is in
    absurd (cc)

-- ---- what stands beside what

-- a file isn't held and held
pub not-both : (held : Held) (name : Name) (file : List ℕ) → Lacks held name
    → Holds held name file → ⊥
not-both held name file lacks holds = absurd (cc)

-- where a reading gives words, none of its lines is missing
has-no-lack : (held : Held) (r : Reading) (words : List ℕ) → HasWords held r words
    → LacksLine held r → ⊥
has-no-lack held r _ (HasWords.unread none) lacks = let some = lacks.some in omega (arith, none, some)
has-no-lack held r _ (HasWords.read file words holds are) lacks =
    not-both held r.name file lacks.lacks holds

-- no file of none isn't held
none-of : (held : Held) (rs : List Reading) → rs ≡ [] → LacksWords held rs → ⊥
none-of held _ none (LacksWords.here r rs lacks) = absurd (cc)
none-of held _ none (LacksWords.later r rs words has lacks) = absurd (cc)

pub have-no-lack : (held : Held) (rs : List Reading) (lists : List (List ℕ))
    → HaveWords held rs lists → LacksWords held rs → ⊥
have-no-lack held [] lists have lacks = none-of held [] refl lacks
have-no-lack held (r ∷ rs) [] have lacks = absurd have
have-no-lack held (r ∷ rs) (words ∷ lists) have (LacksWords.here _ _ lacks) =
    has-no-lack held r words have.0 lacks
have-no-lack held (r ∷ rs) (words ∷ lists) have (LacksWords.later _ _ others _ lacks) =
    have-no-lack held rs lists have.1 lacks

-- no lines have no first that says none
no-lines : (r : Reading) (said : List (Option ℕ)) (line : ℕ) (wrong : Option ℕ) → r.most ≡ 0
    → IsFirstWrong r.width (take r.most said) line wrong → ⊥
no-lines r said line wrong none first =
    let cut : IsFirstWrong r.width [] line wrong =
    subst (λ n. IsFirstWrong r.width (take n said) line wrong) none first in
    let many = ap (λ (l : List (Option ℕ)). length l) cut.are
    ∙ length-append (map Some cut.words) (wrong ∷ cut.behind) in
    omega (arith, many)

-- an item between words that are all defined is one of them
map_middle : (front : List ℕ) (item : Option ℕ) (back : List (Option ℕ)) (words : List ℕ)
    → map Some front ++ item ∷ back ≡ map Some words
    → (value : ℕ) × (item ≡ Some value) × Contains words value
map_middle [] item back [] e = absurd (cc)
map_middle [] item back (w ∷ words) e = let is : item ≡ Some w = cc in (w, is, (0, omega arith, refl))
map_middle (x ∷ front) item back [] e = absurd (cc)
map_middle (x ∷ front) item back (w ∷ words) e =
    let rest : map Some front ++ item ∷ back ≡ map Some words = cc in
    let at = map_middle front item back words rest in
    (at.0, at.1, in_more at.0 w words at.2)

-- where readings give words, none has a line that says none
fault-none : (held : Held) (rs : List Reading) (cause : Cause) → rs ≡ []
    → IsFirstLineFault held rs cause → ⊥
fault-none held _ cause none (IsFirstLineFault.here r rs _ fault) = absurd (cc)
fault-none held _ cause none (IsFirstLineFault.later r rs words _ has fault) = absurd (cc)

same-file : (held : Held) (name : Name) (a b : List ℕ) → Holds held name a → Holds held name b
    → a ≡ b
same-file held name a b h k = cc

-- lines that all say words have no first that says none, of either kind
no-first : (width : ℕ) (said : List (Option ℕ)) (words : List ℕ) (line : ℕ) (wrong : Option ℕ)
    → AreWords width said words → IsFirstWrong width said line wrong
    → ((value : ℕ) → wrong ≡ Some value → 2 ^ width ≤ value) → ⊥
no-first width said words line wrong are first past =
    let at = map_middle (first.words) wrong first.behind words (sym first.are ∙ are.are) in
    let over = past at.0 at.1 in
    let fit = All-contains (λ w. w < 2 ^ width) words at.0 are.fit at.2 in
    omega (arith, over, fit)

has-no-fault : (held : Held) (r : Reading) (words : List ℕ) (cause : Cause) → HasWords held r words
    → IsLineFault held r cause → ⊥
has-no-fault held r _ _ (HasWords.unread none) (IsLineFault.bad_line file line holds first) =
    no-lines r (said_by file) line None none first
has-no-fault held r _ _ (HasWords.unread none) (IsLineFault.word_range file line value holds past first) =
    no-lines r (said_by file) line (Some value) none first
has-no-fault held r _ _ (HasWords.read file words holds are) (IsLineFault.bad_line other line holds2 first) =
    let same = same-file held r.name other file holds2 holds in
    no-first r.width (take r.most (said_by file)) words line None are
    (subst (λ f. IsFirstWrong r.width (take r.most (said_by f)) line None) same first)
    (λ value e. absurd (cc))
has-no-fault held r _ _ (HasWords.read file words holds are)
    (IsLineFault.word_range other line value holds2 past first) =
    let same = same-file held r.name other file holds2 holds in
    no-first r.width (take r.most (said_by file)) words line (Some value) are
    (subst (λ f. IsFirstWrong r.width (take r.most (said_by f)) line (Some value)) same first)
    (λ other e. let one : value ≡ other = cc in subst (λ v. 2 ^ r.width ≤ v) one past)

pub have-no-fault : (held : Held) (rs : List Reading) (lists : List (List ℕ)) (cause : Cause)
    → HaveWords held rs lists → IsFirstLineFault held rs cause → ⊥
have-no-fault held [] lists cause have fault = fault-none held [] cause refl fault
have-no-fault held (r ∷ rs) [] cause have fault = absurd have
have-no-fault held (r ∷ rs) (words ∷ lists) _ have (IsFirstLineFault.here _ _ cause fault) =
    has-no-fault held r words cause have.0 fault
have-no-fault held (r ∷ rs) (words ∷ lists) _ have
    (IsFirstLineFault.later _ _ others cause _ fault) =
    have-no-fault held rs lists cause have.1 fault

-- a reading whose line says no word is of a file that is held
fault-held : (held : Held) (r : Reading) (cause : Cause) → IsLineFault held r cause
    → LacksLine held r → ⊥
fault-held held r _ (IsLineFault.bad_line file line holds first) lacks =
    not-both held r.name file lacks.lacks holds
fault-held held r _ (IsLineFault.word_range file line value holds past first) lacks =
    not-both held r.name file lacks.lacks holds

-- where a file isn't held, what files hold is told
pub told-by-lack : (held : Held) (rs : List Reading) → LacksWords held rs → IsSome held
told-by-lack held _ (LacksWords.here r rs lacks) = told_lacks held r.name lacks.lacks
told-by-lack held _ (LacksWords.later r rs words has lacks) = told-by-lack held rs lacks

-- a line that says no word is met, or a file that isn't held, and not both
pub fault-or-lack : (held : Held) (rs : List Reading) (cause : Cause)
    → IsFirstLineFault held rs cause → LacksWords held rs → ⊥
fault-or-lack held [] cause fault lacks = none-of held [] refl lacks
fault-or-lack held (r ∷ rs) _ (IsFirstLineFault.here _ _ cause fault) (LacksWords.here _ _ lacks) =
    fault-held held r cause fault lacks
fault-or-lack held (r ∷ rs) _ (IsFirstLineFault.here _ _ cause fault) (LacksWords.later _ _ words has _) =
    has-no-fault held r words cause has fault
fault-or-lack held (r ∷ rs) _ (IsFirstLineFault.later _ _ words cause has _) (LacksWords.here _ _ lacks) =
    has-no-lack held r words has lacks
fault-or-lack held (r ∷ rs) _ (IsFirstLineFault.later _ _ words cause _ fault) (LacksWords.later _ _ others _ lacks) =
    fault-or-lack held rs cause fault lacks
