-- What a run file is, and what it says.
use Rattle.std.specs.Prelude.{ℕ, ◌≡◌, ◌^◌, ◌&&◌, ◌||◌, not, Bool, true, false, nat_le, nat_lt, ◌⊎◌}
use Rattle.std.specs.Prelude.{List, [], ◌∷◌, ◌++◌, map, codes, bytes_eq, Option, Some, None}
use Rattle.std.specs.Prelude.{is_some, unwrap_or, option_map, option_and_then, if◌then◌else◌}
use Rattle.std.specs.Prelude.{Result, Ok, Err, ⊤, IsUtf8}
use Rattle.std.specs.List.{list_any, list_all, find}
use Rattle.std.specs.Option.{option_or}
use Rattle.serde_json.specs.Data.{Data, Members, no_members, member}
use Rattle.serde_json.specs.Find.{get, as_number, as_u64, as_str, as_object}
use Rattle.serde_json.specs.Read.{read}
use Rattle.serde_json.specs.View.{view}
use Rattle.serde_json.specs.declared.value.Value.{Value}
use Rattle.word_files.specs.Hex.{word_of}
use Rattle.word_files.specs.declared.run_file.RunFile.{RunFile}
use Rattle.rtl_ir.specs.declared.interface.Interface.{Interface}
use Rattle.rtl_ir.specs.declared.interface.KernelPorts.{KernelPorts}
use Rattle.rtl_ir.specs.declared.interface.ScalarPort.{ScalarPort}
use Rattle.rtl_ir.specs.declared.interface.StreamPorts.{StreamPorts}
use Rattle.word_files.specs.declared.error.RunFileError.{RunFileError}
use Rattle.word_files.specs.declared.error.RunFileError.TheVariants.{NotJson, Shape, NoMemory}

abbrev pub Name : Type 0
Name = List ℕ

-- ---- the values of members

-- at most so many ticks, and so many edges
abbrev pub most_count : ℕ
most_count = 2 ^ 40

-- a number that JSON writes without sign, point and exponent, up to a limit below 2 ^ 64
abbrev pub up_to : ℕ → Data → Option ℕ
up_to limit d = option_and_then (λ n. if nat_le n limit then Some n else None) (option_and_then as_u64 (as_number d))

-- a string of 1 to 32 hexadecimal digits
abbrev pub word : Data → Option ℕ
word d = option_and_then word_of (as_str d)

-- a string, as the name of a file
abbrev pub text : Data → Option Name
text d = as_str d

-- the members of an object in the byte order of their keys
abbrev pub pairs : Members → List (Name × Data)
pairs no_members = []
pairs (member k d ms) = (k, d) ∷ pairs ms

-- each value as it is read, where all can be
abbrev pub all_read : {A : Type 0} → (Data → Option A) → List (Name × Data) → Option (List (Name × A))
all_read reads [] = Some []
all_read reads (m ∷ ms) = option_and_then (λ a. option_map (λ rest. (m.0, a) ∷ rest) (all_read reads ms)) (reads m.1)

-- an object, with each value as it is read
abbrev pub object_of : {A : Type 0} → (Data → Option A) → Data → Option (List (Name × A))
object_of reads d = option_and_then (λ ms. all_read reads (pairs ms)) (as_object d)

-- what is read where a key may be absent
abbrev pub or_default : {A : Type 0} → A → (Data → Option A) → Option Data → Option A
or_default default reads None = Some default
or_default default reads (Some d) = reads d

-- ---- one part of the file

-- what the part under this key says, or that it isn't of its form
abbrev pub IsPart : {A : Type 0} → Name → Option A → Result A RunFileError → Type 0
IsPart key part (Ok a) = part ≡ Some a
IsPart key part (Err NotJson) = ⊥
IsPart key part (Err (Shape name)) = (name ≡ key) × (part ≡ None)
IsPart key part (Err NoMemory) = Unit {0}

-- a further key is refused
abbrev pub IsFurther : Option Name → Result ⊤ RunFileError → Type 0
IsFurther key (Ok t) = key ≡ None
IsFurther key (Err NotJson) = ⊥
IsFurther key (Err (Shape name)) = key ≡ Some name
IsFurther key (Err NoMemory) = Unit {0}

-- ---- the file, key by key

abbrev pub ticks_of : Data → Option (List (Name × ℕ))
ticks_of d = option_and_then (object_of (up_to most_count)) (get (codes "ticks") d)

abbrev pub scalars_of : Data → Option (List (Name × ℕ))
scalars_of d = or_default [] (object_of word) (get (codes "scalars") d)

abbrev pub inputs_of : Data → Option (List (Name × Name))
inputs_of d = option_and_then (object_of text) (get (codes "inputs") d)

abbrev pub outputs_of : Data → Option (List (Name × Name))
outputs_of d = option_and_then (object_of text) (get (codes "outputs") d)

abbrev pub edges_of : Data → Option ℕ
edges_of d = option_and_then (up_to most_count) (get (codes "edges") d)

abbrev pub pick_of : Data → Option ℕ
pick_of d = or_default 0 (λ v. option_and_then as_u64 (as_number v)) (get (codes "pattern") d)

abbrev pub fill_of : Data → Option ℕ
fill_of d = or_default 0 word (get (codes "fill") d)

-- some of these files is taken, or stands twice among them
abbrev pub is_shared : List Name → List Name → Bool
is_shared taken [] = false
is_shared taken (file ∷ files) = list_any (bytes_eq file) taken || is_shared (file ∷ taken) files

-- the files of streams
abbrev pub files : List (Name × Name) → List Name
files streams = map (λ s. s.1) streams

-- an output has a file of its own: no input reads it, and no other output writes it
abbrev pub is_apart : Data → Bool
is_apart d = not (is_shared (files (unwrap_or (inputs_of d) [])) (files (unwrap_or (outputs_of d) [])))

-- the keys of a run file
unfoldable pub is_key : Name → Bool
is_key key = list_any (bytes_eq key) (codes "ticks" ∷ codes "scalars" ∷ codes "inputs" ∷ codes "outputs" ∷ codes "edges" ∷ codes "pattern" ∷ codes "fill" ∷ [])

-- the first key in byte order that is none of a run file's
abbrev pub further_key : Data → Option Name
further_key d = option_and_then (λ ms. find (λ key. not (is_key key)) (map (λ m. m.0) (pairs ms))) (as_object d)

-- ---- the first fault

-- what is tested under each key, in this order
abbrev pub tests : Data → List (Name × Bool)
tests d =
    (codes "-", is_some (as_object d))
    ∷ (codes "ticks", is_some (ticks_of d))
    ∷ (codes "scalars", is_some (scalars_of d))
    ∷ (codes "inputs", is_some (inputs_of d))
    ∷ (codes "outputs", is_some (outputs_of d))
    ∷ (codes "outputs", is_apart d)
    ∷ (codes "edges", is_some (edges_of d))
    ∷ (codes "pattern", is_some (pick_of d))
    ∷ (codes "fill", is_some (fill_of d))
    ∷ []

-- the name of the first test that fails
abbrev pub first_failed : List (Name × Bool) → Option Name
first_failed [] = None
first_failed (t ∷ ts) = if t.1 then first_failed ts else Some t.0

-- the key under which a run file isn't of its form, whatever the ports: that of the first test that fails, else a further key
abbrev pub fault_of : Data → Option Name
fault_of d = option_or (first_failed (tests d)) (further_key d)

-- ---- the whole

-- what the file says, key by key
pub record IsRunFile (d : Data) (run : RunFile) : Type 0 where
  pub ticks : ticks_of d ≡ Some run.ticks
  pub scalars : scalars_of d ≡ Some run.scalars
  pub inputs : inputs_of d ≡ Some run.inputs
  pub outputs : outputs_of d ≡ Some run.outputs
  pub edges : edges_of d ≡ Some run.edges
  pub pick : pick_of d ≡ Some run.pick
  pub fill : fill_of d ≡ Some run.fill
  pub sound : fault_of d ≡ None

-- what the JSON value says as a run file, or its first fault
abbrev pub Says : Data → Result RunFile RunFileError → Type 0
Says d (Ok run) = IsRunFile d run
Says d (Err NotJson) = ⊥
Says d (Err (Shape name)) = fault_of d ≡ Some name
Says d (Err NoMemory) = Unit {0}

-- a text is JSON exactly where serde_json reads a value from it
abbrev pub IsJson : List ℕ → Data → Type 0
IsJson bytes d = IsUtf8 bytes × (read bytes ≡ Some d)

abbrev pub IsNoJson : List ℕ → Type 0
IsNoJson bytes = IsUtf8 bytes → read bytes ≡ None

-- what the bytes say as a run file
abbrev pub Reads : List ℕ → Result RunFile RunFileError → Type 0
Reads bytes (Ok run) = (d : Data) × IsJson bytes d × Says d (Ok run)
Reads bytes (Err NotJson) = IsNoJson bytes
Reads bytes (Err (Shape name)) = (d : Data) × IsJson bytes d × Says d (Err (Shape name))
Reads bytes (Err NoMemory) = Unit {0}

-- the JSON value of the bytes
abbrev pub Parses : List ℕ → Result Value RunFileError → Type 0
Parses bytes (Ok value) = IsJson bytes (view value)
Parses bytes (Err NotJson) = IsNoJson bytes
Parses bytes (Err (Shape name)) = ⊥
Parses bytes (Err NoMemory) = Unit {0}

-- ---- the run file beside the ports of a design

-- a name stands in the one list exactly where it stands in the other
abbrev pub SameNames : List Name → List Name → Type 0
SameNames xs ys = (name : Name) → list_any (bytes_eq name) xs ≡ list_any (bytes_eq name) ys

abbrev pub names : {A : Type 0} → List (Name × A) → List Name
names xs = map (λ x. x.0) xs

-- the scalars of this name are below 2 to the power of the width
abbrev pub all_below : List (Name × ℕ) → Name → ℕ → Bool
all_below scalars name width = list_all (λ s. not (bytes_eq s.0 name && not (nat_lt s.1 (2 ^ width)))) scalars

-- each scalar is below 2 to the power of its port's width
abbrev pub in_range : List (Name × ℕ) → List (Name × ℕ) → Bool
in_range scalars ports = list_all (λ p. all_below scalars p.0 p.1) ports

-- the scalars, each with its name KERNEL.NAME in a run file and its width
abbrev pub scalar_entry : ScalarPort → Name × ℕ
scalar_entry s = (s.kernel ++ codes "." ++ s.name, s.width)

abbrev pub scalar_entries : Interface → List (Name × ℕ)
scalar_entries i = map scalar_entry i.scalars

abbrev pub TicksFit : RunFile → Interface → Type 0
TicksFit run i = SameNames (names run.ticks) (map (λ (k : KernelPorts). k.name) i.kernels)

abbrev pub ScalarsFit : RunFile → Interface → Type 0
ScalarsFit run i = SameNames (names run.scalars) (names (scalar_entries i)) × (in_range run.scalars (scalar_entries i) ≡ true)

abbrev pub InputsFit : RunFile → Interface → Type 0
InputsFit run i = SameNames (names run.inputs) (map (λ (x : StreamPorts). x.name) i.inputs)

abbrev pub OutputsFit : RunFile → Interface → Type 0
OutputsFit run i = SameNames (names run.outputs) (map (λ (y : StreamPorts). y.name) i.outputs)

-- the run file fits the ports, or the key of the first list that doesn't
abbrev pub Fits : RunFile → Interface → Result ⊤ RunFileError → Type 0
Fits run i (Ok t) = TicksFit run i × ScalarsFit run i × InputsFit run i × OutputsFit run i
Fits run i (Err NotJson) = ⊥
Fits run i (Err (Shape key)) =
    ((key ≡ codes "ticks") × ¬ TicksFit run i)
    ⊎ ((key ≡ codes "scalars") × TicksFit run i × ¬ ScalarsFit run i)
    ⊎ ((key ≡ codes "inputs") × TicksFit run i × ScalarsFit run i × ¬ InputsFit run i)
    ⊎ ((key ≡ codes "outputs") × TicksFit run i × ScalarsFit run i × InputsFit run i × ¬ OutputsFit run i)
Fits run i (Err NoMemory) = Unit {0}
