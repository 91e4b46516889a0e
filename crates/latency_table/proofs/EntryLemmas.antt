-- The entries of a table, and the values that they were read from.
use Rattle.std.proofs.Common.{◌≡◌, ℕ, ◌<◌, ◌≤◌, ◌+◌, List, [], ◌∷◌, ◌++◌, length, take, drop}
use Rattle.std.proofs.Common.{get_or, add-one, map, Option, Some, None, option_map, Bool, true}
use Rattle.std.proofs.Common.{false, cond, not, is_some, bytes_eq, refl, sym, ap, ◌∙◌}
use Rattle.std.specs.List.{find}
use Rattle.std.proofs.lemmas.Grind.{take_at_read}
use Rattle.std.proofs.lemmas.List.{map-append, take_all, drop_all}
use Rattle.std.proofs.Math.Seq.{drop-cons}
use Rattle.std.specs.Option.{option_map_or}
use Rattle.mx_bits.specs.declared.op.Op.{Op}
use Rattle.mx_bits.specs.declared.op.Op.TheVariants.{Add, Sub, Mul, Div, Neg, And, Or, Xor, Not, Shl, Shr, Eq, Ne, Lt, Le, Gt, Ge, Mux, Cast, Round}
use Rattle.serde_json.specs.Data.{Data}
use Rattle.latency_table.specs.Names.{name_of, operations}
use Rattle.latency_table.specs.Tables.{rows_under, rows_at, entry_of, is_free}
use Rattle.latency_table.specs.declared.rows.Row.{Row}
use Rattle.latency_table.specs.declared.table.Entry.{Entry}
use Rattle.latency_table.specs.declared.table.Table.{Table}

-- rows beside their operation
abbrev pub Beside : Type 0
Beside = Op × Option (List Row)

abbrev pub read_beside : Data → Op → Beside
read_beside d op = (op, rows_under op d)

abbrev pub kept_beside : Entry → Beside
kept_beside e = (e.op, Some e.rows)

is_of : Op → Beside → Bool
is_of op b = bytes_eq (name_of b.0) (name_of op)

if_mapped : {X Y : Type 0} (f : X → Y) (test : Bool) (x : X) (rest : Option X) → cond test (Some (f x)) (option_map f rest) ≡ option_map f (cond test (Some x) rest)
if_mapped f true x rest = refl
if_mapped f false x rest = refl

find-map : {X Y : Type 0} (test : Y → Bool) (f : X → Y) (xs : List X) → find test (map f xs) ≡ option_map f (find (λ x. test (f x)) xs)
find-map test f [] = refl
find-map test f (x ∷ xs) = ap (cond (test (f x)) (Some (f x))) (find-map test f xs) ∙ if_mapped f (test (f x)) x (find (λ y. test (f y)) xs)

-- the rows of each operation are found beside it
read_found : (d : Data) (op : Op) → is_free op ≡ false → find (is_of op) (map (read_beside d) operations) ≡ Some (read_beside d op)
unfolding is_of
read_found d Add h = refl
read_found d Sub h = refl
read_found d Mul h = refl
read_found d Div h = refl
read_found d Neg h = refl
read_found d And h = refl
read_found d Or h = refl
read_found d Xor h = refl
read_found d Not h = refl
read_found d Shl h = cc
read_found d Shr h = cc
read_found d Eq h = refl
read_found d Ne h = refl
read_found d Lt h = refl
read_found d Le h = refl
read_found d Gt h = refl
read_found d Ge h = refl
read_found d Mux h = refl
read_found d Cast h = cc
read_found d Round h = refl

rows_of_one : (d : Data) (op : Op) (entry : Option Entry) → Some (read_beside d op) ≡ option_map kept_beside entry → rows_under op d ≡ Some (option_map_or (λ e. e.rows) entry [])
rows_of_one d op None e = cc
rows_of_one d op (Some entry) e = ap (λ (o : Option Beside). option_map_or (λ b. b.1) o None) e

-- a table of entries that were read of all operations has the rows of each
pub entries_read : (d : Data) (table : Table) → map (read_beside d) operations ≡ map kept_beside table.entries
    → (op : Op) → is_free op ≡ false → rows_under op d ≡ Some (rows_at table op)
unfolding is_of
entries_read d table e op h =
    rows_of_one d op (entry_of table op) (sym (read_found d op h) ∙ ap (find (is_of op)) e ∙ find-map (is_of op) kept_beside table.entries)

-- one more operation whose rows were read
pub kept_more : (d : Data) (ops : List Op) (i : ℕ) (default : Op) (entries : List Entry) (entry : Entry) → i < length ops
    → (entry.op ≡ get_or ops i default) × (rows_under (get_or ops i default) d ≡ Some entry.rows)
    → map (read_beside d) (take i ops) ≡ map kept_beside entries
    → map (read_beside d) (take (i + 1) ops) ≡ map kept_beside (entries ++ entry ∷ [])
kept_more d ops i default entries entry h read kept =
    ap (map (read_beside d)) (take_at_read ops i default h).1 ∙ map-append (read_beside d) (take i ops) (get_or ops i default ∷ [])
    ∙ ap (λ bs. bs ++ read_beside d (get_or ops i default) ∷ []) kept
    ∙ ap (λ (rows : Option (List Row)). map kept_beside entries ++ (get_or ops i default, rows) ∷ []) read.1
    ∙ ap (λ (o : Op). map kept_beside entries ++ (o, Some entry.rows) ∷ []) (sym read.0)
    ∙ sym (map-append kept_beside entries (entry ∷ []))

-- the first operation with a fault, from one on
find_left : {X : Type 0} (test : X → Bool) (xs : List X) (i : ℕ) (x : X) → i < length xs → find test (drop i xs) ≡ cond (test (get_or xs i x)) (Some (get_or xs i x)) (find test (drop (i + 1) xs))
find_left test xs i x h = ap (find test) (drop-cons xs i x h) ∙ ap (λ n. cond (test (get_or xs i x)) (Some (get_or xs i x)) (find test (drop n xs))) (sym (add-one i))

pub fault_later : (d : Data) (ops : List Op) (i : ℕ) (default : Op) (entry : Entry) (fault : Option Op) → i < length ops
    → (entry.op ≡ get_or ops i default) × (rows_under (get_or ops i default) d ≡ Some entry.rows)
    → fault ≡ find (λ op. not (is_some (rows_under op d))) (drop i ops)
    → fault ≡ find (λ op. not (is_some (rows_under op d))) (drop (i + 1) ops)
fault_later d ops i default entry fault h read left =
    left ∙ find_left (λ op. not (is_some (rows_under op d))) ops i default h
    ∙ ap (λ (rows : Option (List Row)). cond (not (is_some rows)) (Some (get_or ops i default)) (find (λ op. not (is_some (rows_under op d))) (drop (i + 1) ops))) read.1

pub fault_here : (d : Data) (ops : List Op) (i : ℕ) (default op : Op) (fault : Option Op) → i < length ops
    → (op ≡ get_or ops i default) × (rows_under (get_or ops i default) d ≡ None)
    → fault ≡ find (λ op. not (is_some (rows_under op d))) (drop i ops) → fault ≡ Some op
fault_here d ops i default op fault h read left =
    left ∙ find_left (λ op. not (is_some (rows_under op d))) ops i default h
    ∙ ap (λ (rows : Option (List Row)). cond (not (is_some rows)) (Some (get_or ops i default)) (find (λ op. not (is_some (rows_under op d))) (drop (i + 1) ops))) read.1
    ∙ ap Some (sym read.0)

-- all operations were read
pub all_kept : (d : Data) (entries : List Entry) (i : ℕ) → length operations ≤ i
    → map (read_beside d) (take i operations) ≡ map kept_beside entries
    → (op : Op) → is_free op ≡ false → rows_under op d ≡ Some (rows_at (record { entries = entries }) op)
all_kept d entries i h kept = entries_read d (record { entries = entries }) (ap (map (read_beside d)) (sym (take_all i operations h)) ∙ kept)

pub no_fault : (d : Data) (i : ℕ) (fault : Option Op) → length operations ≤ i
    → fault ≡ find (λ op. not (is_some (rows_under op d))) (drop i operations) → fault ≡ None
no_fault d i fault h left = left ∙ ap (find (λ op. not (is_some (rows_under op d)))) (drop_all i operations h)
