-- Latency tables: what a text says as one, and which latency an operation has by it.
use Rattle.std.specs.Prelude.{ℕ, ◌≡◌, Bool, true, false, not, ◌&&◌, List, [], ◌∷◌, codes, bytes_eq}
use Rattle.std.specs.Prelude.{Option, Some, None, is_some, option_map, if◌then◌else◌, Result, Ok}
use Rattle.std.specs.Prelude.{Err, ⊤, IsUtf8}
use Rattle.std.specs.List.{find}
use Rattle.std.specs.Option.{option_map_or}
use Rattle.serde_json.specs.Data.{Data, Members, no_members, member}
use Rattle.serde_json.specs.Find.{get, as_object}
use Rattle.serde_json.specs.Read.{read}
use Rattle.serde_json.specs.View.{view}
use Rattle.serde_json.specs.declared.value.Value.{Value}
use Rattle.mx_bits.specs.declared.op.Op.{Op}
use Rattle.mx_bits.specs.declared.op.Op.TheVariants.{Shl, Shr, Cast}
use Rattle.latency_table.specs.Names.{Name, name_of, operations, names_operation}
use Rattle.latency_table.specs.Rows.{are_pairs, rows_of, row_at}
use Rattle.latency_table.specs.declared.rows.Row.{Row}
use Rattle.latency_table.specs.declared.table.Entry.{Entry}
use Rattle.latency_table.specs.declared.table.Table.{Table}
use Rattle.latency_table.specs.declared.error.TableError.{TableError}
use Rattle.latency_table.specs.declared.error.TableError.TheVariants.{NotJson, Shape, Range, NoMemory}

-- ---- latencies

-- the entry of an operation in a table
abbrev pub entry_of : Table → Op → Option Entry
entry_of table op = find (λ e. bytes_eq (name_of e.op) (name_of op)) table.entries

-- its rows
abbrev pub rows_at : Table → Op → List Row
rows_at table op = option_map_or (λ e. e.rows) (entry_of table op) []

-- shifts by host numbers and casts that lose no fraction bits have latency 0 whatever the table
abbrev pub is_free : Op → Bool
is_free Shl = true
is_free Shr = true
is_free Cast = true
is_free _ = false

-- the latency of an operation on operands of a width: that of the last row whose width isn't above it
abbrev pub latency_of : Table → Op → ℕ → Option ℕ
latency_of table op width = if is_free op then Some 0 else option_map (λ r. r.latency) (row_at (rows_at table op) width)

-- ---- what a JSON value says as a table

-- the rows under the name of an operation, where they are in range; none where the name is no key
abbrev pub rows_under : Op → Data → Option (List Row)
rows_under op d = option_map_or rows_of (get (name_of op) d) (Some [])

-- the members of an object in the byte order of their keys
abbrev pub pairs : Members → List (Name × Data)
pairs no_members = []
pairs (member k d ms) = (k, d) ∷ pairs ms

-- a member whose key names an operation, and whose value has the form of rows
abbrev pub is_entry : Name × Data → Bool
is_entry m = names_operation m.0 && are_pairs m.1

-- the first key in byte order of another member
abbrev pub other_key : Members → Option Name
other_key ms = option_map (λ m. m.0) (find (λ m. not (is_entry m)) (pairs ms))

-- the key under which a table isn't of its form, or `-` where it is no object
abbrev pub shape_fault : Data → Option Name
shape_fault d = option_map_or other_key (as_object d) (Some (codes "-"))

-- the first operation, in the byte order of names, whose rows aren't in range
abbrev pub range_fault : Data → Option Op
range_fault d = find (λ op. not (is_some (rows_under op d))) operations

-- the table has the rows that stand under each name, and nothing is faulty
pub record IsTable (d : Data) (table : Table) : Type 0 where
  pub rows : (op : Op) → is_free op ≡ false → rows_under op d ≡ Some (rows_at table op)
  pub shaped : shape_fault d ≡ None
  pub in_range : range_fault d ≡ None

-- what the JSON value says as a table, or its first fault
abbrev pub Says : Data → Result Table TableError → Type 0
Says d (Ok table) = IsTable d table
Says d (Err NotJson) = ⊥
Says d (Err (Shape key)) = shape_fault d ≡ Some key
Says d (Err (Range op)) = (shape_fault d ≡ None) × (range_fault d ≡ Some op)
Says d (Err NoMemory) = Unit {0}

-- ---- what a text says as a table

-- a text is JSON exactly where serde_json reads a value from it
abbrev pub IsJson : List ℕ → Data → Type 0
IsJson bytes d = IsUtf8 bytes × (read bytes ≡ Some d)

abbrev pub IsNoJson : List ℕ → Type 0
IsNoJson bytes = IsUtf8 bytes → read bytes ≡ None

abbrev pub Reads : List ℕ → Result Table TableError → Type 0
Reads bytes (Ok table) = (d : Data) × IsJson bytes d × Says d (Ok table)
Reads bytes (Err NotJson) = IsNoJson bytes
Reads bytes (Err (Shape key)) = (d : Data) × IsJson bytes d × Says d (Err (Shape key))
Reads bytes (Err (Range op)) = (d : Data) × IsJson bytes d × Says d (Err (Range op))
Reads bytes (Err NoMemory) = Unit {0}

-- ---- the steps of reading

-- the JSON value of the bytes
abbrev pub Parses : List ℕ → Result Value TableError → Type 0
Parses bytes (Ok value) = IsJson bytes (view value)
Parses bytes (Err NotJson) = IsNoJson bytes
Parses bytes (Err (Shape key)) = ⊥
Parses bytes (Err (Range op)) = ⊥
Parses bytes (Err NoMemory) = Unit {0}

-- a value of another form is refused under this key
abbrev pub IsShaped : Option Name → Result ⊤ TableError → Type 0
IsShaped fault (Ok t) = fault ≡ None
IsShaped fault (Err NotJson) = ⊥
IsShaped fault (Err (Shape key)) = fault ≡ Some key
IsShaped fault (Err (Range op)) = ⊥
IsShaped fault (Err NoMemory) = Unit {0}

-- the rows of an operation, which is refused where they aren't in range
abbrev pub IsEntry : Op → Data → Result Entry TableError → Type 0
IsEntry op d (Ok entry) = (entry.op ≡ op) × (rows_under op d ≡ Some entry.rows)
IsEntry op d (Err NotJson) = ⊥
IsEntry op d (Err (Shape key)) = ⊥
IsEntry op d (Err (Range fault)) = (fault ≡ op) × (rows_under op d ≡ None)
IsEntry op d (Err NoMemory) = Unit {0}

-- the rows of all operations, or the first that is refused
abbrev pub IsRanged : Data → Result Table TableError → Type 0
IsRanged d (Ok table) = ((op : Op) → is_free op ≡ false → rows_under op d ≡ Some (rows_at table op)) × (range_fault d ≡ None)
IsRanged d (Err NotJson) = ⊥
IsRanged d (Err (Shape key)) = ⊥
IsRanged d (Err (Range op)) = range_fault d ≡ Some op
IsRanged d (Err NoMemory) = Unit {0}
