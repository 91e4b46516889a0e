-- The calls that a graph has received.
use Rattle.std.specs.Prelude.{◌≡◌, ℕ, ◌+◌, Bool, true, nat_le, List, [], ◌∷◌, take, drop}
use Rattle.std.specs.List.{list_all}
use Rattle.kernel_calls.specs.declared.call.Call.{Call}
use Rattle.kernel_calls.specs.declared.call.Call.TheVariants as C
use Rattle.stream_graph.specs.declared.row.Piece.{Piece}
use Rattle.stream_graph.specs.declared.row.Row.{Row}
use Rattle.stream_graph.specs.declared.row.Row.TheVariants as R

abbrev pub piece : List ℕ → Piece → List ℕ
piece xs p = take p.len (drop p.from xs)

-- the call that a row says
abbrev pub call_by : List ℕ → List ℕ → Row → Call
call_by bytes operands (R.Input name t control) = C.Input (piece bytes name) t control
call_by bytes operands (R.Output name value control t) = C.Output (piece bytes name) value control t
call_by bytes operands (R.Scalar name t) = C.Scalar (piece bytes name) t
call_by bytes operands (R.Constant bits t) = C.Constant bits t
call_by bytes operands (R.Operation op mode amount args t) = C.Operation op mode amount (piece operands args) t
call_by bytes operands (R.Offset value k t) = C.Offset value k t
call_by bytes operands (R.Feed t) = C.Feed t
call_by bytes operands (R.Connect feed value) = C.Connect feed value
call_by bytes operands (R.Hold value store t) = C.Hold value store t
call_by bytes operands (R.Counter d) = C.Counter d
call_by bytes operands R.Chain = C.Chain
call_by bytes operands (R.ChainDigit chain d) = C.ChainDigit chain d

abbrev pub calls_by : List ℕ → List ℕ → List Row → List Call
calls_by bytes operands [] = []
calls_by bytes operands (row ∷ rows) = call_by bytes operands row ∷ calls_by bytes operands rows

-- the piece ends within so many items
abbrev pub ends_by : ℕ → Piece → Bool
ends_by count p = nat_le (p.from + p.len) count

abbrev pub is_within : ℕ → ℕ → Row → Bool
is_within bytes operands (R.Input name t control) = ends_by bytes name
is_within bytes operands (R.Output name value control t) = ends_by bytes name
is_within bytes operands (R.Scalar name t) = ends_by bytes name
is_within bytes operands (R.Operation op mode amount args t) = ends_by operands args
is_within bytes operands _ = true

abbrev pub IsWithin : ℕ → ℕ → Row → Type 0
IsWithin bytes operands row = is_within bytes operands row ≡ true

-- each row's piece stands in its list
abbrev pub AreWithin : ℕ → ℕ → List Row → Type 0
AreWithin bytes operands rows = list_all (is_within bytes operands) rows ≡ true

-- how many nodes a row makes
abbrev pub nodes_by : Row → ℕ
nodes_by (R.Connect feed value) = 0
nodes_by _ = 1

abbrev pub nodes_in : List Row → ℕ
nodes_in [] = 0
nodes_in (row ∷ rows) = nodes_in rows + nodes_by row
