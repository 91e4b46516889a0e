-- What a graph has received, and its room.
use Rattle.std.specs.Prelude.{◌≡◌, ◌≤◌, ◌<◌, ◌^◌, ℕ, ◌+◌, List, [], ◌∷◌, ◌++◌, length}
use Rattle.std.specs.Vec.{vec_capacity}
use Rattle.kernel_calls.specs.declared.call.Call.{Call}
use Rattle.kernel_calls.specs.declared.call.Call.TheVariants as C
use Rattle.kernel_calls.specs.Calls.{nodes_of}
use Rattle.stream_graph.specs.Counts.{bytes_of}
use Rattle.stream_graph.specs.Graphs.{calls_by}
use Rattle.stream_graph.specs.declared.graph.Graph.{Graph}

-- the calls that were received, in order
abbrev pub received : Graph → List Call
received g = calls_by g.bytes.items.items g.operands.items.items g.rows.items.items

-- the operands of an operation stand in a list of their own
abbrev pub args_of : Call → ℕ
args_of (C.Operation op mode amount args t) = length args
args_of _ = 0

-- the graph has room for the call
pub record HasSpace (g : Graph) (call : Call) : Type 0 where
  pub rows : length g.rows.items.items < vec_capacity g.rows.items
  pub made : g.made + nodes_of call < 2 ^ 32
  pub bytes : length g.bytes.items.items + bytes_of call ≤ vec_capacity g.bytes.items
  pub few_bytes : length g.bytes.items.items + bytes_of call < 2 ^ 32
  pub operands : length g.operands.items.items + args_of call ≤ vec_capacity g.operands.items
  pub few_operands : length g.operands.items.items + args_of call < 2 ^ 32

-- the call stands behind those before it, and takes of the room what it needs
pub record Receives (old : Graph) (call : Call) (new : Graph) : Type 0 where
  pub calls : received new ≡ received old ++ call ∷ []
  pub rows : length new.rows.items.items ≡ length old.rows.items.items + 1
  pub bytes : length new.bytes.items.items ≡ length old.bytes.items.items + bytes_of call
  pub operands : length new.operands.items.items ≡ length old.operands.items.items + args_of call
  pub made : new.made ≡ old.made + nodes_of call
  pub room_for_rows : vec_capacity old.rows.items ≤ vec_capacity new.rows.items
  pub room_for_bytes : vec_capacity old.bytes.items ≤ vec_capacity new.bytes.items
  pub room_for_operands : vec_capacity old.operands.items ≤ vec_capacity new.operands.items
