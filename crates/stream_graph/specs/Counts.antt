-- What calls make, counted.
use Rattle.std.specs.Prelude.{◌≡◌, ◌<◌, ◌^◌, ℕ, ◌+◌, zero, suc, min, List, length, Option, Some, None}
use Rattle.kernel_calls.specs.declared.call.Call.{Call}
use Rattle.kernel_calls.specs.declared.call.Call.TheVariants as C
use Rattle.stream_graph.specs.declared.tally.Tally.{Tally}
use Rattle.kernel_calls.specs.Calls.{nodes_of, count_of}

abbrev pub one_where : Option ℕ → ℕ
one_where None = 0
one_where (Some n) = 1

-- how many operands a call hands over; a connection gives its feed one
abbrev pub operands_of : Call → ℕ
operands_of (C.Input name t control) = one_where control
operands_of (C.Output name value control t) = 1 + one_where control
operands_of (C.Operation op mode amount args t) = length args
operands_of (C.Offset value k t) = 1
operands_of (C.Connect feed value) = 1
operands_of (C.Hold value store t) = 2
operands_of (C.ChainDigit chain d) = 1
operands_of _ = 0

-- the bytes of a port's name
abbrev pub bytes_of : Call → ℕ
bytes_of (C.Input name t control) = length name
bytes_of (C.Output name value control t) = length name
bytes_of (C.Scalar name t) = length name
bytes_of _ = 0

abbrev pub digits_of : Call → ℕ
digits_of (C.Counter d) = 1
digits_of (C.ChainDigit chain d) = 1
digits_of _ = 0

abbrev pub connections_of : Call → ℕ
connections_of (C.Connect feed value) = 1
connections_of _ = 0

-- the last value of a count
abbrev pub most : ℕ
most = 4294967295

-- a count that rises by so much, and stays at its last value once it stands there
abbrev pub raised : ℕ → ℕ → ℕ
raised count zero = count
raised count (suc more) = min (count + suc more) most

-- the nodes rise by what the call makes, and so do the other counts up to their last value
pub record Counted (old : Tally) (call : Call) (new : Tally) : Type 0 where
  pub nodes : new.nodes ≡ old.nodes + nodes_of call
  pub operands : new.operands ≡ raised old.operands (operands_of call)
  pub bytes : new.bytes ≡ raised old.bytes (bytes_of call)
  pub digits : new.digits ≡ raised old.digits (digits_of call)
  pub connections : new.connections ≡ raised old.connections (connections_of call)

-- the nodes stay below 2^32
abbrev pub HasPlace : Tally → Call → Type 0
HasPlace old call = old.nodes + nodes_of call < 2 ^ 32

-- beside the nodes that a tally has counted, the calls make fewer than 2^32
abbrev pub AreFew : Tally → List Call → Type 0
AreFew t calls = t.nodes + count_of calls < 2 ^ 32

-- a tally just made
abbrev pub empty : Tally
empty = record { nodes = 0; operands = 0; bytes = 0; digits = 0; connections = 0 }

-- no count of what takes room stands at its last value
pub record IsBelow (t : Tally) : Type 0 where
  pub operands : t.operands < most
  pub bytes : t.bytes < most
  pub connections : t.connections < most
