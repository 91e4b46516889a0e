-- The nets to which the ports of an instance are joined.
use Rattle.std.specs.Prelude.{◌≡◌, ℕ, suc, false, List, [], ◌∷◌, ◌++◌, length, map, Option, Some, None, slice_get}
use Rattle.rtl_ir.specs.declared.design.Module.{Module}
use Rattle.rtl_text.specs.Tree.{Name, Connection}
use Rattle.rtl_reading.specs.Uses.{Use, Scope, is_in, connection_uses, joined_uses}
use Rattle.verilog_read.specs.Tables.{number_of}
use Rattle.verilog_read.specs.Built.{IsJoinedTo}
use Rattle.verilog_read.specs.declared.fault.Fault.{Fault}
use Rattle.verilog_read.specs.declared.fault.Fault.TheVariants.{Unknown, NoMemory}

abbrev pub some_name : Name → Option Name
some_name name = Some name

abbrev pub port_number : List Name → Name → Option ℕ
port_number ports name = number_of (map some_name ports) name

abbrev pub named_ports : List Connection → List Name
named_ports cs = map (λ (c : Connection). c.port) cs

-- the net of the port with this number and name, if a connection has joined it
abbrev pub IsSlot : Module → List Name → List Connection → ℕ → Name → Option ℕ → Type 0
IsSlot m ports cs k name (Some n) = IsJoinedTo m cs name n × (port_number ports name ≡ Some k)
IsSlot m ports cs k name None = port_number ports name ≡ Some k → is_in name (named_ports cs) ≡ false

abbrev pub count_joined : List (Option ℕ) → ℕ
count_joined [] = 0
count_joined (Some n ∷ slots) = suc (count_joined slots)
count_joined (None ∷ slots) = count_joined slots

-- each connection has joined a port of its own
pub record AreJoined (m : Module) (ports : List Name) (cs : List Connection) (slots : List (Option ℕ)) : Type 0 where
  pub size : length slots ≡ length ports
  pub each : (k : ℕ) (name : Name) (slot : Option ℕ) → slice_get ports k ≡ Some name → slice_get slots k ≡ Some slot → IsSlot m ports cs k name slot
  pub count : count_joined slots ≡ length cs

-- the port of this name has the number k and isn't joined yet
pub record IsFree (ports : List Name) (slots : List (Option ℕ)) (name : Name) (k : ℕ) : Type 0 where
  pub number : port_number ports name ≡ Some k
  pub free : slice_get slots k ≡ Some None

-- there is no port of this name, or it is joined
abbrev pub IsTaken : List Name → List (Option ℕ) → Name → Type 0
IsTaken ports slots name = (k : ℕ) → port_number ports name ≡ Some k → slice_get slots k ≡ Some None → ⊥

-- the first port that isn't joined
pub record IsFirstFree (ports : List Name) (slots : List (Option ℕ)) (name : Name) : Type 0 where
  pub nets : List ℕ
  pub rest : List (Option ℕ)
  pub are : slots ≡ map (λ n. Some n) nets ++ None ∷ rest
  pub at : slice_get ports (length nets) ≡ Some name

abbrev pub IsMissing : List Name → List (Option ℕ) → Fault → Type 0
IsMissing ports slots (Unknown name) = IsFirstFree ports slots name.now
IsMissing ports slots NoMemory = Unit {0}

-- the fault names this name
abbrev pub Says : Fault → Name → Type 0
Says (Unknown other) name = other.now ≡ name
Says NoMemory name = ⊥

-- the uses of an instance behind that of its module
abbrev pub instance_uses : Scope → List Name → List Connection → List Use
instance_uses sc ports cs = connection_uses sc ports [] cs ++ joined_uses [] ports cs
