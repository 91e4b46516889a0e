-- What each kind of node is, and each call: the one page that the crates above ask.
use Rattle.std.specs.Prelude.{◌≡◌, ◌⊎◌, ℕ, Bool, true, false, nat_eq, ℤ, List, Option, Some, None, is_some, slice_get}
use Rattle.mx_bits.specs.declared.op.Op.{Op}
use Rattle.mx_bits.specs.declared.word.Word.{Word}
use Rattle.counter_chains.specs.declared.digits.CounterDigit.{CounterDigit}
use Rattle.fix_arith.specs.declared.types.StreamType.{StreamType}
use Rattle.fix_arith.specs.declared.types.RoundMode.{RoundMode}
use Rattle.kernel_calls.specs.declared.call.Call.{Call}
use Rattle.kernel_calls.specs.declared.call.Call.TheVariants as C
use Rattle.stream_graph.specs.declared.node.Kind.{Kind}
use Rattle.stream_graph.specs.declared.node.Kind.TheVariants as K
use Rattle.stream_graph.specs.declared.role.Role.{Role}
use Rattle.stream_graph.specs.declared.role.Role.TheVariants as R
use Rattle.stream_graph.specs.declared.role.PortSide.{PortSide}
use Rattle.stream_graph.specs.declared.role.PortSide.TheVariants as S

-- ---- what a node is in its kernel

abbrev pub role_of : Kind → Role
role_of K.Input = R.Given
role_of K.Output = R.ShowsAnother
role_of K.Scalar = R.Given
role_of (K.Constant word) = R.Constant
role_of (K.Operation op mode amount) = R.Wired
role_of (K.Offset ticks) = R.LooksAhead
role_of K.Feed = R.ShowsAnother
role_of K.Hold = R.KeepsState
role_of K.Counter = R.KeepsState
role_of K.Chain = R.KeepsState
role_of (K.Part place) = R.ShowsAnother

-- the kinds of a role
abbrev pub IsOfRole : Role → Kind → Type 0
IsOfRole R.Given kind = (kind ≡ K.Input) ⊎ (kind ≡ K.Scalar)
IsOfRole R.Constant kind = (word : Word) × (kind ≡ K.Constant word)
IsOfRole R.Wired kind = (op : Op) × (mode : RoundMode) × (amount : ℕ) × (kind ≡ K.Operation op mode amount)
IsOfRole R.LooksAhead kind = (ticks : ℤ) × (kind ≡ K.Offset ticks)
IsOfRole R.KeepsState kind = (kind ≡ K.Hold) ⊎ ((kind ≡ K.Counter) ⊎ (kind ≡ K.Chain))
IsOfRole R.ShowsAnother kind = (kind ≡ K.Output) ⊎ ((kind ≡ K.Feed) ⊎ ((place : ℕ) × (kind ≡ K.Part place)))

-- the words of such a node are one word in all ticks of a run
abbrev pub is_steady : Kind → Bool
is_steady (K.Constant word) = true
is_steady K.Scalar = true
is_steady _ = false

abbrev pub is_offset : Kind → Bool
is_offset (K.Offset ticks) = true
is_offset _ = false

-- a node of this kind keeps a state: a hold the word that was stored last, a counter its value, and a
-- chain those of all its counters
abbrev pub keeps_state : Kind → Bool
keeps_state K.Hold = true
keeps_state K.Counter = true
keeps_state K.Chain = true
keeps_state _ = false

-- a node of this kind counts by itself
abbrev pub counts : Kind → Bool
counts K.Counter = true
counts K.Chain = true
counts _ = false

-- other nodes may take its words as operands; an output and a chain are no streams
abbrev pub is_stream : Kind → Bool
is_stream K.Output = false
is_stream K.Chain = false
is_stream _ = true

-- the kinds whose words have the type of their first operand
abbrev pub is_like_first : Kind → Bool
is_like_first K.Output = true
is_like_first (K.Offset ticks) = true
is_like_first K.Feed = true
is_like_first K.Hold = true
is_like_first _ = false

abbrev pub is_feed : Kind → Bool
is_feed K.Feed = true
is_feed _ = false

abbrev pub is_chain : Kind → Bool
is_chain K.Chain = true
is_chain _ = false

-- ---- ports

abbrev pub side_of : Kind → Option PortSide
side_of K.Input = Some S.Input
side_of K.Output = Some S.Output
side_of K.Scalar = Some S.Scalar
side_of _ = None

abbrev pub is_input : Kind → Bool
is_input K.Input = true
is_input _ = false

abbrev pub is_output : Kind → Bool
is_output K.Output = true
is_output _ = false

abbrev pub is_scalar : Kind → Bool
is_scalar K.Scalar = true
is_scalar _ = false

-- whether a node of a kind is a port of a side
abbrev pub is_on : PortSide → Kind → Bool
is_on S.Input kind = is_input kind
is_on S.Output kind = is_output kind
is_on S.Scalar kind = is_scalar kind

-- the side of the port that a call makes
abbrev pub call_side : Call → Option PortSide
call_side (C.Input name t control) = Some S.Input
call_side (C.Output name value control t) = Some S.Output
call_side (C.Scalar name t) = Some S.Scalar
call_side _ = None

-- ---- operands

-- the place of the control of a port, or of the store of a hold, among its operands
abbrev pub control_place : Kind → Option ℕ
control_place K.Input = Some 0
control_place K.Output = Some 1
control_place K.Hold = Some 1
control_place _ = None

-- what stands at this place, if there is one
abbrev pub operand_in : Option ℕ → List ℕ → Option ℕ
operand_in None operands = None
operand_in (Some place) operands = slice_get operands place

-- the node of a port's control or of a hold's store, by the operands of a node of this kind
abbrev pub control_in : Kind → List ℕ → Option ℕ
control_in kind operands = operand_in (control_place kind) operands

abbrev pub is_place : Option ℕ → ℕ → Bool
is_place None place = false
is_place (Some own) place = nat_eq place own

-- a node of this kind has a control or a store, which is a bit, as its operand at this place
abbrev pub takes_bit : Kind → ℕ → Bool
takes_bit kind place = is_place (control_place kind) place

-- how many operands a node of a kernel has, where its kind says it
abbrev pub fixed_operands : Kind → Option ℕ
fixed_operands K.Input = None
fixed_operands K.Output = None
fixed_operands K.Scalar = Some 0
fixed_operands (K.Constant word) = Some 0
fixed_operands (K.Operation op mode amount) = None
fixed_operands (K.Offset ticks) = Some 1
fixed_operands K.Feed = Some 1
fixed_operands K.Hold = Some 2
fixed_operands K.Counter = Some 0
fixed_operands K.Chain = Some 0
fixed_operands (K.Part place) = Some 1

-- ---- the call that makes a node of a kind

abbrev pub IsCallOf : Kind → Call → Type 0
IsCallOf K.Input call = (name : List ℕ) × (t : StreamType) × (control : Option ℕ) × (call ≡ C.Input name t control)
IsCallOf K.Output call = (name : List ℕ) × (value : ℕ) × (control : Option ℕ) × (t : StreamType) ×
    (call ≡ C.Output name value control t)
IsCallOf K.Scalar call = (name : List ℕ) × (t : StreamType) × (call ≡ C.Scalar name t)
IsCallOf (K.Constant word) call = (t : StreamType) × (call ≡ C.Constant word.bits t)
IsCallOf (K.Operation op mode amount) call = (args : List ℕ) × (t : StreamType) ×
    (call ≡ C.Operation op mode amount args t)
IsCallOf (K.Offset ticks) call = (value : ℕ) × (t : StreamType) × (call ≡ C.Offset value ticks t)
IsCallOf K.Feed call = (t : StreamType) × (call ≡ C.Feed t)
IsCallOf K.Hold call = (value : ℕ) × (store : ℕ) × (t : StreamType) × (call ≡ C.Hold value store t)
IsCallOf K.Counter call = (d : CounterDigit) × (call ≡ C.Counter d)
IsCallOf K.Chain call = call ≡ C.Chain
IsCallOf (K.Part place) call = (chain : ℕ) × (d : CounterDigit) × (call ≡ C.ChainDigit chain d)
