-- The ways that a run takes: tests, choices, loops, variables and elements.
use Rattle.std.specs.Prelude.{
  ℕ,
  ◌-◌,
  zero,
  suc,
  nat_le,
  List,
  [],
  ◌∷◌,
  ◌++◌,
  length,
  Bool,
  true,
  false,
  Option,
  Some,
  None,
  Result,
  Ok,
  Err,
  codes,
  if◌then◌else◌,
  is_some,
  not,
  pos,
  negsuc,
  nat_lt,
  take,
}
use Rattle.std.specs.Str.{bytes_eq}
use Rattle.std.specs.Option.{option_map}
use Rattle.maxj_syntax.specs.Tree.{Tree, Node}
use Rattle.maxj_syntax.specs.declared.tree.NodeKind.{NodeKind}
use Rattle.maxj_syntax.specs.declared.tree.NodeKind.TheVariants as N
use Rattle.kernel_meaning.specs.declared.row.Sign.{Sign}
use Rattle.kernel_meaning.specs.declared.value.Base.{Base}
use Rattle.kernel_meaning.specs.declared.row.Row.{Row}
use Rattle.kernel_meaning.specs.declared.value.Spot.TheVariants.{Variable, Field, Element}
use Rattle.kernel_meaning.specs.declared.value.Value.{Value}
use Rattle.kernel_meaning.specs.declared.value.Spot.{Spot}
use Rattle.kernel_meaning.specs.declared.state.State.{State}
use Rattle.kernel_meaning.specs.declared.value.Declared.{Declared}
use Rattle.kernel_meaning.specs.declared.error.EvalError.TheVariants as E
use Rattle.kernel_meaning.specs.declared.value.Value.TheVariants as V
use Rattle.kernel_meaning.specs.Names.{bound_in, variable, declared}
use Rattle.kernel_meaning.specs.Plans.{OperandPlan, Fault, Reads, AddsKernel}
use Rattle.kernel_meaning.specs.Places.{bound_at}
use Rattle.kernel_meaning.specs.Arrays.{array_of, with_content}
use Rattle.kernel_meaning.specs.Answer.{Answer, Refused, Then, Next, Outcome, Fails, chosen, needs}
use Rattle.kernel_meaning.specs.SignRows.{between}
use Rattle.kernel_meaning.specs.StreamRows.{choose}
use Rattle.kernel_meaning.specs.Values.{has_kind}
use Rattle.kernel_meaning.specs.Signs.{sign_of}

-- a branch that the host chose has its value
abbrev pub picked : ℕ → Value → State → Then → Answer
picked at V.Nothing state next = Refused (E.Unset at)
picked at (V.Literal negative digits tens) state next = Refused (E.WrongKind at)
picked at value state next = next value state

-- a condition of `?:`: of the host, or a stream
abbrev pub parted : ℕ → Value → State → Next → Next → (Value → Next) → Answer
parted at V.Nothing state first_way second_way stream = Refused (E.Unset at)
parted at (V.Flag true) state first_way second_way stream = first_way state
parted at (V.Flag false) state first_way second_way stream = second_way state
parted at (V.Stream n t feed) state first_way second_way stream = stream (V.Stream n t feed) state
parted at _ state first_way second_way stream = Refused (E.WrongKind at)

-- the first operand of `&&` or `||` decides, or the second one does
abbrev pub first_decides : Bool → ℕ → Value → State → Then → Next → Answer
first_decides true at (V.Flag true) state next second = next (V.Flag true) state
first_decides true at (V.Flag false) state next second = second state
first_decides false at (V.Flag true) state next second = second state
first_decides false at (V.Flag false) state next second = next (V.Flag false) state
first_decides either at V.Nothing state next second = Refused (E.Unset at)
first_decides either at _ state next second = Refused (E.WrongKind at)

abbrev pub flag_alone : ℕ → Value → State → Then → Answer
flag_alone at (V.Flag b) state next = next (V.Flag b) state
flag_alone at V.Nothing state next = Refused (E.Unset at)
flag_alone at _ state next = Refused (E.WrongKind at)

-- at most so many turns of a loop: each counts a step, so that more turns than steps are left never
-- come
unfoldable pub turns : (State → Then → Answer) → (State → Next → Answer) → ℕ → ℕ → State → Next
    → Answer
turns condition body at zero state next = Refused E.StepLimit
turns condition body at (suc more) state next =
    condition state (λ value state. chosen at value state
    (λ state. body state (λ state. turns condition body at more state next)) next)

-- the value is given to a variable or element of this type, for the production at a place
abbrev pub stored : ℕ → Declared → Spot → Value → State → Next → Answer
stored at of spot value state next =
    needs (has_kind of value) (E.WrongKind at) state (λ state. next (with_content spot value state))

abbrev pub type_at : Spot → State → Option Declared
type_at (Element n place of) state = Some of
type_at (Variable name) state = option_map (λ b. b.of) (variable name state)
type_at (Field place) state = option_map (λ b. b.of) (bound_at place state.fields)

abbrev pub stored_at : ℕ → Option Declared → Spot → Value → State → Next → Answer
stored_at at None spot value state next = Refused (E.UnknownName at)
stored_at at (Some of) spot value state next = stored at of spot value state next

-- a spot gets a value of its type
abbrev pub put : ℕ → Spot → Value → State → Next → Answer
put at spot value state next = stored_at at (type_at spot state) spot value state next

-- the first byte of a sign, which is itself one
abbrev pub first_byte : List ℕ → List ℕ
first_byte sign = take 1 sign

abbrev pub combined_by : Option Sign → ℕ → Value → Value → State → Outcome
combined_by None at old value state = Fails (E.WrongKind at)
combined_by (Some sign) at old value state = between sign at old value state

-- the sign of a compound assignment between the old value and the new one
abbrev pub combined : List ℕ → ℕ → Value → Value → State → Outcome
combined sign at old value state = combined_by (sign_of (first_byte sign)) at old value state

-- a number is changed by one
abbrev pub stepped : List ℕ → ℕ → Value → State → Outcome
stepped sign at (V.Int n) state = combined sign at (V.Int n) (V.Int (pos 1)) state
stepped sign at _ state = Fails (E.WrongKind at)

-- the element of an array's spot
abbrev pub spot_in : ℕ → Value → Value → State → (Spot → Next) → Answer
spot_in at (V.Array n of) (V.Int (pos place)) state next =
    needs (nat_lt place (length (array_of state.arrays n))) (E.ArrayRange at) state
    (next (Element n place of))
spot_in at (V.Array n of) (V.Int (negsuc place)) state next = Refused (E.ArrayRange at)
spot_in at array index state next = Refused (E.WrongKind at)

-- a new variable of this type
abbrev pub introduced : ℕ → List ℕ → Result Declared ℕ → State → (Declared → Next) → Answer
introduced at name (Err place) state next = Refused (E.UnknownName place)
introduced at name (Ok of) state next =
    needs (not (is_some (bound_in name state.variables))) (E.NameTwice at) state
    (λ state. next of (record state { variables = declared name of state.variables }))

-- `return` with a value: it is of the type that is wanted
abbrev pub given_back : ℕ → Option Declared → Value → State → Then → Answer
given_back at None value state back = Refused (E.WrongKind at)
given_back at (Some of) value state back =
    needs (has_kind of value) (E.WrongKind at) state (back value)

-- the type of the elements of an array's type
abbrev pub lowered : Base → ℕ → Option Declared
lowered base zero = None
lowered base (suc rank) = Some (record { base = base; rank = rank })

abbrev pub element_type : Declared → Option Declared
element_type of = lowered of.base of.rank

abbrev pub is_absent : Tree → Bool
is_absent (Node N.Empty word span trees) = true
is_absent (Node _ word span trees) = false

-- how an expression is evaluated: a choice by a condition, `&&` or `||`, or all operands first
pub data Form : Type 0 where
  Choice : Form
  Short : Bool → Form
  All_operands : Form

abbrev pub form_of : NodeKind → List ℕ → Form
form_of N.Cond word = Choice
form_of N.Binary word = if bytes_eq word (codes "||") then Short true
    else (if bytes_eq word (codes "&&") then Short false else All_operands)
form_of _ word = All_operands

-- the array that braces make has these elements
abbrev pub braced : Declared → List Value → State → Then → Answer
braced of values state next = next (V.Array (length state.arrays) of)
    (record state { arrays = state.arrays ++ values ∷ [] })

-- so many steps more are counted
abbrev pub counted_all : ℕ → State → Next → Answer
counted_all count state next = needs (nat_le count state.left) E.StepLimit state
    (λ state. next (record state { left = state.left - count }))

-- braces with so many elements stand for an array of this type: one step for each element
abbrev pub braces_by : ℕ → Option Declared → ℕ → State → (Declared → Next) → Answer
braces_by at None count state next = Refused (E.WrongKind at)
braces_by at (Some inner) count state next =
    needs (nat_le count 65536) (E.ArrayRange at) state
    (λ state. counted_all count state (next inner))

abbrev pub braces : ℕ → Declared → ℕ → State → (Declared → Next) → Answer
braces at of count state next = braces_by at (element_type of) count state next

abbrev pub formed : Form → State → Next → (Bool → Next) → Next → Answer
formed Choice state choose shorten all = choose state
formed (Short either) state choose shorten all = shorten either state
formed All_operands state choose shorten all = all state

abbrev pub planned : OperandPlan → State → (Row → ℕ → ℕ → Next) → Next → Answer
planned (Fault e) state next add = Refused e
planned (Reads row from count) state next add = next row from count state
planned AddsKernel state next add = add state

-- a type, or a name that is none
abbrev pub typed : Result Declared ℕ → State → (Declared → Next) → Answer
typed (Err at) state next = Refused (E.UnknownName at)
typed (Ok of) state next = next of state
