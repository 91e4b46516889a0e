-- Which operands an expression has, and what is done with their values.
use Rattle.std.specs.Prelude.{
  ◌==◌,
  ◌&&◌,
  ◌||◌,
  ℕ,
  zero,
  suc,
  nat_le,
  nat_lt,
  List,
  [],
  ◌++◌,
  length,
  Bool,
  true,
  false,
  Option,
  Some,
  None,
  Result,
  Ok,
  Err,
  codes,
  if◌then◌else◌,
}
use Rattle.std.specs.Str.{bytes_eq}
use Rattle.fix_arith.specs.declared.types.RoundMode.TheVariants.{ToNearEven, Truncate, ToNear}
use Rattle.fix_arith.specs.declared.types.StreamType.TheVariants as T
use Rattle.maxj_syntax.specs.Tree.{Tree, Node, Trees, Nil, Cons}
use Rattle.maxj_syntax.specs.declared.tree.NodeKind.{NodeKind}
use Rattle.maxj_syntax.specs.declared.tree.NodeKind.TheVariants as N
use Rattle.kernel_meaning.specs.declared.row.Sign.{Sign}
use Rattle.kernel_meaning.specs.declared.error.EvalError.{EvalError}
use Rattle.kernel_meaning.specs.declared.row.Row.{Row}
use Rattle.kernel_meaning.specs.declared.value.Value.{Value}
use Rattle.kernel_meaning.specs.declared.state.State.{State}
use Rattle.kernel_meaning.specs.declared.state.Binding.{Binding}
use Rattle.kernel_meaning.specs.declared.value.Declared.{Declared}
use Rattle.kernel_meaning.specs.declared.error.EvalError.TheVariants as E
use Rattle.kernel_meaning.specs.declared.row.Row.TheVariants as R
use Rattle.kernel_meaning.specs.declared.value.Value.TheVariants as V
use Rattle.kernel_meaning.specs.Names.{variable, path_of, root_word, root_place, is_root, is_this}
use Rattle.kernel_meaning.specs.Values.{declared_by, whole_of, decimal_of, quoted}
use Rattle.kernel_meaning.specs.Signs.{sign_of}

-- the calls that a constructor may use: those of a kernel, or those of a manager, which adds
-- kernels
-- by the names of their classes; each class of a kernel has a number
pub data Library : Type 0 where
  OfKernel : Library
  OfManager : (List ℕ → Option ℕ) → Library

-- what a call may name: the library, and the methods of the own class with the number of their
-- parameters
pub record Scope : Type 0 where
  pub library : Library
  pub methods : List ℕ → Option ℕ

-- a refusal before any operand is evaluated, or the operands: the parts from a place on, so many of
-- them; or the kernel that a manager adds
pub data OperandPlan : Type 0 where
  Fault : EvalError → OperandPlan
  Reads : Row → ℕ → ℕ → OperandPlan
  AddsKernel : OperandPlan

abbrev pub number_of_trees : Trees → ℕ
number_of_trees Nil = 0
number_of_trees (Cons tree trees) = suc (number_of_trees trees)

abbrev pub unknown : ℕ → OperandPlan
unknown at = Fault (E.UnknownName at)

-- the plan, where the number of arguments is right
abbrev pub takes : Bool → ℕ → OperandPlan → OperandPlan
takes true at plan = plan
takes false at plan = unknown at

abbrev pub binary_plan : ℕ → Option Sign → OperandPlan
binary_plan at None = Fault (E.WrongKind at)
binary_plan at (Some sign) = Reads (R.Binary sign) 0 2

-- `-2147483648`, whose digits are no number of their own
abbrev pub is_least : List ℕ → Trees → Bool
is_least sign (Cons (Node N.Whole word span trees) Nil) =
    bytes_eq sign (codes "-") && bytes_eq word (codes "2147483648")
is_least sign _ = false

abbrev pub prefix_row : List ℕ → Row
prefix_row word = if bytes_eq word (codes "-") then R.Negate
    else (if bytes_eq word (codes "~") then R.Complement else R.Not)

abbrev pub prefix_plan : List ℕ → Trees → OperandPlan
prefix_plan word trees = if is_least word trees then Reads R.LeastInt 0 1
    else Reads (prefix_row word) 0 1

abbrev pub value_plan : ℕ → Value → OperandPlan
value_plan at V.Nothing = Fault (E.Unset at)
value_plan at value = Reads (R.Gives value) 0 0

-- the value of a variable that is read
abbrev pub read_plan : ℕ → Option Binding → OperandPlan
read_plan at None = unknown at
read_plan at (Some b) = value_plan at b.value

abbrev pub name_plan : State → List ℕ → ℕ → OperandPlan
name_plan state word at =
    if bytes_eq word (codes "true") then Reads (R.Gives (V.Flag true)) 0 0 else
    (if bytes_eq word (codes "false") then Reads (R.Gives (V.Flag false)) 0 0
    else read_plan at (variable word state))

abbrev pub text_plan : List ℕ → ℕ → OperandPlan
text_plan text at = if nat_le (length text) 64 then Reads (R.Gives (V.Str text)) 0 0
    else Fault (E.TextTooLong at)

abbrev pub array_plan : Result Declared ℕ → ℕ → OperandPlan
array_plan (Err at) count = unknown at
array_plan (Ok of) count = Reads (R.NewArray of) 1 count

-- the tree of a place
abbrev pub part : Trees → ℕ → Option Tree
part Nil place = None
part (Cons tree trees) zero = Some tree
part (Cons tree trees) (suc place) = part trees place

-- the path that a tree is, or nothing
abbrev pub path_at : State → Option Tree → List ℕ
path_at state None = []
path_at state (Some tree) = elim (path_of state tree) [ None ↦ [] | Some path ↦ path ]

-- a signed or unsigned type, or none
abbrev pub fix_plan : List ℕ → OperandPlan
fix_plan path =
    if bytes_eq path (codes "SignMode.TWOSCOMPLEMENT") then Reads (R.FixType true) 0 2 else
    (if bytes_eq path (codes "SignMode.UNSIGNED") then Reads (R.FixType false) 0 2
    else Reads R.WrongArguments 0 3)

abbrev pub push_plan : List ℕ → OperandPlan
push_plan path =
    if bytes_eq path (codes "RoundingMode.TRUNCATE") then Reads (R.PushRounding Truncate) 1 0 else
    (if bytes_eq path (codes "RoundingMode.TONEAR") then Reads (R.PushRounding ToNear) 1 0 else
    (if bytes_eq path (codes "RoundingMode.TONEAREVEN") then Reads (R.PushRounding ToNearEven) 1 0
    else Reads R.WrongArguments 1 1))

-- a call that gives a type: its name, so many arguments, and the path that the third one is
abbrev pub type_plan : List ℕ → ℕ → ℕ → List ℕ → OperandPlan
type_plan word at count sign =
    if bytes_eq word (codes "dfeUInt") then takes (count == 1) at (Reads R.UIntType 0 1) else
    (if bytes_eq word (codes "dfeInt") then takes (count == 1) at (Reads R.IntType 0 1) else
    (if bytes_eq word (codes "dfeBool")
    then takes (count == 0) at (Reads (R.Gives (V.«Type» T.Bool)) 0 0) else
    (if bytes_eq word (codes "dfeFix")
    then takes (count == 3) at (fix_plan sign) else unknown at)))

-- the part is a new object
abbrev pub is_new : Option Tree → Bool
is_new (Some (Node N.New word span trees)) = true
is_new _ = false

-- a new object is added, and nothing else
abbrev pub added_plan : Bool → OperandPlan
added_plan true = AddsKernel
added_plan false = Reads R.WrongArguments 0 1

-- a call of a manager's library by its name alone: so many arguments, the path that the third one
-- is, and whether the first one is a new object
abbrev pub manager_plan : List ℕ → ℕ → ℕ → List ℕ → Bool → OperandPlan
manager_plan word at count sign adds =
    if bytes_eq word (codes "addKernel") then takes (count == 1) at (added_plan adds) else
    (if bytes_eq word (codes "addStreamFromCPU")
    then takes (count == 1) at (Reads R.StreamFromCpu 0 1) else
    (if bytes_eq word (codes "addStreamToCPU")
    then takes (count == 1) at (Reads R.StreamToCpu 0 1) else
    type_plan word at count sign))

abbrev pub named_plan : Library → State → List ℕ → ℕ → ℕ → Trees → OperandPlan
named_plan OfKernel state word at count trees =
    type_plan word at count (path_at state (part trees 2))
named_plan (OfManager kernels) state word at count trees =
    manager_plan word at count (path_at state (part trees 2)) (is_new (part trees 0))

-- a call: of a method of the own class with so many parameters, or of the library
abbrev pub call_plan : Library → State → List ℕ → ℕ → ℕ → Trees → Option ℕ → OperandPlan
call_plan library state word at count trees (Some params) =
    takes (params == count) at (Reads (R.OwnMethod word) 0 count)
call_plan library state word at count trees None = named_plan library state word at count trees

-- a call of the library by its path: so many arguments stand behind the base, and the first one is
-- this path, or none
abbrev pub library_plan : List ℕ → ℕ → ℕ → List ℕ → OperandPlan
library_plan path at count mode =
    if bytes_eq path (codes "io.input")
    then takes (count == 2 || count == 3) at (Reads R.Input 1 count) else
    (if bytes_eq path (codes "io.output")
    then takes (count == 3 || count == 4) at (Reads R.Output 1 count) else
    (if bytes_eq path (codes "io.scalarInput") then takes (count == 2) at (Reads R.ScalarInput 1 2)
    else
    (if bytes_eq path (codes "constant.var") then takes (count == 2) at (Reads R.ConstantVar 1 2)
    else
    (if bytes_eq path (codes "stream.offset") then takes (count == 2) at (Reads R.Offset 1 2) else
    (if bytes_eq path (codes "control.mux") then takes (nat_lt 0 count) at (Reads R.Mux 1 count)
    else
    (if bytes_eq path (codes "control.count.simpleCounter")
    then takes (count == 1 || count == 2) at (Reads R.SimpleCounter 1 count) else
    (if bytes_eq path (codes "control.count.makeCounterChain")
    then takes (count == 0) at (Reads R.MakeCounterChain 1 0) else
    (if bytes_eq path (codes "Reductions.streamHold")
    then takes (count == 2) at (Reads R.StreamHold 1 2) else
    (if bytes_eq path (codes "optimization.pushRoundingMode")
    then takes (count == 1) at (push_plan mode) else
    (if bytes_eq path (codes "optimization.popRoundingMode")
    then takes (count == 0) at (Reads R.PopRounding 1 0) else unknown at))))))))))

-- the part is `this`
abbrev pub is_this_part : Option Tree → Bool
is_this_part None = false
is_this_part (Some tree) = is_this tree

abbrev pub feed_plan : Bool → OperandPlan
feed_plan true = Reads R.NewInstance 0 1
feed_plan false = Reads R.WrongArguments 0 2

-- a method of a value in a kernel: so many arguments, and whether the first one is `this`
abbrev pub stream_method_plan : List ℕ → ℕ → ℕ → Bool → OperandPlan
stream_method_plan word at count own =
    if bytes_eq word (codes "newInstance") then takes (count == 1) at (feed_plan own)
    else
    (if bytes_eq word (codes "cast") then takes (count == 1) at (Reads R.Cast 0 2) else
    (if bytes_eq word (codes "addCounter") then takes (count == 2) at (Reads R.AddCounter 0 3)
    else unknown at))

-- a method of a kernel in a manager
abbrev pub block_method_plan : List ℕ → ℕ → ℕ → OperandPlan
block_method_plan word at count =
    if bytes_eq word (codes "getInput") then takes (count == 1) at (Reads R.KernelInput 0 2) else
    (if bytes_eq word (codes "getOutput") then takes (count == 1) at (Reads R.KernelOutput 0 2)
    else unknown at)

-- a method of a value
abbrev pub method_plan : Library → List ℕ → ℕ → ℕ → Trees → OperandPlan
method_plan OfKernel word at count trees =
    stream_method_plan word at count (is_this_part (part trees 1))
method_plan (OfManager kernels) word at count trees = block_method_plan word at count

-- a call by a path: the paths are those of kernels
abbrev pub path_plan : Library → State → List ℕ → ℕ → ℕ → Trees → OperandPlan
path_plan OfKernel state path at count trees =
    library_plan path at count (path_at state (part trees 1))
path_plan (OfManager kernels) state path at count trees = unknown at

-- a call behind a dot: of a path, or a method of a value
abbrev pub dotted_plan :
    Library → State → List ℕ → ℕ → ℕ → Tree → Trees → Option (List ℕ) → OperandPlan
dotted_plan library state word at count base trees None = method_plan library word at count trees
dotted_plan library state word at count base trees (Some path) =
    if is_root (root_word base)
    then path_plan library state (path ++ codes "." ++ word) at count trees
    else unknown (root_place base)

-- the plan of an expression that is evaluated: its kind, its word, its place, and its parts
unfoldable pub plan_of : Scope → State → NodeKind → List ℕ → ℕ → Trees → OperandPlan
plan_of scope state N.Whole word at trees = Reads (R.Gives (whole_of word)) 0 0
plan_of scope state N.Decimal word at trees = Reads (R.Gives (decimal_of word)) 0 0
plan_of scope state N.Str word at trees = text_plan (quoted word) at
plan_of scope state N.Name word at trees = name_plan state word at
plan_of scope state N.Binary word at trees = binary_plan at (sign_of word)
plan_of scope state N.Prefix word at trees = prefix_plan word trees
plan_of scope state N.Dot word at trees = if bytes_eq word (codes "length") then Reads R.Length 0 1
    else unknown at
plan_of scope state N.DotCall word at (Cons base trees) =
    dotted_plan scope.library state word at (number_of_trees trees) base (Cons base trees)
    (path_of state base)
plan_of scope state N.Call word at trees =
    call_plan scope.library state word at (number_of_trees trees) trees (scope.methods word)
plan_of scope state N.Index word at trees = Reads R.Element 0 2
plan_of scope state N.New word at trees = unknown at
plan_of scope state N.NewArray word at (Cons of trees) =
    array_plan (declared_by of) (number_of_trees trees)
plan_of scope state N.Connect word at trees = Reads R.Connect 0 2
plan_of scope state _ word at trees = Fault (E.WrongKind at)
