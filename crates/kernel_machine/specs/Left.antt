-- What is left of the productions of a building run.
use Rattle.std.specs.Prelude.{
  ◌==◌,
  ℕ,
  zero,
  suc,
  List,
  [],
  ◌∷◌,
  ◌++◌,
  length,
  true,
  Option,
  Some,
  None,
  codes,
}
use Rattle.std.specs.Str.{bytes_eq}
use Rattle.maxj_syntax.specs.Cells.{Cell}
use Rattle.maxj_syntax.specs.Tree.{Tree, Node, Trees, Nil, Cons}
use Rattle.maxj_syntax.specs.declared.tree.NodeKind.TheVariants as N
use Rattle.kernel_meaning.specs.declared.error.EvalError.TheVariants as E
use Rattle.kernel_meaning.specs.declared.row.Row.TheVariants as R
use Rattle.kernel_meaning.specs.declared.state.Binding.{Binding}
use Rattle.kernel_meaning.specs.declared.state.State.{State}
use Rattle.kernel_meaning.specs.declared.value.Declared.{Declared}
use Rattle.kernel_meaning.specs.declared.value.Spot.{Spot}
use Rattle.kernel_meaning.specs.declared.value.Value.{Value}
use Rattle.kernel_meaning.specs.declared.value.Value.TheVariants as V
use Rattle.kernel_meaning.specs.Arrays.{content, with_content}
use Rattle.kernel_meaning.specs.Answer.{
  Answer,
  Refused,
  Then,
  Next,
  does,
  used,
  chosen,
  counted,
  decided,
  needs,
  leave,
}
use Rattle.kernel_meaning.specs.Constructors.{set_fields}
use Rattle.kernel_meaning.specs.ManagerRows.{kernel_added}
use Rattle.kernel_meaning.specs.Names.{place_of}
use Rattle.kernel_meaning.specs.Plans.{number_of_trees, plan_of}
use Rattle.kernel_meaning.specs.Rows.{row_of}
use Rattle.kernel_meaning.specs.Run.{
  Place,
  scope_of,
  addition,
  classed,
  is_settings,
  operate,
  named,
  expr,
  operands,
  exec,
  inits,
  block_of,
}
use Rattle.kernel_meaning.specs.Values.{has_kind}
use Rattle.kernel_meaning.specs.Ways.{
  picked,
  parted,
  turns,
  planned,
  put,
  combined,
  stepped,
  spot_in,
  braced,
  braces,
}
use Rattle.kernel_plans.specs.Trees.{tree_of}
use Rattle.kernel_plans.specs.Classes.{ClassView, members}
use Rattle.kernel_machine.specs.declared.task.Purpose.{Purpose}
use Rattle.kernel_machine.specs.declared.task.Purpose.TheVariants as P
use Rattle.kernel_machine.specs.declared.task.Loop.{Loop}
use Rattle.kernel_machine.specs.declared.task.Condition.{Condition}
use Rattle.kernel_machine.specs.declared.task.Condition.TheVariants as C

-- the parts of a tree, and those from a place on
abbrev pub parts : Tree → Trees
parts (Node kind word span trees) = trees

abbrev pub from_place : ℕ → Trees → Trees
from_place zero trees = trees
from_place (suc place) Nil = Nil
from_place (suc place) (Cons tree trees) = from_place place trees

-- what is done with operands once all have values
abbrev pub added : ℕ → ℕ → List ℕ → List Value → State → Then → Answer
added at class name values state next = does (kernel_added at name class values state) next

abbrev pub without_first : Trees → ℕ
without_first Nil = 0
without_first (Cons tree trees) = number_of_trees trees

abbrev pub with_name : Place → Tree → ℕ → List ℕ → State → Then → Answer
with_name here new class name state next =
    operands here (place_of new) 1 (without_first (parts new)) (parts new) [] state
    (λ values state. added (place_of new) class name values state next)

abbrev pub finish : List Cell → Place → Purpose → ℕ → List Value → State → Then → Answer
finish cells here (P.ForRow row) at values state next = operate here row at values state next
finish cells here (P.ForKernelName node class) at values state next =
    named at values state (λ name state. with_name here (tree_of cells node) class name state next)
finish cells here (P.ForKernel class name) at values state next =
    added at class name values state next

-- an expression by its plan, once its step is counted
abbrev pub planned_at : Place → Tree → State → Then → Answer
planned_at here (Node kind word span trees) state next =
    planned (plan_of (scope_of here) state kind word span.from trees) state
    (λ row from count state. operands here span.from from count trees [] state
    (λ values state. operate here row span.from values state next))
    (λ state. addition here span.from trees state next)

-- a kernel that a manager adds: its class, its name, and then its arguments
abbrev pub wrong_at : Place → ℕ → Trees → State → Then → Answer
wrong_at here at trees state next =
    operands here at 0 (number_of_trees trees) trees [] state
    (λ values state. Refused (E.WrongKind at))

abbrev pub named_by : Place → Tree → ℕ → ℕ → Trees → State → Then → Answer
named_by here new class at names state next =
    counted state (λ state. needs (number_of_trees names == 1) (E.UnknownName at) state
    (λ state. operands here at 0 1 names [] state
    (λ found state. named at found state
    (λ name state. with_name here new class name state next))))

abbrev pub settings_at : Place → Tree → ℕ → Tree → State → Then → Answer
settings_at here new class (Node N.Call word span names) state next =
    decided (is_settings here word) state
    (λ state. named_by here new class span.from names state next)
    (λ state. wrong_at here (place_of new) (parts new) state next)
settings_at here new class (Node _ word span names) state next =
    wrong_at here (place_of new) (parts new) state next

abbrev pub first_argument_at : Place → Tree → ℕ → Trees → State → Then → Answer
first_argument_at here new class Nil state next = Refused (E.UnknownName (place_of new))
first_argument_at here new class (Cons settings trees) state next =
    settings_at here new class settings state next

abbrev pub new_at : Place → Tree → State → Then → Answer
new_at here (Node kind word span trees) state next =
    counted state (λ state. classed here.library span.from word state
    (λ class state. first_argument_at here (Node kind word span trees) class trees state next))

-- the operands from a place on, after these values
abbrev pub operands_left : List Cell → Place → Purpose → ℕ → Option ℕ → ℕ → ℕ → List Value
    → State → Then
    → Answer
operands_left cells here purpose at node place count values state next =
    operands here at place count (parts (tree_of cells node)) values state
    (λ values state. finish cells here purpose at values state next)

-- `?:` by a stream goes on with its branches
abbrev pub with_second : Place → ℕ → Tree → Value → Value → State → Then → Answer
with_second here at second test first state next =
    expr here second state (λ value state. used at value state (λ value state.
    does (row_of R.Choose at (test ∷ first ∷ value ∷ []) state) next))

abbrev pub with_condition : Place → ℕ → Tree → Tree → Value → State → Then → Answer
with_condition here at first second value state next =
    parted at value state
    (λ state. expr here first state (λ value state. picked at value state next))
    (λ state. expr here second state (λ value state. picked at value state next))
    (λ value state. expr here first state
    (λ a state. used at a state
    (λ a state. with_second here at second value a state next)))

-- a loop: its condition, its body with its step, and what is left after it
abbrev pub condition_of : List Cell → Place → Condition → State → Then → Answer
condition_of cells here C.Always state next = next (V.Flag true) state
condition_of cells here (C.Holds part) state next = expr here (tree_of cells part) state next

abbrev pub step_of : List Cell → Place → Then → Option ℕ → State → Next → Answer
step_of cells here back None state next = next state
step_of cells here back (Some n) state next = exec here (tree_of cells (Some n)) state next back

abbrev pub body_of : List Cell → Place → Then → Loop → State → Next → Answer
body_of cells here back loop state next =
    exec here (tree_of cells loop.body) state
    (λ state. step_of cells here back loop.step state next) back

abbrev pub left_by : Option ℕ → State → State
left_by None state = state
left_by (Some count) state = leave count state

abbrev pub turns_left : List Cell → Place → Then → Loop → ℕ → State → Next → Answer
turns_left cells here back loop more state next =
    turns (λ state next. condition_of cells here loop.condition state next)
    (λ state next. body_of cells here back loop state next) loop.at more state
    (λ state. next (left_by loop.count state))

-- the loop's condition has this value, and after it so many turns may come
abbrev pub turn_on : List Cell → Place → Then → Loop → ℕ → Value → State → Next → Answer
turn_on cells here back loop more value state next =
    chosen loop.at value state
    (λ state. body_of cells here back loop state
    (λ state. turns_left cells here back loop more state next))
    (λ state. next (left_by loop.count state))

-- an assignment changes what stands at a spot
abbrev pub combine_at : ℕ → List ℕ → Value → Spot → Value → State → Next → Answer
combine_at at sign old spot value state next =
    used at value state (λ value state.
    does (combined sign at old value state) (λ value state. put at spot value state next))

abbrev pub assign_at : Place → ℕ → Tree → Spot → State → Next → Answer
assign_at here at value spot state next =
    expr here value state
    (λ value state. used at value state (λ value state. put at spot value state next))

abbrev pub stepped_at : ℕ → List ℕ → Spot → State → Next → Answer
stepped_at at sign spot state next =
    used at (content spot state) state
    (λ old state. does (stepped sign at old state) (λ value state. put at spot value state next))

abbrev pub set_at : Place → Tree → Spot → State → Next → Answer
set_at here (Node kind sign span (Cons place Nil)) spot state next =
    stepped_at span.from sign spot state next
set_at here (Node kind sign span (Cons place (Cons value Nil))) spot state next =
    decided (bytes_eq sign (codes "=")) state
    (λ state. assign_at here span.from value spot state next)
    (λ state. used span.from (content spot state) state
    (λ old state. expr here value state
    (λ value state. combine_at span.from sign old spot value state next)))
set_at here (Node kind sign span trees) spot state next = Refused (E.WrongKind span.from)

abbrev pub word_of : Tree → List ℕ
word_of (Node kind word span trees) = word

-- indices that are left lead from a spot to the one that is set
abbrev pub resolved : List Cell → Place → ℕ → List (Option ℕ) → Spot → State → (Spot → Next)
    → Answer
resolved cells here at [] spot state next = next spot state
resolved cells here at (part ∷ rest) spot state next =
    used at (content spot state) state
    (λ array state. expr here (tree_of cells part) state
    (λ value state. used at value state
    (λ value state. spot_in at array value state
    (λ spot state. resolved cells here at rest spot state next))))

-- a spot is found, and then set by the assignment
abbrev pub resolve_at : List Cell → Place → Tree → List (Option ℕ) → Spot → State → Next → Answer
resolve_at cells here tree pending spot state next =
    resolved cells here (place_of tree) pending spot state
    (λ spot state. set_at here tree spot state next)

abbrev pub indexed_at : List Cell → Place → Tree → Value → List (Option ℕ) → Value → State → Next
    → Answer
indexed_at cells here tree array pending value state next =
    used (place_of tree) value state (λ value state.
    spot_in (place_of tree) array value state (λ spot state.
    resolve_at cells here tree pending spot state next))

-- a variable or an element gets its initial value
abbrev pub initial_at : ℕ → Declared → Spot → Value → State → Next → Answer
initial_at at of spot value state next =
    used at value state (λ value state.
    needs (has_kind of value) (E.WrongKind at) state
    (λ state. next (with_content spot value state)))

abbrev pub braces_run : Place → Declared → Tree → State → Then → Answer
braces_run here of tree state next =
    braces (place_of tree) of (number_of_trees (parts tree)) state
    (λ inner state. inits here (place_of tree) inner (parts tree) [] state
    (λ values state. braced inner values state next))

-- what stands for a value of this type: braces, or an expression
abbrev pub value_run : Place → Declared → Tree → State → Then → Answer
value_run here of (Node N.Braces word span trees) state next =
    braces_run here of (Node N.Braces word span trees) state next
value_run here of (Node kind word span trees) state next =
    expr here (Node kind word span trees) state next

abbrev pub elements_left : Place → Declared → Tree → ℕ → List Value → State → Then → Answer
elements_left here of tree place values state next =
    inits here (place_of tree) of (from_place place (parts tree)) values state
    (λ values state. braced of values state next)

-- an element in braces has its value
abbrev pub element_at : List Cell → Place → Option ℕ → Declared → List Value → Value → State → Then
    → Answer
element_at cells here node of values value state next =
    used (place_of (tree_of cells node)) value state (λ value state.
    needs (has_kind of value) (E.WrongKind (place_of (tree_of cells node))) state (λ state.
    elements_left here of (tree_of cells node) (suc (length values)) (values ++ value ∷ []) state
    next))

-- the fields from a place on, before which so many stand, and then the constructor's block
abbrev pub fields_left : ClassView → Place → ℕ → ℕ → Option ℕ → List Binding → State → Next → Then
    → Answer
fields_left class here place before body variables state next back =
    set_fields here before (from_place place (members class)) state (λ state.
    block_of here (tree_of class.cells body) (record state { variables = variables }) next back)
