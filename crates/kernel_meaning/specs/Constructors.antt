-- The building run of a class: its fields, and then the body of its constructor.
use Rattle.std.specs.Prelude.{
  ◌==◌,
  ℕ,
  ◌+◌,
  suc,
  List,
  [],
  ◌∷◌,
  length,
  Bool,
  true,
  false,
  Option,
  Some,
  None,
  Result,
  Ok,
  Err,
}
use Rattle.maxj_syntax.specs.Tree.{Tree, Node, Trees, Nil, Cons, ClassTree}
use Rattle.maxj_syntax.specs.declared.tree.NodeKind.TheVariants as N
use Rattle.kernel_meaning.specs.declared.error.EvalError.{EvalError}
use Rattle.kernel_meaning.specs.declared.value.Spot.TheVariants.{Field}
use Rattle.kernel_meaning.specs.declared.value.Value.{Value}
use Rattle.kernel_meaning.specs.declared.state.State.{State}
use Rattle.kernel_meaning.specs.declared.state.Binding.{Binding}
use Rattle.kernel_meaning.specs.declared.value.Declared.{Declared}
use Rattle.kernel_meaning.specs.declared.plan.Arg.{Arg}
use Rattle.kernel_meaning.specs.declared.plan.Plan.{Plan}
use Rattle.kernel_meaning.specs.declared.error.EvalError.TheVariants as E
use Rattle.kernel_meaning.specs.declared.value.Base.TheVariants as B
use Rattle.kernel_meaning.specs.declared.value.Value.TheVariants as V
use Rattle.kernel_meaning.specs.declared.plan.Arg.TheVariants as A
use Rattle.kernel_meaning.specs.Names.{declared}
use Rattle.kernel_meaning.specs.Methods.{Body, body_by}
use Rattle.kernel_meaning.specs.Plans.{Library, OfKernel, OfManager, number_of_trees}
use Rattle.kernel_meaning.specs.Ways.{typed}
use Rattle.kernel_meaning.specs.Answer.{Answer, Finished, Refused, Next, needs}
use Rattle.kernel_meaning.specs.Run.{Place, initial, block_of, in_constructor}
use Rattle.kernel_meaning.specs.Values.{declared_by}

-- a field that is known from the start, and not set; a type without meaning is told in its turn
abbrev pub ahead_by : List ℕ → Result Declared ℕ → List Binding → List Binding
ahead_by name (Ok of) fields = declared name of fields
ahead_by name (Err at) fields = declared name (record { base = B.EngineParameters; rank = 0 })
    fields

abbrev pub ahead : Tree → List Binding → List Binding
ahead (Node N.Field name span (Cons type trees)) fields = ahead_by name (declared_by type) fields
ahead _ fields = fields

-- of two fields of one name the later is the variable
abbrev pub all_ahead : Trees → List Binding → List Binding
all_ahead Nil fields = fields
all_ahead (Cons member members) fields = all_ahead members (ahead member fields)

-- the fields among these members get their initial values in order, each its own one; so many fields
-- stand before them
abbrev pub set_fields : Place → ℕ → Trees → State → Next → Answer
set_fields here before Nil state next = next state
set_fields here before (Cons (Node N.Field name span (Cons type trees)) members) state next =
    typed (declared_by type) state (λ of state.
    initial here span.from of (Field before) trees state
    (λ state. set_fields here (suc before) members state next))
set_fields here before (Cons _ members) state next = set_fields here before members state next

-- the constructor among the members: its place, and its parameters with the block behind them
abbrev pub ctor_of : Trees → Option (ℕ × Trees)
ctor_of Nil = None
ctor_of (Cons (Node N.Ctor word span trees) members) = Some (span.from, trees)
ctor_of (Cons _ members) = ctor_of members

-- the fields, and then the constructor's body
abbrev pub built_by : Place → Trees → Result Body EvalError → State → Answer
built_by here members (Err e) state = Refused e
built_by here members (Ok body) state =
    set_fields here 0 members state (λ state.
    block_of here body.block (record state { variables = body.variables }) Finished (λ _. Finished))

-- nothing is built yet, by a manager or by none
abbrev pub no_plan : Bool → Plan
no_plan manager = record {
  manager = manager;
  kernels = [];
  from_cpu = [];
  to_cpu = [];
  joins = [];
}

-- whether the library is a manager's, and what the first parameter of the constructor is
abbrev pub is_manager : Library → Bool
is_manager OfKernel = false
is_manager (OfManager kernels) = true

abbrev pub first_argument : Library → Value
first_argument OfKernel = V.Parameters
first_argument (OfManager kernels) = V.Engine

-- the state at the start, with so many steps left
abbrev pub start : Library → Trees → ℕ → State
start library members steps = record {
  variables = [];
  fields = all_ahead members [];
  arrays = [];
  digits = [];
  modes = [];
  left = steps;
  made = 0;
  plan = no_plan (is_manager library);
}

-- the run of a constructor among the members, with arguments after the first one
abbrev pub run_of : Library → Trees → List Value → ℕ → Option (ℕ × Trees) → Answer
run_of library members args steps None = Refused (E.WrongKind 0)
run_of library members args steps (Some ctor) =
    needs (number_of_trees ctor.1 == length args + 2) (E.UnknownName ctor.0)
    (start library members steps)
    (built_by (in_constructor library members) members
    (body_by None ctor.0 ctor.1 (first_argument library ∷ args) (Ok [])))

abbrev pub members_of : Tree → Trees
members_of (Node kind word span trees) = trees

-- how many steps a run may take
abbrev pub step_limit : ℕ
step_limit = 1000000

-- the building run of a kernel's class with these arguments after the first one
abbrev pub building_run : ClassTree → List Value → Answer
building_run class args =
    run_of OfKernel (members_of class.tree) args step_limit (ctor_of (members_of class.tree))

-- the values of arguments
abbrev pub value_of_arg : Arg → Value
value_of_arg (A.Int n) = V.Int n
value_of_arg (A.Flag b) = V.Flag b
value_of_arg (A.Stream t) = V.«Type» t
