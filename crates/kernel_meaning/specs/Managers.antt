-- What the manager of a source builds, and what is built where a source has none.
use Rattle.std.specs.Prelude.{
  ◌&&◌,
  ℕ,
  suc,
  List,
  [],
  ◌∷◌,
  false,
  Option,
  Some,
  None,
  Result,
  Ok,
  Err,
  if◌then◌else◌,
  find,
  not,
}
use Rattle.std.specs.Str.{bytes_eq}
use Rattle.std.specs.Option.{option_map}
use Rattle.kernel_calls.specs.Laws.{is_port_name}
use Rattle.maxj_syntax.specs.Tree.{ClassTree}
use Rattle.kernel_meaning.specs.declared.error.EvalError.{EvalError}
use Rattle.kernel_meaning.specs.declared.plan.Plan.{Plan}
use Rattle.kernel_meaning.specs.declared.error.EvalError.TheVariants as E
use Rattle.kernel_meaning.specs.Names.{place_of}
use Rattle.kernel_meaning.specs.Plans.{OfManager}
use Rattle.kernel_meaning.specs.Answer.{Answer, plan_at_end}
use Rattle.kernel_meaning.specs.Constructors.{ctor_of, no_plan, run_of, members_of, step_limit}

-- the number of the class of a kernel with this name, among those of the source
abbrev pub kernel_number : List ClassTree → List ℕ → Option ℕ
kernel_number [] name = None
kernel_number (class ∷ classes) name =
    if not class.manager && bytes_eq class.name name then Some 0
    else option_map suc (kernel_number classes name)

-- the building run of a manager's class
abbrev pub manager_run : List ClassTree → ClassTree → Answer
manager_run classes class =
    run_of (OfManager (kernel_number classes)) (members_of class.tree) [] step_limit
    (ctor_of (members_of class.tree))

-- the manager of a source
abbrev pub manager_of : List ClassTree → Option ClassTree
manager_of classes = find (λ (class : ClassTree). class.manager) classes

-- without a manager there is one kernel, under the name of its class, which is refused at the first
-- token of the class where it is no name of a kernel
abbrev pub class_place : ClassTree → ℕ
class_place class = place_of class.tree

abbrev pub one_kernel : ℕ → ClassTree → Result Plan EvalError
one_kernel number class =
    if is_port_name class.name
    then Ok (record (no_plan false) {
      kernels = record { name = class.name; class = number; args = [] } ∷ [];
    })
    else Err (E.BadPortName (class_place class))

abbrev pub alone_from : ℕ → List ClassTree → Result Plan EvalError
alone_from number [] = Err (E.UnknownName 0)
alone_from number (class ∷ classes) =
    if class.manager then alone_from (suc number) classes else one_kernel number class

-- what a source builds
abbrev pub plan_by : List ClassTree → Option ClassTree → Result Plan EvalError
plan_by classes (Some manager) = plan_at_end (manager_run classes manager)
plan_by classes None = alone_from 0 classes

abbrev pub source_plan : List ClassTree → Result Plan EvalError
source_plan classes = plan_by classes (manager_of classes)
