-- What a source without a manager builds is one kernel, and nothing is joined.
use Rattle.std.proofs.Common.{◌≡◌, refl, sym, subst}
use Rattle.std.specs.Prelude.{
  ℕ,
  suc,
  Bool,
  true,
  false,
  if◌then◌else◌,
  List,
  [],
  ◌∷◌,
  None,
  Result,
  Ok,
  Err,
}
use Rattle.kernel_calls.specs.Laws.{is_port_name}
use Rattle.maxj_syntax.specs.Tree.{ClassTree}
use Rattle.kernel_meaning.specs.declared.error.EvalError.{EvalError}
use Rattle.kernel_meaning.specs.declared.error.EvalError.TheVariants as E
use Rattle.kernel_meaning.specs.declared.plan.Plan.{Plan}
use Rattle.kernel_meaning.specs.Constructors.{no_plan}
use Rattle.kernel_meaning.specs.Managers.{
  class_place,
  one_kernel,
  alone_from,
  manager_of,
  source_plan,
  plan_by,
}
use Rattle.manager_links.specs.Plans.{IsAlone}

-- a plan that is answered is one without a manager
abbrev IsPlanAlone : Result Plan EvalError → Type 0
IsPlanAlone (Ok plan) = IsAlone plan
IsPlanAlone (Err error) = Unit {0}

-- of one class
one : (number : ℕ) (class : ClassTree) → IsPlanAlone (one_kernel number class)
one number class = by (is_port_name class.name)
  where
    by : (named : Bool) → IsPlanAlone (if named then Ok (record (no_plan false) {
      kernels = record { name = class.name; class = number; args = [] } ∷ [];
    }) else Err (E.BadPortName (class_place class)))
    by true = record {
      no_manager = refl;
      one_kernel = refl;
      none_from_cpu = refl;
      none_to_cpu = refl;
      no_joins = refl;
    }
    by false = tt

-- of the first class among these
first : (number : ℕ) (classes : List ClassTree) → IsPlanAlone (alone_from number classes)
first number [] = tt
first number (class ∷ classes) = by class.manager (first (suc number) classes)
  where
    by : (manager : Bool) → IsPlanAlone (alone_from (suc number) classes)
        → IsPlanAlone (if manager then alone_from (suc number) classes else one_kernel number class)
    by true later = later
    by false later = one number class

-- the plan of a source without a manager
pub alone : (classes : List ClassTree) (plan : Plan) → manager_of classes ≡ None
    → source_plan classes ≡ Ok plan → IsAlone plan
alone classes plan none is =
    subst IsPlanAlone is (subst (λ m. IsPlanAlone (plan_by classes m)) (sym none) (first 0 classes))
