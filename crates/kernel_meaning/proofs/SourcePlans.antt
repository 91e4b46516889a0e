-- What a source builds can be carried out.
use Rattle.std.proofs.Common.{◌≡◌, ℕ, ◌+◌, arith, suc, List, [], ◌∷◌, true, false, Ok, Err, Some, None, refl, sym, subst}
use Rattle.std.specs.Prelude.{Option, Bool, Result, IfOk, slice_get, if◌then◌else◌, not, ◌&&◌}
use Rattle.std.specs.Str.{bytes_eq}
use Rattle.std.specs.Option.{option_map}
use Rattle.std.proofs.lemmas.List.Elements.{All-nil, All-cons, All-weaker}
use Rattle.std.proofs.lemmas.Result.{IfOk-weaker}
use Rattle.kernel_calls.specs.Laws.{is_port_name}
use Rattle.maxj_syntax.specs.Tree.{ClassTree}
use Rattle.kernel_meaning.specs.declared.error.EvalError.{EvalError}
use Rattle.kernel_meaning.specs.declared.error.EvalError.TheVariants as E
use Rattle.kernel_meaning.specs.declared.plan.Made.{Made}
use Rattle.kernel_meaning.specs.declared.plan.Plan.{Plan}
use Rattle.kernel_meaning.specs.Constructors.{no_plan, ctor_of, members_of, step_limit}
use Rattle.kernel_meaning.specs.Answer.{plan_at_end}
use Rattle.kernel_meaning.specs.Plans.{OfManager}
use Rattle.kernel_meaning.specs.Managers.{
  kernel_number,
  manager_of,
  manager_run,
  plan_by,
  class_place,
  one_kernel,
  alone_from,
  source_plan,
}
use Rattle.kernel_meaning.specs.SoundPlans.{IsAdded, IsKernelClass, IsSoundPlan}
use Rattle.kernel_meaning.proofs.Kept.{IsClassOf, IsManaged}
use Rattle.kernel_meaning.proofs.WholeRun.{managed_plan, managed_told}

further : (n k : ℕ) → n + suc k ≡ suc n + k
further n k = omega arith

no_more : (n : ℕ) → n + 0 ≡ n
no_more n = omega arith

from_none : (n : ℕ) → 0 + n ≡ n
from_none n = omega arith

-- a kernel alone, and its plan
abbrev made_alone : ℕ → ClassTree → Made
made_alone number class = record { name = class.name; class = number; args = [] }

abbrev alone_of : ℕ → ClassTree → Plan
alone_of number class = record (no_plan false) { kernels = made_alone number class ∷ [] }

-- the number of a kernel's class, where one is found
abbrev IsFound : List ClassTree → Option ℕ → Type 0
IsFound classes None = Unit {0}
IsFound classes (Some number) = IsKernelClass classes number

host : (manager named : Bool) → (not manager && named) ≡ true → manager ≡ false
host true named e = absurd (cc)
host false named e = refl

found_by : (test : Bool) (class : ClassTree) (classes : List ClassTree) (r : Option ℕ)
    → (test ≡ true → class.manager ≡ false) → IsFound classes r
    → IsFound (class ∷ classes) (if test then Some 0 else option_map suc r)
found_by true class classes r h f = (class, refl, h refl)
found_by false class classes None h f = tt
found_by false class classes (Some number) h f = f

found : (classes : List ClassTree) (name : List ℕ) → IsFound classes (kernel_number classes name)
found [] name = tt
found (class ∷ classes) name =
    found_by (not class.manager && bytes_eq class.name name) class classes
    (kernel_number classes name) (host class.manager (bytes_eq class.name name))
    (found classes name)

-- a kernel alone

one_by : (plain : Bool) (classes : List ClassTree) (number : ℕ) (class : ClassTree)
    → is_port_name class.name ≡ plain → slice_get classes number ≡ Some class
    → class.manager ≡ false
    → IfOk (if plain then Ok (alone_of number class) else Err (E.BadPortName (class_place class)))
    (IsSoundPlan classes)
one_by true classes number class e at h = record {
  kernels = All-cons (IsAdded (IsKernelClass classes)) (made_alone number class) []
      (record { name = e; class = (class, at, h); args = tt })
      (All-nil (IsAdded (IsKernelClass classes)));
  managed = λ m. absurd (cc);
  alone = λ _. record {
    one_kernel = refl;
    none_from_cpu = refl;
    none_to_cpu = refl;
    no_joins = refl;
  };
}
one_by false classes number class e at h = tt

-- the classes from a number on
abbrev StandAt : List ClassTree → ℕ → List ClassTree → Type 0
StandAt all number classes = (k : ℕ) (class : ClassTree) → slice_get classes k ≡ Some class
    → slice_get all (number + k) ≡ Some class

stand_on : (all : List ClassTree) (number : ℕ) (class : ClassTree) (classes : List ClassTree)
    → StandAt all number (class ∷ classes) → StandAt all (suc number) classes
stand_on all number class classes h k other e =
    subst (λ n. slice_get all n ≡ Some other) (further number k) (h (suc k) other e)

alone_by : (manager : Bool) (all : List ClassTree) (number : ℕ) (class : ClassTree)
    (classes : List ClassTree) → class.manager ≡ manager → StandAt all number (class ∷ classes)
    → IfOk (alone_from (suc number) classes) (IsSoundPlan all)
    → IfOk (if manager then alone_from (suc number) classes else one_kernel number class)
    (IsSoundPlan all)
alone_by true all number class classes e h others = others
alone_by false all number class classes e h others =
    one_by (is_port_name class.name) all number class refl
    (subst (λ n. slice_get all n ≡ Some class) (no_more number) (h 0 class refl)) e

alone_sound : (all : List ClassTree) (number : ℕ) (classes : List ClassTree)
    → StandAt all number classes → IfOk (alone_from number classes) (IsSoundPlan all)
alone_sound all number [] h = tt
alone_sound all number (class ∷ classes) h =
    alone_by class.manager all number class classes refl h
    (alone_sound all (suc number) classes (stand_on all number class classes h))

-- what a manager builds

added_sound : (classes : List ClassTree) (made : Made)
    → IsAdded (IsClassOf (OfManager (kernel_number classes))) made
    → IsAdded (IsKernelClass classes) made
added_sound classes made a = record {
  name = a.name;
  class = subst (IsFound classes) a.class.1 (found classes a.class.0);
  args = a.args;
}

managed_sound : (classes : List ClassTree) (plan : Plan)
    → IsManaged (OfManager (kernel_number classes)) plan → IsSoundPlan classes plan
managed_sound classes plan m = record {
  kernels = All-weaker (IsAdded (IsClassOf (OfManager (kernel_number classes))))
      (IsAdded (IsKernelClass classes)) (added_sound classes) plan.kernels m.kernels;
  managed = λ _. m.joined;
  alone = λ e. let other = m.manager in absurd (cc);
}

planned_sound : (classes : List ClassTree) (manager : Option ClassTree)
    → IfOk (plan_by classes manager) (IsSoundPlan classes)
planned_sound classes None = alone_sound classes 0 classes (λ k class e.
    subst (λ n. slice_get classes n ≡ Some class) (sym (from_none k)) e)
planned_sound classes (Some manager) =
    IfOk-weaker (plan_at_end (manager_run classes manager))
    (IsManaged (OfManager (kernel_number classes))) (IsSoundPlan classes) (managed_sound classes)
    (managed_plan (kernel_number classes) (members_of manager.tree) step_limit
    (ctor_of (members_of manager.tree)))

pub source_sound : (classes : List ClassTree) → IfOk (source_plan classes) (IsSoundPlan classes)
source_sound classes = planned_sound classes (manager_of classes)

-- no source is refused for want of memory

one_told : (plain : Bool) (class : ClassTree) (plan : Plan)
    → (if plain then Ok plan else Err (E.BadPortName (class_place class))) ≡ Err E.NoMemory → ⊥
one_told true class plan e = absurd (cc)
one_told false class plan e = absurd (cc)

alone_told : (number : ℕ) (classes : List ClassTree) → alone_from number classes ≡ Err E.NoMemory
    → ⊥
alone_told number [] e = absurd (cc)
alone_told number (class ∷ classes) e =
    by_manager class.manager (one_told (is_port_name class.name) class (alone_of number class))
    (alone_told (suc number) classes) e
  where
    by_manager : (manager : Bool) {kernel others : Result Plan EvalError}
        → (kernel ≡ Err E.NoMemory → ⊥) → (others ≡ Err E.NoMemory → ⊥)
        → (if manager then others else kernel) ≡ Err E.NoMemory → ⊥
    by_manager true first second e = second e
    by_manager false first second e = first e

planned_told : (classes : List ClassTree) (manager : Option ClassTree)
    → plan_by classes manager ≡ Err E.NoMemory → ⊥
planned_told classes None = alone_told 0 classes
planned_told classes (Some manager) =
    managed_told (kernel_number classes) (members_of manager.tree) step_limit
    (ctor_of (members_of manager.tree))

pub source_told : (classes : List ClassTree) → source_plan classes ≡ Err E.NoMemory → ⊥
source_told classes = planned_told classes (manager_of classes)
