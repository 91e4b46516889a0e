-- The run of a constructor that was entered.
use Rattle.std.proofs.Common.{◌≡◌, ℕ, ◌+◌, suc, List, ◌∷◌, [], length, Some, None, true, false, Ok, Err, refl, arith}
use Rattle.std.specs.Prelude.{◌==◌, Option, Bool, if◌then◌else◌}
use Rattle.maxj_syntax.specs.Tree.{Trees}
use Rattle.kernel_meaning.specs.declared.error.EvalError.TheVariants as E
use Rattle.kernel_meaning.specs.declared.value.Value.{Value}
use Rattle.kernel_meaning.specs.Constructors.{run_of, built_by, start, first_argument}
use Rattle.kernel_meaning.specs.Methods.{Body, body_by}
use Rattle.kernel_meaning.specs.Plans.{Library, number_of_trees}
use Rattle.kernel_meaning.specs.Run.{in_constructor}
use Rattle.kernel_plans.specs.Called.{constructed}

same-count : (n : ℕ) → suc n + 1 ≡ n + 2
same-count n = omega arith

pub run-begun : (library : Library) (members : Trees) (args values : List Value) (steps : ℕ)
    (ctor : Option (ℕ × Trees)) (body : Body) → values ≡ first_argument library ∷ args
    → constructed values ctor ≡ Ok body
    → run_of library members args steps ctor
    ≡ built_by (in_constructor library members) members (Ok body) (start library members steps)
run-begun library members args values steps None body e b = absurd (cc)
run-begun library members args values steps (Some ctor) body e b =
    by (number_of_trees ctor.1 == length args + 2) refl (rw (e, same-count (length args)) at b)
  where
    by : (test : Bool) → (number_of_trees ctor.1 == length args + 2) ≡ test
        → (if (number_of_trees ctor.1 == length args + 2)
        then body_by None ctor.0 ctor.1 (first_argument library ∷ args) (Ok [])
        else Err (E.UnknownName ctor.0)) ≡ Ok body
        → run_of library members args steps (Some ctor)
        ≡ built_by (in_constructor library members) members (Ok body) (start library members steps)
    by true t h = let g = rw t at h in rw (t, g) refl
    by false t h = let g = rw t at h in absurd (cc)
