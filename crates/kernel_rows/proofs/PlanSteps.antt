-- Plans by the names of calls.
use Rattle.std.proofs.Common.{◌≡◌, ℕ, List, true, false, refl, sym, subst}
use Rattle.std.specs.Prelude.{Bool, if◌then◌else◌}
use Rattle.std.specs.Str.{bytes_eq}
use Rattle.std.proofs.lemmas.Slice.Eq.{bytes_eq-Decides}
use Rattle.kernel_meaning.specs.Plans as Plans
use Rattle.kernel_meaning.specs.declared.row.Row.{Row}
use Rattle.kernel_meaning.specs.declared.error.EvalError.TheVariants as E
use Rattle.kernel_rows.specs.Planned.{IsPlan}
use Rattle.kernel_rows.specs.declared.plan.OperandPlan.{OperandPlan}
use Rattle.kernel_rows.specs.declared.plan.OperandPlan.TheVariants as P

-- the path is this one
pub by_path : (name path : List ℕ) (at count : ℕ) (mode : List ℕ) (plan : OperandPlan)
    → bytes_eq path name ≡ true → IsPlan (Plans.library_plan name at count mode) plan
    → IsPlan (Plans.library_plan path at count mode) plan
by_path name path at count mode plan e is =
    subst (λ n. IsPlan (Plans.library_plan n at count mode) plan)
    (sym ((bytes_eq-Decides path name).0 e)) is

-- operands are read where the number of arguments is right
pub read_if : (right : Bool) (at : ℕ) (row : Row) (from count : ℕ) (plan : OperandPlan)
    → plan ≡ (if right then P.Reads row from count else P.Fault (E.UnknownName at))
    → IsPlan (Plans.takes right at (Plans.Reads row from count)) plan
read_if true at row from count plan e = subst (IsPlan (Plans.Reads row from count)) (sym e) refl
read_if false at row from count plan e = subst (IsPlan (Plans.unknown at)) (sym e) refl
