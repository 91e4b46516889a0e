-- Plans that are the same.
use Rattle.std.proofs.Common.{◌≡◌, subst, sym}
use Rattle.std.specs.Prelude.{Result, Ok, Err, IfOk}
use Rattle.kernel_meaning.specs.Plans as Plans
use Rattle.kernel_rows.specs.Planned.{IsPlan}
use Rattle.kernel_rows.specs.declared.plan.OperandPlan.{OperandPlan}

pub same_plan : (p q : Plans.OperandPlan) (r : OperandPlan) → p ≡ q → IsPlan q r → IsPlan p r
same_plan p q r e h = subst (λ (x : Plans.OperandPlan). IsPlan x r) (sym e) h

-- what holds of a value that is there, from what else does
pub if_ok : {X E : Type 0} (r : Result X E) (P Q : X → Type 0) → ((x : X) → P x → Q x) → IfOk r P
    → IfOk r Q
if_ok (Ok x) P Q f h = f x h
if_ok (Err e) P Q f h = tt
