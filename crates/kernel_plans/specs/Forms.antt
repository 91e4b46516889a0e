-- How an expression is evaluated, against the meaning; and plans whose values are fit.
use Rattle.kernel_meaning.specs.Ways as Ways
use Rattle.kernel_meaning.specs.declared.row.Row.TheVariants as R
use Rattle.kernel_rows.specs.Fit.{IsFit}
use Rattle.kernel_rows.specs.declared.plan.OperandPlan.{OperandPlan}
use Rattle.kernel_rows.specs.declared.plan.OperandPlan.TheVariants as P
use Rattle.kernel_plans.specs.declared.forms.Form.{Form}
use Rattle.kernel_plans.specs.declared.forms.Form.TheVariants as F

abbrev pub form_view : Form → Ways.Form
form_view F.Choice = Ways.Choice
form_view (F.Short either) = Ways.Short either
form_view F.AllOperands = Ways.All_operands

-- a value that is known before is fit
abbrev pub IsFitPlan : OperandPlan → Type 0
IsFitPlan (P.Reads (R.Gives value) from count) = IsFit value
IsFitPlan _ = Unit {0}
