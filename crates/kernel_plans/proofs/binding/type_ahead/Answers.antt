use Rattle.std.proofs.Common.{ap, sym, ◌∙◌}
use Rattle.kernel_meaning.specs.Constructors.{ahead_by}
use Rattle.kernel_plans.proofs.binding.type_ahead.Goals as goal

pub returns-in-Ok : goal.returns-in-Ok
returns-in-Ok c = λ name fields.
    ap (λ d. ahead_by name d fields) (sym c.declared_by.ensures ∙ c.in-Ok.is)

pub returns-in-Err : goal.returns-in-Err
returns-in-Err c = λ name fields.
    ap (λ d. ahead_by name d fields) (sym c.declared_by.ensures ∙ c.in-Err.is)
