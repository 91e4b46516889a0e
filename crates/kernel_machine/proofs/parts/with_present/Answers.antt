-- One more value.
use Rattle.std.proofs.Common.{◌∙◌, ap, sym, subst, ◌++◌, ◌∷◌, []}
use Rattle.kernel_rows.specs.Fit.{IsFit, AreFit}
use Rattle.kernel_machine.proofs.Sets
use Rattle.kernel_machine.proofs.Setting
use Rattle.kernel_machine.proofs.parts.with_present.Goals as goal

pub returns-in_ok-push-in-Ok-clause-fit : goal.returns-in_ok-push-in-Ok-clause-fit
returns-in_ok-push-in-Ok-clause-fit c =
    subst AreFit (sym c.in_ok-push-in-Ok.ensures.ok) (Setting.values-more c.args.values
    c.in-Ok.value c.requires.values (subst IsFit (sym c.in-Ok.ensures.0) c.requires.value))

pub returns-in-Err-clause-more : goal.returns-in-Err-clause-more
returns-in-Err-clause-more c =
    Sets.not-present c.args.at c.args.value c.in-Err.error c.in-Err.ensures
