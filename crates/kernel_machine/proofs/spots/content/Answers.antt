-- What is copied is fit.
use Rattle.std.proofs.Common.{sym, subst}
use Rattle.kernel_meaning.specs.Arrays.{array_of, value_of}
use Rattle.kernel_rows.specs.Fit.{IsFit}
use Rattle.kernel_machine.proofs.Setting.{copied-fit, variable-fit, field-fit, element-is-fit, array-fit}
use Rattle.kernel_machine.proofs.spots.content.Goals as goal

pub returns-in-Variable-clause-fit : goal.returns-in-Variable-clause-fit
returns-in-Variable-clause-fit c =
    copied-fit c.copy_bound.result _ c.copy_bound.ensures
    (subst (λ o. IsFit (value_of o)) (sym c.variable.ensures)
    (variable-fit c.as_bytes.result.now c.args.state.now.variables c.args.state.now.fields
    c.requires.variables c.requires.fields))

pub returns-in-Field-clause-fit : goal.returns-in-Field-clause-fit
returns-in-Field-clause-fit c =
    copied-fit c.copy_bound-in-Field.result _ c.copy_bound-in-Field.ensures
    (subst (λ o. IsFit (value_of o)) (sym c.at.ensures)
    (field-fit c.in-Field.place c.args.state.now.fields c.requires.fields))

pub returns-in-Some-clause-fit : goal.returns-in-Some-clause-fit
returns-in-Some-clause-fit c =
    copied-fit c.copy_value.result c.in-Some.value.now c.copy_value.ensures
    (element-is-fit (array_of c.args.state.now.arrays c.in-Element.array) c.in-Element.place
    c.in-Some.value.now (array-fit c.args.state.now.arrays c.in-Element.array
    c.requires.arrays) (sym c.in-Some.ensures))
