-- What is set, and that it is kept.
use Rattle.std.proofs.Common.{◌∙◌, sym, subst, ap, arith}
use Rattle.kernel_meaning.specs.Arrays.{with_content}
use Rattle.kernel_rows.specs.Kept.{AreBoundFit, AreArrays}
use Rattle.kernel_meaning.proofs.PlaceLaws.{place-below, past-assigned}
use Rattle.kernel_machine.proofs.Setting
use Rattle.kernel_machine.proofs.spots.store.Goals as goal

pub set-requires : goal.set-requires
set-requires c =
    place-below c.as_bytes.result.now c.args.state.now.variables c.in-Some.place
    (sym c.in-Some.ensures)

pub set-requires-in-Some-place : goal.set-requires-in-Some-place
set-requires-in-Some-place c =
    place-below c.as_bytes-in-None.result.now c.args.state.now.fields c.in-Some-place.place
    (sym c.in-Some-place.ensures)

pub returns-in-Some-clause-is : goal.returns-in-Some-clause-is
returns-in-Some-clause-is c =
    let at = rw c.as_bytes.ensures at c.in-Some.ensures in
    Setting.set-variable c.in-Variable.name c.args.value c.args.state.now c.set.new.self
    c.in-Some.place (sym at) c.set.ensures
    ∙ ap (λ spot. with_content spot c.args.value c.args.state.now) (sym c.in-Variable.is)

pub returns-in-Some-clause-kept : goal.returns-in-Some-clause-kept
returns-in-Some-clause-kept c = record {
  variables =
      subst AreBoundFit (sym c.set.ensures) (Setting.assigned-at-fit c.in-Some.place
      c.args.value c.args.state.now.variables c.requires.value c.requires.kept.variables);
  fields = c.requires.kept.fields;
  arrays = c.requires.kept.arrays;
  digits = c.requires.kept.digits;
}

pub returns-in-Some-place-clause-is : goal.returns-in-Some-place-clause-is
returns-in-Some-place-clause-is c =
    let none = rw c.as_bytes.ensures at c.in-None.ensures in
    let at = rw c.as_bytes-in-None.ensures at c.in-Some-place.ensures in
    Setting.set-field c.in-Variable.name c.args.value c.args.state.now
    c.set-in-Some-place.new.self c.in-Some-place.place (sym none) (sym at)
    c.set-in-Some-place.ensures
    ∙ ap (λ spot. with_content spot c.args.value c.args.state.now) (sym c.in-Variable.is)

pub returns-in-Some-place-clause-kept : goal.returns-in-Some-place-clause-kept
returns-in-Some-place-clause-kept c = record {
  variables = c.requires.kept.variables;
  fields =
      subst AreBoundFit (sym c.set-in-Some-place.ensures) (Setting.assigned-at-fit
      c.in-Some-place.place c.args.value c.args.state.now.fields c.requires.value c.requires.kept.fields);
  arrays = c.requires.kept.arrays;
  digits = c.requires.kept.digits;
}

pub returns-in_default-clause-is : goal.returns-in_default-clause-is
returns-in_default-clause-is c =
    let none = rw c.as_bytes.ensures at c.in-None.ensures in
    let nowhere = rw c.as_bytes-in-None.ensures at c.in_default.ensures in
    Setting.set-nowhere c.in-Variable.name c.args.value c.args.state.now (sym none) (sym nowhere)
    ∙ ap (λ spot. with_content spot c.args.value c.args.state.now) (sym c.in-Variable.is)

pub returns-in-Element-clause-kept : goal.returns-in-Element-clause-kept
returns-in-Element-clause-kept c = record {
  variables = c.requires.kept.variables;
  fields = c.requires.kept.fields;
  arrays =
      subst AreArrays (sym c.store_element.ensures) (Setting.element-kept
      c.args.state.now.arrays c.in-Element.array c.in-Element.place c.args.value
      c.requires.value c.requires.kept.arrays);
  digits = c.requires.kept.digits;
}

pub returns-then-place-len-clause-kept : goal.returns-then-place-len-clause-kept
returns-then-place-len-clause-kept c = record {
  variables = c.requires.kept.variables;
  fields =
      subst AreBoundFit (sym c.set-then-place-len.ensures) (Setting.assigned-at-fit
      c.in-Field.place c.args.value c.args.state.now.fields c.requires.value
      c.requires.kept.fields);
  arrays = c.requires.kept.arrays;
  digits = c.requires.kept.digits;
}

pub returns-else-place-len-clause-is : goal.returns-else-place-len-clause-is
returns-else-place-len-clause-is c =
    let state = c.args.state.now in
    let past = past-assigned c.in-Field.place c.args.value state.fields
    (omega (arith, c.if-place-len.false, c.len.ensures)) in
    ap (λ fields. record state { fields = fields }) (sym past)
    ∙ ap (λ spot. with_content spot c.args.value state) (sym c.in-Field.is)
