-- What is written and said of a run that was begun.
use Rattle.std.proofs.Common.{◌∙◌, refl, ap, sym, subst}
use Rattle.maxjc_core.specs.ExpectLines.{expected_lines}
use Rattle.maxjc_core.specs.ExpectStops.{CanWrite}
use Rattle.maxjc_core.proofs.Writable.{can-write, place-within}
use Rattle.maxjc_core.proofs.expect.answer_of.Goals as goal

pub expected_lines-requires : goal.expected_lines-requires
expected_lines-requires c =
    place-within c.args.begun.now c.args.words c.in_ok-expected.expected c.kernels.result.now
    c.kernels.ensures c.in_ok-expected.ensures.is

pub returns-clause-is : goal.returns-clause-is
returns-clause-is c = record {
  expected = c.in_ok-expected.expected;
  is = c.in_ok-expected.ensures.is;
  outputs = c.replace-outputs.ensures.value;
  words = refl;
  lines = c.in_ok-lines.ensures
      ∙ ap (λ ks. expected_lines ks c.in_ok-expected.expected) c.kernels.ensures;
}

pub returns-clause-can_write : goal.returns-clause-can_write
returns-clause-can_write c =
    let begun = c.args.begun.now in
    let expected = c.in_ok-expected.expected in
    subst (λ outputs. CanWrite outputs expected.outputs) (sym c.replace-outputs.ensures.value)
    (can-write begun.linked.project begun.plan expected c.requires.ready.fits
    c.in_ok-expected.ensures.widths)
