-- The output files are written one after another.
use Rattle.std.proofs.Common.{◌∙◌, take, take_all, Some, arith, ap, sym, subst}
use Rattle.std.specs.List.{AllZip}
use Rattle.std.proofs.lemmas.Option.{slice_get-get_or}
use Rattle.mx_base.specs.Files.{Held}
use Rattle.project_check.proofs.Pieces.{zip_length, zip_read}
use Rattle.maxjc_core.specs.ExpectEnds.{HoldsLines}
use Rattle.maxjc_core.specs.ExpectStops.{IsOutput}
use Rattle.maxjc_core.proofs.OutputWriting.{one-more-written, one-more-changed}
use Rattle.maxjc_core.proofs.expect_command.write_outputs.Goals as goal

pub bounds-words-number : goal.bounds-words-number
bounds-words-number g c =
    let same = zip_length IsOutput c.args.outputs.now c.args.words.now c.requires.each in
    let test = c.loop-number-test.true in
    omega (arith, same, test)

pub write_words-requires-clause-some : goal.write_words-requires-clause-some
write_words-requires-clause-some g c =
    (zip_read IsOutput c.args.outputs.now c.args.words.now c.loop-number.number
    c.index-outputs-number.result c.index-words-number.result c.requires.each
    c.loop-number-test.true c.index-outputs-number.is c.index-words-number.is).0.0

pub write_words-requires-clause-at_most : goal.write_words-requires-clause-at_most
write_words-requires-clause-at_most g c =
    (zip_read IsOutput c.args.outputs.now c.args.words.now c.loop-number.number
    c.index-outputs-number.result c.index-words-number.result c.requires.each
    c.loop-number-test.true c.index-outputs-number.is c.index-words-number.is).0.1

pub write_words-requires-clause-words : goal.write_words-requires-clause-words
write_words-requires-clause-words g c =
    let output = zip_read IsOutput c.args.outputs.now c.args.words.now c.loop-number.number
    c.index-outputs-number.result c.index-words-number.result c.requires.each
    c.loop-number-test.true c.index-outputs-number.is c.index-words-number.is in
    rw (c.as_slice.ensures) output.1

pub loop-number-preserved : goal.loop-number-preserved
loop-number-preserved g c =
    let old : Held = g.F.Files.held c.args.files.now in
    let before : Held = g.F.Files.held c.loop-number.files in
    let now : Held = g.F.Files.held c.write_words.new.files in
    let files = c.args.outputs.now in
    let lists = c.args.words.now in
    let n = c.loop-number.number in
    let file = c.index-outputs-number.result in
    let words = c.index-words-number.result in
    let test = c.loop-number-test.true in
    let same = zip_length IsOutput files lists c.requires.each in
    let e = c.in_ok-write_words.ensures in
    record {
      written = λ told.
          one-more-written before now files lists n file words test (omega (arith, same, test))
          c.index-outputs-number.is c.index-words-number.is c.requires.apart e.only
          (rw (c.as_slice.ensures) at (e.written (rw (c.loop-number.invariant.only.told) told)))
          (c.loop-number.invariant.written told);
      only = one-more-changed old before now files n file
          (slice_get-get_or files n file test ∙ ap Some (sym c.index-outputs-number.is))
          c.loop-number.invariant.only e.only;
      read_quiet = e.read_quiet ∙ c.loop-number.invariant.read_quiet;
      quiet = e.quiet (λ q. cc) ∙ c.loop-number.invariant.quiet;
    }

pub returns-clause-written : goal.returns-clause-written
returns-clause-written g c = λ told.
    let now : Held = g.F.Files.held c.loop-number.files in
    let files = c.args.outputs.now in
    let lists = c.args.words.now in
    let n = c.loop-number.number in
    let done = c.loop-number-test.false in
    let same = zip_length IsOutput files lists c.requires.each in
    subst (λ fs. AllZip (HoldsLines now) fs lists) (take_all n files (omega (arith, done)))
    (subst (λ ls. AllZip (HoldsLines now) (take n files) ls) (take_all n lists (omega (arith, done, same)))
    (c.loop-number.invariant.written told))
