use Rattle.std.proofs.Common.{take, drop, [], inl, inr, sym, ap, ◌∙◌, arith}
use Rattle.std.proofs.lemmas.List.{length-set}
use Rattle.std.proofs.lemmas.Result.{err_from_is_err_and}
use Rattle.word_files.specs.Lines.{lines_from}
use Rattle.word_files.proofs.LineLemmas.{left_none, goes_on, ends, stops, begins_with, some_taken}
use Rattle.word_files.proofs.bytes.FileBytes.take_line.Goals as goal

pub returns-then-count-eq0-clause-line : goal.returns-then-count-eq0-clause-line
returns-then-count-eq0-clause-line g c = λ file held ahead.
    let l = c.loop-count in
    let byte = c.in_ok-byte.ensures.byte file (rw l.invariant.same held) (l.invariant.ahead file held ahead) in
    l.invariant.begun file held ahead ∙ ap (lines_from (take l.count l.piece)) (left_none file l.self.place (sym byte ∙ c.in_default.is)) ∙ ap (λ n. lines_from (take n l.piece) []) c.if-count-eq0.true

pub returns-in_default-clause-line : goal.returns-in_default-clause-line
returns-in_default-clause-line g c = λ file held ahead.
    let l = c.loop-count in
    let byte = c.in_ok-byte.ensures.byte file (rw l.invariant.same held) (l.invariant.ahead file held ahead) in
    let place = rw c.in_default.is at c.in_ok-byte.ensures.place in
    let some = some_taken l.piece l.count (omega arith) (omega arith) in
    inl (l.invariant.begun file held ahead ∙ stops file (take l.count l.piece) l.self.place c.next_byte.new.self.place (sym byte ∙ c.in_default.is) some (omega (arith, place)))

pub returns-then-byte-eq10-clause-line : goal.returns-then-byte-eq10-clause-line
returns-then-byte-eq10-clause-line g c = λ file held ahead.
    let l = c.loop-count in
    let byte = c.in_ok-byte.ensures.byte file (rw l.invariant.same held) (l.invariant.ahead file held ahead) in
    let place = rw c.in-Some.is at c.in_ok-byte.ensures.place in
    inl (l.invariant.begun file held ahead ∙ ends file (take l.count l.piece) l.self.place c.next_byte.new.self.place c.in-Some.byte (sym byte ∙ c.in-Some.is) c.if-byte-eq10.true place)

pub loop-count-preserved : goal.loop-count-preserved
loop-count-preserved g c =
    let l = c.loop-count in
    let place = rw c.in-Some.is at c.in_ok-byte.ensures.place in
    record {
      bound = omega arith;
      size = length-set l.piece l.count c.in-Some.byte ∙ l.invariant.size;
      same = c.in_ok-byte.ensures.same ∙ l.invariant.same;
      read_quiet = c.in_ok-byte.ensures.quiet (λ e. cc) ∙ l.invariant.read_quiet;
      write_quiet = c.in_ok-byte.ensures.write_quiet ∙ l.invariant.write_quiet;
      place = omega (arith, place, l.invariant.place);
      ahead = λ file held ahead. c.in_ok-byte.ensures.ahead file (rw l.invariant.same held) (l.invariant.ahead file held ahead);
      lacking = λ lacks none.
          absurd (let refused = c.in_ok-byte.ensures.lacking (rw l.invariant.same lacks) (l.invariant.lacking lacks none).1 in cc);
      begun = λ file held ahead.
          let byte = c.in_ok-byte.ensures.byte file (rw l.invariant.same held) (l.invariant.ahead file held ahead) in
          l.invariant.begun file held ahead ∙ goes_on file l.piece l.count l.self.place c.next_byte.new.self.place c.in-Some.byte (sym byte ∙ c.in-Some.is) c.if-byte-eq10.false (omega arith) place;
    }

pub returns-clause-line : goal.returns-clause-line
returns-clause-line g c = λ file held ahead.
    let l = c.loop-count in
    let some = some_taken l.piece l.count (omega arith) (omega arith) in
    let begins = begins_with (take l.count l.piece) (drop l.self.place file) some in
    inr (omega (arith, l.invariant.bound), (begins.0, begins.1, l.invariant.begun file held ahead ∙ begins.2))

pub returns-then-count-eq0-clause-lacking : goal.returns-then-count-eq0-clause-lacking
returns-then-count-eq0-clause-lacking g c = λ lacks none.
    let l = c.loop-count in
    absurd (let refused = c.in_ok-byte.ensures.lacking (rw l.invariant.same lacks) (l.invariant.lacking lacks none).1 in cc)

pub returns-in_default-clause-lacking : goal.returns-in_default-clause-lacking
returns-in_default-clause-lacking g c = λ lacks none.
    let l = c.loop-count in
    absurd (let refused = c.in_ok-byte.ensures.lacking (rw l.invariant.same lacks) (l.invariant.lacking lacks none).1 in cc)

pub returns-then-byte-eq10-clause-lacking : goal.returns-then-byte-eq10-clause-lacking
returns-then-byte-eq10-clause-lacking g c = λ lacks none.
    let l = c.loop-count in
    absurd (let refused = c.in_ok-byte.ensures.lacking (rw l.invariant.same lacks) (l.invariant.lacking lacks none).1 in cc)

pub returns-in_err-byte-clause-lacking : goal.returns-in_err-byte-clause-lacking
returns-in_err-byte-clause-lacking g c = λ lacks none.
    let l = c.loop-count in
    let refused = c.in_err-byte.ensures.lacking (rw l.invariant.same lacks) (l.invariant.lacking lacks none).1 in
    let p = err_from_is_err_and c.from_residual.result c.from_residual.ensures.1 in rw (p.1, p.2) refused

pub returns-clause-lacking : goal.returns-clause-lacking
returns-clause-lacking g c = λ lacks none.
    absurd (let at = (c.loop-count.invariant.lacking lacks none).0 in omega arith)
