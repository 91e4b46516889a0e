use Rattle.std.proofs.Common.{[], drop, Some, option_map, refl, sym, ap, ◌∙◌, arith}
use Rattle.std.proofs.lemmas.Bool.{false≢true}
use Rattle.std.proofs.lemmas.Bool.Decides.{nat_tests}
use Rattle.word_files.specs.Hex.{word_of}
use Rattle.word_files.specs.Lines.{lines_from, lines_of}
use Rattle.word_files.proofs.JudgeLemmas.{no_item, taken_line, taken_next}
use Rattle.word_files.proofs.reader.WordReader.next_word.Goals as goal

pub returns-in-Ok-None-clause-line : goal.returns-in-Ok-None-clause-line
returns-in-Ok-None-clause-line g c = λ file held follows.
    let s = c.args.self.now in
    let line = rw c.in-Ok-None.field-0-is at (c.in-Ok-None.ensures.line file held follows.ahead) in
    no_item (lines_of file) s.lines (follows.left ∙ line)

pub returns-in-Ok-None-clause-follows : goal.returns-in-Ok-None-clause-follows
returns-in-Ok-None-clause-follows g c = λ file held follows.
    let s = c.args.self.now in
    let line = rw c.in-Ok-None.field-0-is at (c.in-Ok-None.ensures.line file held follows.ahead) in
    let place = rw c.in-Ok-None.field-0-is at c.in-Ok-None.ensures.place in
    record {
      unrefused = follows.unrefused;
      ahead = c.in-Ok-None.ensures.ahead file held follows.ahead;
      left = follows.left ∙ ap (λ n. lines_from [] (drop n file)) (sym place);
      ended = λ e. no_item (lines_of file) s.lines (follows.left ∙ line);
    }

pub returns-in_default-clause-line : goal.returns-in_default-clause-line
returns-in_default-clause-line g c = λ file held follows.
    let s = c.args.self.now in
    let line = rw c.in-Ok-Some.field-0-is at (c.in-Ok-Some.ensures.line file held follows.ahead) in
    let taken = taken_line file c.take_line.new.piece (lines_of file) s.lines s.bytes.place c.take_line.new.self.place c.in-Ok-Some.count c.take_line.array_long follows.left line in
    (refl, ap (option_map word_of) taken.1 ∙ ap Some (taken.2 ∙ sym c.parse_word.ensures ∙ c.in_default.is))

pub returns-then-not-is_below-clause-line : goal.returns-then-not-is_below-clause-line
returns-then-not-is_below-clause-line g c = λ file held follows.
    let s = c.args.self.now in
    let line = rw c.in-Ok-Some.field-0-is at (c.in-Ok-Some.ensures.line file held follows.ahead) in
    let taken = taken_line file c.take_line.new.piece (lines_of file) s.lines s.bytes.place c.take_line.new.self.place c.in-Ok-Some.count c.take_line.array_long follows.left line in
    (refl, (c.in-Some.bits, ap (option_map word_of) taken.1 ∙ ap Some (taken.2 ∙ sym c.parse_word.ensures ∙ c.in-Some.is), grind (arith, nat_tests, c.if-not-is_below.ensures)))

pub returns-clause-line : goal.returns-clause-line
returns-clause-line g c = λ file held follows.
    let s = c.args.self.now in
    let line = rw c.in-Ok-Some.field-0-is at (c.in-Ok-Some.ensures.line file held follows.ahead) in
    let taken = taken_line file c.take_line.new.piece (lines_of file) s.lines s.bytes.place c.take_line.new.self.place c.in-Ok-Some.count c.take_line.array_long follows.left line in
    (ap (option_map word_of) taken.1 ∙ ap Some (taken.2 ∙ sym c.parse_word.ensures ∙ c.in-Some.is ∙ ap Some (sym c.new.ensures.bits)), c.new.ensures.width)

pub returns-clause-follows : goal.returns-clause-follows
returns-clause-follows g c = λ file held follows.
    let s = c.args.self.now in
    let line = rw c.in-Ok-Some.field-0-is at (c.in-Ok-Some.ensures.line file held follows.ahead) in
    record {
      unrefused = follows.unrefused;
      ahead = c.in-Ok-Some.ensures.ahead file held follows.ahead;
      ended = λ e. absurd (false≢true (sym c.requires.open ∙ e));
      left = taken_next file c.take_line.new.piece
          (lines_of file) s.lines s.bytes.place c.take_line.new.self.place c.in-Ok-Some.count
          c.in-Some.bits c.take_line.array_long follows.left line
          (sym c.parse_word.ensures ∙ c.in-Some.is);
    }
