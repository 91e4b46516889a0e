use Rattle.std.proofs.Common.{◌≡◌, ◌+◌, ◌<◌, ◌^◌, [], ◌∷◌, ◌++◌, length, Some, option_map, sym, ap, ◌∙◌, subst, arith}
use Rattle.std.specs.Prelude.{slice_get}
use Rattle.std.proofs.lemmas.List.{length_push}
use Rattle.std.proofs.lemmas.List.Elements.{All-same, All-push}
use Rattle.std.proofs.lemmas.Result.{err_from_is_err_and}
use Rattle.word_files.specs.Hex.{word_of}
use Rattle.word_files.specs.Lines.{lines_of}
use Rattle.word_lists.specs.Read.{said_by}
use Rattle.word_lists.proofs.Saying.{Begins, said_at, said_past, begins_more, all_there, refused}
use Rattle.word_lists.proofs.reading.read_words.Goals as goal

pub returns-in_err-word-clause-words : goal.returns-in_err-word-clause-words
returns-in_err-word-clause-words g c = λ file held.
    let l = c.loop-reader in
    let p = err_from_is_err_and c.from_residual.result c.from_residual.ensures.1 in
    rw (p.1, p.2)
    (refused c.args.name.now l.reader.name c.args.width l.reader.width c.args.most file l.words l.reader.lines c.in_err-word.field-0.0
    l.invariant.name l.invariant.width (l.invariant.says file held) l.invariant.fit (omega arith) l.invariant.lines
    (c.in_err-word.ensures.line file (rw (l.invariant.same, l.invariant.name) held) (l.invariant.follows file held)))

pub returns-in_default-2-clause-words : goal.returns-in_default-2-clause-words
returns-in_default-2-clause-words g c = λ file held.
    let l = c.loop-reader in
    let line = rw c.in_default-2.is at (c.in_ok-word.ensures.line file (rw (l.invariant.same, l.invariant.name) held) (l.invariant.follows file held)) in
    record {
      are = all_there (said_by file) l.words c.args.most (l.invariant.says file held) l.invariant.within (said_past file l.reader.lines (length l.words) l.invariant.lines line);
      fit = l.invariant.fit;
    }

pub loop-reader-preserved : goal.loop-reader-preserved
loop-reader-preserved g c =
    let l = c.loop-reader in
    let e = c.in_ok-word.ensures in
    let bits = c.bits.result in
    let read = rw c.in-Some.is at e.lines in
    let wide = rw c.in-Some.is at e.wide in
    let below : bits < 2 ^ c.args.width =
    subst (λ n. n < 2 ^ c.args.width) (sym c.bits.ensures)
    (subst (λ n. c.in-Some.word.bits < 2 ^ n) (wide ∙ l.invariant.width) c.in-Some.word.fits) in
    let pushed : c.push.new.self ≡ l.words ++ bits ∷ [] = c.in-Ok-push.ensures.ok in
    let longer : length c.push.new.self ≡ length l.words + 1 = ap length pushed ∙ length_push l.words bits in
    record {
      name = e.name ∙ l.invariant.name;
      width = e.width ∙ l.invariant.width;
      unrefused = e.kept;
      same = e.same ∙ l.invariant.same;
      read_quiet = e.quiet (λ q. cc) ∙ l.invariant.read_quiet;
      write_quiet = e.write_quiet ∙ l.invariant.write_quiet;
      lines = read ∙ ap (λ n. n + 1) l.invariant.lines ∙ sym longer;
      within = omega (arith, longer);
      fit = All-same (λ w. w < 2 ^ c.args.width) c.push.new.self (l.words ++ bits ∷ []) pushed (All-push (λ w. w < 2 ^ c.args.width) l.words bits l.invariant.fit below);
      follows = λ file held. e.follows file (rw (l.invariant.same, l.invariant.name) held) (l.invariant.follows file held);
      says = λ file held. (
          let line = rw c.in-Some.is at (e.line file (rw (l.invariant.same, l.invariant.name) held) (l.invariant.follows file held)) in
          let at : option_map word_of (slice_get (lines_of file) l.reader.lines) ≡ Some (Some bits) = line.0 ∙ ap (λ b. Some (Some b)) (sym c.bits.ensures) in
          let next = said_at file l.reader.lines (length l.words) (Some bits) l.invariant.lines at in
          subst (λ ws. Begins (said_by file) ws) (sym pushed) (begins_more (said_by file) l.words bits (l.invariant.says file held) next));
      lacking = λ lacks. absurd (let refusal = e.lacking (rw (l.invariant.same, l.invariant.name) lacks) (l.invariant.lacking lacks).1 in cc);
    }
