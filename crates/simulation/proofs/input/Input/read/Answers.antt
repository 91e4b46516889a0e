use Rattle.std.proofs.Common.{Err, ap, sym, ◌∙◌, refl}
use Rattle.std.proofs.lemmas.Result.{err_from_is_err_and}
use Rattle.simulation.proofs.Reading.{read_stands, read_ended, read_stopped, no_write, read_kind, nothing_waits}
use Rattle.simulation.proofs.input.Input.read.Goals as goal

pub returns-clause-ended : goal.returns-clause-ended
returns-clause-ended g c = λ f left at.
    read_ended (g.F.Files.held c.args.files.now) f left c.args.self.now c.next.new.self c.in_ok-word.word
    (nothing_waits c.args.self.now.waiting (sym c.is_some.ensures ∙ c.if-is_some.false))
    (record {
      name = c.in_ok-word.ensures.name;
      width = c.in_ok-word.ensures.width;
      unrefused = c.in_ok-word.ensures.kept;
      lacking = λ lacks unread. absurd (let e = c.in_ok-word.ensures.lacking lacks unread in cc);
      line = c.in_ok-word.ensures.line;
      follows = c.in_ok-word.ensures.follows;
      lines = c.in_ok-word.ensures.lines;
    }) at

pub returns-clause-stands : goal.returns-clause-stands
returns-clause-stands g c = λ f left at.
    read_stands (g.F.Files.held c.args.files.now) f left c.args.self.now c.next.new.self c.in_ok-word.word _ refl refl
    (nothing_waits c.args.self.now.waiting (sym c.is_some.ensures ∙ c.if-is_some.false))
    (record {
      name = c.in_ok-word.ensures.name;
      width = c.in_ok-word.ensures.width;
      unrefused = c.in_ok-word.ensures.kept;
      lacking = λ lacks unread. absurd (let e = c.in_ok-word.ensures.lacking lacks unread in cc);
      line = c.in_ok-word.ensures.line;
      follows = c.in_ok-word.ensures.follows;
      lines = c.in_ok-word.ensures.lines;
    }) at

pub returns-in_err-word-clause-stopped : goal.returns-in_err-word-clause-stopped
returns-in_err-word-clause-stopped g c = λ f left at.
    let p = err_from_is_err_and c.from_residual.result c.from_residual.ensures.1 in
    let e = c.in_err-word.ensures in
    rw (p.1, p.2)
    (read_stopped (g.F.Files.held c.args.files.now) _ f left c.args.self.now c.in_err-word.field-0.0
    (nothing_waits c.args.self.now.waiting (sym c.is_some.ensures ∙ c.if-is_some.false))
    (λ q. e.fault at.unrefused (ap Err q))
    (λ lacks unread. (let q = e.lacking lacks unread in cc))
    e.line
    (no_write _ _ _ e.kept)
    at)

pub returns-in_err-word-clause-errors : goal.returns-in_err-word-clause-errors
returns-in_err-word-clause-errors g c =
    let p = err_from_is_err_and c.from_residual.result c.from_residual.ensures.1 in
    rw (p.1, p.2) (read_kind _ _ _ c.in_err-word.ensures.kept)
