use Rattle.std.proofs.Common.{◌≡◌, false, Some, refl, ap, sym, ◌∙◌, subst}
use Rattle.word_files.specs.Written.{line_of, Puts}
use Rattle.simulation.proofs.Reading.{turned}
use Rattle.simulation.proofs.Writing.{line, put_event}
use Rattle.simulation.proofs.output.Output.put.Goals as goal

pub returns-clause-put : goal.returns-clause-put
returns-clause-put g c = λ words p.
    let old = c.args.self.now in
    let put = c.in_ok-put.ensures.put p.file p.holds in
    let is : line_of old.writer.width (Some c.new-word.result) ≡ line old.width c.args.event.word =
    ap (λ n. line n c.new-word.result.bits) (sym old.same) ∙ ap (line old.width) c.new-word.ensures.bits in
    put_event (g.F.Files.held c.args.files.now)
    (g.F.Files.held c.put.new.files) words old _ c.args.event p
    (turned false c.args.event.moved
    (sym c.if-not-event.false)) refl c.in_ok-put.ensures.name put.0
    c.put.new.self.waiting.items refl put.1
    (subst (λ l. Puts p.file old.writer.waiting.items l put.0 c.put.new.self.waiting.items) is put.2)
