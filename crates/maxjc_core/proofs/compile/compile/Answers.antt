use Rattle.mx_base.specs.Files.{Held}
use Rattle.maxjc_core.specs.NamedCommand.{names_told}
use Rattle.maxjc_core.proofs.Answering.{answers_of, answers_unread}
use Rattle.maxjc_core.proofs.compile.compile.Goals as goal

pub returns-in-Ok-clause-answers : goal.returns-in-Ok-clause-answers
returns-in-Ok-clause-answers g c =
    let held : Held = g.F.Files.held c.args.files.now in
    answers_of (names_told c.args.names) held c.in-Ok.project.source.items c.in-Ok.project.table.items
    c.build.result c.in-Ok.ensures.read
    (rw (c.as_slice.ensures.value, c.as_slice-in-Ok.ensures.value) at c.build.ensures.made)
    (rw (c.as_slice.ensures.value, c.as_slice-in-Ok.ensures.value) at c.build.ensures.refused)

pub returns-in-Err-clause-answers : goal.returns-in-Err-clause-answers
returns-in-Err-clause-answers g c =
    let held : Held = g.F.Files.held c.args.files.now in
    answers_unread (names_told c.args.names) held c.in-Err.stop c.in-Err.ensures.refused
