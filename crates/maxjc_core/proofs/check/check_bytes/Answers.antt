use Rattle.std.proofs.Common.{◌≡◌, ◌∙◌, ap, subst, sym}
use Rattle.std.proofs.lemmas.Result.{IfOk-weaker, IfErr-weaker}
use Rattle.std.specs.List.{flat_map}
use Rattle.maxjc_core.specs.CheckCauses.{IsOfCheck}
use Rattle.maxjc_core.specs.Checking.{Checks, least_line}
use Rattle.maxjc_core.specs.CompileStops.{IfRefused}
use Rattle.maxjc_core.specs.declared.stop.Stop.TheVariants as stops
use Rattle.maxjc_core.proofs.Checking.{showing}
use Rattle.maxjc_core.proofs.check.check_bytes.Goals as goal

pub returns-in-Ok-clause-checked : goal.returns-in-Ok-clause-checked
returns-in-Ok-clause-checked c =
    let parts = c.as_slice.result.now in
    IfOk-weaker c.said_of.result (λ line. line.items ≡ flat_map least_line parts)
    (λ line. Checks c.args.source.now c.args.table.now c.args.report.now line.items)
    (λ line said. record {
      shows = showing c.args.source.now c.args.table.now c.args.report.now c.in-Ok.shown.project
          c.in-Ok.shown.report c.in-Ok.ensures.shows;
      said = said ∙ ap (flat_map least_line) c.as_slice.ensures;
    })
    c.said_of.ensures.said

pub returns-in-Ok-clause-refused : goal.returns-in-Ok-clause-refused
returns-in-Ok-clause-refused c =
    let of_check = IsOfCheck c.args.source.now c.args.table.now c.args.report.now in
    IfErr-weaker c.said_of.result (λ stop. stop ≡ stops.NoMemory) (λ stop. IfRefused stop of_check)
    (λ stop none. subst (λ s. IfRefused s of_check) (sym none) tt)
    c.said_of.ensures.no_memory
