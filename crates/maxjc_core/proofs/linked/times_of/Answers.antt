use Rattle.std.proofs.Common.{◌∙◌, ◌∷◌, ◌++◌, [], List, length, map, ap, sym}
use Rattle.std.specs.Prelude.{ℤ}
use Rattle.std.proofs.lemmas.Iterator.Adapters.{YieldsList-from_vec}
use Rattle.std.proofs.lemmas.Iterator.Consumers.{YieldsList-end}
use Rattle.std.proofs.lemmas.List.{map_push, map-id}
use Rattle.schedule_report.specs.declared.report.ReportKernel.{ReportKernel}
use Rattle.maxjc_core.proofs.linked.times_of.Goals as goal

pub loop-part-preserved : goal.loop-part-preserved
loop-part-preserved c =
    let own = c.in-Some.part.times in
    c.in_ok-push.ensures.ok
    ∙ ap (λ (xs : List (List ℤ)). xs ++ own ∷ []) c.loop-part.invariant
    ∙ sym (map_push (λ (p : ReportKernel). p.times) c.loop-part.yielded c.in-Some.part)

pub returns : goal.returns
returns c =
    let gives = c.into_iter-part-iterator.ensures.into_iter_gives in
    let items = c.into_vec-part-items.ensures in
    let all = YieldsList-from_vec {s = c.into_iter-part-iterator.result} c.args.report.kernels
    (gives.0 ∙ items) (gives.1 ∙ c.into_vec-part-items.result.ok.0 ∙ ap length items) in
    let end = YieldsList-end all c.loop-part.yielded c.loop-part.part-iterator
    c.loop-part.yielded_by c.next.result c.next.new.self c.in-None.is c.next.ensures.steps in
    c.loop-part.invariant
    ∙ ap (map (λ (p : ReportKernel). p.times)) (sym (map-id c.loop-part.yielded) ∙ end.0)
