use Rattle.std.proofs.Common.{◌∙◌, ◌∷◌, ◌++◌, [], List, length, ap, sym}
use Rattle.std.specs.Prelude.{ℤ}
use Rattle.std.proofs.lemmas.Iterator.Adapters.{YieldsList-from_vec}
use Rattle.std.proofs.lemmas.Iterator.Consumers.{YieldsList-end}
use Rattle.std.proofs.lemmas.List.{map_push, map-id}
use Rattle.kernel_schedule.specs.declared.schedule.Schedule.{Schedule}
use Rattle.project_netlists.specs.Scheduled.{all_times}
use Rattle.project_netlists.proofs.schedules.times_of.Goals as goal

pub loop-schedule-preserved : goal.loop-schedule-preserved
loop-schedule-preserved c =
    let own = c.in-Some.schedule.answer.times in
    c.in_ok-push.ensures.ok
    ∙ ap (λ (xs : List (List ℤ)). xs ++ own ∷ []) c.loop-schedule.invariant
    ∙ sym (map_push (λ (s : Schedule). s.answer.times) c.loop-schedule.yielded c.in-Some.schedule)

pub returns : goal.returns
returns c =
    let gives = c.into_iter-schedule-iterator.ensures.into_iter_gives in
    let items = c.into_vec-schedule-items.ensures in
    let all = YieldsList-from_vec {s = c.into_iter-schedule-iterator.result} c.args.schedules
    (gives.0 ∙ items) (gives.1 ∙ c.into_vec-schedule-items.result.ok.0 ∙ ap length items) in
    let end = YieldsList-end all c.loop-schedule.yielded c.loop-schedule.schedule-iterator
    c.loop-schedule.yielded_by c.next.result c.next.new.self c.in-None.is c.next.ensures.steps in
    c.loop-schedule.invariant ∙ ap all_times (sym (map-id c.loop-schedule.yielded) ∙ end.0)
