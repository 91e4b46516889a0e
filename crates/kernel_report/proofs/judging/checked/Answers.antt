use Rattle.std.proofs.Common.{◌≡◌, List, ℕ, sym, subst, rules}
use Rattle.schedule_problem.specs.declared.problem.Problem.{Problem}
use Rattle.dual_check.specs.Verdicts.{IsCheckable, IsVerdict}
use Rattle.stream_graph.proofs.NodeLemmas.{orderly}
use Rattle.offset_edges.proofs.EdgeLemmas.{edges_small}
use Rattle.kernel_report.specs.Judging.{IsJudged}
use Rattle.kernel_report.proofs.Verdicts.{judged, checkable}
use Rattle.kernel_report.proofs.judging.checked.Goals as goal

pub check-requires-clause-checkable : goal.check-requires-clause-checkable
check-requires-clause-checkable c =
    let kernel = c.args.kernel.now in
    let part = c.args.part.now in
    let p = c.args.problem.now in
    let r = c.requires in
    let flow : c.from_vec.result ≡ part.flow = search rules in
    let P : List ℕ → Type 0 = λ f. IsCheckable p (record { times = c.args.times; flow = f }) in
    subst P (sym flow)
    (checkable c.args.table.now kernel part c.args.times r.times p r.problem r.solvable r.few r.small r.part r.of r.counted
    (edges_small kernel.nodes (orderly kernel.nodes kernel.made) kernel.few))

pub returns : goal.returns
returns c =
    let kernel = c.args.kernel.now in
    let part = c.args.part.now in
    let flow : c.from_vec.result ≡ part.flow = search rules in
    let P : List ℕ → Type 0 = λ f. IsVerdict c.args.problem.now (record { times = c.args.times; flow = f }) c.check.result in
    let Q : Problem → Type 0 = λ p. IsVerdict p (record { times = c.args.times; flow = part.flow }) c.check.result in
    subst (λ j. IsJudged c.args.table.now kernel part j) (sym c.judgement_of.ensures)
    (judged c.args.table.now kernel part c.args.times c.requires.times c.requires.of c.check.result
    (subst Q c.requires.problem (subst P flow c.check.ensures)))
