use Rattle.std.proofs.Common.{◌∙◌, get_or, length, ap}
use Rattle.std.specs.Prelude.{slice_index, None}
use Rattle.offset_edges.specs.Problems.{terms_below, base_below}
use Rattle.offset_edges.proofs.ProblemLemmas.{problem_is}
use Rattle.offset_edges.proofs.problem.problem_over.Goals as goal

pub returns : goal.returns
returns c =
    let nodes = c.args.kernel.now.nodes in
    let ticks = c.args.ticks.now in
    problem_is (λ n. slice_index ticks n) nodes c.args.edges.now c.count-nodes.result c.base.result
    c.in_ok-list.list
    c.in_ok-terms.terms c.in_ok-readers.readers.items c.count-nodes.ensures c.in_ok-readers.ensures
    c.in_ok-list.ensures
    (c.in_ok-terms.ensures ∙ ap (λ rs. terms_below nodes (λ u. get_or rs u None) (length nodes))
    c.as_slice.ensures.value)
    (c.base.ensures ∙ ap (λ rs. base_below (λ n. slice_index ticks n) nodes (λ u. get_or rs u None)
    (length nodes)) c.as_slice-2.ensures.value)
