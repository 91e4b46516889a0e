use Rattle.std.proofs.Common.{ap, sym, ◌∙◌, ◌≡◌, ◌++◌, subst, take, drop}
use Rattle.std.specs.Prelude.{slice_index}
use Rattle.offset_edges.specs.Walks.{IsSummed, IsShown, AreNumbers, offsets_of, latencies_of}
use Rattle.offset_edges.proofs.WalkLemmas.{numbers_of_walk}
use Rattle.offset_edges.proofs.ShownLemmas.{
  turned_shown,
  turned_closed,
  turned_offsets,
  turned_latencies,
  ok_also,
}
use Rattle.offset_edges.proofs.walk.walk_over.Goals as goal

pub least_start-first-requires-clause-numbers : goal.least_start-first-requires-clause-numbers
least_start-first-requires-clause-numbers c =
    numbers_of_walk c.args.edges.now c.args.round.now c.requires.closed.0 c.requires.closed.0
    c.requires.closed.1

pub sum_over-requires-clause-numbers : goal.sum_over-requires-clause-numbers
sum_over-requires-clause-numbers c =
    let edges = c.args.edges.now in
    let round = c.args.round.now in
    let k = c.least_start-first.result in
    let t = turned_closed edges round k c.requires.closed in
    subst (λ js. AreNumbers edges js) (sym (c.as_slice.ensures.value ∙ c.in_ok-numbers.ensures))
    (numbers_of_walk edges (drop k round ++ take k round) t.0 t.0 t.1)

pub returns-clause-shown : goal.returns-clause-shown
returns-clause-shown c =
    let edges = c.args.edges.now in
    let round = c.args.round.now in
    let k = c.least_start-first.result in
    ok_also c.sum_over.result (λ walk. IsSummed (λ n. slice_index c.args.ticks.now n) edges
    c.as_slice.result.now walk)
    (λ walk. IsShown (λ n. slice_index c.args.ticks.now n) edges walk)
    (λ walk h. turned_shown (λ n. slice_index c.args.ticks.now n) edges round k walk
    c.least_start-first.ensures.within
    c.requires.closed c.least_start-first.ensures.least
    (subst (λ js. IsSummed (λ n. slice_index c.args.ticks.now n) edges js walk)
    (c.as_slice.ensures.value ∙ c.in_ok-numbers.ensures) h))
    c.sum_over.ensures

pub returns-clause-offset : goal.returns-clause-offset
returns-clause-offset c =
    let edges = c.args.edges.now in
    let round = c.args.round.now in
    let k = c.least_start-first.result in
    ok_also c.sum_over.result (λ walk. IsSummed (λ n. slice_index c.args.ticks.now n) edges
    c.as_slice.result.now walk)
    (λ walk. walk.offset ≡ offsets_of edges round)
    (λ walk h. h.offset ∙ ap (offsets_of edges) (c.as_slice.ensures.value
    ∙ c.in_ok-numbers.ensures) ∙ turned_offsets edges round k)
    c.sum_over.ensures

pub returns-clause-latency : goal.returns-clause-latency
returns-clause-latency c =
    let edges = c.args.edges.now in
    let round = c.args.round.now in
    let k = c.least_start-first.result in
    ok_also c.sum_over.result (λ walk. IsSummed (λ n. slice_index c.args.ticks.now n) edges
    c.as_slice.result.now walk)
    (λ walk. walk.latency ≡ latencies_of (λ n. slice_index c.args.ticks.now n) edges round)
    (λ walk h. h.latency
    ∙ ap (latencies_of (λ n. slice_index c.args.ticks.now n) edges) (c.as_slice.ensures.value
    ∙ c.in_ok-numbers.ensures)
    ∙ turned_latencies (λ n. slice_index c.args.ticks.now n) edges round k)
    c.sum_over.ensures
