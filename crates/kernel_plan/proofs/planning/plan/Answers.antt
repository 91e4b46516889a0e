use Rattle.std.proofs.Common.{◌≡◌, ◌∙◌, ◌^◌, true, length, sym, ap, subst, rules, arith}
use Rattle.std.specs.Int.{w128}
use mir.Val.{SFits}
use Rattle.std.specs.Prelude.{pos, slice_index, unsigned_abs, int_lt}
use Rattle.std.proofs.lemmas.Int.{ints}
use Rattle.cycle_find.specs.Constraints.{numbers_of}
use Rattle.schedule_problem.specs.Flow.{TermsInRange}
use Rattle.offset_edges.specs.Edges.{edges_of}
use Rattle.offset_edges.specs.Problems.{problem_over}
use Rattle.offset_edges.specs.Schedules.{IsLegal}
use Rattle.fifo_sharing.specs.Chains.{AreChains}
use Rattle.kernel_layout.specs.Layouts.{IsLayout}
use Rattle.kernel_plan.specs.Refused.{bits_in}
use Rattle.kernel_plan.proofs.Facts.{few_terms, terms_inside, legal, causal, problem_is, bits_read, some_bits, bits_said, planned, many, few_said, said_few, few_bits, no_memory}
use Rattle.kernel_plan.proofs.Stored.{stored, piped}
use Rattle.kernel_plan.proofs.Counted.{registers_counted, waits_counted, rings_counted}
use Rattle.kernel_plan.proofs.planning.plan.Goals as goal

pub cost-bits-requires-clause-count : goal.cost-bits-requires-clause-count
cost-bits-requires-clause-count c =
    few_terms c.args.kernel.now.nodes c.args.schedule.now c.requires.least c.args.kernel.now.few

pub cost-bits-requires-clause-ends : goal.cost-bits-requires-clause-ends
cost-bits-requires-clause-ends c =
    let same : c.as_slice-times.result.now ≡ c.args.schedule.now.answer.times = c.as_slice-times.ensures in
    subst (λ times. TermsInRange (length times) c.args.schedule.now.problem.terms) (sym same)
    (terms_inside c.args.kernel.now.nodes c.args.schedule.now c.requires.least)

pub returns-then-bits-gt-MOST_BITS-clause-refused : goal.returns-then-bits-gt-MOST_BITS-clause-refused
returns-then-bits-gt-MOST_BITS-clause-refused c =
    let nodes = c.args.kernel.now.nodes in
    let schedule = c.args.schedule.now in
    let f : SFits w128 c.cost-bits.result = search rules in
    let read = bits_read nodes schedule c.requires.least c.cost-bits.result c.as_slice-times.result.now f c.cost-bits.ensures c.as_slice-times.ensures in
    many (bits_in nodes schedule) c.unsigned_abs.result (c.unsigned_abs.ensures.value ∙ ap unsigned_abs read)
    (subst (λ z. int_lt (pos (2 ^ 28)) z ≡ true) read c.if-bits-gt-MOST_BITS.true)

pub lay_out-requires-clause-legal : goal.lay_out-requires-clause-legal
lay_out-requires-clause-legal c =
    let nodes = c.args.kernel.now.nodes in
    let schedule = c.args.schedule.now in
    let times : schedule.answer.times ≡ c.as_slice-times.result.now = sym c.as_slice-times.ensures in
    let latencies : schedule.latencies ≡ c.as_slice-latencies.result.now = sym c.as_slice-latencies.ensures in
    subst (λ xs. IsLegal (slice_index c.as_slice-latencies.result.now) (edges_of nodes) (numbers_of xs)) times
    (subst (λ xs. IsLegal (slice_index xs) (edges_of nodes) (numbers_of schedule.answer.times)) latencies
    (legal nodes schedule c.requires.least))

pub lay_out-requires-clause-causal : goal.lay_out-requires-clause-causal
lay_out-requires-clause-causal c =
    causal c.args.kernel.now.nodes c.args.schedule.now c.requires.least

pub lay_out-requires-clause-chains : goal.lay_out-requires-clause-chains
lay_out-requires-clause-chains c =
    let nodes = c.args.kernel.now.nodes in
    let schedule = c.args.schedule.now in
    let problem = problem_is nodes schedule c.requires.least in
    let times : schedule.answer.times ≡ c.as_slice-times.result.now = sym c.as_slice-times.ensures in
    let latencies : schedule.latencies ≡ c.as_slice-latencies.result.now = sym c.as_slice-latencies.ensures in
    let xs = c.as_slice-times.result.now in
    let chains = c.as_slice.result.now in
    subst (λ ls. AreChains (problem_over (slice_index ls) nodes (edges_of nodes)) (numbers_of xs) chains) latencies
    (subst (λ p. AreChains p (numbers_of xs) chains) problem
    (subst (λ cs. AreChains schedule.problem (numbers_of xs) cs) (sym c.as_slice.ensures) c.in_ok-chains.ensures))

pub returns-in_err-chains-clause-refused : goal.returns-in_err-chains-clause-refused
returns-in_err-chains-clause-refused c =
    let nodes = c.args.kernel.now.nodes in
    let schedule = c.args.schedule.now in
    let f : SFits w128 c.cost-bits.result = search rules in
    no_memory c.from_residual.result (bits_in nodes schedule) c.from_residual.ensures.1
    (few_bits nodes schedule c.requires.least c.cost-bits.result c.as_slice-times.result.now f c.cost-bits.ensures c.as_slice-times.ensures
    c.if-bits-gt-MOST_BITS.false)

pub returns-in_err-layout-clause-refused : goal.returns-in_err-layout-clause-refused
returns-in_err-layout-clause-refused c =
    let nodes = c.args.kernel.now.nodes in
    let schedule = c.args.schedule.now in
    let f : SFits w128 c.cost-bits.result = search rules in
    no_memory c.from_residual-in_err-layout.result (bits_in nodes schedule) c.from_residual-in_err-layout.ensures.1
    (few_bits nodes schedule c.requires.least c.cost-bits.result c.as_slice-times.result.now f c.cost-bits.ensures c.as_slice-times.ensures
    c.if-bits-gt-MOST_BITS.false)

-- the cost is not below 0 and at most 2^28, so that no bit is lost
pub overflow_cast-result : goal.overflow_cast-result
overflow_cast-result c =
    let nodes = c.args.kernel.now.nodes in
    let schedule = c.args.schedule.now in
    let f : SFits w128 c.cost-bits.result = search rules in
    let read = bits_read nodes schedule c.requires.least c.cost-bits.result c.as_slice-times.result.now f c.cost-bits.ensures c.as_slice-times.ensures in
    let some = some_bits nodes schedule c.requires.least in
    let few = few_bits nodes schedule c.requires.least c.cost-bits.result c.as_slice-times.result.now f c.cost-bits.ensures c.as_slice-times.ensures c.if-bits-gt-MOST_BITS.false in
    omega (arith, ints, read, some, few)

pub returns-clause-bits : goal.returns-clause-bits
returns-clause-bits c =
    let nodes = c.args.kernel.now.nodes in
    let schedule = c.args.schedule.now in
    let f : SFits w128 c.cost-bits.result = search rules in
    bits_said nodes schedule c.requires.least c.cost-bits.result c.as_slice-times.result.now f c.cost-bits.ensures c.as_slice-times.ensures

pub returns-clause-fits : goal.returns-clause-fits
returns-clause-fits c =
    let nodes = c.args.kernel.now.nodes in
    let schedule = c.args.schedule.now in
    let f : SFits w128 c.cost-bits.result = search rules in
    few_said (bits_in nodes schedule) _ (returns-clause-bits c)
    (few_bits nodes schedule c.requires.least c.cost-bits.result c.as_slice-times.result.now f c.cost-bits.ensures c.as_slice-times.ensures
    c.if-bits-gt-MOST_BITS.false)

pub returns-clause-laid : goal.returns-clause-laid
returns-clause-laid c =
    let nodes = c.args.kernel.now.nodes in
    let schedule = c.args.schedule.now in
    let times : c.as_slice-times.result.now ≡ schedule.answer.times = c.as_slice-times.ensures in
    let latencies : c.as_slice-latencies.result.now ≡ schedule.latencies = c.as_slice-latencies.ensures in
    let layout = c.in_ok-layout.layout in
    subst (λ xs. IsLayout nodes (slice_index schedule.latencies) (numbers_of xs) layout) times
    (subst (λ ls. IsLayout nodes (slice_index ls) (numbers_of c.as_slice-times.result.now) layout) latencies c.in_ok-layout.ensures)

pub returns-clause-planned : goal.returns-clause-planned
returns-clause-planned c =
    planned c.args.kernel.now.nodes c.args.schedule.now c.requires.least c.args.kernel.now.made c.args.kernel.now.few
    (said_few (bits_in c.args.kernel.now.nodes c.args.schedule.now) _ (returns-clause-bits c) (returns-clause-fits c))
    c.requires.most c.in_ok-layout.layout (returns-clause-laid c)

pub returns-clause-stored : goal.returns-clause-stored
returns-clause-stored c =
    let nodes = c.args.kernel.now.nodes in
    let schedule = c.args.schedule.now in
    stored nodes (slice_index schedule.latencies) (numbers_of schedule.answer.times) (legal nodes schedule c.requires.least)
    c.in_ok-layout.layout.waits (returns-clause-laid c).waits _ (returns-clause-bits c)

pub returns-clause-pipelines : goal.returns-clause-pipelines
returns-clause-pipelines c =
    piped c.args.kernel.now.nodes (slice_index c.args.schedule.now.latencies) c.in_ok-layout.layout.pipeline (returns-clause-laid c).pipeline

pub returns-clause-registers : goal.returns-clause-registers
returns-clause-registers c =
    registers_counted c.args.kernel.now.nodes (slice_index c.args.schedule.now.latencies) c.in_ok-layout.layout.pipeline
    (returns-clause-laid c).pipeline c.requires.least.least.latencies.at_most

pub returns-clause-waits : goal.returns-clause-waits
returns-clause-waits c =
    let schedule = c.args.schedule.now in
    waits_counted c.args.kernel.now.nodes (slice_index schedule.latencies) (numbers_of schedule.answer.times) c.in_ok-layout.layout.waits
    (returns-clause-laid c).waits

pub returns-clause-rings : goal.returns-clause-rings
returns-clause-rings c =
    let schedule = c.args.schedule.now in
    rings_counted c.args.kernel.now.nodes (slice_index schedule.latencies) (numbers_of schedule.answer.times) c.in_ok-layout.layout.waits
    (returns-clause-laid c).waits
