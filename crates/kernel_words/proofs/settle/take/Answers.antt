use Rattle.std.proofs.Common.{◌∙◌, ◌+◌, get_or, sym, ap, arith}
use Rattle.stream_graph.specs.LookUps.{kind_at}
use Rattle.stream_equations.specs.Equations.{enabled}
use Rattle.kernel_words.specs.Streams.{values_of}
use Rattle.stream_graph.specs.Kinds.{is_input}
use Rattle.kernel_words.proofs.Taking.{input_kind, not_input, not_enabled, one_more}
use Rattle.kernel_words.proofs.settle.take.Goals as goal

pub returns-then-not-is_input : goal.returns-then-not-is_input
returns-then-not-is_input c =
    not_input c.args.kernel.now.nodes c.args.streams.now c.args.taken.now c.args.place
    (sym (c.is_input.ensures ∙ ap is_input (c.kind_of.ensures ∙ ap (kind_at c.args.kernel.now.nodes) c.new-node.ensures)) ∙ c.if-not-is_input.true)

pub returns-then-not-is_enabled : goal.returns-then-not-is_enabled
returns-then-not-is_enabled c =
    not_enabled c.args.kernel.now.nodes c.args.streams.now c.args.taken.now c.args.place
    (sym (c.is_enabled.ensures ∙ ap (λ n. enabled c.args.kernel.now.nodes (values_of c.args.streams.now) n c.args.place.tick) c.new-node.ensures) ∙ c.if-not-is_enabled.true)

pub overflow_add-taken : goal.overflow_add-taken
overflow_add-taken c =
    let few = c.requires.few (input_kind (kind_at c.args.kernel.now.nodes c.args.place.node)
    (sym (c.is_input.ensures ∙ ap is_input (c.kind_of.ensures ∙ ap (kind_at c.args.kernel.now.nodes) c.new-node.ensures)) ∙ c.if-not-is_input.false)) in
    omega (arith, few)

pub returns : goal.returns
returns c =
    let counts = c.requires.counts in
    let node = c.requires.node in
    one_more c.args.kernel.now.nodes c.args.streams.now c.args.taken.now c.args.place (get_or c.args.taken.now c.args.place.node 0 + 1)
    (sym (c.is_enabled.ensures ∙ ap (λ n. enabled c.args.kernel.now.nodes (values_of c.args.streams.now) n c.args.place.tick) c.new-node.ensures) ∙ c.if-not-is_enabled.false)
    (omega (arith, counts, node)) (omega arith)
