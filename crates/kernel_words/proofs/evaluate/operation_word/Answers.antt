use Rattle.std.proofs.Common.{◌∙◌, sym, ap, map}
use Rattle.stream_graph.specs.declared.node.Kind.TheVariants as K
use Rattle.stream_graph.specs.LookUps.{operands_at, type_at}
use Rattle.kernel_words.specs.Streams.{values_of}
use Rattle.kernel_words.specs.Sides.{words_at, operated_at}
use Rattle.kernel_words.proofs.Operating.{other_op}
use Rattle.kernel_words.proofs.evaluate.operation_word.Goals as goal

pub chosen_word-requires-clause-kind : goal.chosen_word-requires-clause-kind
chosen_word-requires-clause-kind c = record {
  mode = c.args.mode;
  amount = c.args.amount;
  is = c.requires.kind ∙ ap (λ o. K.Operation o c.args.mode c.args.amount) c.in-Mux.is;
}

pub applied_word-requires-clause-other : goal.applied_word-requires-clause-other
applied_word-requires-clause-other c = c.in_default.not-Mux

pub returns-in-Mux-clause-right : goal.returns-in-Mux-clause-right
returns-in-Mux-clause-right c =
    c.chosen_word.ensures.right
    ∙ sym (ap (λ o. operated_at c.args.kernel.now.nodes (values_of c.args.streams.now) c.args.node c.args.tick o c.args.mode c.args.amount) c.in-Mux.is)

pub returns-in_default-clause-right : goal.returns-in_default-clause-right
returns-in_default-clause-right c =
    c.applied_word.ensures.right
    ∙ other_op c.args.mode (map (type_at c.args.kernel.now.nodes) (operands_at c.args.kernel.now.nodes c.args.node))
    (words_at c.args.kernel.now.nodes (values_of c.args.streams.now) c.args.node c.args.tick) c.args.amount
    (type_at c.args.kernel.now.nodes c.args.node) c.args.op c.in_default.not-Mux
