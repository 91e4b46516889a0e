use Rattle.std.proofs.Common.{◌∙◌, ◌++◌, ap, refl}
use Rattle.kernel_calls.specs.declared.call.Call.TheVariants as C
use Rattle.stream_graph.specs.declared.row.Row.TheVariants as R
use Rattle.stream_graph.specs.Graphs.{piece}
use Rattle.stream_graph.proofs.Rows.{piece_new}
use Rattle.stream_graph.proofs.Behind.{after_name, same_option}
use Rattle.stream_graph.proofs.building.GraphBuilder.output.Goals as goal

pub returns-clause-call : goal.returns-clause-call
returns-clause-call c =
    let said = ap (λ p. piece (c.args.self.now.bytes.items.items ++ c.args.name.now) p) c.name-name.ensures.piece ∙
    piece_new c.args.self.now.bytes.items.items c.args.name.now in
    after_name c.args.self.now c.name-name.new.self c.node.new.self c.args.name.now
    (R.Output c.name-name.result c.args.value c.number_of.result c.args.t) _
    (ap (λ n. C.Output n c.args.value c.number_of.result c.args.t) said ∙ ap
    (λ o. C.Output c.args.name.now c.args.value o c.args.t) (c.number_of.ensures ∙ same_option c.args.control))
    refl refl refl
    (record {
      bytes = c.name-name.ensures.bytes;
      space = c.name-name.ensures.space;
      rows = c.name-name.ensures.rows;
      operands = c.name-name.ensures.operands;
      made = c.name-name.ensures.made;
    })
    (record {
      rows = c.node.ensures.rows;
      space = c.node.ensures.space;
      bytes = c.node.ensures.bytes;
      operands =
          c.node.ensures.operands;
      made = c.node.ensures.made;
    })
