use Rattle.std.proofs.Common.{◌∙◌, ◌++◌, ap, sym, refl, length}
use Rattle.kernel_calls.specs.declared.call.Call.TheVariants as C
use Rattle.stream_graph.specs.declared.row.Row.TheVariants as R
use Rattle.stream_graph.specs.Graphs.{piece}
use Rattle.stream_graph.proofs.Rows.{piece_new}
use Rattle.stream_graph.proofs.Behind.{after_args, same_map}
use Rattle.stream_graph.proofs.building.GraphBuilder.operation.Goals as goal

pub returns-clause-call : goal.returns-clause-call
returns-clause-call c =
    let said = ap (λ p. piece (c.args.self.now.operands.items.items ++ c.args.args.now) p) c.args-args.ensures.piece
    ∙ piece_new c.args.self.now.operands.items.items c.args.args.now in
    after_args c.args.self.now c.args-args.new.self c.node.new.self c.args.args.now
    (R.Operation c.args.op c.args.mode c.args.amount c.args-args.result c.args.t) _
    (ap (λ n. C.Operation c.args.op c.args.mode c.args.amount n c.args.t) (said ∙ same_map c.args.args.now)) refl
    (ap length (sym (same_map c.args.args.now))) refl
    (record {
      operands = c.args-args.ensures.operands;
      space = c.args-args.ensures.space;
      rows =
          c.args-args.ensures.rows;
      bytes = c.args-args.ensures.bytes;
      made = c.args-args.ensures.made;
    })
    (record {
      rows = c.node.ensures.rows;
      space = c.node.ensures.space;
      bytes = c.node.ensures.bytes;
      operands =
          c.node.ensures.operands;
      made = c.node.ensures.made;
    })
