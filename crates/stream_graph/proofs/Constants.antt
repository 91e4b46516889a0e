-- The node of a constant.
use Rattle.std.proofs.Common.{◌≡◌, ℕ, List, [], ap, sym, subst}
use Rattle.std.specs.Prelude.{false}
use Rattle.mx_bits.specs.declared.word.Word.{Word}
use Rattle.fix_arith.specs.declared.types.StreamType.{StreamType}
use Rattle.fix_arith.specs.Types.{width_of}
use Rattle.stream_graph.specs.declared.row.Row.{Row}
use Rattle.stream_graph.specs.declared.row.Row.TheVariants as R
use Rattle.stream_graph.specs.declared.node.Kind.TheVariants as K
use Rattle.stream_graph.specs.declared.node.Node.{Node}
use Rattle.stream_graph.specs.declared.node.NodeView.{NodeView}
use Rattle.stream_graph.specs.Graphs.{call_by}
use Rattle.stream_graph.specs.Nodes.{IsNode}

abbrev view : Word → StreamType → NodeView
view word t = record { kind = K.Constant word; t = t; controlled = false }

pub constant_node : (bytes operands : List ℕ) (bits : ℕ) (t : StreamType) (row : Row) (node : Node) (word : Word) →
    row ≡ R.Constant bits t →
    word.bits ≡ bits → word.width ≡ width_of t → node.view ≡ view word t → node.operands ≡ [] → node.name ≡ [] →
    node.digits ≡ [] → IsNode [] 0 (call_by bytes operands row) node
constant_node bytes operands bits t row node word e b w v o n d =
    subst (λ r. IsNode [] 0 (call_by bytes operands r) node) (sym e) (record {
      kind = (word, ap (λ x. x.kind) v, b, w);
      t = ap (λ x. x.t) v;
      controlled = ap (λ x. x.controlled) v;
      operands = o;
      name = n;
      digits = d;
    })
