use Rattle.std.proofs.Common.{◌∙◌, ◌++◌, ap, refl, ◌∷◌, []}
use Rattle.stream_graph.specs.declared.row.Row.TheVariants as R
use Rattle.std.proofs.lemmas.Int.{to_z-of_z}
use mir.Syntax.{w32}
use Rattle.stream_graph.proofs.Behind.{after_row}
use Rattle.stream_graph.proofs.building.GraphBuilder.offset.Goals as goal

pub returns-clause-call : goal.returns-clause-call
returns-clause-call c =
    after_row c.args.self.now c.node.new.self (R.Offset c.args.value c.args.k c.args.t) _ refl refl refl refl
    (record {
      rows = (c.node.ensures.rows ∙ ap (λ k. c.args.self.now.rows.items.items ++ R.Offset c.args.value k
          c.args.t ∷ []) (to_z-of_z w32 c.args.k c.ranges.k));
      space = c.node.ensures.space;
      bytes =
          c.node.ensures.bytes;
      operands = c.node.ensures.operands;
      made = c.node.ensures.made;
    })
