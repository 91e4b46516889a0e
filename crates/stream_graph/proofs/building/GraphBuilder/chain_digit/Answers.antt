use Rattle.std.proofs.Common.{refl}
use Rattle.stream_graph.specs.declared.row.Row.TheVariants as R
use Rattle.stream_graph.proofs.Behind.{after_row}
use Rattle.stream_graph.proofs.building.GraphBuilder.chain_digit.Goals as goal

pub returns-clause-call : goal.returns-clause-call
returns-clause-call c =
    after_row c.args.self.now c.node.new.self (R.ChainDigit c.args.chain c.args.digit) _ refl refl refl refl
    (record {
      rows = c.node.ensures.rows;
      space = c.node.ensures.space;
      bytes = c.node.ensures.bytes;
      operands =
          c.node.ensures.operands;
      made = c.node.ensures.made;
    })
