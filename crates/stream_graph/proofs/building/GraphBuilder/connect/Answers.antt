use Rattle.std.proofs.Common.{refl, arith}
use Rattle.stream_graph.specs.declared.row.Row.TheVariants as R
use Rattle.stream_graph.proofs.Behind.{after_row}
use Rattle.stream_graph.proofs.building.GraphBuilder.connect.Goals as goal

pub returns-clause-call : goal.returns-clause-call
returns-clause-call c =
    after_row c.args.self.now c.row.new.self (R.Connect c.args.feed c.args.value) _ refl refl refl refl
    (record {
      rows = c.row.ensures.rows;
      space = c.row.ensures.space;
      bytes = c.row.ensures.bytes;
      operands =
          c.row.ensures.operands;
      made = omega arith;
    })
