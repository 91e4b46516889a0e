use Rattle.std.proofs.Common.{rules, ◌≡◌, ◌∙◌, sym, refl, inr}
use Rattle.stream_graph.proofs.Meeting.{differ_more, says_again}
use Rattle.stream_graph.proofs.graph.Graph.ports_differ.Goals as goal

pub returns-then-not-branch-clause-err : goal.returns-then-not-branch-clause-err
returns-then-not-branch-clause-err c =
    let copied : c.from_vec.result ≡ c.port_name.result.now = search rules in
    inr (
      c.from_vec.result,
      refl,
      says_again c.args.self.now.bytes.items.items c.args.self.now.operands.items.items
          c.args.self.now.rows.items.items c.as_slice-row-items.result.now c.loop-row.row-index c.row-item.result
          c.loop-row.names c.meet.new.names c.in_ok-meet.field-0 c.from_vec.result
          c.as_slice-row-items.ensures c.loop-row-test.true c.row-item.is c.in_ok-meet.ensures
          (sym c.if-not-branch.true) (copied ∙ c.port_name.ensures) c.loop-row.invariant,
    )

pub loop-row-preserved : goal.loop-row-preserved
loop-row-preserved c =
    differ_more c.args.self.now.bytes.items.items c.args.self.now.operands.items.items
    c.args.self.now.rows.items.items c.as_slice-row-items.result.now c.loop-row.row-index c.row-item.result
    c.loop-row.names c.meet.new.names c.in_ok-meet.field-0
    c.as_slice-row-items.ensures c.loop-row-test.true c.row-item.is c.in_ok-meet.ensures (sym c.if-not-branch.false)
    c.loop-row.invariant
