use Rattle.std.proofs.Common.{arith, ◌≡◌, ◌<◌, ◌+◌, cond, length, sym, subst, ap, ◌∙◌}
use Rattle.cycle_find.specs.Constraints.{numbers_of}
use Rattle.stream_graph.specs.LookUps.{kind_at, operands_at}
use Rattle.stream_graph.specs.Kinds.{is_offset}
use Rattle.stream_graph.proofs.NodeLemmas.{orderly}
use Rattle.stream_graph.proofs.Reading.{view_read, operands_read}
use Rattle.kernel_layout.specs.Reads.{IsLater, IsRead, AreReadsBelow, reads_count}
use Rattle.kernel_layout.proofs.Sourcing.{is_later}
use Rattle.kernel_layout.proofs.Reading.{one_read_more, item_is}
use Rattle.kernel_layout.proofs.reads.reads_of.Goals as goal
use Rattle.kernel_layout.proofs.reads.reads_of.Goals.{After-is_offset}

-- whether the node is an offset
tested : (c : After-is_offset) → c.is_offset.result ≡ is_offset (kind_at c.args.kernel.now.nodes c.args.reader)
tested c =
    c.is_offset.ensures ∙ ap (λ v. is_offset v.kind) (view_read c.args.kernel.now.nodes c.new-id.result c.args.reader c.node.result c.new-id.ensures c.node.ensures)

pub read_of-requires-clause-operand : goal.read_of-requires-clause-operand
read_of-requires-clause-operand c =
    let nodes = c.args.kernel.now.nodes in
    let i = item_is nodes c.new-id.result c.args.reader c.loop-operand.operand-index
    c.operand-item.result c.operands-operand-items.result.now c.new-id.ensures
    c.operands-operand-items.ensures (omega (
      arith,
      c.loop-operand-test.true,
    )) c.operand-item.is in
    subst (λ n. n < length nodes) (sym i.1) ((orderly nodes c.args.kernel.now.made).operands c.args.reader c.loop-operand.operand-index c.requires.reader i.0)

pub read_of-requires-clause-later : goal.read_of-requires-clause-later
read_of-requires-clause-later c =
    let nodes = c.args.kernel.now.nodes in
    let off = sym (tested (goal.at.read_of-requires-clause-later c).After-is_offset) ∙ c.if-is_offset.false in
    let i = item_is nodes c.new-id.result c.args.reader c.loop-operand.operand-index
    c.operand-item.result c.operands-operand-items.result.now c.new-id.ensures
    c.operands-operand-items.ensures (omega (
      arith,
      c.loop-operand-test.true,
    )) c.operand-item.is in
    subst (λ n. IsLater nodes (numbers_of c.args.times.now) c.args.reader n) (sym i.1)
    (is_later nodes (numbers_of c.args.times.now) c.args.reader c.loop-operand.operand-index c.requires.times c.requires.reader off i.0)

pub loop-operand-preserved : goal.loop-operand-preserved
loop-operand-preserved c =
    let nodes = c.args.kernel.now.nodes in
    let s = numbers_of c.args.times.now in
    let i = item_is nodes c.new-id.result c.args.reader c.loop-operand.operand-index
    c.operand-item.result c.operands-operand-items.result.now c.new-id.ensures
    c.operands-operand-items.ensures (omega (
      arith,
      c.loop-operand-test.true,
    )) c.operand-item.is in
    let read = subst (λ n. IsRead nodes s c.args.reader n c.read_of.result) i.1 c.read_of.ensures in
    let more = one_read_more nodes s c.args.reader c.loop-operand.operand-index c.loop-operand.reads c.read_of.result c.loop-operand.invariant.read read in
    record { read = subst (λ rs. AreReadsBelow nodes s c.args.reader (c.loop-operand.operand-index + 1) rs) (sym (c.in_ok-push.ensures.ok)) more }

pub returns : goal.returns
returns c =
    let nodes = c.args.kernel.now.nodes in
    let s = numbers_of c.args.times.now in
    let off = sym (tested (goal.at.returns c).After-is_offset) ∙ c.if-is_offset.false in
    let same = operands_read nodes c.new-id.result c.args.reader c.operands-operand-items.result.now c.new-id.ensures c.operands-operand-items.ensures in
    let size = ap length same in
    let test = c.loop-operand-test.false in
    let end = c.loop-operand.auto.operand-index-end in
    let all : c.loop-operand.operand-index ≡ length (operands_at nodes c.args.reader) = omega arith in
    let count : reads_count nodes c.args.reader ≡ length (operands_at nodes c.args.reader) = ap (λ b. cond b 0 (length (operands_at nodes c.args.reader))) off in
    subst (λ n. AreReadsBelow nodes s c.args.reader n c.loop-operand.reads) (all ∙ sym count) c.loop-operand.invariant.read
