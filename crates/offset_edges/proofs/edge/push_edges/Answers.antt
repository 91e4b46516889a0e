use Rattle.std.proofs.Common.{
  arith,
  ◌≡◌,
  ℕ,
  ◌∙◌,
  ap,
  sym,
  true,
  false,
  List,
  [],
  ◌++◌,
  length,
  get_or,
  take,
}
use Rattle.std.specs.Prelude.{if◌then◌else◌}
use Rattle.std.specs.List.{flat_map}
use Rattle.std.proofs.lemmas.List.{append-nil, get_or_read, take_all}
use Rattle.stream_graph.specs.declared.node.Node.{Node}
use Rattle.offset_edges.specs.declared.edge.Edge.{Edge}
use Rattle.stream_graph.specs.LookUps.{kind_at, operands_at}
use Rattle.offset_edges.specs.Edges.{edge_of, edges_into}
use Rattle.stream_graph.specs.Kinds.{is_offset}
use Rattle.stream_graph.proofs.NodeLemmas.{orderly}
use Rattle.stream_graph.proofs.Reading.{view_read, operands_read}
use Rattle.offset_edges.proofs.edge.push_edges.Goals as goal

into_none : (nodes : List Node) (n : ℕ) (first : List Edge) → is_offset (kind_at nodes n) ≡ true →
    first ≡ first ++ edges_into nodes n
into_none nodes n first e =
    sym (ap (λ b. first ++ (if b then [] else flat_map (edge_of nodes n) (operands_at nodes n))) e ∙
    append-nil first)

into_all : (nodes : List Node) (n i : ℕ) (first made : List Edge) (operands : List ℕ) →
    is_offset (kind_at nodes n) ≡ false → operands ≡ operands_at nodes n → length operands ≡ i →
    made ≡ first ++ flat_map (edge_of nodes n) (take i operands)
    → made ≡ first ++ edges_into nodes n
into_all nodes n i first made operands e q l m =
    m ∙ ap (λ os. first ++ flat_map (edge_of nodes n) os) (take_all i operands (omega arith) ∙ q)
    ∙ sym (ap (λ b. first ++ (if b then [] else flat_map (edge_of nodes n) (operands_at nodes n)))
    e)

pub returns-then-is_offset : goal.returns-then-is_offset
returns-then-is_offset c =
    let nodes = c.args.kernel.now.nodes in
    into_none nodes c.args.number c.args.edges.now.items
    (ap (λ v. is_offset v.kind) (sym (view_read nodes c.new-id.result c.args.number c.node.result
    c.new-id.ensures c.node.ensures))
    ∙ sym c.is_offset.ensures ∙ c.if-is_offset.true)

pub edge_over-requires-clause-operand : goal.edge_over-requires-clause-operand
edge_over-requires-clause-operand c =
    let nodes = c.args.kernel.now.nodes in
    let q = operands_read nodes c.new-id.result c.args.number c.operands-operand-items.result.now
    c.new-id.ensures c.operands-operand-items.ensures in
    let i = c.loop-operand.operand-index in
    let t = c.loop-operand-test.true in
    let l = ap length q in
    let r = get_or_read c.operands-operand-items.result.now i c.operand-item.result t
    c.operand-item.is 0 ∙ ap (λ xs. get_or xs i 0) q in
    let b = (orderly nodes c.args.kernel.now.made).operands c.args.number i c.requires.node (omega
    arith) in
    omega arith

pub returns : goal.returns
returns c =
    let nodes = c.args.kernel.now.nodes in
    into_all nodes c.args.number c.loop-operand.operand-index c.args.edges.now.items
    c.loop-operand.edges.items
    c.operands-operand-items.result.now
    (ap (λ v. is_offset v.kind) (sym (view_read nodes c.new-id.result c.args.number c.node.result
    c.new-id.ensures c.node.ensures))
    ∙ sym c.is_offset.ensures ∙ c.if-is_offset.false)
    (operands_read nodes c.new-id.result c.args.number c.operands-operand-items.result.now
    c.new-id.ensures c.operands-operand-items.ensures)
    (omega (arith, c.loop-operand.auto.operand-index-end, c.loop-operand-test.false))
    c.loop-operand.invariant
