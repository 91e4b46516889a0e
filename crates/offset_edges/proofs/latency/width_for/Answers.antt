use Rattle.std.proofs.Common.{arith, ◌≡◌, ℕ, ◌<◌, ◌∙◌, ap, sym, length, get_or, subst, List}
use Rattle.std.proofs.lemmas.List.{get_or_read}
use Rattle.fix_arith.specs.Types.{width_of, HasWidth}
use Rattle.stream_graph.specs.declared.node.Node.{Node}
use Rattle.stream_graph.specs.LookUps.{operands_at, operand_at}
use Rattle.offset_edges.specs.Latencies.{deciding}
use Rattle.stream_graph.proofs.NodeLemmas.{orderly}
use Rattle.stream_graph.proofs.Reading.{view_read, operands_read}
use Rattle.offset_edges.proofs.latency.width_for.Goals as goal

-- the operand that was read
read_it : (nodes : List Node) (operands : List ℕ) (n place at read : ℕ)
    → operands ≡ operands_at nodes n →
    place < length (operands_at nodes n) → at ≡ place → read ≡ get_or operands at read
    → read ≡ operand_at nodes n place
read_it nodes operands n place at read q h e r =
    let l = ap length q in
    get_or_read operands at read (omega arith) r 0 ∙ ap (λ xs. get_or xs at 0) q
    ∙ ap (operand_at nodes n) e

pub node-requires : goal.node-requires
node-requires c =
    let nodes = c.args.kernel.now.nodes in
    let q = operands_read nodes c.new.result c.args.number c.operands.result.now c.new.ensures
    c.operands.ensures in
    let r = read_it nodes c.operands.result.now c.args.number (deciding c.args.op) c.deciding.result
    c.index-operands-deciding.result q c.requires.place c.deciding.ensures
    c.index-operands-deciding.is in
    let b = (orderly nodes c.args.kernel.now.made).operands c.args.number (deciding c.args.op)
    c.requires.node c.requires.place in
    omega arith

pub width-requires : goal.width-requires
width-requires c =
    let nodes = c.args.kernel.now.nodes in
    let q = operands_read nodes c.new.result c.args.number c.operands.result.now c.new.ensures
    c.operands.ensures in
    let r = read_it nodes c.operands.result.now c.args.number (deciding c.args.op) c.deciding.result
    c.index-operands-deciding.result q c.requires.place c.deciding.ensures
    c.index-operands-deciding.is in
    let o = orderly nodes c.args.kernel.now.made in
    let b = o.operands c.args.number (deciding c.args.op) c.requires.node c.requires.place in
    let v = view_read nodes c.index-operands-deciding.result (operand_at nodes c.args.number
    (deciding c.args.op)) c.node.result r c.node.ensures in
    subst (λ w. HasWidth w.t) (sym v) (o.widths (operand_at nodes c.args.number (deciding
    c.args.op)) b)

pub returns : goal.returns
returns c =
    let nodes = c.args.kernel.now.nodes in
    let q = operands_read nodes c.new.result c.args.number c.operands.result.now c.new.ensures
    c.operands.ensures in
    let r = read_it nodes c.operands.result.now c.args.number (deciding c.args.op) c.deciding.result
    c.index-operands-deciding.result q c.requires.place c.deciding.ensures
    c.index-operands-deciding.is in
    let v = view_read nodes c.index-operands-deciding.result (operand_at nodes c.args.number
    (deciding c.args.op)) c.node.result r c.node.ensures in
    c.width.ensures ∙ ap (λ w. width_of w.t) v
