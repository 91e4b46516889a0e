use Rattle.std.proofs.Common.{
  arith,
  ◌≡◌,
  ℕ,
  ◌<◌,
  ◌∙◌,
  ap,
  sym,
  true,
  false,
  List,
  [],
  ◌∷◌,
  length,
  get_or,
}
use Rattle.std.specs.Prelude.{ℤ, pos, if◌then◌else◌}
use Rattle.std.proofs.lemmas.Int.{ints}
use Rattle.stream_graph.specs.declared.node.Node.{Node}
use Rattle.offset_edges.specs.declared.edge.Edge.{Edge}
use Rattle.offset_edges.specs.declared.source.Source.{Source}
use Rattle.stream_graph.specs.LookUps.{kind_at}
use Rattle.offset_edges.specs.Edges.{source_of, new_source, edge_of, AreSources}
use Rattle.stream_graph.specs.Kinds.{is_steady}
use Rattle.stream_graph.proofs.NodeLemmas.{orderly}
use Rattle.stream_graph.proofs.Reading.{view_read}
use Rattle.offset_edges.proofs.SourceLemmas.{source_known}
use Rattle.offset_edges.proofs.edge.edge_over.Goals as goal
use Rattle.offset_edges.proofs.edge.edge_over.Goals.{After-is_steady}

-- none from one word in all ticks
stopped : (nodes : List Node) (reader operand : ℕ) → is_steady (kind_at nodes (source_of nodes
    operand).node) ≡ true →
    [] ≡ edge_of nodes reader operand
stopped nodes reader operand e =
    let es : List Edge = record {
      from = (source_of nodes operand).node;
      to = reader;
      offset =
          (source_of nodes operand).offset;
    } ∷ [] in
    sym (ap (λ b. if b then [] else es) e)

passed : (nodes : List Node) (reader operand node : ℕ) (offset : ℤ) →
    is_steady (kind_at nodes (source_of nodes operand).node) ≡ false
    → node ≡ (source_of nodes operand).node →
    offset ≡ (source_of nodes operand).offset →
    (record { from = node; to = reader; offset = offset } ∷ []) ≡ edge_of nodes reader operand
passed nodes reader operand node offset e v k =
    let es : List Edge = record {
      from = (source_of nodes operand).node;
      to = reader;
      offset =
          (source_of nodes operand).offset;
    } ∷ [] in
    ap (λ n. record { from = n; to = reader; offset = offset } ∷ []) v
    ∙ ap (λ z. record { from = (source_of nodes operand).node; to = reader; offset = z } ∷ []) k
    ∙ sym (ap (λ b. if b then [] else es) e)

-- the source that was read
read_it : (nodes : List Node) (sources : List Source) (index operand : ℕ)
    → AreSources nodes (length nodes) sources →
    operand < length nodes → index ≡ operand → get_or sources index (new_source 0 (pos 0)) ≡
    source_of nodes operand
read_it nodes sources index operand a h e =
    ap (λ i. get_or sources i (new_source 0 (pos 0))) e ∙ a.each operand (new_source 0 (pos 0)) h

-- whether it is one word in all ticks
tested : (c : After-is_steady) → c.is_steady.result ≡ is_steady (kind_at c.args.kernel.now.nodes
    (source_of c.args.kernel.now.nodes c.args.operand).node)
tested c =
    let nodes = c.args.kernel.now.nodes in
    let r = read_it nodes c.args.sources.now c.index.result c.args.operand c.requires.sources
    c.requires.operand c.index.ensures.number in
    let at : c.new.result ≡ (source_of nodes c.args.operand).node = c.new.ensures
    ∙ ap (λ s. s.node) r in
    c.is_steady.ensures ∙ ap (λ v. is_steady v.kind) (view_read nodes c.new.result (source_of nodes
    c.args.operand).node c.node.result at c.node.ensures)

pub node-requires : goal.node-requires
node-requires c =
    let nodes = c.args.kernel.now.nodes in
    let k = (source_known nodes (orderly nodes c.args.kernel.now.made) c.args.operand
    c.requires.operand).node in
    let r = read_it nodes c.args.sources.now c.index.result c.args.operand c.requires.sources
    c.requires.operand c.index.ensures.number in
    let v = c.new.ensures ∙ ap (λ s. s.node) r in
    omega arith

pub returns-then-is_steady : goal.returns-then-is_steady
returns-then-is_steady c =
    stopped c.args.kernel.now.nodes c.args.reader c.args.operand
    (sym (tested (goal.at.returns-then-is_steady c).After-is_steady) ∙ c.if-is_steady.true)

pub returns : goal.returns
returns c =
    let nodes = c.args.kernel.now.nodes in
    let r = read_it nodes c.args.sources.now c.index.result c.args.operand c.requires.sources
    c.requires.operand c.index.ensures.number in
    let size = (source_known nodes (orderly nodes c.args.kernel.now.made) c.args.operand
    c.requires.operand).offset in
    let few = c.args.kernel.now.few in
    let below = c.requires.operand in
    let k : (get_or c.args.sources.now c.index.result (new_source 0 (pos 0))).offset ≡ (source_of
    nodes c.args.operand).offset = ap (λ s. s.offset) r in
    passed nodes c.args.reader c.args.operand _ _
    (sym (tested (goal.at.returns c).After-is_steady) ∙ c.if-is_steady.false) (ap (λ s. s.node) r)
    (omega (arith, ints))
