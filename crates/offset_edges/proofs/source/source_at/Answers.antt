use Rattle.std.proofs.Common.{arith, ◌≡◌, ℕ, ◌<◌, ◌≤◌, ◌^◌, ◌∙◌, ap, sym, length, get_or, List, false, ⊎_elim}
use Rattle.std.specs.Prelude.{ℤ, pos, ◌+ℤ◌, unsigned_abs}
use Rattle.std.proofs.lemmas.Int.{ints}
use Rattle.std.proofs.lemmas.List.{get_or_read}
use Rattle.stream_graph.specs.declared.node.Kind.TheVariants as K
use Rattle.stream_graph.specs.declared.node.Node.{Node}
use Rattle.stream_graph.specs.Kernels.{AreKernel}
use Rattle.offset_edges.specs.declared.source.Source.{Source}
use Rattle.stream_graph.specs.LookUps.{kind_at, operand_at}
use Rattle.offset_edges.specs.Edges.{source_of, new_source, AreSources}
use Rattle.stream_graph.specs.Kinds.{is_offset}
use Rattle.stream_graph.proofs.NodeLemmas.{orderly}
use Rattle.stream_graph.proofs.Reading.{view_read, operands_read}
use Rattle.offset_edges.proofs.SourceLemmas.{kind_cases, source_past, source_here, source_known}
use Rattle.offset_edges.proofs.source.source_at.Goals as goal

pub bounds-operands-0 : goal.bounds-operands-0
bounds-operands-0 c =
    let nodes = c.args.kernel.now.nodes in
    let v = view_read nodes c.new-id.result c.args.number c.node.result c.new-id.ensures
    c.node.ensures in
    let k : kind_at nodes c.args.number ≡ K.Offset c.in-Offset.ticks = sym (ap (λ w. w.kind) v)
    ∙ c.in-Offset.is in
    let f = (orderly nodes c.args.kernel.now.made).offsets c.args.number c.in-Offset.ticks
    c.requires.node k in
    let q = ap length (operands_read nodes c.new-id.result c.args.number c.operands.result.now
    c.new-id.ensures c.operands.ensures) in
    let some = f.0 in
    omega arith

pub bounds-earlier-index : goal.bounds-earlier-index
bounds-earlier-index c =
    let nodes = c.args.kernel.now.nodes in
    let v = view_read nodes c.new-id.result c.args.number c.node.result c.new-id.ensures
    c.node.ensures in
    let k : kind_at nodes c.args.number ≡ K.Offset c.in-Offset.ticks = sym (ap (λ w. w.kind) v)
    ∙ c.in-Offset.is in
    let f = (orderly nodes c.args.kernel.now.made).offsets c.args.number c.in-Offset.ticks
    c.requires.node k in
    let q = operands_read nodes c.new-id.result c.args.number c.operands.result.now c.new-id.ensures
    c.operands.ensures in
    let some = f.0 in
    let earlier = f.1 in
    let l : 0 < length c.operands.result.now = omega (arith, ap length q) in
    let r : c.index-operands-0.result ≡ operand_at nodes c.args.number 0 =
    get_or_read c.operands.result.now 0 c.index-operands-0.result l c.index-operands-0.is 0
    ∙ ap (λ xs. get_or xs 0 0) q in
    let n = c.index.ensures.number in
    let m = c.requires.earlier.counted in
    omega arith

-- the operand of an offset is an earlier node, whose source is known
pub record Behind (nodes : List Node) (n : ℕ) (ticks : ℤ) (behind : Source) : Type 0 where
  pub is : behind ≡ source_of nodes (operand_at nodes n 0)
  pub past : source_of nodes n ≡ new_source behind.node (ticks +ℤ behind.offset)
  pub few : unsigned_abs ticks ≤ 1048576
  pub size : unsigned_abs behind.offset ≤ 2 ^ 32

behind_it : (nodes : List Node) (made : ∥ AreKernel nodes ∥₁) (few : length nodes ≤ 4096) (earlier :
    List Source)
    (n index : ℕ) (ticks : ℤ) (d : Source) → AreSources nodes n earlier → n < length nodes →
    kind_at nodes n ≡ K.Offset ticks → index ≡ operand_at nodes n 0
    → Behind nodes n ticks (get_or earlier index d)
behind_it nodes made few earlier n index ticks d a h k e =
    let o = orderly nodes made in
    let f = o.offsets n ticks h k in
    let first = f.1 in
    let is : get_or earlier index d ≡ source_of nodes (operand_at nodes n 0) =
    ap (λ i. get_or earlier i d) e ∙ a.each (operand_at nodes n 0) d (omega arith) in
    let s = (source_known nodes o (operand_at nodes n 0) (omega arith)).offset in
    let z : unsigned_abs (get_or earlier index d).offset ≡ unsigned_abs (source_of nodes (operand_at
    nodes n 0)).offset =
    ap (λ s. unsigned_abs s.offset) is in
    record {
      is = is;
      past = source_past nodes o n ticks h k ∙ ap (λ s. new_source s.node (ticks +ℤ s.offset)) (sym
          is);
      few = f.2;
      size = omega arith;
    }

behind_here : (c : goal.After-struct_told-1) → Behind c.args.kernel.now.nodes c.args.number
    c.in-Offset.ticks
    (get_or c.args.earlier.now c.index.result (new_source 0 (pos 0)))
behind_here c =
    let nodes = c.args.kernel.now.nodes in
    let v = view_read nodes c.new-id.result c.args.number c.node.result c.new-id.ensures
    c.node.ensures in
    let k : kind_at nodes c.args.number ≡ K.Offset c.in-Offset.ticks = sym (ap (λ w. w.kind) v)
    ∙ c.in-Offset.is in
    let f = (orderly nodes c.args.kernel.now.made).offsets c.args.number c.in-Offset.ticks
    c.requires.node k in
    let q = operands_read nodes c.new-id.result c.args.number c.operands.result.now c.new-id.ensures
    c.operands.ensures in
    let some = f.0 in
    let l : 0 < length c.operands.result.now = omega (arith, ap length q) in
    let r : c.index-operands-0.result ≡ operand_at nodes c.args.number 0 =
    get_or_read c.operands.result.now 0 c.index-operands-0.result l c.index-operands-0.is 0
    ∙ ap (λ xs. get_or xs 0 0) q in
    behind_it nodes c.args.kernel.now.made c.args.kernel.now.few c.args.earlier.now c.args.number
    c.index.result
    c.in-Offset.ticks (new_source 0 (pos 0)) c.requires.earlier c.requires.node k
    (c.index.ensures.number ∙ r)

pub overflow_add-result : goal.overflow_add-result
overflow_add-result c =
    let b = behind_here c in
    let f : unsigned_abs c.in-Offset.ticks ≤ 1048576 = b.few in
    let s = b.size in
    let e = c.from.ensures in
    omega (arith, ints)

joined : (s : Source) (node : ℕ) (x y : ℤ) → s ≡ new_source node y → x ≡ y → new_source node x ≡ s
joined s node x y e q = ap (new_source node) q ∙ sym e

pub returns : goal.returns
returns c =
    let b = behind_here c in
    let f : unsigned_abs c.in-Offset.ticks ≤ 1048576 = b.few in
    let s = b.size in
    let e = c.from.ensures in
    joined _ _ _ _ b.past (omega (arith, ints))

-- a node that is no offset is read as itself
pub returns-in_default : goal.returns-in_default
returns-in_default c =
    let nodes = c.args.kernel.now.nodes in
    let v = view_read nodes c.new-id.result c.args.number c.node.result c.new-id.ensures
    c.node.ensures in
    ⊎_elim
    (λ (p : (ticks : ℤ) × (kind_at nodes c.args.number ≡ K.Offset ticks)).
    absurd (c.in_default.not-Offset p.0 (ap (λ w. w.kind) v ∙ p.1)))
    (λ (h : is_offset (kind_at nodes c.args.number) ≡ false).
    sym (source_here nodes (orderly nodes c.args.kernel.now.made) c.args.number c.requires.node h))
    (kind_cases (kind_at nodes c.args.number))
