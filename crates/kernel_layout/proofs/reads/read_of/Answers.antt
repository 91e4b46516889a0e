use Rattle.std.proofs.Common.{arith, ◌≡◌, ◌≤◌, ◌<◌, ◌^◌, ℕ, ◌∙◌, refl, ap, sym, subst, Bool, true, false, List, length, get_or}
use Rattle.std.proofs.lemmas.Bool.{false≢true}
use Rattle.std.specs.Prelude.{ℤ, pos, ◌-ℤ◌, ◌≤ℤ◌, unsigned_abs}
use Rattle.std.proofs.lemmas.Int.{ints}
use Rattle.stream_graph.specs.declared.node.Node.{Node}
use Rattle.cycle_find.specs.Constraints.{numbers_of}
use Rattle.stream_graph.specs.LookUps.{kind_at}
use Rattle.offset_edges.specs.Edges.{source_of, new_source}
use Rattle.stream_graph.specs.Kinds.{is_steady}
use Rattle.stream_graph.proofs.NodeLemmas.{orderly}
use Rattle.stream_graph.proofs.Reading.{view_read}
use Rattle.offset_edges.proofs.SourceLemmas.{source_known}
use Rattle.kernel_layout.proofs.Sourcing.{read_it}
use Rattle.kernel_layout.proofs.reads.read_of.Goals as goal
use Rattle.kernel_layout.proofs.reads.read_of.Goals.{After-is_steady}

pub bounds-sources-index : goal.bounds-sources-index
bounds-sources-index c =
    let size = c.requires.sources.counted in
    let number = c.index.ensures.number in
    let within = c.requires.operand in
    omega arith

-- whether it is one word in all ticks
tested : (c : After-is_steady) → c.is_steady.result ≡ is_steady (kind_at c.args.kernel.now.nodes (source_of c.args.kernel.now.nodes c.args.operand).node)
tested c =
    let nodes = c.args.kernel.now.nodes in
    let r = read_it nodes c.args.sources.now c.index.result c.args.operand c.requires.sources c.requires.operand c.index.ensures.number in
    let at : c.new.result ≡ (source_of nodes c.args.operand).node = c.new.ensures ∙ ap (λ s. s.node) r in
    c.is_steady.ensures ∙ ap (λ v. is_steady v.kind) (view_read nodes c.new.result (source_of nodes c.args.operand).node c.node.result at c.node.ensures)

pub node-requires : goal.node-requires
node-requires c =
    let nodes = c.args.kernel.now.nodes in
    let k = (source_known nodes (orderly nodes c.args.kernel.now.made) c.args.operand c.requires.operand).node in
    let r = read_it nodes c.args.sources.now c.index.result c.args.operand c.requires.sources c.requires.operand c.index.ensures.number in
    let v = c.new.ensures ∙ ap (λ s. s.node) r in
    omega arith

-- what is known of the source that was read
record IsKnown (nodes : List Node) (times : List ℤ) (operand node : ℕ) (offset : ℤ) : Type 0 where
  is : node ≡ (source_of nodes operand).node
  at : offset ≡ (source_of nodes operand).offset
  inside : node < length nodes
  few : unsigned_abs offset ≤ 2 ^ 32
  begin : pos 0 ≤ℤ numbers_of times node
  most : numbers_of times node ≤ℤ pos (2 ^ 46)

known : (c : After-is_steady) → IsKnown c.args.kernel.now.nodes c.args.times.now c.args.operand
    (get_or c.args.sources.now c.index.result (new_source 0 (pos 0))).node (get_or c.args.sources.now c.index.result (new_source 0 (pos 0))).offset
known c =
    let nodes = c.args.kernel.now.nodes in
    let o = c.args.operand in
    let k = source_known nodes (orderly nodes c.args.kernel.now.made) o c.requires.operand in
    let r = read_it nodes c.args.sources.now c.index.result o c.requires.sources c.requires.operand c.index.ensures.number in
    let is = ap (λ s. s.node) r in
    let at = ap (λ s. s.offset) r in
    let size = k.offset in
    let below = c.requires.operand in
    let few = c.args.kernel.now.few in
    record {
      is = is;
      at = at;
      inside = subst (λ n. n < length nodes) (sym is) k.node;
      few = subst (λ z. unsigned_abs z ≤ 2 ^ 32) (sym at) (omega (arith, size, below, few));
      begin = subst (λ n. pos 0 ≤ℤ numbers_of c.args.times.now n) (sym is) (c.requires.times.begin (source_of nodes o).node k.node);
      most = subst (λ n. numbers_of c.args.times.now n ≤ℤ pos (2 ^ 46)) (sym is) (c.requires.times.most (source_of nodes o).node k.node);
    }

kind_same : (nodes : List Node) (n m : ℕ) (b : Bool) → n ≡ m → is_steady (kind_at nodes m) ≡ b → is_steady (kind_at nodes n) ≡ b
kind_same nodes n m b e h = ap (λ k. is_steady (kind_at nodes k)) e ∙ h

pub returns-then-is_steady : goal.returns-then-is_steady
returns-then-is_steady c =
    let at = (goal.at.returns-then-is_steady c).After-is_steady in
    let k = known at in
    let s = kind_same c.args.kernel.now.nodes _ _ true k.is (sym (tested at) ∙ c.if-is_steady.true) in
    record { source = k.is; inside = k.inside; steady = λ h. refl; moving = λ h. absurd (false≢true (sym h ∙ s)) }

pub bounds-times-source : goal.bounds-times-source
bounds-times-source c =
    let k = known (goal.at.bounds-times-source c).After-is_steady in
    let inside = k.inside in
    let all = c.requires.all in
    omega (arith, inside, all)

pub overflow_sub-behind : goal.overflow_sub-behind
overflow_sub-behind c =
    let k = known (goal.at.overflow_sub-behind c).After-is_steady in
    let b = k.begin in
    let m = k.most in
    let rb = c.requires.times.begin c.args.reader c.requires.reader in
    let rm = c.requires.times.most c.args.reader c.requires.reader in
    omega (arith, ints, b, m, rb, rm)

pub overflow_sub-behind-2 : goal.overflow_sub-behind-2
overflow_sub-behind-2 c =
    let k = known (goal.at.overflow_sub-behind-2 c).After-is_steady in
    let b = k.begin in
    let m = k.most in
    let f = k.few in
    let rb = c.requires.times.begin c.args.reader c.requires.reader in
    let rm = c.requires.times.most c.args.reader c.requires.reader in
    omega (arith, ints, b, m, f, rb, rm)

-- the number of advances, which isn't below 0
ahead : (c : After-is_steady) → c.is_steady.result ≡ false → pos 0 ≤ℤ ((numbers_of c.args.times.now c.args.reader
    -ℤ numbers_of c.args.times.now (get_or c.args.sources.now c.index.result (new_source 0 (pos 0))).node)
    -ℤ (get_or c.args.sources.now c.index.result (new_source 0 (pos 0))).offset)
ahead c f =
    let k = known c in
    let t = numbers_of c.args.times.now in
    let P : ℕ → Type 0 = λ n. pos 0 ≤ℤ ((t c.args.reader -ℤ t n) -ℤ (source_of c.args.kernel.now.nodes c.args.operand).offset) in
    let Q : ℤ → Type 0 = λ z. pos 0 ≤ℤ ((t c.args.reader -ℤ t (get_or c.args.sources.now c.index.result (new_source 0 (pos 0))).node) -ℤ z) in
    subst Q (sym k.at) (subst P (sym k.is) (c.requires.later (sym (tested c) ∙ f)))

pub overflow_cast-result : goal.overflow_cast-result
overflow_cast-result c =
    let at = (goal.at.overflow_cast-result c).After-is_steady in
    let k = known at in
    let h = ahead at c.if-is_steady.false in
    let b = k.begin in
    let m = k.most in
    let f = k.few in
    let rb = c.requires.times.begin c.args.reader c.requires.reader in
    let rm = c.requires.times.most c.args.reader c.requires.reader in
    omega (arith, ints, h, b, m, f, rb, rm)

pub returns : goal.returns
returns c =
    let at = (goal.at.returns c).After-is_steady in
    let k = known at in
    let s = kind_same c.args.kernel.now.nodes _ _ false k.is (sym (tested at) ∙ c.if-is_steady.false) in
    let h = ahead at c.if-is_steady.false in
    let e = k.at in
    let b = k.begin in
    let m = k.most in
    let f = k.few in
    let rb = c.requires.times.begin c.args.reader c.requires.reader in
    let rm = c.requires.times.most c.args.reader c.requires.reader in
    record { source = k.is; inside = k.inside; steady = λ t. absurd (false≢true (sym s ∙ t)); moving = λ t. omega (arith, ints, h, e, b, m, f, rb, rm) }
