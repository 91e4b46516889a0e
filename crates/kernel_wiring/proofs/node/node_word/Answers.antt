use Rattle.std.proofs.Common.{◌≡◌, ◌∙◌, ◌⊎◌, ◌<◌, ◌≤◌, true, inl, inr, List, [], ◌∷◌, ℕ, zero, suc, Some, length, get_or, map, refl, ap, sym, subst, arith}
use Rattle.std.specs.Prelude.{slice_get, false}
use Rattle.std.specs.Option.{option_map}
use Rattle.std.proofs.lemmas.List.{get_or_default}
use Rattle.std.proofs.lemmas.Option.{get_or_from_slice_get}
use Rattle.fix_arith.specs.Types.{width_of, HasWidth}
use Rattle.fix_arith.specs.Table.{GivesType}
use Rattle.counter_chains.specs.declared.digits.CounterDigit.{CounterDigit}
use Rattle.counter_chains.specs.Chains.{bits_of}
use Rattle.rtl_ir.specs.declared.design.Module.{Module}
use Rattle.rtl_build.specs.declared.signal.Signal.{Signal}
use Rattle.rtl_build.specs.Signals.{HasSignal}
use Rattle.stream_graph.specs.declared.node.Kind.{Kind}
use Rattle.stream_graph.specs.declared.node.Kind.TheVariants as K
use Rattle.stream_graph.specs.declared.node.Node.{Node}
use Rattle.stream_graph.specs.declared.node.NodeView.{NodeView}
use Rattle.stream_graph.specs.LookUps.{
  no_node,
  node_at,
  kind_at,
  operands_at,
  operand_at,
  type_at,
  digits_at,
}
use Rattle.stream_graph.proofs.NodeLemmas.{orderly}
use Rattle.stream_graph.proofs.Reading.{read, view_read, operands_read}
use Rattle.kernel_layout.specs.declared.layout.Layout.{Layout}
use Rattle.kernel_control.specs.Nets.{HasWidth as IsWidth}
use Rattle.kernel_wiring.specs.Words.{is_wired, signal_at, operand_signal, IsWordOf}
use Rattle.kernel_wiring.specs.OneNode.{takes, IsReadable}
use Rattle.kernel_types.specs.Types.{counts, is_like, takes_bit, AreTyped, IsPartOf}
use Rattle.kernel_types.proofs.Typing.{typed}
use Rattle.kernel_wiring.proofs.Building.{
  is_copy,
  reads_some,
  all_below,
  all_wide,
  operation_nets,
  operation_added,
  constant_added,
  copy_reads,
  copy_added,
  part_added,
  hold_added,
  none_added,
  not_wired,
}
use Rattle.kernel_wiring.proofs.node.node_word.Goals as goal

-- a node's view as it was read
same_view : (nodes : List Node) (n : ℕ) (view : NodeView) → option_map (λ (node : Node). node.view) (slice_get nodes n) ≡ Some view → view ≡
    (node_at nodes n).view
same_view nodes n view h = view_read nodes n n view refl h

-- the kind of a node as it was read
kind_read : (nodes : List Node) (n : ℕ) (view : NodeView) (k : Kind) → option_map (λ (node : Node). node.view) (slice_get nodes n) ≡ Some view
    → view.kind ≡ k → kind_at nodes n ≡ k
kind_read nodes n view k h e = sym (ap (λ (v : NodeView). v.kind) (same_view nodes n view h)) ∙ e

pub types_of-requires : goal.types_of-requires
types_of-requires c =
    let nodes = c.args.kernel.now.nodes in
    all_below nodes (orderly nodes c.args.kernel.now.made) c.args.node c.requires.node c.operands.result.now
    (operands_read nodes c.args.node c.args.node c.operands.result.now refl c.operands.ensures)

pub fragment-requires-clause-types : goal.fragment-requires-clause-types
fragment-requires-clause-types c =
    let nodes = c.args.kernel.now.nodes in
    all_wide nodes (orderly nodes c.args.kernel.now.made) c.args.node c.requires.node c.as_slice.result.now c.operands.result.now
    (operands_read nodes c.args.node c.args.node c.operands.result.now refl c.operands.ensures)
    (c.as_slice.ensures.value ∙ c.in_ok-types-in-Operation.ensures)

pub fragment-requires-clause-out : goal.fragment-requires-clause-out
fragment-requires-clause-out c =
    let nodes = c.args.kernel.now.nodes in
    subst (λ (v : NodeView). HasWidth v.t) (sym (same_view nodes c.args.node c.node-view.result c.node-view.ensures))
    ((orderly nodes c.args.kernel.now.made).widths c.args.node c.requires.node)

pub fragment-requires-clause-gives : goal.fragment-requires-clause-gives
fragment-requires-clause-gives c =
    let nodes = c.args.kernel.now.nodes in
    let n = c.args.node in
    let op = c.in-Operation.op in
    let amount = c.in-Operation.amount in
    let view = same_view nodes n c.node-view.result c.node-view.ensures in
    let kind = sym (ap (λ (v : NodeView). v.kind) view) ∙ c.in-Operation.is in
    let types = c.as_slice.ensures.value ∙ c.in_ok-types-in-Operation.ensures ∙ ap (map (type_at nodes))
    (operands_read nodes n n c.operands.result.now refl c.operands.ensures) in
    subst (λ ts. GivesType op ts amount c.node-view.result.t) (sym types)
    (subst (λ (v : NodeView). GivesType op (map (type_at nodes) (operands_at nodes n)) amount v.t) (sym view)
    ((typed nodes c.args.kernel.now.made).operations n op c.in-Operation.mode amount c.requires.node kind))

pub fragment-requires-clause-nets : goal.fragment-requires-clause-nets
fragment-requires-clause-nets c =
    let nodes = c.args.kernel.now.nodes in
    let n = c.args.node in
    let layout = c.args.layout.now in
    let view = same_view nodes n c.node-view.result c.node-view.ensures in
    let kind = sym (ap (λ (v : NodeView). v.kind) view) ∙ c.in-Operation.is in
    let types = c.as_slice.ensures.value ∙ c.in_ok-types-in-Operation.ensures ∙ ap (map (type_at nodes))
    (operands_read nodes n n c.operands.result.now refl c.operands.ensures) in
    let nets = c.as_slice-in-Operation.ensures.value ∙ c.in_ok-nets-in-Operation.ensures in
    operation_nets nodes layout c.args.late.now c.args.words.now c.args.timing.now n c.args.netlist.now c.requires.readable c.in-Operation.op
    c.in-Operation.mode c.in-Operation.amount kind
    c.as_slice.result.now c.as_slice-in-Operation.result.now types nets

copy_kind : (k j : Kind) → k ≡ j → (k ≡ K.Feed) ⊎ (k ≡ K.Output) → is_copy j ≡ true
copy_kind k j e (inl f) = ap is_copy (sym e ∙ f)
copy_kind k j e (inr f) = ap is_copy (sym e ∙ f)

pub returns-in_ok-literal-in-Constant : goal.returns-in_ok-literal-in-Constant
returns-in_ok-literal-in-Constant c =
    let nodes = c.args.kernel.now.nodes in
    let n = c.args.node in
    let kind = kind_read nodes n c.node-view.result (K.Constant c.in-Constant.word) c.node-view.ensures c.in-Constant.is in
    constant_added nodes c.args.layout.now c.args.late.now c.args.words.now c.args.timing.now n c.args.netlist.now c.literal.new.self
    (typed nodes c.args.kernel.now.made) c.requires.node c.in-Constant.word kind
    c.in_ok-literal-in-Constant.field-0 c.in_ok-literal-in-Constant.ensures

pub returns-in_ok-word-in-Operation : goal.returns-in_ok-word-in-Operation
returns-in_ok-word-in-Operation c =
    let nodes = c.args.kernel.now.nodes in
    let n = c.args.node in
    let layout = c.args.layout.now in
    let view = same_view nodes n c.node-view.result c.node-view.ensures in
    let kind = sym (ap (λ (v : NodeView). v.kind) view) ∙ c.in-Operation.is in
    let types = c.as_slice.ensures.value ∙ c.in_ok-types-in-Operation.ensures ∙ ap (map (type_at nodes))
    (operands_read nodes n n c.operands.result.now refl c.operands.ensures) in
    let nets = c.as_slice-in-Operation.ensures.value ∙ c.in_ok-nets-in-Operation.ensures in
    operation_added nodes layout c.args.late.now c.args.words.now c.args.timing.now n c.args.netlist.now c.fragment.new.netlist
    c.requires.readable
    c.in-Operation.op c.in-Operation.mode c.in-Operation.amount kind c.as_slice.result.now c.as_slice-in-Operation.result.now
    c.node-view.result.t types nets (ap (λ (v : NodeView). v.t) view)
    c.in_ok-word-in-Operation.word c.in_ok-word-in-Operation.ensures

pub returns-in-Feed : goal.returns-in-Feed
returns-in-Feed c =
    let nodes = c.args.kernel.now.nodes in
    let n = c.args.node in
    let copy = copy_kind c.node-view.result.kind (kind_at nodes n)
    (ap (λ (v : NodeView). v.kind) (same_view nodes n c.node-view.result c.node-view.ensures)) c.in-Feed.is in
    copy_added nodes c.args.layout.now c.args.late.now c.args.words.now c.args.timing.now n c.args.netlist.now
    (typed nodes c.args.kernel.now.made) c.requires.node c.requires.readable copy c.operand_signal.result c.operand_signal.ensures

pub returns-in_default : goal.returns-in_default
returns-in_default c =
    let nodes = c.args.kernel.now.nodes in
    let n = c.args.node in
    let kind = ap (λ (v : NodeView). v.kind) (same_view nodes n c.node-view.result c.node-view.ensures) in
    let d = c.in_default in
    none_added nodes c.args.layout.now c.args.late.now c.args.words.now c.args.timing.now n c.args.netlist.now
    (subst (λ k. is_wired k ≡ false) kind (not_wired c.node-view.result.kind d.not-Output d.not-Constant d.not-Operation d.not-Feed d.not-Part d.not-Hold))

pub operand_signal-requires-clause-place : goal.operand_signal-requires-clause-place
operand_signal-requires-clause-place c =
    let nodes = c.args.kernel.now.nodes in
    let n = c.args.node in
    let copy = copy_kind c.node-view.result.kind (kind_at nodes n)
    (ap (λ (v : NodeView). v.kind) (same_view nodes n c.node-view.result c.node-view.ensures)) c.in-Feed.is in
    copy_reads nodes c.args.layout.now c.args.late.now c.args.words.now c.args.timing.now n c.args.netlist.now
    (typed nodes c.args.kernel.now.made) c.requires.node c.requires.readable copy

-- ---- parts

-- the first operand as it was read
first_read : (nodes : List Node) (n first : ℕ) (operands : List ℕ) → option_map (λ (node : Node). node.operands) (slice_get nodes n) ≡ Some operands
    → first ≡ get_or operands 0 first → 0 < length (operands_at nodes n) → first ≡ operand_at nodes n 0
first_read nodes n first operands h e some =
    let same = operands_read nodes n n operands refl h in
    e ∙ ap (λ xs. get_or xs 0 first) same ∙ sym (get_or_default (operands_at nodes n) 0 0 first some)

-- the counters of the first operand as they were read
digits_read : (nodes : List Node) (n first : ℕ) (operands : List ℕ) (digits : List CounterDigit)
    → option_map (λ (node : Node). node.operands) (slice_get nodes n) ≡ Some operands → first ≡ get_or operands 0 first
    → 0 < length (operands_at nodes n) → option_map (λ (node : Node). node.digits) (slice_get nodes first) ≡ Some digits
    → digits ≡ digits_at nodes (operand_at nodes n 0)
digits_read nodes n first operands digits h e some d =
    read (λ (node : Node). node.digits) nodes first (operand_at nodes n 0) digits no_node (first_read nodes n first operands h e some) d

pub operand_signal-chain-requires-clause-place : goal.operand_signal-chain-requires-clause-place
operand_signal-chain-requires-clause-place c =
    let nodes = c.args.kernel.now.nodes in
    let n = c.args.node in
    let kind = kind_read nodes n c.node-view.result (K.Part c.in-Part.place) c.node-view.ensures c.in-Part.is in
    let one = (c.digits_are_sound.ensures.counting.parts n c.in-Part.place c.requires.node kind).one in
    reads_some nodes c.args.layout.now c.args.late.now c.args.words.now c.args.timing.now n c.args.netlist.now c.requires.readable
    (ap is_wired kind) 0 (omega (arith, one))

pub bounds-operands-0 : goal.bounds-operands-0
bounds-operands-0 c =
    let nodes = c.args.kernel.now.nodes in
    let n = c.args.node in
    let kind = kind_read nodes n c.node-view.result (K.Part c.in-Part.place) c.node-view.ensures c.in-Part.is in
    let one = (c.digits_are_sound.ensures.counting.parts n c.in-Part.place c.requires.node kind).one in
    let size = ap length (operands_read nodes n n c.operands-in-Part.result.now refl c.operands-in-Part.ensures) in
    omega (arith, one, size)

pub digits-digits-requires : goal.digits-digits-requires
digits-digits-requires c =
    let nodes = c.args.kernel.now.nodes in
    let n = c.args.node in
    let kind = kind_read nodes n c.node-view.result (K.Part c.in-Part.place) c.node-view.ensures c.in-Part.is in
    let p = c.digits_are_sound.ensures.counting.parts n c.in-Part.place c.requires.node kind in
    let one = p.one in
    subst (λ v. v < length nodes) (sym (first_read nodes n c.index-operands-0.result c.operands-in-Part.result.now c.operands-in-Part.ensures
    c.index-operands-0.is (omega (arith, one)))) p.inside

pub width-bits-requires : goal.width-bits-requires
width-bits-requires c =
    let nodes = c.args.kernel.now.nodes in
    subst (λ (v : NodeView). HasWidth v.t) (sym (same_view nodes c.args.node c.node-view.result c.node-view.ensures))
    ((orderly nodes c.args.kernel.now.made).widths c.args.node c.requires.node)

-- what a part reads stands in the module with the width of its chain
part_read : (m : Module) (nodes : List Node) (layout : Layout) (late : List (List Signal)) (words : List Signal) (n place : ℕ)
    → IsReadable m nodes layout late words n → kind_at nodes n ≡ K.Part place → IsPartOf nodes n place
    → IsWordOf m nodes (operand_at nodes n 0) (operand_signal layout late words n 0)
part_read m nodes layout late words n place r kind p = let one = p.one in r.typed 0 (omega (arith, one)) (ap (λ k. takes k 0) kind)

pub part_word-requires-clause-chain : goal.part_word-requires-clause-chain
part_word-requires-clause-chain c =
    let nodes = c.args.kernel.now.nodes in
    let n = c.args.node in
    let kind = kind_read nodes n c.node-view.result (K.Part c.in-Part.place) c.node-view.ensures c.in-Part.is in
    let p = c.digits_are_sound.ensures.counting.parts n c.in-Part.place c.requires.node kind in
    subst (λ s. HasSignal c.args.netlist.now s) (sym c.operand_signal-chain.ensures)
    (part_read c.args.netlist.now nodes c.args.layout.now c.args.late.now c.args.words.now n c.in-Part.place c.requires.readable kind p).signal

pub part_word-requires-clause-digit : goal.part_word-requires-clause-digit
part_word-requires-clause-digit c =
    let nodes = c.args.kernel.now.nodes in
    let n = c.args.node in
    let place = c.in-Part.place in
    let kind = kind_read nodes n c.node-view.result (K.Part place) c.node-view.ensures c.in-Part.is in
    let p = c.digits_are_sound.ensures.counting.parts n place c.requires.node kind in
    let one = p.one in
    let digits = digits_read nodes n c.index-operands-0.result c.operands-in-Part.result.now c.digits-digits.result.now c.operands-in-Part.ensures
    c.index-operands-0.is (omega (arith, one)) c.digits-digits.ensures in (
      p.digit,
      ap (λ ds. slice_get ds place) digits ∙ p.at,
      c.width-bits.ensures ∙ ap (λ (v : NodeView). width_of v.t) (same_view nodes n c.node-view.result c.node-view.ensures) ∙ p.bits,
    )

pub part_word-requires-clause-some : goal.part_word-requires-clause-some
part_word-requires-clause-some c =
    let nodes = c.args.kernel.now.nodes in
    let wide = (orderly nodes c.args.kernel.now.made).widths c.args.node c.requires.node in
    let some = wide.0 in
    let same = c.width-bits.ensures ∙ ap (λ (v : NodeView). width_of v.t) (same_view nodes c.args.node c.node-view.result c.node-view.ensures) in
    omega (arith, some, same)

pub part_word-requires-clause-wide : goal.part_word-requires-clause-wide
part_word-requires-clause-wide c =
    let nodes = c.args.kernel.now.nodes in
    let n = c.args.node in
    let kind = kind_read nodes n c.node-view.result (K.Part c.in-Part.place) c.node-view.ensures c.in-Part.is in
    let p = c.digits_are_sound.ensures.counting.parts n c.in-Part.place c.requires.node kind in
    let one = p.one in
    let digits = digits_read nodes n c.index-operands-0.result c.operands-in-Part.result.now c.digits-digits.result.now c.operands-in-Part.ensures
    c.index-operands-0.is (omega (arith, one)) c.digits-digits.ensures in
    let read = part_read c.args.netlist.now nodes c.args.layout.now c.args.late.now c.args.words.now n c.in-Part.place c.requires.readable kind p in
    ap (λ (s : Signal). s.width) c.operand_signal-chain.ensures ∙ read.bits
    ∙ (c.digits_are_sound.ensures.counting.counting (operand_at nodes n 0) p.inside (ap counts p.chain)).bits ∙ ap bits_of (sym digits)

pub part_word-requires-clause-few : goal.part_word-requires-clause-few
part_word-requires-clause-few c =
    let nodes = c.args.kernel.now.nodes in
    let n = c.args.node in
    let kind = kind_read nodes n c.node-view.result (K.Part c.in-Part.place) c.node-view.ensures c.in-Part.is in
    let p = c.digits_are_sound.ensures.counting.parts n c.in-Part.place c.requires.node kind in
    let one = p.one in
    let digits = digits_read nodes n c.index-operands-0.result c.operands-in-Part.result.now c.digits-digits.result.now c.operands-in-Part.ensures
    c.index-operands-0.is (omega (arith, one)) c.digits-digits.ensures in
    let most = ((orderly nodes c.args.kernel.now.made).widths (operand_at nodes n 0) p.inside).1 in
    let bits = (c.digits_are_sound.ensures.counting.counting (operand_at nodes n 0) p.inside (ap counts p.chain)).bits in
    let same = ap bits_of digits in
    omega (arith, most, bits, same)

pub returns-in_ok-part_word-in-Part : goal.returns-in_ok-part_word-in-Part
returns-in_ok-part_word-in-Part c =
    let nodes = c.args.kernel.now.nodes in
    let n = c.args.node in
    let place = c.in-Part.place in
    let kind = kind_read nodes n c.node-view.result (K.Part place) c.node-view.ensures c.in-Part.is in
    let p = c.digits_are_sound.ensures.counting.parts n place c.requires.node kind in
    let one = p.one in
    let digits = digits_read nodes n c.index-operands-0.result c.operands-in-Part.result.now c.digits-digits.result.now c.operands-in-Part.ensures
    c.index-operands-0.is (omega (arith, one)) c.digits-digits.ensures in
    let bits = c.width-bits.ensures ∙ ap (λ (v : NodeView). width_of v.t) (same_view nodes n c.node-view.result c.node-view.ensures) in
    part_added nodes c.args.layout.now c.args.late.now c.args.words.now c.args.timing.now n c.args.netlist.now c.part_word.new.netlist
    c.requires.readable place c.width-bits.result kind p bits c.digits-digits.result.now digits
    c.operand_signal-chain.result c.in_ok-part_word-in-Part.field-0 c.operand_signal-chain.ensures c.in_ok-part_word-in-Part.ensures

-- ---- holds

pub operand_signal-from-requires-clause-place : goal.operand_signal-from-requires-clause-place
operand_signal-from-requires-clause-place c =
    let nodes = c.args.kernel.now.nodes in
    let n = c.args.node in
    let kind = kind_read nodes n c.node-view.result K.Hold c.node-view.ensures c.in-Hold.is in
    let two = (typed nodes c.args.kernel.now.made).holds n c.requires.node kind in
    reads_some nodes c.args.layout.now c.args.late.now c.args.words.now c.args.timing.now n c.args.netlist.now c.requires.readable
    (ap is_wired kind) 0 (omega (arith, two))

pub operand_signal-store-requires-clause-place : goal.operand_signal-store-requires-clause-place
operand_signal-store-requires-clause-place c =
    let nodes = c.args.kernel.now.nodes in
    let n = c.args.node in
    let kind = kind_read nodes n c.node-view.result K.Hold c.node-view.ensures c.in-Hold.is in
    let two = (typed nodes c.args.kernel.now.made).holds n c.requires.node kind in
    reads_some nodes c.args.layout.now c.args.late.now c.args.words.now c.args.timing.now n c.args.netlist.now c.requires.readable
    (ap is_wired kind) 1 (omega (arith, two))

-- a signal that stands in a module is in its list
signal_within : (words : List Signal) (n : ℕ) → 1 ≤ (signal_at words n).width → n < length words
signal_within [] n h = absurd (omega (arith, h))
signal_within (s ∷ words) zero h = omega arith
signal_within (s ∷ words) (suc n) h = let r = signal_within words n h in omega (arith, r)

pub bounds-words-index : goal.bounds-words-index
bounds-words-index c =
    let nodes = c.args.kernel.now.nodes in
    let n = c.args.node in
    let kept = c.requires.kept (kind_read nodes n c.node-view.result K.Hold c.node-view.ensures c.in-Hold.is) in
    subst (λ i. i < length c.args.words.now) (sym c.index.ensures.number) (signal_within c.args.words.now n kept.signal.some)

-- the time of a node as it was read
time_read : (times : List ℕ) (i n time : ℕ) → i ≡ n → slice_get times i ≡ Some time → time ≡ get_or times n 0
time_read times i n time e h = sym (get_or_from_slice_get times i time 0 h) ∙ ap (λ k. get_or times k 0) e

pub held_word-requires-clause-small : goal.held_word-requires-clause-small
held_word-requires-clause-small c =
    let n = c.args.node in
    let counted = c.requires.timing.counted in
    let inside = c.requires.node in
    let time = time_read c.args.timing.now.times c.index-in-Hold.result n c.at-time.result.now c.index-in-Hold.ensures.number c.at-time.ensures in
    let small = c.requires.timing.small n 0 (omega (arith, counted, inside)) in
    omega (arith, time, small)

-- what a hold reads and keeps
record IsHoldIn (m : Module) (nodes : List Node) (layout : Layout) (late : List (List Signal)) (words : List Signal) (n : ℕ) : Type 0 where
  from : IsWordOf m nodes n (operand_signal layout late words n 0)
  store : IsWidth m 1 (operand_signal layout late words n 1)

hold_in : (m : Module) (nodes : List Node) (layout : Layout) (late : List (List Signal)) (words : List Signal) (n : ℕ) → AreTyped nodes
    → n < length nodes → IsReadable m nodes layout late words n → kind_at nodes n ≡ K.Hold → IsHoldIn m nodes layout late words n
hold_in m nodes layout late words n t h r e =
    let two = t.holds n h e in
    let second : 1 < length (operands_at nodes n) = omega (arith, two) in
    let first = t.firsts n h (ap is_like e) in
    let from = r.typed 0 first.some (ap (λ k. takes k 0) e) in
    let store = r.typed 1 second (ap (λ k. takes k 1) e) in
    record {
      from = record { signal = from.signal; bits = from.bits ∙ ap width_of first.same };
      store = record { signal = store.signal; width = store.bits ∙ t.bits n 1 h (ap (λ k. takes_bit k 1) e) second };
    }

pub held_word-requires-clause-store : goal.held_word-requires-clause-store
held_word-requires-clause-store c =
    let nodes = c.args.kernel.now.nodes in
    let n = c.args.node in
    let is = hold_in c.args.netlist.now nodes c.args.layout.now c.args.late.now c.args.words.now n (typed nodes c.args.kernel.now.made)
    c.requires.node c.requires.readable (kind_read nodes n c.node-view.result K.Hold c.node-view.ensures c.in-Hold.is) in
    subst (λ s. IsWidth c.args.netlist.now 1 s) (sym c.operand_signal-store.ensures) is.store

pub held_word-requires-clause-from : goal.held_word-requires-clause-from
held_word-requires-clause-from c =
    let nodes = c.args.kernel.now.nodes in
    let n = c.args.node in
    let is = hold_in c.args.netlist.now nodes c.args.layout.now c.args.late.now c.args.words.now n (typed nodes c.args.kernel.now.made)
    c.requires.node c.requires.readable (kind_read nodes n c.node-view.result K.Hold c.node-view.ensures c.in-Hold.is) in
    subst (λ s. HasSignal c.args.netlist.now s) (sym c.operand_signal-from.ensures) is.from.signal

pub held_word-requires-clause-kept : goal.held_word-requires-clause-kept
held_word-requires-clause-kept c =
    let nodes = c.args.kernel.now.nodes in
    let n = c.args.node in
    let kind = kind_read nodes n c.node-view.result K.Hold c.node-view.ensures c.in-Hold.is in
    let is = hold_in c.args.netlist.now nodes c.args.layout.now c.args.late.now c.args.words.now n (typed nodes c.args.kernel.now.made)
    c.requires.node c.requires.readable kind in
    let kept = c.requires.kept kind in
    let wide = kept.bits ∙ sym is.from.bits ∙ ap (λ (s : Signal). s.width) (sym c.operand_signal-from.ensures) in
    subst (λ i. IsWidth c.args.netlist.now c.operand_signal-from.result.width (signal_at c.args.words.now i)) (sym c.index.ensures.number)
    (record { signal = kept.signal; width = wide })

pub returns-in_ok-word-in-Hold : goal.returns-in_ok-word-in-Hold
returns-in_ok-word-in-Hold c =
    let nodes = c.args.kernel.now.nodes in
    let n = c.args.node in
    let words = c.args.words.now in
    let time = time_read c.args.timing.now.times c.index-in-Hold.result n c.at-time.result.now c.index-in-Hold.ensures.number c.at-time.ensures in
    hold_added nodes c.args.layout.now c.args.late.now words c.args.timing.now n c.args.netlist.now c.held_word.new.netlist
    (typed nodes c.args.kernel.now.made) c.requires.node c.requires.readable
    (kind_read nodes n c.node-view.result K.Hold c.node-view.ensures c.in-Hold.is)
    c.at-time.result.now c.operand_signal-from.result c.operand_signal-store.result (signal_at words c.index.result) c.in_ok-word-in-Hold.word
    time (ap (signal_at words) c.index.ensures.number)
    (record { first = c.operand_signal-from.ensures; second = c.operand_signal-store.ensures }) c.in_ok-word-in-Hold.ensures
