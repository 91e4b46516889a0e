-- The position and the delays, as they are added.
use Rattle.std.proofs.Common.{
  ◌≡◌,
  ℕ,
  suc,
  ◌+◌,
  ◌<◌,
  ◌≤◌,
  true,
  false,
  List,
  [],
  ◌∷◌,
  ◌++◌,
  length,
  drop,
  get_or,
  Option,
  Some,
  None,
  eqb,
  refl,
  sym,
  ap,
  ◌∙◌,
  subst,
  arith,
  length-append,
  append_assoc,
  append-nil,
}
use Rattle.std.specs.Prelude.{All, slice_get, codes}
use Rattle.std.specs.Option.{option_map}
use Rattle.std.proofs.lemmas.List.Elements.{All-nil, All-cons}
use Rattle.std.proofs.lemmas.List.{get_or_default}
use Rattle.cycle_find.specs.Constraints.{Numbers}
use Rattle.fix_arith.specs.Types.{width_of}
use Rattle.rtl_ir.specs.declared.design.Module.{Module}
use Rattle.rtl_ir.specs.declared.design.Net.{Net}
use Rattle.rtl_ir.specs.Formed.{net_name}
use Rattle.rtl_build.specs.declared.signal.Signal.{Signal}
use Rattle.rtl_build.specs.Storage.{AddsRegister}
use Rattle.rtl_delays.specs.declared.elements.Element.{Element}
use Rattle.rtl_delays.specs.Extends.{Extends}
use Rattle.rtl_delays.specs.Steps.{writes_reg}
use Rattle.rtl_delays.specs.Names.MayName.{Position}
use Rattle.rtl_delays.specs.Partial.{HasPortsAlone}
use Rattle.rtl_delays.specs.Elements.{reg_of, mem_of, past, AreFree, HasElement}
use Rattle.rtl_delays.proofs.Begun.{no_position}
use Rattle.rtl_delays.proofs.Extends.{register_extends, extends_on}
use Rattle.rtl_delays.proofs.Grown.{same_name}
use Rattle.rtl_delays.proofs.Kept.{register_one}
use Rattle.rtl_delays.proofs.Lists.{get_last, or_both}
use Rattle.rtl_delays.proofs.Stored.{register_stored}
use Rattle.rtl_delays.proofs.Undriven.{register_undriven, undriven_on}
use Rattle.stream_graph.specs.declared.kernel.Kernel.{Kernel}
use Rattle.stream_graph.specs.declared.node.Node.{Node}
use Rattle.stream_graph.specs.declared.node.NodeView.{NodeView}
use Rattle.stream_graph.specs.LookUps.{no_node, width_at}
use Rattle.kernel_ports.proofs.Looping.{field_at, wide}
use Rattle.kernel_layout.specs.declared.layout.Layout.{Layout}
use Rattle.kernel_layout.specs.Waits.{AreWaits}
use Rattle.kernel_stages.specs.Numbers.{AreRising, IsWidth}
use Rattle.kernel_stages.proofs.Lists.{drop_front, drop_all}
use Rattle.kernel_stages.specs.Chains.{is_register_of}
use Rattle.kernel_stages.specs.Starting.{AddsChains}
use Rattle.kernel_states.specs.States.{state_at, IsState, AreStates, AreFree as AreFreeStates}
use Rattle.kernel_states.specs.Starting.{AddsStates}
use Rattle.kernel_rtl.specs.declared.storage.Storage.{Storage}
use Rattle.kernel_rtl.specs.Planned.{AreNear, IsPlanned, widths_of}
use Rattle.kernel_rtl.specs.Storage.{AddsPosition, AddsStorage}
use Rattle.kernel_rtl.proofs.Memories.{position_mems}

pub position_added : (m n : Module) (name : List ℕ) (s : Signal) → HasPortsAlone m → name ≡ codes "position" → AddsRegister m n name 48 s → AddsPosition m n s
position_added m n name s alone named a =
    let added : Net = record { name = name; width = 48; reg = true } in
    let nets : n.nets ≡ m.nets ++ added ∷ [] = ap (λ (x : Module). x.nets) a.is in
    record {
      extends = register_extends alone.partial.sound (Position named (no_position m alone.nets)) a;
      wide = record { signal = a.signal; register = a.register; width = a.width };
      named =
          ap (λ k. net_name (slice_get n.nets k)) a.net
          ∙ ap (λ l. net_name (slice_get l (length m.nets))) nets
          ∙ ap net_name (get_last m.nets added)
          ∙ named;
      nets = let y = ap length nets in let z = length-append m.nets (added ∷ []) in omega (arith, y, z);
      last = let x = a.net in let y = ap length nets in let z = length-append m.nets (added ∷ []) in omega (arith, x, y, z);
      updates = ap (λ (x : Module). x.updates) a.is;
      only = register_one a;
      undriven = register_undriven a;
      stored = register_stored a;
    }

-- ---- states in larger modules

pub states_on : (m n : Module) (nodes : List Node) (states : List (Option Signal)) → Extends m n → AreStates m nodes states → AreStates n nodes states
states_on m n nodes states e h = record { counted = h.counted; each = λ k lt. on k (state_at states k) (h.each k lt) }
  where
    on : (k : ℕ) (o : Option Signal) → IsState m nodes k o → IsState n nodes k o
    on k None q = q
    on k (Some s) q = (q.0, record { signal = e.keeps s q.1.signal; register = e.registers s q.1.register; width = q.1.width })

pub states_end : (m : Module) (k : ℕ) (states : List (Option Signal)) (nets : ℕ) → AreFreeStates m k states nets → k ≤ nets
states_end m k [] nets h = h
states_end m k (None ∷ states) nets h = states_end m k states nets h
states_end m k (Some s ∷ states) nets h = let a = h.0 in let b = states_end m (s.net + 1) states nets h.2 in omega (arith, a, b)

-- registers that were free still are, if none among their numbers was written
module _ (m n : Module) (lo hi : ℕ) (left : (r : ℕ) → lo ≤ r → r < hi → writes_reg r m.updates ≡ false → writes_reg r n.updates ≡ false) where
  pub states_left : (k : ℕ) (states : List (Option Signal)) → lo ≤ k → AreFreeStates m k states hi → AreFreeStates n k states hi
  states_left k [] le h = h
  states_left k (None ∷ states) le h = states_left k states le h
  states_left k (Some s ∷ states) le h =
      let a = h.0 in
      let b = states_end m (s.net + 1) states hi h.2 in
      (a, left s.net (omega (arith, a, le)) (omega (arith, b)) h.1, states_left (s.net + 1) states (omega (arith, a, le)) h.2)

-- a free list begins where it has to
starts : (m : Module) (a b : ℕ) (states : List (Option Signal)) (nets : ℕ) → a ≡ b → AreFreeStates m a states nets → AreFreeStates m b states nets
starts m a b states nets e h = subst (λ x. AreFreeStates m x states nets) e h

-- ---- all that is stored

pub storage_added : (l m k n : Module) (nodes : List Node) (widths : List ℕ) (plan : Layout) (s : Storage) → HasPortsAlone l
    → widths ≡ widths_of nodes → AddsPosition l m s.position → AddsStates m k nodes s.states → AddsChains k n widths plan.pipeline plan.waits s.delays
    → AddsStorage l n nodes plan s
storage_added l m k n nodes widths plan s alone same p a h =
    let c = subst (λ ws. AddsChains k n ws plan.pipeline plan.waits s.delays) same h in
    let e = extends_on a.extends c.extends in
    record {
      extends = extends_on p.extends e;
      wide = record {
        signal = e.keeps s.position p.wide.signal;
        register = e.registers s.position p.wide.register;
        width = p.wide.width;
      };
      named = same_name m n e.grows s.position.net p.wide.register.net ∙ p.named;
      states = states_on k n nodes s.states c.extends a.are;
      between = length k.nets;
      states_free =
          let at = s.position.net + 1 in
          states_left k n at (length k.nets) (λ r lo hi none. ap (writes_reg r) c.updates ∙ none) at s.states (omega arith)
          (starts k (length m.nets) at s.states (length k.nets) p.last a.free);
      late = c.late;
      widths = c.wide;
      memory = length k.mems;
      free = c.free;
      updates = c.updates ∙ a.updates ∙ p.updates;
      only = λ r reg other state none. p.only r (a.only r (c.only r reg none) state) other;
      undriven = undriven_on l m n p.extends.grows p.undriven (undriven_on m k n a.extends.grows a.undriven c.undriven);
      stored = let x = p.stored in let y = a.stored in let z = c.stored in omega (arith, x, y, z);
      nets = let x = p.nets in let y = a.nets in let z = c.nets in omega (arith, x, y, z);
      mems = let x = position_mems l m s.position alone p in let y = ap length a.mems in let z = c.mems in omega (arith, x, y, z);
    }

pub all_stand : (m : Module) (a b : ℕ) (es : List Element) (nets mems : ℕ) → AreFree m a b es nets mems → All (HasElement m) es
all_stand m a b [] nets mems h = All-nil (HasElement m)
all_stand m a b (e ∷ es) nets mems h = All-cons (HasElement m) e es h.2 (all_stand m (reg_of e + 1) (past b (mem_of e)) es nets mems h.4)

-- numbers before the first free one are none of these
pub early_register : (m : Module) (a b : ℕ) (es : List Element) (nets mems : ℕ) → AreFree m a b es nets mems → (r : ℕ) → r < a
    → is_register_of es r ≡ false
early_register m a b [] nets mems h r lt = refl
early_register m a b (e ∷ es) nets mems h r lt =
    let le = h.0 in
    or_both (eqb (reg_of e) r) (is_register_of es r) (above (reg_of e) r (omega (arith, le, lt)))
    (early_register m (reg_of e + 1) (past b (mem_of e)) es nets mems h.4 r (omega (arith, le, lt)))
  where
    above : (n k : ℕ) → k < n → eqb n k ≡ false
    above n k q = grind (arith, q)

-- ---- the waits of nodes

rising : (nodes : List Node) (ticks : ℕ → ℕ) (times : Numbers) (u : ℕ) (waits : List ℕ) → AreWaits nodes ticks times u waits → AreNear waits
    → AreRising waits
rising nodes ticks times u waits h near = record {
  rising = h.rising;
  positive = λ k d lt. ((h.each (get_or waits k d)).0 (k, lt, get_or_default waits k (get_or waits k d) d lt)).0;
  near = near;
}

pub are_rising : (nodes : List Node) (times : Numbers) (layout : Layout) → IsPlanned nodes times layout → All AreRising layout.waits
are_rising nodes times layout p k d lt =
    let counted = p.laid.waits.counted in
    let same = get_or_default layout.waits k [] d lt in
    subst AreRising same
    (rising nodes p.ticks times k (get_or layout.waits k []) (p.laid.waits.each k (omega (arith, lt, counted))) (p.near k [] lt))

-- ---- the widths of nodes

pub width_more : (nodes : List Node) (i n w : ℕ) (view : NodeView) (made more : List ℕ) → n ≡ i → i < length nodes
    → made ++ widths_of (drop i nodes) ≡ widths_of nodes
    → option_map (λ (x : Node). x.view) (slice_get nodes n) ≡ Some view → w ≡ width_of view.t → more ≡ made ++ w ∷ []
    → more ++ widths_of (drop (i + 1) nodes) ≡ widths_of nodes
width_more nodes i n w view made more same lt h at width e =
    let view_at : (get_or nodes n no_node).view ≡ view = field_at (λ (x : Node). x.view) nodes n view at in
    let here : width_of (get_or nodes i no_node).view.t ≡ w =
    ap (λ k. width_of (get_or nodes k no_node).view.t) (sym same) ∙ ap (λ (v : NodeView). width_of v.t) view_at ∙ sym width in
    ap (λ l. l ++ widths_of (drop (i + 1) nodes)) e
    ∙ append_assoc made (w ∷ []) (widths_of (drop (i + 1) nodes))
    ∙ ap (λ x. made ++ x ∷ widths_of (drop (i + 1) nodes)) (sym here)
    ∙ ap (λ l. made ++ widths_of l) (sym (drop_front nodes i no_node lt))
    ∙ h

pub all_widths : (nodes : List Node) (i : ℕ) (made : List ℕ) → length nodes ≤ i → made ++ widths_of (drop i nodes) ≡ widths_of nodes → made ≡ widths_of nodes
all_widths nodes i made le h = sym (append-nil made) ∙ ap (λ l. made ++ widths_of l) (sym (drop_all nodes i le)) ∙ h

pub are_widths : (kernel : Kernel) (widths : List ℕ) → widths ≡ widths_of kernel.nodes → All IsWidth widths
are_widths kernel widths e = subst (All IsWidth) (sym e) (of_nodes kernel.nodes (λ n lt. wide kernel n lt))
  where
    of_nodes : (nodes : List Node) → ((n : ℕ) → n < length nodes → (1 ≤ width_at nodes n) × (width_at nodes n ≤ 128)) → All IsWidth (widths_of nodes)
    of_nodes [] h = All-nil IsWidth
    of_nodes (x ∷ xs) h =
        let q = h 0 (omega arith) in
        All-cons IsWidth (width_of x.view.t) (widths_of xs) (record { some = q.0; at_most = q.1 }) (of_nodes xs (λ n lt. h (suc n) (omega arith)))
