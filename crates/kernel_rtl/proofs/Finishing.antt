-- What is left to do in a kernel's module: nothing.
use Rattle.std.proofs.Common.{
  ◌≡◌,
  ◌⊎◌,
  inl,
  inr,
  ℕ,
  zero,
  suc,
  ◌+◌,
  ◌*◌,
  ◌<◌,
  ◌≤◌,
  Bool,
  true,
  false,
  cond,
  eqb,
  eqb-true,
  List,
  [],
  ◌∷◌,
  ◌++◌,
  map,
  length,
  take,
  Option,
  Some,
  refl,
  sym,
  ap,
  ◌∙◌,
  subst,
  arith,
  length-append,
}
use Rattle.std.specs.Prelude.{All, slice_get, codes}
use Rattle.std.proofs.lemmas.Bool.{false≢true}
use Rattle.std.proofs.lemmas.List.Elements.{All-nil, All-cons}
use Rattle.rtl_ir.specs.declared.design.Design.{Design}
use Rattle.rtl_ir.specs.declared.design.Module.{Module}
use Rattle.rtl_ir.specs.declared.design.Net.{Net}
use Rattle.rtl_ir.specs.declared.design.Mem.{Mem}
use Rattle.rtl_ir.specs.declared.design.Assign.{Assign}
use Rattle.rtl_ir.specs.Value.{is_reg, net_kept}
use Rattle.rtl_ir.specs.Grow.{Grows}
use Rattle.rtl_ir.specs.Formed.{IsFormedModule, IsFormed}
use Rattle.rtl_ir.specs.Rules.{IsAccepted, IsSound as KeepsRules, AllDiffer}
use Rattle.rtl_ir.specs.Ports.{PortView, port_view, ports_of, host_input_ports, host_output_ports, output_port, net_at, port_net}
use Rattle.rtl_build.specs.Wires.{is_output}
use Rattle.rtl_build.specs.declared.signal.Signal.{Signal}
use Rattle.rtl_delays.specs.declared.elements.Element.{Element}
use Rattle.rtl_delays.specs.Steps.{writes_reg}
use Rattle.rtl_delays.specs.Extends.{AddsNoRegister}
use Rattle.rtl_delays.specs.Driven.{is_driven}
use Rattle.rtl_delays.specs.Partial.{IsPartial, HasPortsAlone, IsFinished}
use Rattle.rtl_delays.specs.Stored.{net_bits, mem_bits, stored_bits}
use Rattle.rtl_delays.proofs.Accepted.{keeps_rules, formed}
use Rattle.rtl_delays.proofs.Added.{item_at, output_port as output_of}
use Rattle.rtl_delays.proofs.Grown.{parted, one_item, reg_within, same_reg, below_or}
use Rattle.stream_graph.specs.declared.node.Node.{Node}
use Rattle.kernel_control.specs.declared.handshakes.Handshake.{Handshake}
use Rattle.kernel_control.specs.Ports.{
  scalar_ports,
  port_shape,
  module_ports,
  channels_of,
  scalars_of,
  inputs_of,
  outputs_of,
  first_input,
  first_output,
  ended_port,
  PortChannel,
}
use Rattle.kernel_control.specs.Nets.{told_ports}
use Rattle.kernel_control.specs.Outputs.{AreDriven}
use Rattle.kernel_ports.specs.declared.signals.StreamSignals.{StreamSignals}
use Rattle.kernel_stages.specs.Chains.{is_register_of}
use Rattle.kernel_stages.specs.Closing.{AreWritten}
use Rattle.kernel_states.specs.States.{is_state_of}
use Rattle.kernel_rtl.specs.Storage.{AddsRegistersFor}
use Rattle.kernel_rtl.specs.Words.{data_nets}
use Rattle.kernel_rtl.specs.Handshakes.{input_handshake, output_handshake}
use Rattle.kernel_rtl.proofs.Numbers.{map_get, map_length}

-- ---- registers

pub net_both : (xs ys : List Net) → net_bits (xs ++ ys) ≡ net_bits xs + net_bits ys
net_both [] ys = omega arith
net_both (x ∷ xs) ys = let e = net_both xs ys in omega (arith, e)

pub mem_both : (xs ys : List Mem) → mem_bits (xs ++ ys) ≡ mem_bits xs + mem_bits ys
mem_both [] ys = omega arith
mem_both (x ∷ xs) ys = let e = mem_both xs ys in omega (arith, e)

no_bits : (xs : List Net) → net_bits xs ≡ 0 → (i : ℕ) (x : Net) → slice_get xs i ≡ Some x → x.reg ≡ true → x.width ≡ 0
no_bits [] z i x e r = absurd (cc)
no_bits (y ∷ xs) z zero x e r =
    let same : y ≡ x = cc in
    let reg : y.reg ≡ true = ap (λ (n : Net). n.reg) same ∙ r in
    let head : cond y.reg y.width 0 ≡ y.width = ap (λ b. cond b y.width 0) reg in
    let width : y.width ≡ x.width = ap (λ (n : Net). n.width) same in
    omega (arith, z, head, width)
no_bits (y ∷ xs) z (suc i) x e r = no_bits xs (omega (arith, z)) i x e r

pub reg_of_net : (n : Module) (k : ℕ) (x : Net) → slice_get n.nets k ≡ Some x → is_reg n k ≡ true → x.reg ≡ true
reg_of_net n k x e r = sym (ap net_kept e) ∙ r

-- a module that stores no more bits than before has no more registers
pub none_by_stored : (m n : Module) → Grows m n → stored_bits n ≡ stored_bits m → IsPartial n → AddsNoRegister m n
none_by_stored m n g stored partial k reg = by_place (below_or k (length m.nets))
  where
    nets : net_bits n.nets ≡ net_bits m.nets + net_bits g.more_nets
    nets = ap net_bits g.nets ∙ net_both m.nets g.more_nets

    mems : mem_bits n.mems ≡ mem_bits m.mems + mem_bits g.more_mems
    mems = ap mem_bits g.mems ∙ mem_both m.mems g.more_mems

    none : net_bits g.more_nets ≡ 0
    none = let a = nets in let b = mems in omega (arith, a, b, stored)

    by_item : (x : Net) → slice_get n.nets k ≡ Some x
        → ((slice_get m.nets k ≡ Some x) × (k < length m.nets)) ⊎ ((i : ℕ) × (k ≡ length m.nets + i) × (slice_get g.more_nets i ≡ Some x))
        → length m.nets ≤ k → is_reg m k ≡ true
    by_item x e (inl h) le = let lt = h.1 in absurd (omega (arith, lt, le))
    by_item x e (inr h) le =
        let zero_wide = no_bits g.more_nets none h.0 x h.2 (reg_of_net n k x e reg) in
        let wide = (partial.widths k x e).0 in
        absurd (omega (arith, zero_wide, wide))

    by_place : (k < length m.nets) ⊎ (length m.nets ≤ k) → is_reg m k ≡ true
    by_place (inl lt) = sym (same_reg m n g k lt) ∙ reg
    by_place (inr le) =
        let x = item_at n.nets k (reg_within n.nets k reg) in
        by_item x.0 x.1 (parted m.nets g.more_nets k x.0 (ap (λ l. slice_get l k) (sym g.nets) ∙ x.1)) le

no_port_register : (m : Module) → HasPortsAlone m → (k : ℕ) → is_reg m k ≡ true → ⊥
no_port_register m alone k reg =
    let lt = reg_within m.nets k reg in
    let e = alone.nets in
    false≢true (sym (alone.partial.port_wires k (omega (arith, lt, e))) ∙ reg)

-- every register is written
pub all_written : (a b f : Module) (position : ℕ) (states : List (Option Signal)) (es : List Element) → HasPortsAlone a
    → AddsRegistersFor a b position states es → AddsNoRegister b f → writes_reg position f.updates ≡ true
    → ((n : ℕ) → is_state_of states n ≡ true → writes_reg n f.updates ≡ true) → AreWritten f es
    → (k : ℕ) → is_reg f k ≡ true → writes_reg k f.updates ≡ true
all_written a b f position states es alone only bf w wt ws k reg =
    by_test (eqb position k) refl (is_state_of states k) refl (is_register_of es k) refl
  where
    by_test : (x : Bool) → eqb position k ≡ x → (y : Bool) → is_state_of states k ≡ y → (z : Bool) → is_register_of es k ≡ z
        → writes_reg k f.updates ≡ true
    by_test true p y q z r = ap (λ n. writes_reg n f.updates) (sym (eqb-true position k p)) ∙ w
    by_test false p true q z r = wt k q
    by_test false p false q true r = ws k r
    by_test false p false q false r = absurd (no_port_register a alone k (only k (bf k reg) p q r))

-- ---- outputs

-- each output among these views of ports, from number k on, has a value
abbrev HaveValues : Module → List Assign → ℕ → List PortView → Type 0
HaveValues m given k [] = Unit {0}
HaveValues m given k (v ∷ vs) = (v.output ≡ true → is_driven (net_at m k) given ≡ true) × HaveValues m given (k + 1) vs

module _ (m : Module) (given : List Assign) where
  values_on : (k j : ℕ) (us vs : List PortView) → j ≡ k + length us → HaveValues m given k us → HaveValues m given j vs → HaveValues m given k (us ++ vs)
  values_on k j [] vs e h g = let same : j ≡ k = omega (arith, e) in subst (λ n. HaveValues m given n vs) same g
  values_on k j (u ∷ us) vs e h g = (h.0, values_on (k + 1) j us vs (omega (arith, e)) h.1 g)

  value_at : (k : ℕ) (vs : List PortView) → HaveValues m given k vs → (i : ℕ) (v : PortView) → slice_get vs i ≡ Some v → v.output ≡ true
      → is_driven (net_at m (k + i)) given ≡ true
  value_at k [] h i v e o = absurd (cc)
  value_at k (u ∷ vs) h zero v e o =
      let same : u ≡ v = cc in
      let n : k + 0 ≡ k = omega arith in
      ap (λ x. is_driven (net_at m x) given) n ∙ h.0 (ap (λ (w : PortView). w.output) same ∙ o)
  value_at k (u ∷ vs) h (suc i) v e o =
      let n : k + suc i ≡ k + 1 + i = omega arith in
      ap (λ x. is_driven (net_at m x) given) n ∙ value_at (k + 1) vs h.1 i v e o

  scalars_valued : (k : ℕ) (xs : List (List ℕ × ℕ)) → HaveValues m given k (scalar_ports xs)
  scalars_valued k [] = tt
  scalars_valued k (x ∷ xs) = ((λ o. absurd (false≢true o)), scalars_valued (k + 1) xs)

  inputs_valued : (nodes : List Node) (k : ℕ) (ns : List ℕ) → All (λ (x : PortChannel). is_driven x.channel.ready given ≡ true) (channels_of m k ns)
      → HaveValues m given k (host_input_ports (map (port_shape nodes) ns))
  inputs_valued nodes k [] h = tt
  inputs_valued nodes k (n ∷ ns) h =
      let two : k + 1 + 1 ≡ k + 2 = omega arith in
      let three : k + 3 ≡ k + 1 + 1 + 1 = omega arith in
      let rest : HaveValues m given (k + 3) (host_input_ports (map (port_shape nodes) ns)) =
      inputs_valued nodes (k + 3) ns (λ i d lt. h (suc i) d (omega arith)) in
      let here : is_driven (net_at m (k + 2)) given ≡ true =
      h 0 (record { node = n; channel = record { word = net_at m k; valid = net_at m (k + 1); ready = net_at m (k + 2) } }) (omega arith) in (
        (λ o. absurd (false≢true o)),
        (
          (λ o. absurd (false≢true o)),
          (
            (λ o. ap (λ x. is_driven (net_at m x) given) two ∙ here),
            subst (λ x. HaveValues m given x (host_input_ports (map (port_shape nodes) ns))) three rest,
          ),
        ),
      )

  outputs_valued : (nodes : List Node) (k : ℕ) (ns : List ℕ) → All (λ (x : PortChannel). is_driven x.channel.word given ≡ true) (channels_of m k ns)
      → All (λ (x : PortChannel). is_driven x.channel.valid given ≡ true) (channels_of m k ns)
      → HaveValues m given k (host_output_ports (map (port_shape nodes) ns))
  outputs_valued nodes k [] h g = tt
  outputs_valued nodes k (n ∷ ns) h g =
      let three : k + 3 ≡ k + 1 + 1 + 1 = omega arith in
      let at : PortChannel = record { node = n; channel = record { word = net_at m k; valid = net_at m (k + 1); ready = net_at m (k + 2) } } in
      let rest : HaveValues m given (k + 3) (host_output_ports (map (port_shape nodes) ns)) =
      outputs_valued nodes (k + 3) ns (λ i d lt. h (suc i) d (omega arith)) (λ i d lt. g (suc i) d (omega arith)) in (
        (λ o. h 0 at (omega arith)),
        (
          (λ o. g 0 at (omega arith)),
          (
            (λ o. absurd (false≢true o)),
            subst (λ x. HaveValues m given x (host_output_ports (map (port_shape nodes) ns))) three rest,
          ),
        ),
      )

pub count_scalars : (xs : List (List ℕ × ℕ)) → length (scalar_ports xs) ≡ length xs
count_scalars [] = refl
count_scalars (x ∷ xs) = ap suc (count_scalars xs)

pub count_inputs : (xs : List (List ℕ × ℕ)) → length (host_input_ports xs) ≡ 3 * length xs
count_inputs [] = refl
count_inputs (x ∷ xs) = let e = count_inputs xs in omega (arith, e)

pub count_outputs : (xs : List (List ℕ × ℕ)) → length (host_output_ports xs) ≡ 3 * length xs
count_outputs [] = refl
count_outputs (x ∷ xs) = let e = count_outputs xs in omega (arith, e)

-- each output of a kernel's module has a value, where each of these has
pub all_driven : (m n : Module) (nodes : List Node) → IsPartial m → ports_of m ≡ module_ports nodes → Grows m n
    → All (λ (x : PortChannel). is_driven x.channel.ready n.assigns ≡ true) (channels_of m (first_input nodes) (inputs_of nodes))
    → All (λ (x : PortChannel). is_driven x.channel.word n.assigns ≡ true) (channels_of m (first_output nodes) (outputs_of nodes))
    → All (λ (x : PortChannel). is_driven x.channel.valid n.assigns ≡ true) (channels_of m (first_output nodes) (outputs_of nodes))
    → is_driven (net_at m (ended_port nodes)) n.assigns ≡ true
    → (k : ℕ) → is_output n.ports k ≡ true → is_driven k n.assigns ≡ true
all_driven m n nodes partial ports g ready word valid ended k out =
    let o = output_of m.ports k (ap (λ ps. is_output ps k) (sym g.ports) ∙ out) in
    let view : slice_get (module_ports nodes) o.0 ≡ Some (port_view m o.1.0) =
    ap (λ vs. slice_get vs o.0) (sym ports) ∙ map_get (port_view m) m.ports o.0 o.1.0 o.1.1.0 in
    let at : net_at m (0 + o.0) ≡ k =
    ap (λ i. net_at m i) (zero_plus o.0) ∙ ap port_net o.1.1.0 ∙ o.1.1.1.0 in
    ap (λ i. is_driven i n.assigns) (sym at) ∙ value_at m n.assigns 0 (module_ports nodes) whole o.0 (port_view m o.1.0) view o.1.1.1.1
  where
    zero_plus : (i : ℕ) → 0 + i ≡ i
    zero_plus i = omega arith

    scalars : List PortView
    scalars = scalar_ports (map (port_shape nodes) (scalars_of nodes))

    ins : List PortView
    ins = host_input_ports (map (port_shape nodes) (inputs_of nodes))

    outs : List PortView
    outs = host_output_ports (map (port_shape nodes) (outputs_of nodes))

    last : List PortView
    last = output_port (codes "ended$") 1 ∷ []

    at_input : first_input nodes ≡ 4 + length scalars
    at_input = let a = count_scalars (map (port_shape nodes) (scalars_of nodes)) in let b = map_length (port_shape nodes) (scalars_of nodes) in
        omega (arith, a, b)

    at_output : first_output nodes ≡ 4 + length (scalars ++ ins)
    at_output =
        let a = at_input in
        let b = count_inputs (map (port_shape nodes) (inputs_of nodes)) in
        let c = map_length (port_shape nodes) (inputs_of nodes) in
        let d = length-append scalars ins in
        omega (arith, a, b, c, d)

    at_ended : ended_port nodes ≡ 4 + length (scalars ++ ins ++ outs)
    at_ended =
        let a = at_output in
        let b = count_outputs (map (port_shape nodes) (outputs_of nodes)) in
        let c = map_length (port_shape nodes) (outputs_of nodes) in
        let d = length-append (scalars ++ ins) outs in
        omega (arith, a, b, c, d)

    with_inputs : HaveValues m n.assigns 4 (scalars ++ ins)
    with_inputs = values_on m n.assigns 4 (first_input nodes) scalars ins at_input (scalars_valued m n.assigns 4 (map (port_shape nodes) (scalars_of nodes)))
        (inputs_valued m n.assigns nodes (first_input nodes) (inputs_of nodes) ready)

    with_outputs : HaveValues m n.assigns 4 (scalars ++ ins ++ outs)
    with_outputs = values_on m n.assigns 4 (first_output nodes) (scalars ++ ins) outs at_output with_inputs
        (outputs_valued m n.assigns nodes (first_output nodes) (outputs_of nodes) word valid)

    from_four : HaveValues m n.assigns 4 (scalars ++ ins ++ outs ++ last)
    from_four = values_on m n.assigns 4 (ended_port nodes) (scalars ++ ins ++ outs) last at_ended with_outputs ((λ o. ended), tt)

    whole : HaveValues m n.assigns 0 (module_ports nodes)
    whole = ((λ o. absurd (false≢true o)), ((λ o. absurd (false≢true o)), ((λ o. absurd (false≢true o)), ((λ o. absurd (false≢true o)), from_four))))

-- what the control drives, by the ports
module _ (m : Module) (times : ℕ → ℕ) (enables : ℕ → Option Signal) where
  pub told_inputs : (xs : List StreamSignals) (rest : List Handshake) → AreDriven m (told_ports (map (input_handshake times enables) xs ++ rest))
      → All (λ (x : StreamSignals). is_driven x.ready.net m.assigns ≡ true) xs × AreDriven m (told_ports rest)
  told_inputs [] rest h = (All-nil (λ (x : StreamSignals). is_driven x.ready.net m.assigns ≡ true), h)
  told_inputs (x ∷ xs) rest h =
      let r = told_inputs xs rest h.1 in
      (All-cons (λ (y : StreamSignals). is_driven y.ready.net m.assigns ≡ true) x xs h.0 r.0, r.1)

  pub told_outputs : (ys : List StreamSignals) → AreDriven m (told_ports (map (output_handshake times enables) ys))
      → All (λ (y : StreamSignals). is_driven y.valid.net m.assigns ≡ true) ys
  told_outputs [] h = All-nil (λ (x : StreamSignals). is_driven x.valid.net m.assigns ≡ true)
  told_outputs (y ∷ ys) h = All-cons (λ (x : StreamSignals). is_driven x.valid.net m.assigns ≡ true) y ys h.0 (told_outputs ys h.1)

pub data_driven : (m : Module) (ys : List StreamSignals) → AreDriven m (data_nets ys) → All (λ (y : StreamSignals). is_driven y.word.net m.assigns ≡ true) ys
data_driven m [] h = All-nil (λ (x : StreamSignals). is_driven x.word.net m.assigns ≡ true)
data_driven m (y ∷ ys) h = All-cons (λ (x : StreamSignals). is_driven x.word.net m.assigns ≡ true) y ys h.0 (data_driven m ys h.1)

-- ---- the rules

only_one : (P : Module → Type 0) (m : Module) → P m → (k : ℕ) (n : Module) → slice_get (m ∷ []) k ≡ Some n → P n
only_one P m h k n e = subst P (one_item m k n e).1 h

one_formed : (m : Module) → ((earlier : List Module) → IsFormedModule earlier m) → IsFormed (m ∷ [])
one_formed m h = record {
  some = omega arith;
  each = λ k n e. subst (λ (x : Module). IsFormedModule (take k (m ∷ [])) x) (one_item m k n e).1 (h (take k (m ∷ [])));
}

one_name : (m : Module) → AllDiffer (map (λ (n : Module). n.name) (m ∷ []))
one_name m i j name a b = (one_item m.name i name a).0 ∙ sym (one_item m.name j name b).0

pub accepted : (m : Module) → IsPartial m → IsFinished m → (d : Design) → d.modules ≡ m ∷ [] → IsAccepted d
accepted m partial finished d only = record {
  formed = subst IsFormed (sym only) (one_formed m (λ earlier. formed earlier m partial finished));
  names = subst (λ ms. AllDiffer (map (λ (n : Module). n.name) ms)) (sym only) (one_name m);
  sound = λ k n e. only_one (KeepsRules d) m (keeps_rules d m partial finished) k n (ap (λ ms. slice_get ms k) (sym only) ∙ e);
}
