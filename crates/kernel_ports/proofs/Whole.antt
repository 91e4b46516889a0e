-- The module of the ports alone, and what stays of it.
use Rattle.std.proofs.Common.{◌≡◌, ℕ, zero, suc, ◌+◌, ◌*◌, ◌<◌, Bool, true, false, not, ◌&&◌, ◌||◌, List, [], ◌∷◌, ◌++◌, map, length, Some, refl, sym, ap, ◌∙◌, subst, arith, length-append, inl, inr}
use Rattle.std.specs.Prelude.{codes, nat_eq, bytes_eq, slice_get, All, ◌⊎◌}
use Rattle.std.specs.List.{list_any}
use Rattle.std.proofs.lemmas.List.Elements.{All-nil, All-cons}
use Rattle.std.proofs.lemmas.Bool.Decides.{nat_tests}
use Rattle.rtl_ir.specs.declared.design.Net.{Net}
use Rattle.rtl_ir.specs.declared.design.Port.{Port}
use Rattle.rtl_ir.specs.declared.design.Module.{Module}
use Rattle.rtl_ir.specs.Names.{is_name}
use Rattle.rtl_ir.specs.Grow.{Grows}
use Rattle.rtl_ir.specs.Formed.{net_name, name_of, is_bit_input, has_bit_input}
use Rattle.rtl_ir.specs.Ports.{
  PortView,
  input_port,
  output_port,
  port_view,
  ports_of,
  port_net,
  net_at,
  nets_from,
  is_plain_name,
  host_input_ports,
  host_output_ports,
}
use Rattle.rtl_build.specs.Ports.{HasOutput}
use Rattle.rtl_delays.specs.Partial.{HasPortsAlone, IsPartial, is_own_name}
use Rattle.rtl_delays.proofs.Lists.{get_within}
use Rattle.stream_graph.specs.declared.kernel.Kernel.{Kernel}
use Rattle.stream_graph.specs.declared.node.Node.{Node}
use Rattle.kernel_control.specs.Ports.{channels_of, scalars_of, inputs_of, outputs_of, first_input, first_output, ended_port, port_shape, scalar_ports, module_ports, nets_of}
use Rattle.kernel_control.specs.Nets.{HasWidth}
use Rattle.kernel_ports.specs.declared.signals.NodeSignal.{NodeSignal}
use Rattle.kernel_ports.specs.Added.{signal_at, scalars_at, streams_at, signals_of}
use Rattle.kernel_ports.specs.HasKernelPorts.{HasNamedPorts, IsScalarPort, IsInputPort, IsOutputPort, channel_of, nets_by, HasKernelPorts}
use Rattle.kernel_ports.proofs.Adding.{views_kept, below}
use Rattle.kernel_ports.proofs.Standing.{IsPortAt, Stand, port_at, all_stand, first_stand, rest_stand}
use Rattle.kernel_ports.proofs.Kernels.{AreNamed, named}
use Rattle.kernel_ports.proofs.Spelled.{IsPortName, AreSpelled, kernel_named}
use Rattle.kernel_ports.proofs.Apart.{AreApart, is_there, is_named}
use Rattle.kernel_ports.proofs.Named.{ports_spelled, ports_apart}
use Rattle.stream_graph.proofs.NamesDiffer.{or_first, or_second}

-- ---- names

spelled_at : (vs : List PortView) → AreSpelled vs → (k : ℕ) (v : PortView) → slice_get vs k ≡ Some v → IsPortName v.name
spelled_at [] h k v e = absurd (cc)
spelled_at (u ∷ vs) h zero v e = let f : u ≡ v = cc in subst (λ (x : PortView). IsPortName x.name) f h.0
spelled_at (u ∷ vs) h (suc k) v e = spelled_at vs h.1 k v e

not_there : (name : List ℕ) (vs : List PortView) → is_there name vs ≡ false → (k : ℕ) (v : PortView) → slice_get vs k ≡ Some v → is_named name v ≡ false
not_there name [] h k v e = absurd (cc)
not_there name (u ∷ vs) h zero v e =
    let f : u ≡ v = cc in ap (is_named name) (sym f) ∙ or_first (is_named name u) (is_there name vs) h
not_there name (u ∷ vs) h (suc k) v e = not_there name vs (or_second (is_named name u) (is_there name vs) h) k v e

apart_at : (vs : List PortView) → AreApart vs → (j k : ℕ) (u v : PortView) → j < k → slice_get vs j ≡ Some u
    → slice_get vs k ≡ Some v → bytes_eq u.name v.name ≡ false
apart_at [] h j k u v lt e f = absurd (cc)
apart_at (w ∷ vs) h j zero u v lt e f = absurd (omega arith)
apart_at (w ∷ vs) h zero (suc k) u v lt e f =
    let g : w ≡ u = cc in ap (λ (x : PortView). bytes_eq x.name v.name) (sym g) ∙ not_there w.name vs h.0 k v f
apart_at (w ∷ vs) h (suc j) (suc k) u v lt e f = apart_at vs h.1 j k u v (omega (arith, lt)) e f

same_bytes : (xs : List ℕ) → bytes_eq xs xs ≡ true
same_bytes [] = refl
same_bytes (x ∷ xs) = let e : nat_eq x x ≡ true = grind (arith, nat_tests) in rw (e, same_bytes xs) refl

same_names : (u v : PortView) → u.name ≡ v.name → bytes_eq u.name v.name ≡ true
same_names u v e = ap (λ n. bytes_eq n v.name) e ∙ same_bytes v.name

length-map : {A B : Type 0} (f : A → B) (xs : List A) → length (map f xs) ≡ length xs
length-map f [] = refl
length-map f (x ∷ xs) = ap suc (length-map f xs)

item_at : {A : Type 0} (xs : List A) (k : ℕ) → k < length xs → (x : A) × (slice_get xs k ≡ Some x)
item_at [] k lt = absurd (omega arith)
item_at (x ∷ xs) zero lt = (x, refl)
item_at (x ∷ xs) (suc k) lt = item_at xs k (omega (arith, lt))

-- ---- a clock and a reset

abbrev is_bit_view : List ℕ → PortView → Bool
is_bit_view name v = not v.output && nat_eq v.width 1 && bytes_eq v.name name

pub bit_inputs : (m : Module) (name : List ℕ) → has_bit_input m name ≡ list_any (is_bit_view name) (ports_of m)
bit_inputs m name = each m.ports
  where
    each : (ps : List Port) → list_any (is_bit_input m name) ps ≡ list_any (is_bit_view name) (map (port_view m) ps)
    each [] = refl
    each (p ∷ ps) = ap (λ b. is_bit_input m name p || b) (each ps)

-- a module of ports alone, whose ports are spelled and apart, and of which the first two are clock and reset
pub named_ports : (m : Module) (rest : List PortView) → HasPortsAlone m → is_name m.name ≡ true
    → ports_of m ≡ input_port (codes "clk") 1 ∷ input_port (codes "reset") 1 ∷ rest
    → AreSpelled (ports_of m) → AreApart (ports_of m) → HasNamedPorts m
named_ports m rest alone name is spelled apart = record {
  name = name;
  port_names = λ k lt.
      let v = seen k lt in
      let at = port_at m alone k v.0 v.1 in
      ap is_name at.name ∙ (spelled_at (ports_of m) spelled k v.0 v.1).is;
  port_apart = λ k lt.
      let v = seen k lt in
      let at = port_at m alone k v.0 v.1 in
      ap is_own_name at.name ∙ (spelled_at (ports_of m) spelled k v.0 v.1).apart;
  ports_differ = λ j k a b e. differ j k a b e (sides j k);
  clock = bit_inputs m (codes "clk") ∙ ap (list_any (is_bit_view (codes "clk"))) is;
  reset = bit_inputs m (codes "reset") ∙ ap (list_any (is_bit_view (codes "reset"))) is;
}
  where
    seen : (k : ℕ) → k < length m.ports → (v : PortView) × (slice_get (ports_of m) k ≡ Some v)
    seen k lt = item_at (ports_of m) k (let e = length-map (port_view m) m.ports in omega (arith, lt, e))

    sides : (j k : ℕ) → (j ≡ k) ⊎ ((j < k) ⊎ (k < j))
    sides j k = grind arith

    clash : (j k : ℕ) → j < k → j < length m.ports → k < length m.ports → name_of m j ≡ name_of m k → ⊥
    clash j k lt a b e =
        let u = seen j a in
        let v = seen k b in
        let x = port_at m alone j u.0 u.1 in
        let y = port_at m alone k v.0 v.1 in
        let same = same_names u.0 v.0 (sym x.name ∙ e ∙ y.name) in
        let other = apart_at (ports_of m) apart j k u.0 v.0 lt u.1 v.1 in
        cc

    differ : (j k : ℕ) → j < length m.ports → k < length m.ports → name_of m j ≡ name_of m k → (j ≡ k) ⊎ ((j < k) ⊎ (k < j)) → j ≡ k
    differ j k a b e (inl h) = h
    differ j k a b e (inr (inl h)) = absurd (clash j k h a b e)
    differ j k a b e (inr (inr h)) = absurd (clash k j h b a (sym e))

-- ---- signals

has_input : {m : Module} {k w : ℕ} {name : List ℕ} → IsPortAt m k (input_port name w) → HasWidth m w (signal_at k w)
has_input p = record {
  signal = record { net = p.within; inner = p.output; width = p.width; some = p.some; at_most = p.at_most };
  width = refl;
}

has_output : {m : Module} {k w : ℕ} {name : List ℕ} → IsPortAt m k (output_port name w) → HasOutput m (signal_at k w)
has_output p = record { net = p.within; output = p.output; width = p.width }

moved : (m : Module) (j k : ℕ) (v : PortView) → j ≡ k → IsPortAt m j v → IsPortAt m k v
moved m j k v e h = subst (λ i. IsPortAt m i v) e h

moved_on : (m : Module) (j k : ℕ) (vs : List PortView) → j ≡ k → Stand m j vs → Stand m k vs
moved_on m j k vs e h = subst (λ i. Stand m i vs) e h

scalars_stand : (nodes : List Node) (m : Module) (k : ℕ) (ns : List ℕ) → Stand m k (scalar_ports (map (port_shape nodes) ns))
    → All (IsScalarPort nodes m) (scalars_at nodes k ns)
scalars_stand nodes m k [] h = All-nil (IsScalarPort nodes m)
scalars_stand nodes m k (n ∷ ns) h =
    All-cons (IsScalarPort nodes m) _ _ (record { signal = has_input h.0 }) (scalars_stand nodes m (k + 1) ns h.1)

inputs_stand : (nodes : List Node) (m : Module) (k : ℕ) (ns : List ℕ) → Stand m k (host_input_ports (map (port_shape nodes) ns))
    → All (IsInputPort nodes m) (streams_at nodes k ns)
inputs_stand nodes m k [] h = All-nil (IsInputPort nodes m)
inputs_stand nodes m k (n ∷ ns) h =
    All-cons (IsInputPort nodes m) _ _
    (record {
      word = has_input h.0;
      valid = has_input h.1.0;
      ready = record { output = has_output (moved m (k + 1 + 1) (k + 2) _ (omega arith) h.1.1.0); bit = refl };
    })
    (inputs_stand nodes m (k + 3) ns (moved_on m (k + 1 + 1 + 1) (k + 3) _ (omega arith) h.1.1.1))

outputs_stand : (nodes : List Node) (m : Module) (k : ℕ) (ns : List ℕ) → Stand m k (host_output_ports (map (port_shape nodes) ns))
    → All (IsOutputPort nodes m) (streams_at nodes k ns)
outputs_stand nodes m k [] h = All-nil (IsOutputPort nodes m)
outputs_stand nodes m k (n ∷ ns) h =
    All-cons (IsOutputPort nodes m) _ _
    (record {
      word = record { output = has_output h.0; width = refl };
      valid = record { output = has_output h.1.0; bit = refl };
      ready = has_input (moved m (k + 1 + 1) (k + 2) _ (omega arith) h.1.1.0);
    })
    (outputs_stand nodes m (k + 3) ns (moved_on m (k + 1 + 1 + 1) (k + 3) _ (omega arith) h.1.1.1))

-- ---- nets

scalar_nets : (nodes : List Node) (m : Module) (k : ℕ) (ns : List ℕ) → Stand m k (scalar_ports (map (port_shape nodes) ns))
    → map (λ (a : NodeSignal). a.signal.net) (scalars_at nodes k ns) ≡ nets_from m k ns
scalar_nets nodes m k [] h = refl
scalar_nets nodes m k (n ∷ ns) h = let e = h.0.net in let rest = scalar_nets nodes m (k + 1) ns h.1 in cc

pub scalar_numbers : (nodes : List Node) (k : ℕ) (ns : List ℕ) → map (λ (a : NodeSignal). a.node) (scalars_at nodes k ns) ≡ ns
scalar_numbers nodes k [] = refl
scalar_numbers nodes k (n ∷ ns) = ap (λ l. n ∷ l) (scalar_numbers nodes (k + 1) ns)

-- the nets of three ports at a time are their numbers
abbrev AreThree : Module → ℕ → List ℕ → Type 0
AreThree m k [] = Unit {0}
AreThree m k (n ∷ ns) = ((net_at m k ≡ k) × (net_at m (k + 1) ≡ k + 1) × (net_at m (k + 2) ≡ k + 2)) × AreThree m (k + 3) ns

inputs_three : (nodes : List Node) (m : Module) (k : ℕ) (ns : List ℕ) → Stand m k (host_input_ports (map (port_shape nodes) ns)) → AreThree m k ns
inputs_three nodes m k [] h = tt
inputs_three nodes m k (n ∷ ns) h = (
  (h.0.net, h.1.0.net, (moved m (k + 1 + 1) (k + 2) _ (omega arith) h.1.1.0).net),
  inputs_three nodes m (k + 3) ns (moved_on m (k + 1 + 1 + 1) (k + 3) _ (omega arith) h.1.1.1),
)

outputs_three : (nodes : List Node) (m : Module) (k : ℕ) (ns : List ℕ) → Stand m k (host_output_ports (map (port_shape nodes) ns)) → AreThree m k ns
outputs_three nodes m k [] h = tt
outputs_three nodes m k (n ∷ ns) h = (
  (h.0.net, h.1.0.net, (moved m (k + 1 + 1) (k + 2) _ (omega arith) h.1.1.0).net),
  outputs_three nodes m (k + 3) ns (moved_on m (k + 1 + 1 + 1) (k + 3) _ (omega arith) h.1.1.1),
)

stream_nets : (nodes : List Node) (m : Module) (k : ℕ) (ns : List ℕ) → AreThree m k ns → map channel_of (streams_at nodes k ns) ≡ channels_of m k ns
stream_nets nodes m k [] h = refl
stream_nets nodes m k (n ∷ ns) h =
    let a = h.0.0 in
    let b = h.0.1 in
    let d = h.0.2 in
    let rest = stream_nets nodes m (k + 3) ns h.1 in
    cc

length_scalars : (xs : List (List ℕ × ℕ)) → length (scalar_ports xs) ≡ length xs
length_scalars [] = refl
length_scalars (x ∷ xs) = ap suc (length_scalars xs)

length_inputs : (xs : List (List ℕ × ℕ)) → length (host_input_ports xs) ≡ 3 * length xs
length_inputs [] = refl
length_inputs (x ∷ xs) = let e = length_inputs xs in omega (arith, e)

length_outputs : (xs : List (List ℕ × ℕ)) → length (host_output_ports xs) ≡ 3 * length xs
length_outputs [] = refl
length_outputs (x ∷ xs) = let e = length_outputs xs in omega (arith, e)

pub count_scalars : (nodes : List Node) (ns : List ℕ) → length (scalar_ports (map (port_shape nodes) ns)) ≡ length ns
count_scalars nodes ns = length_scalars (map (port_shape nodes) ns) ∙ length-map (port_shape nodes) ns

pub count_inputs : (nodes : List Node) (ns : List ℕ) → length (host_input_ports (map (port_shape nodes) ns)) ≡ 3 * length ns
count_inputs nodes ns = length_inputs (map (port_shape nodes) ns) ∙ ap (λ n. 3 * n) (length-map (port_shape nodes) ns)

pub count_outputs : (nodes : List Node) (ns : List ℕ) → length (host_output_ports (map (port_shape nodes) ns)) ≡ 3 * length ns
count_outputs nodes ns = length_outputs (map (port_shape nodes) ns) ∙ ap (λ n. 3 * n) (length-map (port_shape nodes) ns)

-- ---- the whole

-- the ports of each kind stand where they are declared
record AllStand (m : Module) (nodes : List Node) : Type 0 where
  clock : IsPortAt m 0 (input_port (codes "clk") 1)
  reset : IsPortAt m 1 (input_port (codes "reset") 1)
  hold : IsPortAt m 2 (input_port (codes "hold$") 1)
  ticks : IsPortAt m 3 (input_port (codes "ticks$") 48)
  scalars : Stand m 4 (scalar_ports (map (port_shape nodes) (scalars_of nodes)))
  inputs : Stand m (first_input nodes) (host_input_ports (map (port_shape nodes) (inputs_of nodes)))
  outputs : Stand m (first_output nodes) (host_output_ports (map (port_shape nodes) (outputs_of nodes)))
  ended : IsPortAt m (ended_port nodes) (output_port (codes "ended$") 1)

stand_whole : (m : Module) (nodes : List Node) → HasPortsAlone m → ports_of m ≡ module_ports nodes → AllStand m nodes
stand_whole m nodes alone ports = record {
  clock = all.0;
  reset = all.1.0;
  hold = all.1.1.0;
  ticks = all.1.1.1.0;
  scalars = first_stand m 4 S I SI;
  inputs = rest_stand m 4 (first_input nodes) S I (let a = count_scalars nodes (scalars_of nodes) in omega (arith, a)) SI;
  outputs = rest_stand m 4 (first_output nodes) (S ++ I) O (let e = before_outputs in omega (arith, e)) SIO;
  ended = (rest_stand m 4 (ended_port nodes) (S ++ I ++ O) E (let e = before_end in omega (arith, e)) all.1.1.1.1).0;
}
  where
    S : List PortView
    S = scalar_ports (map (port_shape nodes) (scalars_of nodes))

    I : List PortView
    I = host_input_ports (map (port_shape nodes) (inputs_of nodes))

    O : List PortView
    O = host_output_ports (map (port_shape nodes) (outputs_of nodes))

    E : List PortView
    E = output_port (codes "ended$") 1 ∷ []

    all : Stand m 0 (module_ports nodes)
    all = subst (λ vs. Stand m 0 vs) ports (all_stand m alone)

    SIO : Stand m 4 (S ++ I ++ O)
    SIO = first_stand m 4 (S ++ I ++ O) E all.1.1.1.1

    SI : Stand m 4 (S ++ I)
    SI = first_stand m 4 (S ++ I) O SIO

    before_outputs : length (S ++ I) ≡ length (scalars_of nodes) + 3 * length (inputs_of nodes)
    before_outputs = let a = count_scalars nodes (scalars_of nodes) in let b = count_inputs nodes (inputs_of nodes) in let e = length-append S I in
        omega (arith, a, b, e)

    before_end : length (S ++ I ++ O) ≡ length (scalars_of nodes) + 3 * length (inputs_of nodes) + 3 * length (outputs_of nodes)
    before_end = let a = before_outputs in let b = count_outputs nodes (outputs_of nodes) in let e = length-append (S ++ I) O in omega (arith, a, b, e)

whole_nets : (m : Module) (nodes : List Node) → AllStand m nodes → (position : ℕ) → nets_by (signals_of nodes) position ≡ nets_of nodes m position
whole_nets m nodes s position =
    let a = s.clock.net in
    let b = s.reset.net in
    let d = s.hold.net in
    let e = s.ticks.net in
    let f = s.ended.net in
    let xs = scalar_nets nodes m 4 (scalars_of nodes) s.scalars in
    let ys = stream_nets nodes m (first_input nodes) (inputs_of nodes) (inputs_three nodes m (first_input nodes) (inputs_of nodes) s.inputs) in
    let zs = stream_nets nodes m (first_output nodes) (outputs_of nodes) (outputs_three nodes m (first_output nodes) (outputs_of nodes) s.outputs) in
    cc

pub has_kernel_ports : (kernel : Kernel) (m : Module) → is_plain_name kernel.name ≡ true → m.name ≡ codes "kernel$" ++ kernel.name
    → ports_of m ≡ module_ports kernel.nodes → HasPortsAlone m → HasKernelPorts kernel m (signals_of kernel.nodes)
has_kernel_ports kernel m plain name ports alone = record {
  name = name;
  ports = ports;
  alone = alone;
  named = named_ports m _ alone (ap is_name name ∙ kernel_named kernel.name plain) ports
      (subst AreSpelled (sym ports) (ports_spelled kernel.nodes keeps)) (subst AreApart (sym ports) (ports_apart kernel.nodes keeps));
  reset = has_input all.reset;
  hold = has_input all.hold;
  ticks = has_input all.ticks;
  scalars = scalars_stand kernel.nodes m 4 (scalars_of kernel.nodes) all.scalars;
  inputs = inputs_stand kernel.nodes m (first_input kernel.nodes) (inputs_of kernel.nodes) all.inputs;
  outputs = outputs_stand kernel.nodes m (first_output kernel.nodes) (outputs_of kernel.nodes) all.outputs;
  ended = record { output = has_output all.ended; bit = refl };
  scalar_nodes = scalar_numbers kernel.nodes 4 (scalars_of kernel.nodes);
  nets = whole_nets m kernel.nodes all;
}
  where
    all : AllStand m kernel.nodes
    all = stand_whole m kernel.nodes alone ports

    keeps : AreNamed kernel.nodes
    keeps = named kernel.nodes kernel.made

-- ---- what stays of it

pub ports_stay : (old new : Module) → IsPartial old → Grows old new → ports_of new ≡ ports_of old
ports_stay old new h g = ap (map (port_view new)) g.ports ∙ views_kept old new g.more_nets g.nets old.ports (below old h)

pub nets_stay : (old new : Module) (nodes : List Node) (position : ℕ) → Grows old new → nets_of nodes new position ≡ nets_of nodes old position
nets_stay old new nodes position g =
    let at : (k : ℕ) → net_at new k ≡ net_at old k = λ k. ap (λ (l : List Port). port_net (slice_get l k)) g.ports in
    let from : (k : ℕ) (ns : List ℕ) → nets_from new k ns ≡ nets_from old k ns = nets_same old new at in
    let streams : (k : ℕ) (ns : List ℕ) → channels_of new k ns ≡ channels_of old k ns = channels_same old new at in
    let a = at 0 in
    let b = at 1 in
    let d = at 2 in
    let e = at 3 in
    let f = at (ended_port nodes) in
    let xs = from 4 (scalars_of nodes) in
    let ys = streams (first_input nodes) (inputs_of nodes) in
    let zs = streams (first_output nodes) (outputs_of nodes) in
    cc
  where
    nets_same : (old new : Module) → ((k : ℕ) → net_at new k ≡ net_at old k) → (k : ℕ) (ns : List ℕ) → nets_from new k ns ≡ nets_from old k ns
    nets_same old new at k [] = refl
    nets_same old new at k (n ∷ ns) = let a = at k in let rest = nets_same old new at (k + 1) ns in cc

    channels_same : (old new : Module) → ((k : ℕ) → net_at new k ≡ net_at old k) → (k : ℕ) (ns : List ℕ) → channels_of new k ns ≡ channels_of old k ns
    channels_same old new at k [] = refl
    channels_same old new at k (n ∷ ns) =
        let a = at k in
        let b = at (k + 1) in
        let d = at (k + 2) in
        let rest = channels_same old new at (k + 3) ns in
        cc

pub named_stay : (old new : Module) → IsPartial old → Grows old new → new.name ≡ old.name → HasNamedPorts old → HasNamedPorts new
named_stay old new h g name n = record {
  name = ap is_name name ∙ n.name;
  port_names = λ k lt. ap is_name (kept k (fewer k lt)) ∙ n.port_names k (fewer k lt);
  port_apart = λ k lt. ap is_own_name (kept k (fewer k lt)) ∙ n.port_apart k (fewer k lt);
  ports_differ = λ j k a b e. n.ports_differ j k (fewer j a) (fewer k b) (sym (kept j (fewer j a)) ∙ e ∙ kept k (fewer k b));
  clock = bits (codes "clk") ∙ n.clock;
  reset = bits (codes "reset") ∙ n.reset;
}
  where
    fewer : (k : ℕ) → k < length new.ports → k < length old.ports
    fewer k lt = let e = ap length g.ports in omega (arith, lt, e)

    kept : (k : ℕ) → k < length old.ports → name_of new k ≡ name_of old k
    kept k lt = ap (λ (l : List Net). net_name (slice_get l k)) g.nets
        ∙ ap net_name (get_within old.nets g.more_nets k (let f = h.front in omega (arith, lt, f)))

    bits : (name : List ℕ) → has_bit_input new name ≡ has_bit_input old name
    bits name = bit_inputs new name ∙ ap (list_any (is_bit_view name)) (ports_stay old new h g) ∙ sym (bit_inputs old name)
