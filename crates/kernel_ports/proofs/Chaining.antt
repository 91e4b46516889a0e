-- All ports of a kernel's module, one after another.
use Rattle.std.proofs.Common.{◌≡◌, true, ℕ, List, [], ◌∷◌, ◌++◌, map, length, sym, ap, ◌∙◌, subst, arith, append-nil}
use Rattle.std.specs.Prelude.{codes}
use Rattle.rtl_ir.specs.declared.design.Module.{Module}
use Rattle.rtl_ir.specs.Ports.{input_port, output_port, host_input_ports, host_output_ports}
use Rattle.stream_graph.specs.declared.kernel.Kernel.{Kernel}
use Rattle.stream_graph.specs.declared.node.Node.{Node}
use Rattle.rtl_build.specs.Wires.{empty}
use Rattle.rtl_ir.specs.Ports.{ports_of, is_plain_name}
use Rattle.kernel_control.specs.Ports.{
  scalars_of,
  inputs_of,
  outputs_of,
  first_input,
  first_output,
  ended_port,
  port_shape,
  scalar_ports,
  module_ports,
}
use Rattle.kernel_ports.specs.declared.signals.KernelSignals.{KernelSignals}
use Rattle.kernel_ports.specs.Added.{AddsPorts, signal_at, scalars_at, streams_at, signals_of}
use Rattle.kernel_ports.proofs.Adding.{adds_on}
use Rattle.kernel_ports.specs.HasKernelPorts.{HasKernelPorts}
use Rattle.kernel_ports.proofs.Whole.{count_scalars, count_inputs, count_outputs, has_kernel_ports}

-- the calls that add the ports
pub record AddsAll (nodes : List Node) (a b c d e f g h i : Module) (xs ys zs : List ℕ) : Type 0 where
  pub clock : AddsPorts a b (input_port (codes "clk") 1 ∷ [])
  pub reset : AddsPorts b c (input_port (codes "reset") 1 ∷ [])
  pub hold : AddsPorts c d (input_port (codes "hold$") 1 ∷ [])
  pub ticks : AddsPorts d e (input_port (codes "ticks$") 48 ∷ [])
  pub scalars : AddsPorts e f (scalar_ports (map (port_shape nodes) xs))
  pub inputs : AddsPorts f g (host_input_ports (map (port_shape nodes) ys))
  pub outputs : AddsPorts g h (host_output_ports (map (port_shape nodes) zs))
  pub ended : AddsPorts h i (output_port (codes "ended$") 1 ∷ [])
  pub all_scalars : xs ≡ scalars_of nodes
  pub all_inputs : ys ≡ inputs_of nodes
  pub all_outputs : zs ≡ outputs_of nodes

pub chain_ports : {nodes : List Node} {a b c d e f g h i : Module} {xs ys zs : List ℕ} → AddsAll nodes a b c d e f g h i xs ys zs
    → AddsPorts a i (module_ports nodes)
chain_ports {nodes} {a} {b} {c} {d} {e} {f} {g} {h} {i} {xs} {ys} {zs} p =
    adds_on p.clock (adds_on p.reset (adds_on p.hold (adds_on p.ticks (adds_on (adds_on (adds_on
    (subst (λ ns. AddsPorts e f (scalar_ports (map (port_shape nodes) ns))) p.all_scalars p.scalars)
    (subst (λ ns. AddsPorts f g (host_input_ports (map (port_shape nodes) ns))) p.all_inputs p.inputs))
    (subst (λ ns. AddsPorts g h (host_output_ports (map (port_shape nodes) ns))) p.all_outputs p.outputs))
    p.ended))))

-- the signals that the calls answer
pub record AreAnswered (nodes : List Node) (b c d e f g h : Module) (xs ys zs : List ℕ) (s : KernelSignals) : Type 0 where
  pub reset : s.reset ≡ signal_at (length b.nets) 1
  pub hold : s.hold ≡ signal_at (length c.nets) 1
  pub ticks : s.ticks ≡ signal_at (length d.nets) 48
  pub scalars : s.scalars ≡ scalars_at nodes (length e.nets) xs
  pub inputs : s.inputs ≡ streams_at nodes (length f.nets) ys
  pub outputs : s.outputs ≡ streams_at nodes (length g.nets) zs
  pub ended : s.ended ≡ signal_at (length h.nets) 1

pub chain_signals : {nodes : List Node} {a b c d e f g h i : Module} {xs ys zs : List ℕ} {s : KernelSignals} → length a.nets ≡ 0
    → AddsAll nodes a b c d e f g h i xs ys zs → AreAnswered nodes b c d e f g h xs ys zs s → s ≡ signals_of nodes
chain_signals {nodes} {a} {b} {c} {d} {e} {f} {g} {h} {i} {xs} {ys} {zs} {s} none p q =
    let nb : length b.nets ≡ 1 = let x = p.clock.nets in omega (arith, x, none) in
    let nc : length c.nets ≡ 2 = let x = p.reset.nets in omega (arith, x, nb) in
    let nd : length d.nets ≡ 3 = let x = p.hold.nets in omega (arith, x, nc) in
    let ne : length e.nets ≡ 4 = let x = p.ticks.nets in omega (arith, x, nd) in
    let nf : length f.nets ≡ first_input nodes =
    let x = p.scalars.nets in let y = count_scalars nodes xs in let z = ap length p.all_scalars in omega (arith, x, y, z, ne) in
    let ng : length g.nets ≡ first_output nodes =
    let x = p.inputs.nets in let y = count_inputs nodes ys in let z = ap length p.all_inputs in omega (arith, x, y, z, nf) in
    let nh : length h.nets ≡ ended_port nodes =
    let x = p.outputs.nets in let y = count_outputs nodes zs in let z = ap length p.all_outputs in omega (arith, x, y, z, ng) in
    let r : s.reset ≡ signal_at 1 1 = q.reset ∙ ap (λ k. signal_at k 1) nb in
    let w : s.hold ≡ signal_at 2 1 = q.hold ∙ ap (λ k. signal_at k 1) nc in
    let t : s.ticks ≡ signal_at 3 48 = q.ticks ∙ ap (λ k. signal_at k 48) nd in
    let l : s.scalars ≡ scalars_at nodes 4 (scalars_of nodes) =
    q.scalars ∙ ap (λ k. scalars_at nodes k xs) ne ∙ ap (scalars_at nodes 4) p.all_scalars in
    let m : s.inputs ≡ streams_at nodes (first_input nodes) (inputs_of nodes) =
    q.inputs ∙ ap (λ k. streams_at nodes k ys) nf ∙ ap (streams_at nodes (first_input nodes)) p.all_inputs in
    let n : s.outputs ≡ streams_at nodes (first_output nodes) (outputs_of nodes) =
    q.outputs ∙ ap (λ k. streams_at nodes k zs) ng ∙ ap (streams_at nodes (first_output nodes)) p.all_outputs in
    let o : s.ended ≡ signal_at (ended_port nodes) 1 = q.ended ∙ ap (λ k. signal_at k 1) nh in
    ap (λ x. record s { reset = x }) r
    ∙ ap (λ x. record s { reset = signal_at 1 1; hold = x }) w
    ∙ ap (λ x. record s { reset = signal_at 1 1; hold = signal_at 2 1; ticks = x }) t
    ∙ ap (λ x. record (signals_of nodes) { scalars = x; inputs = s.inputs; outputs = s.outputs; ended = s.ended }) l
    ∙ ap (λ x. record (signals_of nodes) { inputs = x; outputs = s.outputs; ended = s.ended }) m
    ∙ ap (λ x. record (signals_of nodes) { outputs = x; ended = s.ended }) n
    ∙ ap (λ x. record (signals_of nodes) { ended = x }) o

pub built : (kernel : Kernel) {m n : Module} {text middle : List ℕ} {s : KernelSignals} → is_plain_name kernel.name ≡ true → m ≡ empty text
    → text ≡ codes "kernel$" ++ middle ++ [] → middle ≡ kernel.name → AddsPorts m n (module_ports kernel.nodes) → s ≡ signals_of kernel.nodes
    → HasKernelPorts kernel n s
built kernel {m} {n} {text} {middle} {s} plain begun named is p signals =
    subst (λ a. HasKernelPorts kernel n a) (sym signals) (has_kernel_ports kernel n plain
    (p.name ∙ ap (λ (x : Module). x.name) begun ∙ named ∙ append-nil (codes "kernel$" ++ middle) ∙ ap (λ a. codes "kernel$" ++ a) is)
    (p.ports ∙ ap (λ x. ports_of x ++ module_ports kernel.nodes) begun)
    p.alone)
