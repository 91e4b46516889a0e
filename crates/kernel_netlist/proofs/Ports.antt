-- The ports of a kernel's module: what holds of each kind of them holds of all, and how many they
-- are.
use Rattle.std.proofs.Common.{◌≡◌, ℕ, suc, ◌*◌, Bool, true, false, List, [], ◌∷◌, ◌++◌, map, length, refl, ap, arith, length-append}
use Rattle.std.specs.Prelude.{codes}
use Rattle.std.specs.List.{All}
use Rattle.std.proofs.lemmas.List.Elements.{All-nil, All-cons, All-append}
use Rattle.rtl_ir.specs.Ports.{PortView, input_port, output_port, host_input_ports, host_output_ports}
use Rattle.stream_graph.specs.declared.node.Node.{Node}
use Rattle.stream_graph.specs.Kinds.{is_input, is_output, is_scalar}
use Rattle.stream_graph.specs.LookUps.{node_at, width_at}
use Rattle.kernel_control.specs.Ports.{inputs_of, outputs_of, scalars_of, port_shape, scalar_ports, module_ports}
use Rattle.kernel_wiring.specs.Costs.{all_ports as most_ports}
use Rattle.kernel_wiring.proofs.Costs.{numbers_counted, ports_parted}
use Rattle.kernel_netlist.proofs.Lists.{length_map}

-- ---- each port

-- a port of a name that has that of a node in it, whatever its width and direction
abbrev pub OfNode : (PortView → Type 0) → List Node → List ℕ → List ℕ → Type 0
OfNode P nodes before behind =
    (n width : ℕ) (output : Bool)
    → P (record { name = before ++ (node_at nodes n).name ++ behind; width = width; output = output })

-- the same of the three ports of a stream
pub record OfStream (P : PortView → Type 0) (nodes : List Node) (before : List ℕ) : Type 0 where
  pub word : OfNode P nodes before (codes "$data")
  pub valid : OfNode P nodes before (codes "$valid")
  pub ready : OfNode P nodes before (codes "$ready")

-- what is asked of each kind of ports
pub record OfPorts (P : PortView → Type 0) (nodes : List Node) : Type 0 where
  pub clock : P (input_port (codes "clk") 1)
  pub reset : P (input_port (codes "reset") 1)
  pub hold : P (input_port (codes "hold$") 1)
  pub ticks : P (input_port (codes "ticks$") 48)
  pub scalar :
      (n width : ℕ) → P (input_port (codes "scalar$" ++ (node_at nodes n).name) width)
  pub input : OfStream P nodes (codes "in$")
  pub output : OfStream P nodes (codes "out$")
  pub ended : P (output_port (codes "ended$") 1)

module _ (P : PortView → Type 0) (nodes : List Node) (of : OfPorts P nodes) where
  one : (p : PortView) (ps : List PortView) → P p → All P ps → All P (p ∷ ps)
  one p ps h rest = All-cons P p ps h rest

  scalars_all : (ns : List ℕ) → All P (scalar_ports (map (port_shape nodes) ns))
  scalars_all [] = All-nil P
  scalars_all (n ∷ ns) =
      one (input_port (codes "scalar$" ++ (node_at nodes n).name) (width_at nodes n))
      (scalar_ports (map (port_shape nodes) ns)) (of.scalar n (width_at nodes n)) (scalars_all ns)

  inputs_all : (ns : List ℕ) → All P (host_input_ports (map (port_shape nodes) ns))
  inputs_all [] = All-nil P
  inputs_all (n ∷ ns) =
      let name = (node_at nodes n).name in
      let valid = input_port (codes "in$" ++ name ++ codes "$valid") 1 in
      let ready = output_port (codes "in$" ++ name ++ codes "$ready") 1 in
      let rest = host_input_ports (map (port_shape nodes) ns) in
      one (input_port (codes "in$" ++ name ++ codes "$data") (width_at nodes n)) (valid ∷ ready ∷ rest)
      (of.input.word n (width_at nodes n) false)
      (one valid (ready ∷ rest) (of.input.valid n 1 false)
      (one ready rest (of.input.ready n 1 true) (inputs_all ns)))

  outputs_all : (ns : List ℕ) → All P (host_output_ports (map (port_shape nodes) ns))
  outputs_all [] = All-nil P
  outputs_all (n ∷ ns) =
      let name = (node_at nodes n).name in
      let valid = output_port (codes "out$" ++ name ++ codes "$valid") 1 in
      let ready = input_port (codes "out$" ++ name ++ codes "$ready") 1 in
      let rest = host_output_ports (map (port_shape nodes) ns) in
      one (output_port (codes "out$" ++ name ++ codes "$data") (width_at nodes n)) (valid ∷ ready ∷ rest)
      (of.output.word n (width_at nodes n) true)
      (one valid (ready ∷ rest) (of.output.valid n 1 true)
      (one ready rest (of.output.ready n 1 false) (outputs_all ns)))

  -- so it is with all ports
  pub all_ports : All P (module_ports nodes)
  all_ports =
      let clock = input_port (codes "clk") 1 in
      let reset = input_port (codes "reset") 1 in
      let hold = input_port (codes "hold$") 1 in
      let ticks = input_port (codes "ticks$") 48 in
      let ended = output_port (codes "ended$") 1 in
      let scalars = scalar_ports (map (port_shape nodes) (scalars_of nodes)) in
      let inputs = host_input_ports (map (port_shape nodes) (inputs_of nodes)) in
      let outputs = host_output_ports (map (port_shape nodes) (outputs_of nodes)) in
      let rest = scalars ++ inputs ++ outputs ++ ended ∷ [] in
      one clock (reset ∷ hold ∷ ticks ∷ rest) of.clock
      (one reset (hold ∷ ticks ∷ rest) of.reset
      (one hold (ticks ∷ rest) of.hold
      (one ticks rest of.ticks
      (All-append P (scalars ++ inputs ++ outputs) (ended ∷ [])
      (All-append P (scalars ++ inputs) outputs
      (All-append P scalars inputs (scalars_all (scalars_of nodes)) (inputs_all (inputs_of nodes)))
      (outputs_all (outputs_of nodes)))
      (one ended [] of.ended (All-nil P))))))

-- ---- how many they are

count_scalars : (xs : List (List ℕ × ℕ)) → length (scalar_ports xs) ≡ length xs
count_scalars [] = refl
count_scalars (x ∷ xs) = ap suc (count_scalars xs)

count_inputs : (xs : List (List ℕ × ℕ)) → length (host_input_ports xs) ≡ 3 * length xs
count_inputs [] = refl
count_inputs (x ∷ xs) = let e = count_inputs xs in omega (arith, e)

count_outputs : (xs : List (List ℕ × ℕ)) → length (host_output_ports xs) ≡ 3 * length xs
count_outputs [] = refl
count_outputs (x ∷ xs) = let e = count_outputs xs in omega (arith, e)

pub ports_counted : (nodes : List Node) → length (module_ports nodes) ≡ most_ports nodes
ports_counted nodes =
    let scalars = scalar_ports (map (port_shape nodes) (scalars_of nodes)) in
    let inputs = host_input_ports (map (port_shape nodes) (inputs_of nodes)) in
    let outputs = host_output_ports (map (port_shape nodes) (outputs_of nodes)) in
    let a = length-append (scalars ++ inputs ++ outputs) (output_port (codes "ended$") 1 ∷ []) in
    let b = length-append (scalars ++ inputs) outputs in
    let c = length-append scalars inputs in
    let s = count_scalars (map (port_shape nodes) (scalars_of nodes)) in
    let i = count_inputs (map (port_shape nodes) (inputs_of nodes)) in
    let o = count_outputs (map (port_shape nodes) (outputs_of nodes)) in
    let all_s = numbers_counted is_scalar 0 nodes in
    let all_i = numbers_counted is_input 0 nodes in
    let all_o = numbers_counted is_output 0 nodes in
    let map_s = length_map (port_shape nodes) (scalars_of nodes) in
    let map_i = length_map (port_shape nodes) (inputs_of nodes) in
    let map_o = length_map (port_shape nodes) (outputs_of nodes) in
    let parted = ports_parted nodes nodes in
    omega (arith, a, b, c, s, i, o, all_s, all_i, all_o, map_s, map_i, map_o, parted)
