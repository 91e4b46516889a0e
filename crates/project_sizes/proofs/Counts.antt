-- How many instances, ports and nets the top module of a project has.
use Rattle.std.proofs.Common.{◌≡◌, ℕ, suc, ◌+◌, ◌*◌, ◌≤◌, List, [], ◌∷◌, ◌++◌, map, replicate, length, refl, ap, arith, length-append}
use Rattle.std.specs.Prelude.{codes, sum_by}
use Rattle.std.specs.List.{flat_map}
use Rattle.std.proofs.lemmas.List.{length-map, length-replicate}
use Rattle.std.proofs.lemmas.List.Sums.{sum_by-cons}
use Rattle.rtl_ir.specs.declared.design.Module.{Module}
use Rattle.rtl_ir.specs.Ports.{Shape, PortView, output_port, kernel_ports, scalar_ports, host_input_ports, host_output_ports, shape_ports, done_port}
use Rattle.stream_graph.specs.declared.kernel.Kernel.{Kernel}
use Rattle.stream_graph.specs.declared.node.Node.{Node}
use Rattle.kernel_control.specs.Ports.{scalars_of}
use Rattle.link_fifo.specs.Netlist.{wires_from}
use Rattle.manager_links.specs.declared.links.LinkEnds.{LinkEnds}
use Rattle.manager_links.specs.declared.links.Links.{Links}
use Rattle.manager_links.specs.declared.project.Project.{Project}
use Rattle.manager_links.specs.Joined.{ends_of_link}
use Rattle.project_rtl.specs.Shapes.{scalar_shape, scalar_shapes, host_shape, shape_of, port_count}
use Rattle.project_rtl.specs.Blocks.{streams_of, stream_count, scalar_count, block_size}
use Rattle.project_rtl.specs.Tops.{host_count, fifo_count, port_net, stream_widths, block_widths, done_count, wire_widths, top_module}
use Rattle.project_rtl.specs.Projects.{Queue, host_queue, link_queue, queues_of, AreFifos}
use Rattle.project_rtl.specs.Designs.{kernel_weight, port_weight}

-- ---- kernels

-- what kernels weigh
pub weights : (kernels : List Kernel)
    → sum_by kernel_weight kernels ≡ length kernels + sum_by scalar_count kernels + sum_by stream_count kernels
weights [] = omega arith
weights (kernel ∷ kernels) =
    let rest = weights kernels in
    let a = sum_by-cons kernel_weight kernel kernels in
    let b = sum_by-cons scalar_count kernel kernels in
    let c = sum_by-cons stream_count kernel kernels in
    omega (arith, rest, a, b, c)

pub block_sizes : (kernels : List Kernel) → sum_by block_size kernels ≡ 3 * sum_by stream_count kernels + length kernels
block_sizes [] = omega arith
block_sizes (kernel ∷ kernels) =
    let rest = block_sizes kernels in
    let a = sum_by-cons block_size kernel kernels in
    let b = sum_by-cons stream_count kernel kernels in
    omega (arith, rest, a, b)

-- ---- ports

pub length_kernels : (ks : List (List ℕ)) → length (kernel_ports ks) ≡ 2 * length ks
length_kernels [] = omega arith
length_kernels (k ∷ ks) = let e = length_kernels ks in omega (arith, e)

pub length_scalars : (ss : List (List ℕ × List ℕ × ℕ)) → length (scalar_ports ss) ≡ length ss
length_scalars [] = refl
length_scalars (s ∷ ss) = ap suc (length_scalars ss)

pub length_ins : (xs : List (List ℕ × ℕ)) → length (host_input_ports xs) ≡ 3 * length xs
length_ins [] = omega arith
length_ins (x ∷ xs) = let e = length_ins xs in omega (arith, e)

pub length_outs : (ys : List (List ℕ × ℕ)) → length (host_output_ports ys) ≡ 3 * length ys
length_outs [] = omega arith
length_outs (y ∷ ys) = let e = length_outs ys in omega (arith, e)

pub length_ports : (s : Shape) → length (shape_ports s) ≡ done_port s + 1
length_ports s =
    let last : List PortView = output_port (codes "done") 1 ∷ [] in
    let k = length_kernels s.kernels in
    let a = length_scalars s.scalars in
    let i = length_ins s.inputs in
    let o = length_outs s.outputs in
    let p = length-append (kernel_ports s.kernels) (scalar_ports s.scalars) in
    let q = length-append (kernel_ports s.kernels ++ scalar_ports s.scalars) (host_input_ports s.inputs) in
    let r = length-append (kernel_ports s.kernels ++ scalar_ports s.scalars ++ host_input_ports s.inputs) (host_output_ports s.outputs) in
    let t = length-append (kernel_ports s.kernels ++ scalar_ports s.scalars ++ host_input_ports s.inputs ++ host_output_ports s.outputs) last in
    omega (arith, k, a, i, o, p, q, r, t)

-- the scalars of all kernels
length_shapes : (kernels : List Kernel) → length (flat_map scalar_shapes kernels) ≡ sum_by scalar_count kernels
length_shapes [] = refl
length_shapes (kernel ∷ kernels) =
    let rest = length_shapes kernels in
    let here = length-map (scalars_of kernel.nodes) (scalar_shape kernel) in
    let both = length-append (scalar_shapes kernel) (flat_map scalar_shapes kernels) in
    let sum = sum_by-cons scalar_count kernel kernels in
    omega (arith, rest, here, both, sum)

-- the kinds of ports of a project
pub record HasPorts (project : Project) : Type 0 where
  pub kernels : length (shape_of project).kernels ≡ length project.kernels
  pub scalars : length (shape_of project).scalars ≡ sum_by scalar_count project.kernels
  pub inputs : length (shape_of project).inputs ≡ length project.joints.inputs
  pub outputs : length (shape_of project).outputs ≡ length project.joints.outputs

pub has_ports : (project : Project) → HasPorts project
has_ports project = record {
  kernels = length-map project.kernels (λ (kernel : Kernel). kernel.name);
  scalars = length_shapes project.kernels;
  inputs = length-map project.joints.inputs host_shape;
  outputs = length-map project.joints.outputs host_shape;
}

pub count_ports : (project : Project)
    → port_count project ≡ 3 + 2 * length project.kernels + sum_by scalar_count project.kernels + 3 * host_count project
count_ports project =
    let h = has_ports project in
    let k = h.kernels in
    let s = h.scalars in
    let i = h.inputs in
    let o = h.outputs in
    omega (arith, k, s, i, o)

-- ---- wires

length_streams : (nodes : List Node) (ns : List ℕ) → length (stream_widths nodes ns) ≡ 3 * length ns
length_streams nodes [] = omega arith
length_streams nodes (n ∷ ns) = let e = length_streams nodes ns in omega (arith, e)

pub length_blocks : (kernels : List Kernel) → length (flat_map block_widths kernels) ≡ sum_by block_size kernels
length_blocks [] = refl
length_blocks (kernel ∷ kernels) =
    let rest = length_blocks kernels in
    let here = length_streams kernel.nodes (streams_of kernel.nodes) in
    let own = length-append (stream_widths kernel.nodes (streams_of kernel.nodes)) (1 ∷ []) in
    let both = length-append (block_widths kernel) (flat_map block_widths kernels) in
    let sum = sum_by-cons block_size kernel kernels in
    omega (arith, rest, here, own, both, sum)

pub count_wires : (project : Project) → length (wire_widths project) ≡ sum_by block_size project.kernels + done_count project
count_wires project =
    let a = length-append (flat_map block_widths project.kernels) (replicate (done_count project) 1) in
    let b = length_blocks project.kernels in
    let c = length-replicate {A = ℕ} (done_count project) 1 in
    omega (arith, a, b, c)

pub length_wires : (k : ℕ) (ws : List ℕ) → length (wires_from k ws) ≡ length ws
length_wires k [] = refl
length_wires k (w ∷ ws) = ap suc (length_wires (k + 1) ws)

-- the nets of the top module
pub count_nets : (project : Project) → length (top_module project).nets ≡ port_count project + length (wire_widths project)
count_nets project =
    let ps = shape_ports (shape_of project) in
    let ws = wire_widths project in
    let a = length-append (map port_net ps) (wires_from (port_count project) ws) in
    let b = length-map ps port_net in
    let c = length_ports (shape_of project) in
    let d = length_wires (port_count project) ws in
    omega (arith, a, b, c, d)

pub few_nets : (project : Project) → length (top_module project).nets ≤ 16 + 8 * port_weight project
few_nets project =
    let all = count_nets project in
    let ports = count_ports project in
    let wires = count_wires project in
    let blocks = block_sizes project.kernels in
    let weight = weights project.kernels in
    omega (arith, all, ports, wires, blocks, weight)

-- ---- FIFOs

pub length_fifos : (number : ℕ) (queues : List Queue) (ms : List Module) → AreFifos number queues ms → length ms ≡ length queues
length_fifos number [] [] h = refl
length_fifos number [] (m ∷ ms) h = absurd h
length_fifos number (q ∷ queues) [] h = absurd h
length_fifos number (q ∷ queues) (m ∷ ms) h = ap suc (length_fifos (number + 1) queues ms h.1)

-- there is one for each stream of the host and for each link
pub count_queues : (project : Project) (made : Links) → map ends_of_link made.links ≡ project.joints.links
    → length (queues_of project made) ≡ fifo_count project
count_queues project made same =
    let ins = map host_queue project.joints.inputs in
    let outs = map host_queue project.joints.outputs in
    let links = map (link_queue project.kernels) made.links in
    let a = length-append ins (outs ++ links) in
    let b = length-append outs links in
    let c = length-map project.joints.inputs host_queue in
    let d = length-map project.joints.outputs host_queue in
    let e = length-map made.links (link_queue project.kernels) in
    let f = length-map made.links ends_of_link in
    let g = ap (λ (l : List LinkEnds). length l) same in
    omega (arith, a, b, c, d, e, f, g)
