-- How many parts the design of a project has.
use Rattle.std.proofs.Common.{◌≡◌, ◌∙◌, ℕ, suc, ◌+◌, ◌*◌, ◌≤◌, List, [], ◌∷◌, ◌++◌, length, refl, sym, ap, arith, length-append}
use Rattle.std.proofs.lemmas.List.{length-map}
use Rattle.std.specs.Prelude.{codes, sum_by}
use Rattle.std.specs.Fmt.{decimal}
use Rattle.std.proofs.lemmas.List.Sums.{sum_by-cons, sum_by-append}
use Rattle.rtl_ir.specs.declared.design.Instance.{Instance}
use Rattle.rtl_ir.specs.declared.design.Module.{Module}
use Rattle.rtl_ir.specs.declared.design.Design.{Design}
use Rattle.rtl_ir.specs.Ports.{PortView, port_view, shape_ports, first_input, first_output}
use Rattle.stream_graph.specs.declared.kernel.Kernel.{Kernel}
use Rattle.link_fifo.specs.Fifo.{IsFifoModule}
use Rattle.manager_links.specs.declared.hosts.HostPort.{HostPort}
use Rattle.manager_links.specs.declared.links.LinkEnds.{LinkEnds}
use Rattle.manager_links.specs.declared.links.Links.{Links}
use Rattle.manager_links.specs.declared.project.Project.{Project}
use Rattle.project_rtl.specs.Shapes.{shape_of}
use Rattle.project_rtl.specs.Blocks.{scalar_count, block_size, stream_net, first_net, first_scalar_port}
use Rattle.project_rtl.specs.Tops.{range, instance, fifo_nets, kernel_nets, input_instances, output_instances}
use Rattle.project_rtl.specs.Tops.{link_instances, kernel_instances, host_count, fifo_count, instances_of, ports_from, top_module}
use Rattle.project_rtl.specs.Projects.{Queue, queues_of, AreFifos, IsProjectOf}
use Rattle.project_rtl.specs.Designs.{kernel_weight, part_weight}
use Rattle.project_sizes.proofs.Lists.{length_range}
use Rattle.project_sizes.proofs.Counts.{weights, length_ports, count_ports, few_nets, count_queues}
use Rattle.verilog_size.specs.Sizes.{instance_size, size_of, design_size}

-- ---- a FIFO

-- the ports of a FIFO are eight
pub fifo_port_count : (name : List ℕ) (width depth : ℕ) (f : Module) → IsFifoModule name width depth f → length f.ports ≡ 8
fifo_port_count name width depth f is = sym (length-map f.ports (port_view f)) ∙ ap (λ (l : List PortView). length l) is.ports

fifo_size : (name : List ℕ) (width depth : ℕ) (f : Module) → IsFifoModule name width depth f → size_of f ≤ 75
fifo_size name width depth f is =
    let ports = fifo_port_count name width depth f is in
    let nets = is.few in
    let mems = is.few_mems in
    let none = ap (λ (l : List Instance). sum_by instance_size l) is.no_instances in
    omega (arith, ports, nets, mems, none)

fifos_size : (number : ℕ) (queues : List Queue) (fifos : List Module) → AreFifos number queues fifos → sum_by size_of fifos ≤ 75 * length queues
fifos_size number [] [] h = omega arith
fifos_size number [] (m ∷ ms) h = absurd h
fifos_size number (q ∷ queues) [] h = absurd h
fifos_size number (q ∷ queues) (m ∷ ms) h =
    let here = fifo_size _ _ _ m h.0 in
    let rest = fifos_size (number + 1) queues ms h.1 in
    let sum = sum_by-cons size_of m ms in
    omega (arith, here, rest, sum)

-- ---- the top module

module _ (project : Project) where
  ins_size : (of port : ℕ) (hosts : List HostPort) → sum_by instance_size (input_instances project of port hosts) ≡ 9 * length hosts
  ins_size of port [] = omega arith
  ins_size of port (x ∷ hosts) =
      let i = instance of (codes "fifo$in$" ++ x.name) (fifo_nets port (stream_net project x.port)) in
      let sum = sum_by-cons instance_size i (input_instances project (of + 1) (port + 3) hosts) in
      let rest = ins_size (of + 1) (port + 3) hosts in
      omega (arith, sum, rest)

  outs_size : (of port : ℕ) (hosts : List HostPort) → sum_by instance_size (output_instances project of port hosts) ≡ 9 * length hosts
  outs_size of port [] = omega arith
  outs_size of port (x ∷ hosts) =
      let i = instance of (codes "fifo$out$" ++ x.name) (fifo_nets (stream_net project x.port) port) in
      let sum = sum_by-cons instance_size i (output_instances project (of + 1) (port + 3) hosts) in
      let rest = outs_size (of + 1) (port + 3) hosts in
      omega (arith, sum, rest)

  links_size : (of number : ℕ) (links : List LinkEnds) → sum_by instance_size (link_instances project of number links) ≡ 9 * length links
  links_size of number [] = omega arith
  links_size of number (x ∷ links) =
      let i = instance of (codes "fifo$link$" ++ decimal number) (fifo_nets (stream_net project x.from) (stream_net project x.to)) in
      let sum = sum_by-cons instance_size i (link_instances project (of + 1) (number + 1) links) in
      let rest = links_size (of + 1) (number + 1) links in
      omega (arith, sum, rest)

  kernel_size : (k : ℕ) (kernel : Kernel) → length (kernel_nets project k kernel) ≡ 4 + scalar_count kernel + block_size kernel
  kernel_size k kernel =
      let a = range 0 2 in
      let b = range (2 + 2 * k) 2 in
      let c = range (first_scalar_port project k) (scalar_count kernel) in
      let d = range (first_net project k) (block_size kernel) in
      let p = length-append a b in
      let q = length-append (a ++ b) c in
      let r = length-append (a ++ b ++ c) d in
      let s = length_range (2 + 2 * k) 2 in
      let t = length_range (first_scalar_port project k) (scalar_count kernel) in
      let u = length_range (first_net project k) (block_size kernel) in
      omega (arith, p, q, r, s, t, u)

  kernels_size : (of k : ℕ) (kernels : List Kernel) → sum_by instance_size (kernel_instances project of k kernels) ≤ 6 * sum_by kernel_weight kernels
  kernels_size of k [] = omega arith
  kernels_size of k (x ∷ kernels) =
      let i = instance of (codes "kernel$" ++ x.name) (kernel_nets project k x) in
      let own = kernel_size k x in
      let sum = sum_by-cons instance_size i (kernel_instances project (of + 1) (k + 1) kernels) in
      let weight = sum_by-cons kernel_weight x kernels in
      let rest = kernels_size (of + 1) (k + 1) kernels in
      omega (arith, own, sum, weight, rest)

  abbrev pub ins : List Instance
  ins = input_instances project 0 (first_input (shape_of project)) project.joints.inputs

  abbrev pub outs : List Instance
  outs = output_instances project (length project.joints.inputs) (first_output (shape_of project)) project.joints.outputs

  abbrev pub links : List Instance
  links = link_instances project (host_count project) 0 project.joints.links

  abbrev pub kernels : List Instance
  kernels = kernel_instances project (fifo_count project) 0 project.kernels

  -- what all instances have together
  pub sum_instances : (f : Instance → ℕ) → sum_by f (instances_of project) ≡ sum_by f ins + sum_by f outs + sum_by f links + sum_by f kernels
  sum_instances f =
      let a = sum_by-append f ins (outs ++ (links ++ kernels)) in
      let b = sum_by-append f outs (links ++ kernels) in
      let c = sum_by-append f links kernels in
      omega (arith, a, b, c)

  length_top_ports : (n : ℕ) (ps : List PortView) → length (ports_from n ps) ≡ length ps
  length_top_ports n [] = refl
  length_top_ports n (p ∷ ps) = ap suc (length_top_ports (n + 1) ps)

  top_size : size_of (top_module project) ≤ 32 + 52 * part_weight project
  top_size =
      let ports = length_top_ports 0 (shape_ports (shape_of project)) in
      let shape = length_ports (shape_of project) in
      let count = count_ports project in
      let weight = weights project.kernels in
      let nets = few_nets project in
      let a = ins_size 0 (first_input (shape_of project)) project.joints.inputs in
      let b = outs_size (length project.joints.inputs) (first_output (shape_of project)) project.joints.outputs in
      let c = links_size (host_count project) 0 project.joints.links in
      let e = kernels_size (fifo_count project) 0 project.kernels in
      let all = sum_instances instance_size in
      omega (arith, ports, shape, count, weight, nets, a, b, c, e, all)

  -- ---- the design

  module _ (made : Links) (inners : List Module) (d : Design) (is : IsProjectOf project made inners d) where
    pub size : design_size d ≤ sum_by size_of inners + 32 + 128 * part_weight project
    size =
        let top = top_module project in
        let all = ap (λ l. sum_by size_of l) is.modules in
        let a = sum_by-append size_of is.fifos (inners ++ top ∷ []) in
        let b = sum_by-append size_of inners (top ∷ []) in
        let c = sum_by-cons size_of top [] in
        let fifos = fifos_size 0 (queues_of project made) is.fifos is.are_fifos in
        let count = count_queues project made is.links in
        let own = top_size in
        omega (arith, all, a, b, c, fifos, count, own)
