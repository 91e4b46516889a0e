-- The names of the design are such as a text has, where those of the kernels' modules are.
use Rattle.std.proofs.Common.{◌≡◌, ℕ, ◌+◌, true, List, [], ◌∷◌, ◌++◌, map, length, refl, sym, subst, arith}
use Rattle.std.specs.Prelude.{codes}
use Rattle.std.specs.List.{All}
use Rattle.std.specs.Fmt.{decimal}
use Rattle.std.proofs.lemmas.List.Elements.{All-nil, All-cons, All-append, All-map}
use Rattle.rtl_ir.specs.declared.design.Design.{Design}
use Rattle.rtl_ir.specs.declared.design.Instance.{Instance}
use Rattle.rtl_ir.specs.declared.design.Mem.{Mem}
use Rattle.rtl_ir.specs.declared.design.Module.{Module}
use Rattle.rtl_ir.specs.declared.design.Net.{Net}
use Rattle.rtl_ir.specs.Ports.{PortView, Shape, input_port, output_port, kernel_ports, scalar_ports, host_input_ports, host_output_ports, shape_ports, first_input, first_output}
use Rattle.stream_graph.specs.declared.kernel.Kernel.{Kernel}
use Rattle.link_fifo.specs.Fifo.{IsFifoModule}
use Rattle.link_fifo.specs.Netlist.{wires_from}
use Rattle.link_fifo.specs.TextNames.{HasTextNames, is_text_name}
use Rattle.link_fifo.proofs.TextNames.{wires_text}
use Rattle.manager_links.specs.declared.hosts.HostPort.{HostPort}
use Rattle.manager_links.specs.declared.links.LinkEnds.{LinkEnds}
use Rattle.manager_links.specs.declared.links.Links.{Links}
use Rattle.manager_links.specs.declared.project.Project.{Project}
use Rattle.project_rtl.specs.Shapes.{shape_of, port_count}
use Rattle.project_rtl.specs.Blocks.{stream_net}
use Rattle.project_rtl.specs.Tops.{instance, fifo_nets, kernel_nets, input_instances, output_instances, link_instances}
use Rattle.project_rtl.specs.Tops.{kernel_instances, host_count, fifo_count, instances_of, port_net, wire_widths, top_module}
use Rattle.project_rtl.specs.Projects.{fifo_name, IsProjectOf}
use Rattle.project_sizes.proofs.Facts.{all_modules}
use Rattle.project_sizes.proofs.Limits.{few_wires}

-- ---- ports

abbrev IsNamed : PortView → Type 0
IsNamed p = is_text_name p.name ≡ true

abbrev ArePortsNamed : List PortView → Type 0
ArePortsNamed ps = All (λ (p : PortView). is_text_name p.name ≡ true) ps

none : ArePortsNamed []
none = All-nil IsNamed

one : (p : PortView) (ps : List PortView) → is_text_name p.name ≡ true → ArePortsNamed ps → ArePortsNamed (p ∷ ps)
one p ps h rest = All-cons IsNamed p ps h rest

both : (ps qs : List PortView) → ArePortsNamed ps → ArePortsNamed qs → ArePortsNamed (ps ++ qs)
both ps qs h k = All-append IsNamed ps qs h k

kernels_named : (ks : List (List ℕ)) → ArePortsNamed (kernel_ports ks)
kernels_named [] = none
kernels_named (k ∷ ks) =
    let hold = input_port (codes "hold$" ++ k) 1 in
    let ticks = input_port (codes "ticks$" ++ k) 48 in
    one hold (ticks ∷ kernel_ports ks) refl (one ticks (kernel_ports ks) refl (kernels_named ks))

scalars_named : (xs : List (List ℕ × List ℕ × ℕ)) → ArePortsNamed (scalar_ports xs)
scalars_named [] = none
scalars_named (x ∷ xs) =
    one (input_port (codes "scalar$" ++ x.0 ++ codes "$" ++ x.1) x.2) (scalar_ports xs) refl (scalars_named xs)

ins_named : (xs : List (List ℕ × ℕ)) → ArePortsNamed (host_input_ports xs)
ins_named [] = none
ins_named (x ∷ xs) =
    let word = input_port (codes "in$" ++ x.0 ++ codes "$data") x.1 in
    let valid = input_port (codes "in$" ++ x.0 ++ codes "$valid") 1 in
    let ready = output_port (codes "in$" ++ x.0 ++ codes "$ready") 1 in
    let rest = host_input_ports xs in
    one word (valid ∷ ready ∷ rest) refl
    (one valid (ready ∷ rest) refl (one ready rest refl (ins_named xs)))

outs_named : (ys : List (List ℕ × ℕ)) → ArePortsNamed (host_output_ports ys)
outs_named [] = none
outs_named (y ∷ ys) =
    let word = output_port (codes "out$" ++ y.0 ++ codes "$data") y.1 in
    let valid = output_port (codes "out$" ++ y.0 ++ codes "$valid") 1 in
    let ready = input_port (codes "out$" ++ y.0 ++ codes "$ready") 1 in
    let rest = host_output_ports ys in
    one word (valid ∷ ready ∷ rest) refl
    (one valid (ready ∷ rest) refl (one ready rest refl (outs_named ys)))

-- those of the top module
ports_named : (s : Shape) → ArePortsNamed (shape_ports s)
ports_named s =
    let ks = kernel_ports s.kernels in
    let ss = scalar_ports s.scalars in
    let xs = host_input_ports s.inputs in
    let ys = host_output_ports s.outputs in
    let clock = input_port (codes "clk") 1 in
    let reset = input_port (codes "reset") 1 in
    let last = output_port (codes "done") 1 in
    let rest = ks ++ ss ++ xs ++ ys ++ last ∷ [] in
    one clock (reset ∷ rest) refl
    (one reset rest refl
    (both (ks ++ ss ++ xs ++ ys) (last ∷ [])
    (both (ks ++ ss ++ xs) ys
    (both (ks ++ ss) xs
    (both ks ss (kernels_named s.kernels) (scalars_named s.scalars)) (ins_named s.inputs)) (outs_named s.outputs))
    (one last [] refl none)))

-- ---- the top module

abbrev IsNetNamed : Net → Type 0
IsNetNamed n = is_text_name n.name ≡ true

abbrev IsPartNamed : Instance → Type 0
IsPartNamed i = is_text_name i.name ≡ true

module _ (project : Project) where
  ins_parts : (of port : ℕ) (hosts : List HostPort) → All IsPartNamed (input_instances project of port hosts)
  ins_parts of port [] = All-nil IsPartNamed
  ins_parts of port (x ∷ hosts) =
      All-cons IsPartNamed (instance of (codes "fifo$in$" ++ x.name) (fifo_nets port (stream_net project x.port)))
      (input_instances project (of + 1) (port + 3) hosts) refl (ins_parts (of + 1) (port + 3) hosts)

  outs_parts : (of port : ℕ) (hosts : List HostPort) → All IsPartNamed (output_instances project of port hosts)
  outs_parts of port [] = All-nil IsPartNamed
  outs_parts of port (x ∷ hosts) =
      All-cons IsPartNamed (instance of (codes "fifo$out$" ++ x.name) (fifo_nets (stream_net project x.port) port))
      (output_instances project (of + 1) (port + 3) hosts) refl (outs_parts (of + 1) (port + 3) hosts)

  links_parts : (of number : ℕ) (links : List LinkEnds) → All IsPartNamed (link_instances project of number links)
  links_parts of number [] = All-nil IsPartNamed
  links_parts of number (x ∷ links) =
      All-cons IsPartNamed (instance of (codes "fifo$link$" ++ decimal number) (fifo_nets (stream_net project x.from) (stream_net project x.to)))
      (link_instances project (of + 1) (number + 1) links) refl (links_parts (of + 1) (number + 1) links)

  kernels_parts : (of k : ℕ) (kernels : List Kernel) → All IsPartNamed (kernel_instances project of k kernels)
  kernels_parts of k [] = All-nil IsPartNamed
  kernels_parts of k (x ∷ kernels) =
      All-cons IsPartNamed (instance of (codes "kernel$" ++ x.name) (kernel_nets project k x))
      (kernel_instances project (of + 1) (k + 1) kernels) refl (kernels_parts (of + 1) (k + 1) kernels)

  parts_named : All IsPartNamed (instances_of project)
  parts_named =
      let ins = input_instances project 0 (first_input (shape_of project)) project.joints.inputs in
      let outs = output_instances project (length project.joints.inputs) (first_output (shape_of project)) project.joints.outputs in
      let links = link_instances project (host_count project) 0 project.joints.links in
      let kernels = kernel_instances project (fifo_count project) 0 project.kernels in
      All-append IsPartNamed ins (outs ++ (links ++ kernels)) (ins_parts 0 (first_input (shape_of project)) project.joints.inputs)
      (All-append IsPartNamed outs (links ++ kernels) (outs_parts (length project.joints.inputs) (first_output (shape_of project)) project.joints.outputs)
      (All-append IsPartNamed links kernels (links_parts (host_count project) 0 project.joints.links) (kernels_parts (fifo_count project) 0 project.kernels)))

  top_named : HasTextNames (top_module project)
  top_named = record {
    own = refl;
    nets =
        All-append IsNetNamed (map port_net (shape_ports (shape_of project))) (wires_from (port_count project) (wire_widths project))
        (All-map IsNetNamed port_net (shape_ports (shape_of project)) (ports_named (shape_of project)))
        (wires_text (port_count project) (wire_widths project) (let few = few_wires project in omega (arith, few)));
    mems = All-nil (λ (k : Mem). is_text_name k.name ≡ true);
    instances = parts_named;
  }

-- ---- FIFOs

fifo_named : (number width depth : ℕ) (f : Module) → IsFifoModule (fifo_name number) width depth f → HasTextNames f
fifo_named number width depth f is = record {
  own = subst (λ (n : List ℕ). is_text_name n ≡ true) (sym is.named) refl;
  nets = is.text_nets;
  mems = is.text_mems;
  instances = subst (All IsPartNamed) (sym is.no_instances) (All-nil IsPartNamed);
}

-- ---- the design

pub text_names : (project : Project) (made : Links) (inners : List Module) (d : Design) → IsProjectOf project made inners d
    → All HasTextNames inners → All HasTextNames d.modules
text_names project made inners d is own = all_modules project made inners d is HasTextNames fifo_named own (top_named project)
