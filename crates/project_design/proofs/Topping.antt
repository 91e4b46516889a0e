-- The top module that is made.
use Rattle.std.proofs.Common.{◌≡◌, ℕ, zero, suc, ◌+◌, ◌-◌, ◌*◌, ◌<◌, ◌≤◌, List, [], ◌∷◌, ◌++◌, map, length, refl, sym, ap, ◌∙◌, arith}
use Rattle.std.specs.Prelude.{codes}
use Rattle.std.proofs.lemmas.List.{length-map}
use Rattle.rtl_ir.specs.declared.design.Net.{Net}
use Rattle.rtl_ir.specs.declared.design.Assign.{Assign}
use Rattle.rtl_ir.specs.declared.design.Instance.{Instance}
use Rattle.rtl_ir.specs.declared.design.Module.{Module}
use Rattle.rtl_ir.specs.Ports.{shape_ports, first_output, done_port}
use Rattle.rtl_build.specs.Wires.{empty}
use Rattle.link_fifo.specs.Netlist.{wires_from}
use Rattle.manager_links.specs.declared.hosts.HostPort.{HostPort}
use Rattle.manager_links.specs.declared.project.Project.{Project}
use Rattle.project_rtl.specs.Shapes.{shape_of, port_count}
use Rattle.project_rtl.specs.Blocks.{first_net, ended_net}
use Rattle.project_rtl.specs.Tops.{range, port_net, ports_from, wire_widths, ended_assigns, ended_nets, valid_nets, done_assigns, instances_of, top_module}
use Rattle.project_design.specs.Building.{with_ports}
use Rattle.project_design.proofs.Placing.{length_ports}
use Rattle.project_design.proofs.Porting.{parts_of}

-- ---- the value of `done`

pub done_made : (project : Project) (done next first : ℕ) (ended valids : List ℕ) → done ≡ done_port (shape_of project)
    → next ≡ first_net project (length project.kernels) → first ≡ ended_net project 0 → ended ≡ ended_nets project
    → valids ≡ valid_nets (first_output (shape_of project)) project.joints.outputs
    → ended_assigns done next first ended valids ≡ done_assigns project
done_made project done next first ended valids d n f e v =
    ap (λ k. ended_assigns k next first ended valids) d
    ∙ ap (λ k. ended_assigns (done_port (shape_of project)) k first ended valids) n
    ∙ ap (λ k. ended_assigns (done_port (shape_of project)) (first_net project (length project.kernels)) k ended valids) f
    ∙ ap (λ l. ended_assigns (done_port (shape_of project)) (first_net project (length project.kernels)) (ended_net project 0) l valids) e
    ∙ ap (λ l. ended_assigns (done_port (shape_of project)) (first_net project (length project.kernels)) (ended_net project 0) (ended_nets project) l) v

length_range : (from count : ℕ) → length (range from count) ≡ count
length_range from zero = refl
length_range from (suc count) = ap suc (length_range (from + 1) count)

pub ended_count : (project : Project) → length (ended_nets project) ≡ length project.kernels - 1
ended_count project = length-map (range 1 (length project.kernels - 1)) (ended_net project) ∙ length_range 1 (length project.kernels - 1)

pub valid_count : (port : ℕ) (hosts : List HostPort) → length (valid_nets port hosts) ≡ length hosts
valid_count port [] = refl
valid_count port (host ∷ hosts) = ap suc (valid_count (port + 3) hosts)

-- ---- the module

abbrev base : Project → Module
base project = record {
  name = codes "top$project";
  ports = ports_from 0 (shape_ports (shape_of project));
  nets = map port_net (shape_ports (shape_of project));
  mems = [];
  assigns = [];
  updates = [];
  instances = [];
}

ports_alone_are : (project : Project) (start : Module) → start ≡ with_ports (empty (codes "top$project")) (shape_ports (shape_of project)) → start ≡ base project
ports_alone_are project start s = s ∙ parts_of (empty (codes "top$project")) (shape_ports (shape_of project))

count_nets : (project : Project) → length (map port_net (shape_ports (shape_of project))) ≡ port_count project
count_nets project = length-map (shape_ports (shape_of project)) port_net ∙ length_ports project

pub nets_are : (project : Project) (start : Module) → start ≡ with_ports (empty (codes "top$project")) (shape_ports (shape_of project)) → length start.nets ≡ port_count project
nets_are project start s = ap (λ (m : Module). length m.nets) (ports_alone_are project start s) ∙ count_nets project

abbrev with_all : Module → List Net → List Assign → List Instance → Module
with_all m nets assigns instances = record { name = m.name; ports = m.ports; nets = nets; mems = m.mems; assigns = assigns; updates = m.updates; instances = instances }

pub made_top : (project : Project) (start : Module) (nets : List Net) (assigns : List Assign) (instances : List Instance)
    → start ≡ with_ports (empty (codes "top$project")) (shape_ports (shape_of project))
    → nets ≡ start.nets ++ wires_from (length start.nets) (wire_widths project)
    → assigns ≡ done_assigns project
    → instances ≡ instances_of project
    → with_all start nets assigns instances ≡ top_module project
made_top project start nets assigns instances s n a i =
    let ps = shape_ports (shape_of project) in
    let ws = wire_widths project in
    let is = ports_alone_are project start s in
    let all : nets ≡ map port_net ps ++ wires_from (port_count project) ws =
    n ∙ ap (λ (m : Module). m.nets ++ wires_from (length m.nets) ws) is ∙ ap (λ k. map port_net ps ++ wires_from k ws) (count_nets project) in
    ap (λ (m : Module). with_all m nets assigns instances) is
    ∙ ap (λ l. with_all (base project) l assigns instances) all
    ∙ ap (λ l. with_all (base project) (map port_net ps ++ wires_from (port_count project) ws) l instances) a
    ∙ ap (λ l. with_all (base project) (map port_net ps ++ wires_from (port_count project) ws) (done_assigns project) l) i
