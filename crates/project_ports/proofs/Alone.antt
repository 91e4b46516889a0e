-- The module that has the ports of a project's design and nothing else.
use Rattle.std.proofs.Common.{◌≡◌, ◌∙◌, ◌+◌, true, List, [], map, sym, ap, subst, arith}
use Rattle.std.specs.Prelude.{All, codes, slice_get}
use Rattle.std.specs.Option.{option_map}
use Rattle.std.proofs.lemmas.Option.{slice_get-map}
use Rattle.kernel_calls.specs.Laws.{is_port_name}
use Rattle.manager_links.specs.declared.project.Project.{Project}
use Rattle.project_design.specs.Building.{with_ports}
use Rattle.project_design.proofs.Porting.{parts_of}
use Rattle.project_rtl.specs.Shapes.{shape_of}
use Rattle.project_rtl.specs.Tops.{port_net, ports_from}
use Rattle.project_sizes.proofs.Facts.{views}
use Rattle.rtl_build.specs.Wires.{empty}
use Rattle.rtl_ir.specs.Ports.{PortView, HasShape, ports_of, shape_ports}
use Rattle.rtl_ir.specs.declared.design.Module.{Module}
use Rattle.stream_graph.specs.declared.kernel.Kernel.{Kernel}
use Rattle.top_ports.specs.Shapes.{IsTop}
use Rattle.project_ports.proofs.Shapes.{project_top}

-- the module with these ports and nothing else
abbrev alone : List PortView → Module
alone ps = record {
  name = codes "top$project";
  ports = ports_from 0 ps;
  nets = map port_net ps;
  mems = [];
  assigns = [];
  updates = [];
  instances = [];
}

seen : (ps : List PortView) → ports_of (alone ps) ≡ ps
seen ps =
    views (alone ps) 0 ps (λ k p at.
    let e : 0 + k ≡ k = omega arith in
    ap (λ j. slice_get (map port_net ps) j) e ∙ slice_get-map port_net ps k
    ∙ ap (option_map port_net) at)

has-ports : (project : Project) (m : Module)
    → m ≡ with_ports (empty (codes "top$project")) (shape_ports (shape_of project))
    → HasShape m (shape_of project)
has-ports project m is =
    let ps = shape_ports (shape_of project) in
    let made : m ≡ alone ps = is ∙ parts_of (empty (codes "top$project")) ps in
    subst (λ (x : Module). ports_of x ≡ ps) (sym made) (seen ps)

-- it is a top module that can be run
pub alone-top : (project : Project) (m : Module)
    → All (λ (kernel : Kernel). is_port_name kernel.name ≡ true) project.kernels
    → m ≡ with_ports (empty (codes "top$project")) (shape_ports (shape_of project))
    → IsTop m (shape_of project)
alone-top project m plain is =
    record { is = project_top project plain; has = has-ports project m is }
