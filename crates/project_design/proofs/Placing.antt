-- The places of ports are small, and come from how many ports there are.
use Rattle.std.proofs.Common.{◌≡◌, ℕ, ◌+◌, ◌-◌, ◌*◌, ◌<◌, ◌≤◌, ◌^◌, List, [], ◌∷◌, ◌++◌, map, length, refl, sym, ap, ◌∙◌, arith, length-append}
use Rattle.std.specs.Prelude.{codes}
use Rattle.std.specs.List.{flat_map}
use Rattle.std.proofs.lemmas.List.{length-map}
use Rattle.rtl_ir.specs.Ports.{kernel_ports, scalar_ports, host_input_ports, host_output_ports, output_port, PortView, shape_ports, first_scalar, first_input, first_output, done_port}
use Rattle.stream_graph.specs.declared.kernel.Kernel.{Kernel}
use Rattle.manager_links.specs.declared.hosts.HostPort.{HostPort}
use Rattle.manager_links.specs.declared.project.Project.{Project}
use Rattle.manager_links.specs.Rules.{kernel_names}
use Rattle.project_rtl.specs.Shapes.{scalar_shapes, host_shape, shape_of, port_count}
use Rattle.project_rtl.specs.Blocks.{first_net, first_scalar_port}
use Rattle.project_design.specs.declared.places.Places.{Places}
use Rattle.project_design.specs.Building.{ArePlaces}
use Rattle.project_design.proofs.Few.{is_few, small_places}

length_kernels : (ks : List (List ℕ)) → length (kernel_ports ks) ≡ 2 * length ks
length_kernels [] = refl
length_kernels (k ∷ ks) = let e = length_kernels ks in omega arith

length_scalars : (ss : List (List ℕ × List ℕ × ℕ)) → length (scalar_ports ss) ≡ length ss
length_scalars [] = refl
length_scalars (s ∷ ss) = let e = length_scalars ss in omega arith

length_ins : (xs : List (List ℕ × ℕ)) → length (host_input_ports xs) ≡ 3 * length xs
length_ins [] = refl
length_ins (x ∷ xs) = let e = length_ins xs in omega arith

length_outs : (ys : List (List ℕ × ℕ)) → length (host_output_ports ys) ≡ 3 * length ys
length_outs [] = refl
length_outs (y ∷ ys) = let e = length_outs ys in omega arith

-- how many ports there are
pub length_ports : (project : Project) → length (shape_ports (shape_of project)) ≡ port_count project
length_ports project =
    let s = shape_of project in
    let last : List PortView = output_port (codes "done") 1 ∷ [] in
    let k = length_kernels s.kernels in
    let a = length_scalars s.scalars in
    let i = length_ins s.inputs in
    let o = length_outs s.outputs in
    let one = length-append (kernel_ports s.kernels) (scalar_ports s.scalars) in
    let two = length-append (kernel_ports s.kernels ++ scalar_ports s.scalars) (host_input_ports s.inputs) in
    let three = length-append (kernel_ports s.kernels ++ scalar_ports s.scalars ++ host_input_ports s.inputs) (host_output_ports s.outputs) in
    let four = length-append (kernel_ports s.kernels ++ scalar_ports s.scalars ++ host_input_ports s.inputs ++ host_output_ports s.outputs) last in
    omega arith

-- the numbers of the first ports, from how many there are
pub record AreCounted (project : Project) : Type 0 where
  pub kernels : first_scalar (shape_of project) ≡ 2 + 2 * length project.kernels
  pub inputs : first_output (shape_of project) ≡ first_input (shape_of project) + 3 * length project.joints.inputs
  pub outputs : done_port (shape_of project) ≡ first_output (shape_of project) + 3 * length project.joints.outputs
  pub done : port_count project ≡ done_port (shape_of project) + 1
  pub small : done_port (shape_of project) ≤ 2 ^ 22
  pub few : length project.kernels ≤ 64
  pub few_inputs : length project.joints.links + length project.joints.inputs ≤ 262144
  pub few_outputs : length project.joints.links + length project.joints.outputs ≤ 262144
  pub scalar : first_scalar_port project 0 ≡ first_scalar (shape_of project)
  pub net : first_net project 0 ≡ port_count project

pub counted : (project : Project) → AreCounted project
counted project =
    let f = is_few project in
    let k = length-map project.kernels (λ (kernel : Kernel). kernel.name) in
    let i = length-map project.joints.inputs host_shape in
    let o = length-map project.joints.outputs host_shape in
    record {
      kernels = omega arith;
      inputs = omega arith;
      outputs = omega arith;
      done = refl;
      small = (small_places project).done;
      few = f.kernels;
      few_inputs = f.inputs;
      few_outputs = f.outputs;
      scalar = omega arith;
      net = omega arith;
    }
