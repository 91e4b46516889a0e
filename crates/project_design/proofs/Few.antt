-- A project has few kernels, streams of the host and links, and the nets of its design are few.
use Rattle.std.proofs.Common.{◌≡◌, ◌≢◌, ℕ, zero, suc, ◌+◌, ◌*◌, ◌<◌, ◌≤◌, ◌^◌, Bool, true, false, ◌||◌, List, [], ◌∷◌, ◌++◌, map, length, get_or, refl, sym, ap, ◌∙◌, subst, arith, length-append, eqb}
use Rattle.std.specs.Prelude.{Option, Some, None, slice_get, All, IsSome, IsSomeAnd, sum_by, take}
use Rattle.std.specs.Option.{option_and_then}
use Rattle.std.specs.List.{list_any, flat_map, IsDistinct}
use Rattle.std.proofs.lemmas.Bool.{eqb-true, false≢true}
use Rattle.std.proofs.lemmas.Bool.Decides.{nat_tests}
use Rattle.std.proofs.lemmas.List.{length-map, get_or-map}
use Rattle.std.proofs.lemmas.List.Concat.{length-flat_map}
use Rattle.std.proofs.lemmas.List.Sums.{sum_by-le, sum_by-take-le}
use Rattle.std.proofs.lemmas.Map.Keys.{IsDistinct-from_apart}
use Rattle.std.proofs.lemmas.Map.Steps.{length-le_from_distinct_below}
use Rattle.std.proofs.lemmas.Option.{slice_get_within}
use Rattle.rtl_ir.specs.Ports.{first_scalar, first_input, first_output, done_port}
use Rattle.stream_graph.specs.declared.kernel.Kernel.{Kernel}
use Rattle.stream_graph.specs.declared.node.Kind.{Kind}
use Rattle.stream_graph.specs.declared.node.Node.{Node}
use Rattle.stream_graph.specs.Kinds.{is_input, is_output, is_scalar}
use Rattle.kernel_control.specs.Ports.{inputs_of, outputs_of, scalars_of}
use Rattle.manager_links.specs.declared.hosts.HostPort.{HostPort}
use Rattle.manager_links.specs.declared.links.LinkEnds.{LinkEnds}
use Rattle.manager_links.specs.declared.links.PortAt.{PortAt}
use Rattle.manager_links.specs.declared.project.Project.{Project}
use Rattle.manager_links.specs.Lists.{AllDiffer}
use Rattle.manager_links.specs.Ports.{IsPort, node_of}
use Rattle.manager_links.specs.Projects.{AreAll, fed, given}
use Rattle.manager_links.proofs.Started.{port_some}
use Rattle.project_rtl.specs.Shapes.{scalar_shape, scalar_shapes, host_shape, shape_of, port_count}
use Rattle.project_rtl.specs.Blocks.{streams_of, stream_count, scalar_count, block_size, first_net, first_scalar_port}
use Rattle.project_design.proofs.Porters.{few_numbers}

-- ---- ports of kernels

-- where the node of a port is
pub record IsPlaced (kernels : List Kernel) (port : PortAt) : Type 0 where
  pub kernel : Kernel
  pub node : Node
  pub of : slice_get kernels port.kernel ≡ Some kernel
  pub at : slice_get kernel.nodes port.node ≡ Some node

pub placed : (kernels : List Kernel) (port : PortAt) → IsSome (node_of kernels port) → IsPlaced kernels port
placed kernels port is = by_kernel (slice_get kernels port.kernel) refl is
  where
    by_node : (kernel : Kernel) → slice_get kernels port.kernel ≡ Some kernel → (o : Option Node)
        → slice_get kernel.nodes port.node ≡ o → IsSome o → IsPlaced kernels port
    by_node kernel of None at is = absurd (cc)
    by_node kernel of (Some node) at is = record { kernel = kernel; node = node; of = of; at = at }

    by_kernel : (o : Option Kernel) → slice_get kernels port.kernel ≡ o
        → IsSome (option_and_then (λ (k : Kernel). slice_get k.nodes port.node) o) → IsPlaced kernels port
    by_kernel None of is = absurd (cc)
    by_kernel (Some kernel) of is = by_node kernel of (slice_get kernel.nodes port.node) refl is

pub is_known : (kernels : List Kernel) (port : PortAt) → IsSome (node_of kernels port) → port.kernel < length kernels
is_known kernels port some = let at = placed kernels port some in slice_get_within kernels port.kernel at.kernel at.of

-- the number of a port among those of all kernels
abbrev number : PortAt → ℕ
number port = port.kernel * 4096 + port.node

abbrev most : ℕ
most = 262144

pub number_small : (kernels : List Kernel) (port : PortAt) → length kernels ≤ 64 → IsPlaced kernels port
    → (port.node < 4096) × (number port < most)
number_small kernels port few is =
    let k = slice_get_within kernels port.kernel is.kernel is.of in
    let n = slice_get_within is.kernel.nodes port.node is.node is.at in
    let s = is.kernel.few in
    (omega arith, omega arith)

same_port : (one other : PortAt) → one.node < 4096 → other.node < 4096 → number one ≡ number other → one ≡ other
same_port one other lt less same =
    let k : one.kernel ≡ other.kernel = omega arith in
    let n : one.node ≡ other.node = omega arith in
    λ i. record { kernel = k i; node = n i }

below_most : (ns : List ℕ) (q : ℕ) → ((i d : ℕ) → i < length ns → get_or ns i d < most) → list_any (eqb q) ns ≡ true → q < most
below_most [] q all e = absurd (false≢true e)
below_most (n ∷ ns) q all e = first (eqb q n) refl (λ later. below_most ns q (λ i d lt. all (suc i) d (omega arith)) later)
  where
    first : (b : Bool) → eqb q n ≡ b → (list_any (eqb q) ns ≡ true → q < most) → q < most
    first true same later = let z = eqb-true q n same in let h = all 0 0 (omega arith) in omega arith
    first false other later = later (sym (ap (λ b. b || list_any (eqb q) ns) other) ∙ e)

-- ports of a kind that differ are few
pub few_ports_of : (kernels : List Kernel) (is_kind : Kind → Bool) (ports : List PortAt) → length kernels ≤ 64
    → All (IsPort kernels is_kind) ports → AllDiffer ports → length ports ≤ most
few_ports_of kernels is_kind ports few all differ =
    let ns = map number ports in
    let size = length-map ports number in
    let small : (i : ℕ) (d : PortAt) → i < length ports → ((get_or ports i d).node < 4096) × (number (get_or ports i d) < most) =
    λ i d lt. number_small kernels (get_or ports i d) few (placed kernels (get_or ports i d) (port_some kernels is_kind (get_or ports i d) (all i d lt))) in
    let none : PortAt = record { kernel = 0; node = 0 } in
    let distinct : IsDistinct eqb ns = IsDistinct-from_apart eqb ns (λ i j d lt less. (
    let li : i < length ports = omega (arith, size) in
    let lj : j < length ports = omega (arith, size) in
    let ei = get_or-map number ports i none d li in
    let ej = get_or-map number ports j none d lj in
    let other : get_or ns i d ≢ get_or ns j d =
    λ same. differ i j none lt lj (same_port (get_or ports i none) (get_or ports j none) (small i none li).0 (small j none lj).0 (sym ei ∙ same ∙ ej)) in
    grind (arith, nat_tests, other))) in
    let below : (i d : ℕ) → i < length ns → get_or ns i d < most =
    λ i d lt. (let li : i < length ports = omega (arith, size) in subst (λ n. n < most) (sym (get_or-map number ports i none d li)) (small i none li).1) in
    let count = length-le_from_distinct_below ns most distinct (λ q e. below_most ns q below e) in
    omega (arith, size)

-- ---- a project

pub record IsFew (project : Project) : Type 0 where
  pub some : 1 ≤ length project.kernels
  pub kernels : length project.kernels ≤ 64
  pub inputs : length project.joints.links + length project.joints.inputs ≤ most
  pub outputs : length project.joints.links + length project.joints.outputs ≤ most

pub is_few : (project : Project) → IsFew project
is_few project =
    let whole = project.whole in
    let few = whole.few.most in
    let f = few_ports_of project.kernels is_input (fed project.joints) few whole.feeds.each whole.feeds.once in
    let g = few_ports_of project.kernels is_output (given project.joints) few whole.gives.each whole.gives.once in
    let a = length-append (map (λ (link : LinkEnds). link.to) project.joints.links) (map (λ (host : HostPort). host.port) project.joints.inputs) in
    let b = length-map project.joints.links (λ (link : LinkEnds). link.to) in
    let c = length-map project.joints.inputs (λ (host : HostPort). host.port) in
    let d = length-append (map (λ (link : LinkEnds). link.from) project.joints.links) (map (λ (host : HostPort). host.port) project.joints.outputs) in
    let e = length-map project.joints.links (λ (link : LinkEnds). link.from) in
    let h = length-map project.joints.outputs (λ (host : HostPort). host.port) in
    record { some = whole.few.some; kernels = few; inputs = omega arith; outputs = omega arith }

-- ---- nets

pub streams_few : (kernel : Kernel) → stream_count kernel ≤ 8192
streams_few kernel =
    let i = few_numbers is_input 0 kernel.nodes in
    let o = few_numbers is_output 0 kernel.nodes in
    let f = kernel.few in
    let both = length-append (inputs_of kernel.nodes) (outputs_of kernel.nodes) in
    omega arith

pub scalars_few : (kernel : Kernel) → scalar_count kernel ≤ 4096
scalars_few kernel = let s = few_numbers is_scalar 0 kernel.nodes in let f = kernel.few in omega arith

shapes_few : (kernel : Kernel) → length (scalar_shapes kernel) ≤ 4096
shapes_few kernel = let s = scalars_few kernel in let m = length-map (scalars_of kernel.nodes) (scalar_shape kernel) in omega arith

block_few : (kernel : Kernel) → block_size kernel ≤ 24577
block_few kernel = let s = streams_few kernel in omega arith

-- all places of ports and nets are small
pub record AreSmallPlaces (project : Project) : Type 0 where
  pub done : done_port (shape_of project) ≤ 2 ^ 22
  pub nets : (k : ℕ) → first_net project k + 2 ^ 15 ≤ 2 ^ 24
  pub scalars : (k : ℕ) → first_scalar_port project k + 2 ^ 12 ≤ 2 ^ 24

pub small_places : (project : Project) → AreSmallPlaces project
small_places project =
    let few = is_few project in
    let fk = few.kernels in
    let fi = few.inputs in
    let fo = few.outputs in
    let names = length-map project.kernels (λ (kernel : Kernel). kernel.name) in
    let ins = length-map project.joints.inputs host_shape in
    let outs = length-map project.joints.outputs host_shape in
    let scalars = length-flat_map scalar_shapes project.kernels in
    let all_scalars = sum_by-le (λ (kernel : Kernel). length (scalar_shapes kernel)) 4096 project.kernels (λ k kernel lt. shapes_few (get_or project.kernels k kernel)) in
    let blocks = sum_by-le block_size 24577 project.kernels (λ k kernel lt. block_few (get_or project.kernels k kernel)) in
    let own = sum_by-le scalar_count 4096 project.kernels (λ k kernel lt. scalars_few (get_or project.kernels k kernel)) in
    let done : done_port (shape_of project) ≤ 2 ^ 22 = omega arith in
    record {
      done = done;
      nets = λ k. (let t = sum_by-take-le block_size project.kernels k in omega arith);
      scalars = λ k. (let t = sum_by-take-le scalar_count project.kernels k in omega arith);
    }
