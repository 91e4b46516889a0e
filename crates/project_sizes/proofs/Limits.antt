-- A project has few kernels, ports of kernels and streams of the host, so the nets of its design have
-- short numbers.
use Rattle.std.proofs.Common.{◌≡◌, ◌∙◌, ℕ, suc, ◌+◌, ◌*◌, ◌<◌, ◌≤◌, ◌^◌, ◌||◌, Bool, true, false, cond}
use Rattle.std.proofs.Common.{List, [], ◌∷◌, map, Option, Some, None, length, get_or, refl, sym, ap, subst, arith, length-append}
use Rattle.std.proofs.lemmas.List.{length-map}
use Rattle.std.specs.Prelude.{slice_get, IsSomeAnd}
use Rattle.std.specs.List.{All, AllByRecursion, IsDistinct, Contains, list_any}
use Rattle.std.specs.Option.{option_and_then}
use Rattle.std.proofs.Math.Dec.{eqb}
use Rattle.std.proofs.lemmas.Bool.{ne_eqb, eqb-true}
use Rattle.std.proofs.lemmas.List.Elements.{All-head, All-tail, All-weaker}
use Rattle.std.proofs.lemmas.List.Sums.{sum_by-le}
use Rattle.std.proofs.lemmas.Option.{slice_get_within}
use Rattle.std.proofs.lemmas.Map.Steps.{length-le_from_distinct_below}
use Rattle.stream_graph.specs.declared.kernel.Kernel.{Kernel}
use Rattle.stream_graph.specs.declared.node.Kind.{Kind}
use Rattle.stream_graph.specs.declared.node.Node.{Node}
use Rattle.stream_graph.specs.Kinds.{is_input, is_output, is_scalar}
use Rattle.kernel_control.specs.Ports.{numbers_from, inputs_of, outputs_of}
use Rattle.manager_links.specs.declared.hosts.HostPort.{HostPort}
use Rattle.manager_links.specs.declared.links.LinkEnds.{LinkEnds}
use Rattle.manager_links.specs.declared.links.PortAt.{PortAt}
use Rattle.manager_links.specs.declared.project.Project.{Project}
use Rattle.manager_links.specs.Lists.{AllDiffer}
use Rattle.manager_links.specs.Ports.{IsPort}
use Rattle.manager_links.specs.Projects.{fed, given}
use Rattle.manager_links.proofs.Pieces.{in_more, differ_head, differ_tail}
use Rattle.project_rtl.specs.Shapes.{port_count}
use Rattle.project_rtl.specs.Blocks.{scalar_count, stream_count}
use Rattle.project_rtl.specs.Tops.{fifo_count, wire_widths}
use Rattle.project_sizes.proofs.Counts.{block_sizes, count_ports, count_wires}

-- ---- a port as one number

abbrev number_of : PortAt → ℕ
number_of port = 4096 * port.kernel + port.node

-- both numbers of a port are small
record IsSmall (port : PortAt) : Type 0 where
  kernel : port.kernel < 64
  node : port.node < 4096

small : (kernels : List Kernel) (is_kind : Kind → Bool) (port : PortAt) → length kernels ≤ 64 → IsPort kernels is_kind port → IsSmall port
small kernels is_kind port few is = by_kernel (slice_get kernels port.kernel) refl is
  where
    by_node : (kernel : Kernel) → port.kernel < 64 → (o : Option Node) → slice_get kernel.nodes port.node ≡ o
        → IsSomeAnd o (λ (node : Node). is_kind node.view.kind ≡ true) → IsSmall port
    by_node kernel low None e h = absurd h
    by_node kernel low (Some node) e h =
        let count = kernel.few in
        let lt = slice_get_within kernel.nodes port.node node e in
        record { kernel = low; node = omega (arith, count, lt) }

    by_kernel : (o : Option Kernel) → slice_get kernels port.kernel ≡ o
        → IsSomeAnd (option_and_then (λ (k : Kernel). slice_get k.nodes port.node) o) (λ (node : Node). is_kind node.view.kind ≡ true) → IsSmall port
    by_kernel None e h = absurd h
    by_kernel (Some kernel) e h =
        let lt = slice_get_within kernels port.kernel kernel e in
        by_node kernel (omega (arith, few, lt)) (slice_get kernel.nodes port.node) refl h

-- ports of one number are one port
same_port : (one other : PortAt) → IsSmall one → IsSmall other → number_of one ≡ number_of other → one ≡ other
same_port one other a b e =
    let i = a.node in
    let j = b.node in
    let k : one.kernel ≡ other.kernel = omega (arith, i, j, e) in
    let n : one.node ≡ other.node = omega (arith, e, k) in
    let kernels : one ≡ record { kernel = other.kernel; node = one.node } = ap (λ (x : ℕ). record { kernel = x; node = one.node }) k in
    kernels ∙ ap (λ (x : ℕ). record { kernel = other.kernel; node = x }) n

-- a number that is none of the ports' others
apart : (port : PortAt) (ports : List PortAt) → IsSmall port → ((other : PortAt) → number_of port ≡ number_of other → IsSmall other → Contains ports other → ⊥)
    → All IsSmall ports → AllByRecursion (λ y. eqb (number_of port) y ≡ false) (map number_of ports)
apart port [] here new all = tt
apart port (other ∷ ports) here new all = (
  ne_eqb (number_of port) (number_of other) (λ e. new other e (All-head IsSmall other ports all) (0, omega arith, refl)),
  apart port ports here (λ x e s at. new x e s (in_more x other ports at)) (All-tail IsSmall other ports all),
)

distinct : (ports : List PortAt) → AllDiffer ports → All IsSmall ports → IsDistinct eqb (map number_of ports)
unfolding IsDistinct
distinct [] differ all = tt
distinct (port ∷ ports) differ all =
    let own = All-head IsSmall port ports all in
    let rest = All-tail IsSmall port ports all in (
      apart port ports own
          (λ other e s at. differ_head port ports differ (subst (Contains ports) (sym (same_port port other own s e)) at))
          rest,
      distinct ports (differ_tail port ports differ) rest,
    )

below_head : (port : PortAt) (ports : List PortAt) (q : ℕ) → IsSmall port → (list_any (eqb q) (map number_of ports) ≡ true → q < 2 ^ 18)
    → (b : Bool) → eqb q (number_of port) ≡ b → (b || list_any (eqb q) (map number_of ports)) ≡ true → q < 2 ^ 18
below_head port ports q own rest true e t =
    let same = eqb-true q (number_of port) e in
    let k = own.kernel in
    let n = own.node in
    omega (arith, same, k, n)
below_head port ports q own rest false e t = rest t

below : (ports : List PortAt) (q : ℕ) → All IsSmall ports → list_any (eqb q) (map number_of ports) ≡ true → q < 2 ^ 18
below [] q all h = absurd (cc)
below (port ∷ ports) q all h =
    below_head port ports q (All-head IsSmall port ports all) (λ t. below ports q (All-tail IsSmall port ports all) t) (eqb q (number_of port)) refl h

-- kernels have so many ports of a kind
few_ports : (project : Project) (is_kind : Kind → Bool) (ports : List PortAt) → All (IsPort project.kernels is_kind) ports → AllDiffer ports
    → length ports ≤ 2 ^ 18
few_ports project is_kind ports each differ =
    let most = project.whole.few.most in
    let all = All-weaker (IsPort project.kernels is_kind) IsSmall (λ port is. small project.kernels is_kind port most is) ports each in
    let few = length-le_from_distinct_below (map number_of ports) (2 ^ 18) (distinct ports differ all) (λ q h. below ports q all h) in
    let long = length-map ports number_of in
    omega (arith, few, long)

-- ---- what a project has

few_numbers : (is_kind : Kind → Bool) (k : ℕ) (nodes : List Node) → length (numbers_from is_kind k nodes) ≤ length nodes
few_numbers is_kind k [] = omega arith
few_numbers is_kind k (n ∷ nodes) = by_test (is_kind n.view.kind) (few_numbers is_kind (k + 1) nodes)
  where
    by_test : (b : Bool) → length (numbers_from is_kind (k + 1) nodes) ≤ length nodes
        → length (cond b (k ∷ numbers_from is_kind (k + 1) nodes) (numbers_from is_kind (k + 1) nodes)) ≤ suc (length nodes)
    by_test true h = omega (arith, h)
    by_test false h = omega (arith, h)

few_scalars : (kernel : Kernel) → scalar_count kernel ≤ 4096
few_scalars kernel =
    let scalars = few_numbers is_scalar 0 kernel.nodes in
    let nodes = kernel.few in
    omega (arith, scalars, nodes)

few_streams : (kernel : Kernel) → stream_count kernel ≤ 8192
few_streams kernel =
    let ins = few_numbers is_input 0 kernel.nodes in
    let outs = few_numbers is_output 0 kernel.nodes in
    let both = length-append (inputs_of kernel.nodes) (outputs_of kernel.nodes) in
    let nodes = kernel.few in
    omega (arith, ins, outs, both, nodes)

module _ (project : Project) where
  all_fed : length project.joints.links + length project.joints.inputs ≤ 2 ^ 18
  all_fed =
      let joints = project.joints in
      let few = few_ports project is_input (fed joints) project.whole.feeds.each project.whole.feeds.once in
      let both = length-append (map (λ (link : LinkEnds). link.to) joints.links) (map (λ (host : HostPort). host.port) joints.inputs) in
      let a = length-map joints.links (λ (link : LinkEnds). link.to) in
      let b = length-map joints.inputs (λ (host : HostPort). host.port) in
      omega (arith, few, both, a, b)

  all_given : length project.joints.links + length project.joints.outputs ≤ 2 ^ 18
  all_given =
      let joints = project.joints in
      let few = few_ports project is_output (given joints) project.whole.gives.each project.whole.gives.once in
      let both = length-append (map (λ (link : LinkEnds). link.from) joints.links) (map (λ (host : HostPort). host.port) joints.outputs) in
      let a = length-map joints.links (λ (link : LinkEnds). link.from) in
      let b = length-map joints.outputs (λ (host : HostPort). host.port) in
      omega (arith, few, both, a, b)

  -- the FIFOs
  pub few_fifos : fifo_count project ≤ 2 ^ 20
  few_fifos = let a = all_fed in let b = all_given in omega (arith, a, b)

  -- the nets of the top module
  pub few_wires : port_count project + length (wire_widths project) ≤ 2 ^ 32
  few_wires =
      let kernels = project.whole.few.most in
      let fifos = few_fifos in
      let scalars = sum_by-le scalar_count 4096 project.kernels (λ k d within. few_scalars (get_or project.kernels k d)) in
      let streams = sum_by-le stream_count 8192 project.kernels (λ k d within. few_streams (get_or project.kernels k d)) in
      let ports = count_ports project in
      let wires = count_wires project in
      let blocks = block_sizes project.kernels in
      omega (arith, kernels, fifos, scalars, streams, ports, wires, blocks)
