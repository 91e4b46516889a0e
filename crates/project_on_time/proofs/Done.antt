-- Kernels are held as the host says, and `done` is 1 where all of them have ended and no stream to the host is valid.
use Rattle.std.proofs.Common.{◌≡◌, ℕ, zero, suc, ◌+◌, ◌-◌, ◌*◌, ◌^◌, ◌<◌, List, [], ◌∷◌, map, replicate}
use Rattle.std.proofs.Common.{Some, length, refl, sym, ap, ◌∙◌, arith, length-append, take_all}
use Rattle.std.specs.Prelude.{slice_get, bit_and, sum_by}
use Rattle.std.specs.List.{flat_map}
use Rattle.std.proofs.lemmas.List.Sums.{sum_by-cons}
use Rattle.std.proofs.lemmas.Option.{same_Some}
use Rattle.rtl_ir.specs.declared.design.Module.{Module}
use Rattle.rtl_ir.specs.Value.{Family, Contents, width_of, net_width}
use Rattle.rtl_ir.specs.Edge.{Assigned, Edges, after_edge}
use Rattle.rtl_ir.specs.Flat.{Families}
use Rattle.rtl_ir.specs.Parts.{own_of}
use Rattle.rtl_ir.specs.Ports.{shape_ports, first_output, done_port}
use Rattle.stream_graph.specs.declared.kernel.Kernel.{Kernel}
use Rattle.stream_graph.specs.declared.node.Node.{Node}
use Rattle.kernel_control.specs.Ports.{inputs_of, outputs_of}
use Rattle.kernel_control.specs.Ports as kernel_ports
use Rattle.link_fifo.specs.Netlist.{wires_from}
use Rattle.manager_links.specs.declared.hosts.HostPort.{HostPort}
use Rattle.manager_links.specs.declared.links.Links.{Links}
use Rattle.manager_links.specs.declared.project.Project.{Project}
use Rattle.project_streams.specs.Streams.{GivenProject, ProjectValues, nodes_at}
use Rattle.project_rtl.specs.Shapes.{shape_of, host_shape, port_count}
use Rattle.project_rtl.specs.Blocks.{streams_of, block_size, first_net, ended_net}
use Rattle.project_rtl.specs.Tops.{range, port_net, stream_widths, block_widths, done_count, wire_widths, empty_assigns, ended_assigns, valid_nets, ended_nets, top_module}
use Rattle.project_rtl.specs.Words.{outer}
use Rattle.project_runs.proofs.Lists.{get_behind, within, length_map, from_map, length_range, range_at}
use Rattle.project_runs.proofs.Lookups.{length_ports, top_net, net_joined}
use Rattle.project_runs.proofs.Network.{Kernels, Fifo, family_in}
use Rattle.project_runs.proofs.Fifos.{body, kernels_of, Which, ToHost, fifo_of, output_number}
use Rattle.project_runs.proofs.Wiring.{nets_for, block_at, KernelsJoined, AllJoined}
use Rattle.project_runs.proofs.Steady.{first_net_is}
use Rattle.project_on_time.proofs.Schedule.{IsAround, AreAround}

-- ---- widths

wire_at : (n : ℕ) (ws : List ℕ) (i w : ℕ) → slice_get ws i ≡ Some w → net_width (slice_get (wires_from n ws) i) ≡ w
wire_at n [] i w e = absurd (cc)
wire_at n (x ∷ ws) zero w e = same_Some x w e
wire_at n (x ∷ ws) (suc i) w e = wire_at (n + 1) ws i w e

length_streams : (nodes : List Node) (ns : List ℕ) → length (stream_widths nodes ns) ≡ 3 * length ns
length_streams nodes [] = refl
length_streams nodes (n ∷ ns) = let e = length_streams nodes ns in omega arith

length_block : (kernel : Kernel) → length (block_widths kernel) ≡ block_size kernel
length_block kernel =
    let a = length_streams kernel.nodes (streams_of kernel.nodes) in
    let b = length-append (stream_widths kernel.nodes (streams_of kernel.nodes)) (1 ∷ []) in
    omega (arith, a, b)

length_blocks : (kernels : List Kernel) → length (flat_map block_widths kernels) ≡ sum_by block_size kernels
length_blocks [] = refl
length_blocks (x ∷ kernels) =
    let a = length_block x in
    let b = length-append (block_widths x) (flat_map block_widths kernels) in
    let c = sum_by-cons block_size x kernels in
    let d = length_blocks kernels in
    omega (arith, a, b, c, d)

replicate_at : (n x i : ℕ) → i < n → slice_get (replicate n x) i ≡ Some x
replicate_at zero x i h = absurd (omega arith)
replicate_at (suc n) x zero h = refl
replicate_at (suc n) x (suc i) h = replicate_at n x i (omega arith)

-- the wires of `done` have one bit
done_width : (project : Project) (t : ℕ) → t < done_count project → width_of (top_module project) (first_net project (length project.kernels) + t) ≡ 1
done_width project t lt =
    let blocks = flat_map block_widths project.kernels in
    let ports = map port_net (shape_ports (shape_of project)) in
    let sum = sum_by block_size project.kernels in
    let all = take_all (length project.kernels) project.kernels (omega arith) in
    let s = ap (λ (l : List Kernel). sum_by block_size l) all in
    let l = length_blocks project.kernels in
    let m = length_map port_net (shape_ports (shape_of project)) in
    let p = length_ports (shape_of project) in
    let e : first_net project (length project.kernels) + t ≡ port_count project + (sum + t) = omega (arith, s) in
    let f : port_count project ≡ length ports = omega (arith, m, p) in
    let at : slice_get (wire_widths project) (sum + t) ≡ Some 1 =
    get_behind blocks (replicate (done_count project) 1) sum t (sym l) ∙ replicate_at (done_count project) 1 t lt in
    ap (λ j. width_of (top_module project) j) e
    ∙ ap net_width (get_behind ports (wires_from (port_count project) (wire_widths project)) (port_count project) (sum + t) f)
    ∙ wire_at (port_count project) (wire_widths project) (sum + t) 1 at

-- ---- the assignments

module _ (m : Module) (c : Contents) (v : Family) where
  -- where no stream is valid, `done` is 1 where the net `last` is
  all_empty : (done next last : ℕ) (valids : List ℕ) → ((t : ℕ) → t < 2 * length valids → width_of m (next + t) ≡ 1)
      → ((i n : ℕ) → slice_get valids i ≡ Some n → v n ≡ 0) → v last ≡ 1
      → Assigned m c v (empty_assigns done next last valids) → v done ≡ 1
  all_empty done next last [] wide none ended a = a.0 ∙ ended
  all_empty done next last (n ∷ ns) wide none ended a =
      let z : next ≡ next + 0 = omega arith in
      let w : width_of m next ≡ 1 = ap (λ j. width_of m j) z ∙ wide 0 (omega arith) in
      let empty : v next ≡ 1 = a.0 ∙ ap (λ k. 2 ^ k - 1 - v n) w ∙ ap (λ x. 2 ^ 1 - 1 - x) (none 0 n refl) in
      let both : v (next + 1) ≡ 1 = a.1.0 ∙ ap (λ x. bit_and x (v next)) ended ∙ ap (λ x. bit_and 1 x) empty in
      all_empty done (next + 2) (next + 1) ns
      (λ t lt. let e : next + 2 + t ≡ next + (t + 2) = omega arith in ap (λ j. width_of m j) e ∙ wide (t + 2) (omega arith))
      (λ i k e. none (suc i) k e) both a.1.1

  -- and where all kernels have ended
  all_ended : (done next last : ℕ) (ends valids : List ℕ) → ((t : ℕ) → t < length ends + 2 * length valids → width_of m (next + t) ≡ 1)
      → ((i n : ℕ) → slice_get ends i ≡ Some n → v n ≡ 1) → ((i n : ℕ) → slice_get valids i ≡ Some n → v n ≡ 0) → v last ≡ 1
      → Assigned m c v (ended_assigns done next last ends valids) → v done ≡ 1
  all_ended done next last [] valids wide ends none ended a = all_empty done next last valids (λ t lt. wide t (omega arith)) none ended a
  all_ended done next last (n ∷ ns) valids wide ends none ended a =
      let both : v next ≡ 1 = a.0 ∙ ap (λ x. bit_and x (v n)) ended ∙ ap (λ x. bit_and 1 x) (ends 0 n refl) in
      all_ended done (next + 1) next ns valids
      (λ t lt. let e : next + 1 + t ≡ next + (t + 1) = omega arith in ap (λ j. width_of m j) e ∙ wide (t + 1) (omega arith))
      (λ i k e. ends (suc i) k e) none both a.1

-- a net that says whether a stream to the host is valid
record IsValidNet (port : ℕ) (hosts : List HostPort) (i n : ℕ) : Type 0 where
  host : HostPort
  at : slice_get hosts i ≡ Some host
  is : n ≡ port + 3 * i + 1

valid_net : (port : ℕ) (hosts : List HostPort) (i n : ℕ) → slice_get (valid_nets port hosts) i ≡ Some n → IsValidNet port hosts i n
valid_net port [] i n e = absurd (cc)
valid_net port (x ∷ hosts) zero n e = let same : port + 1 ≡ n = same_Some (port + 1) n e in record { host = x; at = refl; is = omega arith }
valid_net port (x ∷ hosts) (suc i) n e = let r = valid_net (port + 3) hosts i n e in let is = r.is in record { host = r.host; at = r.at; is = omega arith }

length_valids : (port : ℕ) (hosts : List HostPort) → length (valid_nets port hosts) ≡ length hosts
length_valids port [] = refl
length_valids port (x ∷ hosts) = ap suc (length_valids (port + 3) hosts)

-- ---- an edge

module _ (project : Project) (made : Links) (inners : List Module) (times : ℕ → ℕ → ℕ) (positions : ℕ → ℕ) (given : GivenProject) (values : ProjectValues) where
  abbrev ks : Kernels
  ks = kernels_of project inners times positions given values

  abbrev fifo : Which project → Fifo
  fifo = fifo_of project made inners given values

  abbrev top : Module
  top = top_module project

  abbrev pub hold_net : ℕ → ℕ
  hold_net k = 2 + 2 * k

  ended_is : (k : ℕ) (V : Families) → k < length project.kernels → KernelsJoined project made inners times positions given values V
      → family_in ks k V (ks.nets k).ended ≡ V [] (ended_net project k)
  ended_is k V lt j =
      let nodes = nodes_at project.kernels k in
      let n = length-append (inputs_of nodes) (outputs_of nodes) in
      let e : kernel_ports.first_input nodes + 3 * length (streams_of nodes) ≡ kernel_ports.ended_port nodes = omega arith in
      let at : slice_get (nets_for project k nodes) (kernel_ports.ended_port nodes) ≡ Some (ended_net project k) =
      ap (λ i. slice_get (nets_for project k nodes) i) (sym e) ∙ block_at project k nodes (3 * length (streams_of nodes)) (omega arith) in
      net_joined (V []) (family_in ks k V) (body project inners k) (nets_for project k nodes) (kernel_ports.ended_port nodes) (ended_net project k) (j k lt) at

  around : (c : Contents) (V : Families) → KernelsJoined project made inners times positions given values V → Assigned top c (V []) top.assigns
      → IsAround ks (outer project top) fifo hold_net V
  around c V j a = record {
    held = λ k lt. first_net_is project inners given k 2 (2 + 2 * k) (V []) (family_in ks k V) (omega arith) refl (j k lt);
    done = λ ended none.
        let v : Family = V [] in
        let count = length project.kernels in
        let some = project.whole.few.some in
        let one : (k : ℕ) → k < count → v (ended_net project k) ≡ 1 = λ k lt. sym (ended_is k V lt j) ∙ ended k lt in
        let l = length_map (λ k. ended_net project k) (range 1 (count - 1)) in
        let r = length_range 1 (count - 1) in
        let vs = length_valids (first_output (shape_of project)) project.joints.outputs in
        let hosts = length_map host_shape project.joints.outputs in
        let ends : (i n : ℕ) → slice_get (ended_nets project) i ≡ Some n → v n ≡ 1 = λ i n e.
        let f = from_map (λ k. ended_net project k) (range 1 (count - 1)) i n e in
        let w = within (range 1 (count - 1)) i f.one f.at in
        let k : f.one ≡ 1 + i = same_Some f.one (1 + i) (sym f.at ∙ range_at 1 (count - 1) i (omega arith)) in
        ap v (sym f.is) ∙ one f.one (omega (arith, k, w, r)) in
        let empty : (i n : ℕ) → slice_get (valid_nets (first_output (shape_of project)) project.joints.outputs) i ≡ Some n → v n ≡ 0 = λ i n e.
        let f = valid_net (first_output (shape_of project)) project.joints.outputs i n e in
        let w = within project.joints.outputs i f.host f.at in
        ap v f.is ∙ ap v (sym (top_net project (output_number project i + 1) (omega (arith, w, hosts)))) ∙ none (ToHost (record { number = i; host = f.host; at = f.at })) in
        ap v (top_net project (done_port (shape_of project)) (omega arith))
        ∙ all_ended top c v (done_port (shape_of project)) (first_net project count) (ended_net project 0) (ended_nets project)
        (valid_nets (first_output (shape_of project)) project.joints.outputs)
        (λ t lt. done_width project t (omega (arith, lt, l, r, vs))) ends empty (one 0 (omega (arith, some))) a;
  }

  pub all_around : (c : Contents) (Vs : List Families) → AllJoined project made inners times positions given values Vs → Edges top c (own_of Vs)
      → AreAround ks (outer project top) fifo hold_net Vs
  all_around c [] j e = tt
  all_around c (V ∷ Vs) j e = (around c V j.0 e.0.assigned, all_around (after_edge top c (V [])) Vs j.1 e.1)
