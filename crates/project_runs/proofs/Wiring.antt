-- Each FIFO of a project is joined to its sides in every edge.
use Rattle.std.proofs.Common.{◌≡◌, ℕ, ◌+◌, ◌*◌, ◌<◌, List, [], ◌∷◌, ◌++◌, Some, length, refl, sym, ap, ◌∙◌, subst, arith, length-append}
use Rattle.std.specs.Prelude.{slice_get}
use Rattle.rtl_ir.specs.declared.design.Port.{Port}
use Rattle.rtl_ir.specs.declared.design.Instance.{Instance}
use Rattle.rtl_ir.specs.declared.design.Module.{Module}
use Rattle.rtl_ir.specs.Value.{Family}
use Rattle.rtl_ir.specs.Flat.{Families, Joined}
use Rattle.rtl_ir.specs.Parts.{JoinedAll}
use Rattle.rtl_ir.specs.Run.{Channel}
use Rattle.rtl_ir.specs.Ports.{net_at}
use Rattle.stream_graph.specs.declared.node.Node.{Node}
use Rattle.stream_graph.specs.Kinds.{is_input, is_output}
use Rattle.kernel_control.specs.Ports.{inputs_of, outputs_of, scalars_of}
use Rattle.kernel_control.specs.Ports as kernel_ports
use Rattle.link_fifo.specs.Netlist.{input, output}
use Rattle.manager_links.specs.declared.links.Links.{Links}
use Rattle.manager_links.specs.declared.links.PortAt.{PortAt}
use Rattle.manager_links.specs.declared.project.Project.{Project}
use Rattle.manager_links.specs.Ports.{IsPort}
use Rattle.project_streams.specs.Streams.{GivenProject, ProjectValues, nodes_at}
use Rattle.project_rtl.specs.Shapes.{port_count, host_shape}
use Rattle.project_rtl.specs.Blocks.{streams_of, place_of, first_net, stream_net, first_scalar_port}
use Rattle.project_rtl.specs.Tops.{range, fifo_nets, top_module}
use Rattle.project_runs.proofs.Lists.{get_left, within, length_map, length_range, range_behind}
use Rattle.project_runs.proofs.Lookups.{top_net, numbered_at, net_joined, channel}
use Rattle.project_runs.proofs.Places.{input_port, output_port, kernel_there}
use Rattle.project_runs.proofs.Network.{Kernels, Fifo, family_in, giver_channel, giver_family, taker_channel, taker_family, IsJoined, IsWired, AreWired}
use Rattle.project_runs.proofs.Fifos.{body, kernels_of, port_number, port_at, HostAt, Which, FromHost, ToHost, Between}
use Rattle.project_runs.proofs.Fifos.{input_number, output_number, fifo_of, host_fed, host_gives, link_fed, link_gives}

-- three nets of the top module from this one on
abbrev pub triple : ℕ → Channel
triple n = record { word = n; valid = n + 1; ready = n + 2 }

-- two channels that are joined to the same three nets are joined
both_joined : (x y z : Channel) (v w t : Family) → IsJoined x z v t → IsJoined y z w t → IsJoined x y v w
both_joined x y z v w t a b = record { word = a.word ∙ sym b.word; valid = a.valid ∙ sym b.valid; ready = a.ready ∙ sym b.ready }

-- ---- the nets of a kernel

-- those of a kernel with these nodes
abbrev pub nets_for : Project → ℕ → List Node → List ℕ
nets_for project k nodes =
    range 0 2 ++ range (2 + 2 * k) 2 ++ range (first_scalar_port project k) (length (scalars_of nodes))
    ++ range (first_net project k) (3 * length (streams_of nodes) + 1)

module _ (project : Project) (k : ℕ) (nodes : List Node) where
  abbrev scalars : List ℕ
  scalars = range (first_scalar_port project k) (length (scalars_of nodes))

  abbrev block : List ℕ
  block = range (first_net project k) (3 * length (streams_of nodes) + 1)

  front : length (range 0 2 ++ range (2 + 2 * k) 2) ≡ 4
  front = refl

  low : length (range 0 2 ++ range (2 + 2 * k) 2 ++ scalars) ≡ kernel_ports.first_input nodes
  low =
      let a = length_range (first_scalar_port project k) (length (scalars_of nodes)) in
      let b = length-append (range 0 2 ++ range (2 + 2 * k) 2) scalars in
      let c = front in
      omega arith

  -- clk and reset, whether it is held, and its ticks
  pub steady_at : (i n : ℕ) → i < 4 → slice_get (range 0 2 ++ range (2 + 2 * k) 2) i ≡ Some n → slice_get (nets_for project k nodes) i ≡ Some n
  steady_at i n lt e =
      let l = low in
      let f = front in
      get_left (range 0 2 ++ range (2 + 2 * k) 2 ++ scalars) block i (omega arith)
      ∙ get_left (range 0 2 ++ range (2 + 2 * k) 2) scalars i (omega arith)
      ∙ e

  -- its scalars
  pub scalar_at : (i : ℕ) → i < length (scalars_of nodes) → slice_get (nets_for project k nodes) (4 + i) ≡ Some (first_scalar_port project k + i)
  scalar_at i lt =
      let l = low in
      get_left (range 0 2 ++ range (2 + 2 * k) 2 ++ scalars) block (4 + i) (omega arith)
      ∙ range_behind (range 0 2 ++ range (2 + 2 * k) 2) 4 (first_scalar_port project k) (length (scalars_of nodes)) i front lt

  -- its own nets
  pub block_at : (i : ℕ) → i < 3 * length (streams_of nodes) + 1 → slice_get (nets_for project k nodes) (kernel_ports.first_input nodes + i) ≡ Some (first_net project k + i)
  block_at i lt =
      range_behind (range 0 2 ++ range (2 + 2 * k) 2 ++ scalars) (kernel_ports.first_input nodes) (first_net project k) (3 * length (streams_of nodes) + 1) i low lt

-- a port of a kernel is joined to the three nets of its stream
port_joined : (project : Project) (inners : List Module) (port : PortAt) (v kv : Family)
    → place_of port.node (streams_of (nodes_at project.kernels port.kernel)) < length (streams_of (nodes_at project.kernels port.kernel))
    → Joined v kv (body project inners port.kernel).ports (nets_for project port.kernel (nodes_at project.kernels port.kernel))
    → IsJoined (port_at project inners port).channel (triple (stream_net project port)) kv v
port_joined project inners port v kv lt j = record {
  word = at 0 (omega arith) (port_number project port) (stream_net project port) (omega arith) (omega arith);
  valid = at 1 (omega arith) (port_number project port + 1) (stream_net project port + 1) (omega arith) (omega arith);
  ready = at 2 (omega arith) (port_number project port + 2) (stream_net project port + 2) (omega arith) (omega arith);
}
  where
    at : (r : ℕ) → r < 3 → (i n : ℕ)
        → kernel_ports.first_input (nodes_at project.kernels port.kernel) + (3 * place_of port.node (streams_of (nodes_at project.kernels port.kernel)) + r) ≡ i
        → first_net project port.kernel + (3 * place_of port.node (streams_of (nodes_at project.kernels port.kernel)) + r) ≡ n
        → kv (net_at (body project inners port.kernel) i) ≡ v n
    at r small i n e f =
        let p = place_of port.node (streams_of (nodes_at project.kernels port.kernel)) in
        let there = block_at project port.kernel (nodes_at project.kernels port.kernel) (3 * p + r) (omega arith) in
        let here : slice_get (nets_for project port.kernel (nodes_at project.kernels port.kernel)) i ≡ Some n =
        ap (λ j. slice_get (nets_for project port.kernel (nodes_at project.kernels port.kernel)) j) (sym e) ∙ there ∙ ap (λ (j : ℕ). Some j) f in
        net_joined v kv (body project inners port.kernel) (nets_for project port.kernel (nodes_at project.kernels port.kernel)) i n j here

-- a port of the host is joined to itself
host_joined : (project : Project) (k : ℕ) (v : Family) → k + 2 < port_count project → IsJoined (channel (top_module project) k) (triple k) v v
host_joined project k v lt = record {
  word = ap v (top_net project k (omega arith));
  valid = ap v (top_net project (k + 1) (omega arith));
  ready = ap v (top_net project (k + 2) (omega arith));
}

-- ---- the nets of a FIFO

-- both sides of a FIFO
record IsFifoJoined (taken given : ℕ) (v a : Family) : Type 0 where
  giver : IsJoined input (triple taken) a v
  taker : IsJoined output (triple given) a v

fifo_joined : (m : Module) (taken given : ℕ) (v a : Family) → ((k : ℕ) (p : Port) → slice_get m.ports k ≡ Some p → p.net ≡ k)
    → Joined v a m.ports (fifo_nets taken given) → IsFifoJoined taken given v a
fifo_joined m taken given v a numbered j =
    let at : (i n : ℕ) → slice_get (fifo_nets taken given) i ≡ Some n → a i ≡ v n = λ i n e. numbered_at v a m (fifo_nets taken given) i n numbered j e in
    record {
      giver = record {
        word = at 2 taken refl;
        valid = at 3 (taken + 1) refl;
        ready = at 4 (taken + 2) (let e : taken + 1 + 1 ≡ taken + 2 = omega arith in ap (λ (n : ℕ). Some n) e);
      };
      taker = record {
        word = at 5 given refl;
        valid = at 6 (given + 1) refl;
        ready = at 7 (given + 2) (let e : given + 1 + 1 ≡ given + 2 = omega arith in ap (λ (n : ℕ). Some n) e);
      };
    }

-- an instance with these nets, whose ports are joined in each edge
pub record IsJoint (inner : Module) (number : ℕ) (nets : List ℕ) (Vs : List Families) : Type 0 where
  pub joint : Instance
  pub same : joint.nets ≡ nets
  pub joins : JoinedAll number joint inner Vs

-- ---- in an edge

-- the net of the data that a FIFO takes, and of that which it gives
abbrev pub taken_net : (project : Project) → Which project → ℕ
taken_net project (FromHost h) = input_number project h.number
taken_net project (ToHost h) = stream_net project h.host.port
taken_net project (Between l) = stream_net project l.link.from

abbrev pub given_net : (project : Project) → Which project → ℕ
given_net project (FromHost h) = stream_net project h.host.port
given_net project (ToHost h) = output_number project h.number
given_net project (Between l) = stream_net project l.link.to

module _ (project : Project) (made : Links) (inners : List Module) (times : ℕ → ℕ → ℕ) (positions : ℕ → ℕ) (given : GivenProject) (values : ProjectValues) where
  abbrev ks : Kernels
  ks = kernels_of project inners times positions given values

  abbrev fifo : Which project → Fifo
  fifo = fifo_of project made inners given values

  -- the ports of all kernels are joined to their nets in an edge
  abbrev pub KernelsJoined : Families → Type 0
  KernelsJoined V =
      (k : ℕ) → k < length project.kernels
      → Joined (V []) (family_in ks k V) (body project inners k).ports (nets_for project k (nodes_at project.kernels k))

  input_side : (port : PortAt) (V : Families) → IsPort project.kernels is_input port → KernelsJoined V
      → IsJoined (port_at project inners port).channel (triple (stream_net project port)) (family_in ks port.kernel V) (V [])
  input_side port V h j =
      let nodes = nodes_at project.kernels port.kernel in
      let p = input_port project.kernels port h in
      let w = within (inputs_of nodes) p.place port.node p.at in
      let n = length-append (inputs_of nodes) (outputs_of nodes) in
      let is = p.is in
      port_joined project inners port (V []) (family_in ks port.kernel V) (omega arith) (j port.kernel (kernel_there project.kernels is_input port h))

  output_side : (port : PortAt) (V : Families) → IsPort project.kernels is_output port → KernelsJoined V
      → IsJoined (port_at project inners port).channel (triple (stream_net project port)) (family_in ks port.kernel V) (V [])
  output_side port V h j =
      let nodes = nodes_at project.kernels port.kernel in
      let p = output_port project.kernels port h in
      let w = within (outputs_of nodes) p.place port.node p.at in
      let n = length-append (inputs_of nodes) (outputs_of nodes) in
      let is = p.is in
      port_joined project inners port (V []) (family_in ks port.kernel V) (omega arith) (j port.kernel (kernel_there project.kernels is_output port h))

  input_host : (h : HostAt project.joints.inputs) (V : Families) → IsJoined (channel (top_module project) (input_number project h.number)) (triple (input_number project h.number)) (V []) (V [])
  input_host h V =
      let w = within project.joints.inputs h.number h.host h.at in
      let m = length_map host_shape project.joints.inputs in
      host_joined project (input_number project h.number) (V []) (omega arith)

  output_host : (h : HostAt project.joints.outputs) (V : Families) → IsJoined (channel (top_module project) (output_number project h.number)) (triple (output_number project h.number)) (V []) (V [])
  output_host h V =
      let w = within project.joints.outputs h.number h.host h.at in
      let m = length_map host_shape project.joints.outputs in
      host_joined project (output_number project h.number) (V []) (omega arith)

  giver_side : (x : Which project) (V : Families) → KernelsJoined V
      → IsJoined (giver_channel (fifo x).giver) (triple (taken_net project x)) (giver_family ks (fifo x).giver V) (V [])
  giver_side (FromHost h) V j = input_host h V
  giver_side (ToHost h) V j = output_side h.host.port V (host_gives project h) j
  giver_side (Between l) V j = output_side l.link.from V (link_gives project l) j

  taker_side : (x : Which project) (V : Families) → KernelsJoined V
      → IsJoined (taker_channel (fifo x).taker) (triple (given_net project x)) (taker_family ks (fifo x).taker V) (V [])
  taker_side (FromHost h) V j = input_side h.host.port V (host_fed project h) j
  taker_side (ToHost h) V j = output_host h V
  taker_side (Between l) V j = input_side l.link.to V (link_fed project l) j

  wired : (x : Which project) (m : Module) (V : Families) → ((k : ℕ) (p : Port) → slice_get m.ports k ≡ Some p → p.net ≡ k) → KernelsJoined V
      → Joined (V []) (V ((fifo x).number ∷ [])) m.ports (fifo_nets (taken_net project x) (given_net project x))
      → IsWired ks (fifo x) V
  wired x m V numbered kernels j =
      let a : Family = V ((fifo x).number ∷ []) in
      let f = fifo_joined m (taken_net project x) (given_net project x) (V []) a numbered j in
      record {
        giver = both_joined input (giver_channel (fifo x).giver) (triple (taken_net project x)) a (giver_family ks (fifo x).giver V) (V []) f.giver (giver_side x V kernels);
        taker = both_joined output (taker_channel (fifo x).taker) (triple (given_net project x)) a (taker_family ks (fifo x).taker V) (V []) f.taker (taker_side x V kernels);
      }

  -- ---- in all edges

  -- the ports of all kernels are joined in each edge
  abbrev pub AllJoined : List Families → Type 0
  AllJoined [] = Unit {0}
  AllJoined (V ∷ Vs) = KernelsJoined V × AllJoined Vs

  pub all_joined : (Vs : List Families)
      → ((k : ℕ) → k < length project.kernels → IsJoint (body project inners k) (ks.number k) (nets_for project k (nodes_at project.kernels k)) Vs)
      → AllJoined Vs
  all_joined [] j = tt
  all_joined (V ∷ Vs) j = (
    λ k lt. let i = j k lt in subst (λ ns. Joined (V []) (family_in ks k V) (body project inners k).ports ns) i.same i.joins.0,
    all_joined Vs (λ k lt. let i = j k lt in record { joint = i.joint; same = i.same; joins = i.joins.1 }),
  )

  pub are_wired : (x : Which project) (m : Module) (i : Instance) (Vs : List Families) → ((k : ℕ) (p : Port) → slice_get m.ports k ≡ Some p → p.net ≡ k)
      → i.nets ≡ fifo_nets (taken_net project x) (given_net project x)
      → AllJoined Vs → JoinedAll (fifo x).number i m Vs → AreWired ks (fifo x) Vs
  are_wired x m i [] numbered nets kernels j = tt
  are_wired x m i (V ∷ Vs) numbered nets kernels j = (
    wired x m V numbered kernels.0 (subst (λ ns. Joined (V []) (V ((fifo x).number ∷ [])) m.ports ns) nets j.0),
    are_wired x m i Vs numbered nets kernels.1 j.1,
  )
