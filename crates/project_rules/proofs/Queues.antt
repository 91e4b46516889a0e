-- The FIFOs of a design with their two sides, and the modules of its kernels.
use Rattle.std.proofs.Common.{◌≡◌, ◌∙◌, ℕ, suc, ◌+◌, ◌-◌, ◌*◌, ◌<◌, ◌≤◌, Bool, true, inl, inr, List, [], ◌∷◌, Some, length, refl, sym, ap, subst, arith}
use Rattle.std.specs.Prelude.{slice_get, ◌⊎◌, codes, IsSomeAnd}
use Rattle.std.specs.Option.{option_and_then}
use Rattle.fix_arith.specs.Types.{width_of}
use Rattle.rtl_ir.specs.declared.design.Module.{Module}
use Rattle.rtl_ir.specs.declared.design.Design.{Design}
use Rattle.rtl_ir.specs.Rules.{ByPort, Drives, Way}
use Rattle.rtl_ir.specs.Typed.{is_input as is_given_port}
use Rattle.rtl_ir.specs.Ports.{PortView, output_port, first_input, first_output}
use Rattle.rtl_build.specs.Wires.{is_output as is_taken_port}
use Rattle.stream_graph.specs.declared.kernel.Kernel.{Kernel}
use Rattle.stream_graph.specs.declared.node.Kind.{Kind}
use Rattle.stream_graph.specs.declared.node.Node.{Node}
use Rattle.stream_graph.specs.Kinds.{is_input, is_output}
use Rattle.kernel_control.specs.Ports.{inputs_of, outputs_of, module_ports}
use Rattle.link_fifo.specs.Fifo.{fifo_ports}
use Rattle.manager_links.specs.declared.hosts.HostPort.{HostPort}
use Rattle.manager_links.specs.declared.links.LinkEnds.{LinkEnds}
use Rattle.manager_links.specs.declared.links.Links.{Links}
use Rattle.manager_links.specs.declared.project.Project.{Project}
use Rattle.manager_links.specs.Hosts.{HasType}
use Rattle.manager_links.specs.Ports.{IsPort, node_of, type_of, is_among}
use Rattle.manager_links.specs.Projects.{given}
use Rattle.project_rtl.specs.Shapes.{shape_of}
use Rattle.project_rtl.specs.Blocks.{streams_of, place_of, stream_net, first_net}
use Rattle.project_rtl.specs.Tops.{fifo_nets, kernel_nets, host_count, fifo_count, top_module}
use Rattle.project_rtl.specs.Projects.{port_width, IsProjectOf}
use Rattle.project_rtl.specs.Kept.{KeepsRules, AllKeepRules}
use Rattle.project_rules.proofs.Lists.{one_of, within, there, at_left, at_behind, get_left, get_behind, below_or, zip_at, Reads}
use Rattle.project_rules.proofs.Taps.{Tap, taps_to, taps_from, taps_of, find, HasTap, find_some, link_to, link_from, host_at, length_to, length_from, tap_to, tap_from, tap_of}
use Rattle.project_rules.proofs.Places.{number_is, input_place, output_place}
use Rattle.project_rules.proofs.Slots.{Slot, given_slot, driven_slot, feeding, draining, feeder, drain, slots, port_place, in_place, out_place}
use Rattle.project_rules.proofs.Streams.{nodes_are, host_wide, same_wide, port_wide}
use Rattle.project_rules.proofs.Parts.{IsJoint, join, IsFifoPart, input_joint, output_joint, link_joint, kernel_joint, Which, of_input, of_output, of_link, of_kernel}
use Rattle.project_rules.proofs.Wired.{Fits, AreRanked, own_slots, kernel_fits, kernel_ranked, kernel_reads, IsTaken, IsGiven, fifo_slots, fifo_reads, fifo_fits}
use Rattle.project_rules.proofs.Wired.{ports_fed, ports_drained, fed_input, drained_output, fed_once, drained_once, given_side, taken_side}

-- ---- ports of kernels

-- a node of a kind is a port
is_port : (kernels : List Kernel) (is_kind : Kind → Bool) (k n : ℕ) (kernel : Kernel) (node : Node) → slice_get kernels k ≡ Some kernel
    → slice_get kernel.nodes n ≡ Some node
    → is_kind node.view.kind ≡ true → IsPort kernels is_kind (record { kernel = k; node = n })
is_port kernels is_kind k n kernel node e f h =
    let known : node_of kernels (record { kernel = k; node = n }) ≡ Some node =
    ap (λ o. option_and_then (λ (kernel : Kernel). slice_get kernel.nodes n) o) e ∙ f in
    subst (λ o. IsSomeAnd o (λ (node : Node). is_kind node.view.kind ≡ true)) (sym known) h

module _ (project : Project) where
  -- the net of an input by its place
  pub input_net : (k : ℕ) (kernel : Kernel) (i n : ℕ) → slice_get project.kernels k ≡ Some kernel → slice_get (inputs_of kernel.nodes) i ≡ Some n
      → stream_net project (record { kernel = k; node = n }) ≡ first_net project k + 3 * i
  input_net k kernel i n e f =
      ap (λ nodes. first_net project k + 3 * place_of n (streams_of nodes)) (nodes_are project.kernels k kernel e)
      ∙ ap (λ j. first_net project k + 3 * j) (input_place kernel.nodes i n f)

  pub output_net : (k : ℕ) (kernel : Kernel) (i n : ℕ) → slice_get project.kernels k ≡ Some kernel → slice_get (outputs_of kernel.nodes) i ≡ Some n
      → stream_net project (record { kernel = k; node = n }) ≡ first_net project k + 3 * (length (inputs_of kernel.nodes) + i)
  output_net k kernel i n e f =
      ap (λ nodes. first_net project k + 3 * place_of n (streams_of nodes)) (nodes_are project.kernels k kernel e)
      ∙ ap (λ j. first_net project k + 3 * j) (output_place kernel.nodes i n f)

  -- an input is fed, and an output drained
  pub is_fed : (k : ℕ) (kernel : Kernel) (i n : ℕ) → slice_get project.kernels k ≡ Some kernel → slice_get (inputs_of kernel.nodes) i ≡ Some n
      → HasTap (feeding project) (record { kernel = k; node = n })
  is_fed k kernel i n e f =
      let x = number_is is_input 0 kernel.nodes i n f in
      let y = x.is in
      let same : x.own ≡ n = omega (arith, y) in
      let port = is_port project.kernels is_input k n kernel x.of.node e (ap (λ j. slice_get kernel.nodes j) (sym same) ∙ x.of.is) x.of.kind in
      find_some (record { kernel = k; node = n }) (feeding project)
      (ap (λ l. is_among (record { kernel = k; node = n }) l) (ports_fed project) ∙ project.whole.feeds.all (record { kernel = k; node = n }) port)

  pub is_drained : (k : ℕ) (kernel : Kernel) (i n : ℕ) → slice_get project.kernels k ≡ Some kernel → slice_get (outputs_of kernel.nodes) i ≡ Some n
      → HasTap (draining project) (record { kernel = k; node = n })
  is_drained k kernel i n e f =
      let x = number_is is_output 0 kernel.nodes i n f in
      let y = x.is in
      let same : x.own ≡ n = omega (arith, y) in
      let port = is_port project.kernels is_output k n kernel x.of.node e (ap (λ j. slice_get kernel.nodes j) (sym same) ∙ x.of.is) x.of.kind in
      find_some (record { kernel = k; node = n }) (draining project)
      (ap (λ l. is_among (record { kernel = k; node = n }) l) (ports_drained project) ∙ project.whole.gives.all (record { kernel = k; node = n }) port)

  -- ---- the sides of each kind of FIFO

  pub in_taken : (i : ℕ) (host : HostPort) → slice_get project.joints.inputs i ≡ Some host → IsTaken project i (width_of host.t) (first_input (shape_of project) + 3 * i)
  in_taken i host e =
      let p = in_place project i host e in
      let n = first_input (shape_of project) + 3 * i in
      record {
        word = given_slot (width_of host.t);
        valid = given_slot 1;
        are = record {
          first = port_place project n (given_slot (width_of host.t)) p.first;
          second = port_place project (n + 1) (given_slot 1) p.second;
          third = port_place project (n + 2) (driven_slot 1 (ByPort i 4) 0) p.third;
        };
        wide = refl;
        one = refl;
      }

  pub in_given : (i : ℕ) (host : HostPort) → slice_get project.joints.inputs i ≡ Some host → IsGiven project i (width_of host.t) (stream_net project host.port)
  in_given i host e =
      let l = length project.joints.links in
      let z : 0 + i ≡ i = omega arith in
      let tap : Tap = record { number = 0 + i; port = host.port } in
      let here : slice_get (feeding project) (l + i) ≡ Some tap =
      at_behind (taps_to (host_count project) project.joints.links) (taps_of 0 project.joints.inputs) l i tap (sym (length_to (host_count project) project.joints.links))
      (host_at 0 project.joints.inputs i host e) in
      let p = fed_input project (l + i) tap here in
      let typed = one_of (HasType project.kernels) project.joints.inputs project.whole.inputs.typed i host e in
      subst (λ k. IsGiven project k (width_of host.t) (stream_net project host.port)) z
      (given_side project (l + i) tap (width_of host.t) here (host_wide project host p.kernel p.node typed p.known p.at))

  pub out_given : (i : ℕ) (host : HostPort) → slice_get project.joints.outputs i ≡ Some host
      → IsGiven project (length project.joints.inputs + i) (width_of host.t) (first_output (shape_of project) + 3 * i)
  out_given i host e =
      let p = out_place project i host e in
      let n = first_output (shape_of project) + 3 * i in
      record {
        ready = given_slot 1;
        are = record {
          first = port_place project n (driven_slot (width_of host.t) (ByPort (length project.joints.inputs + i) 5) 0) p.first;
          second = port_place project (n + 1) (driven_slot 1 (ByPort (length project.joints.inputs + i) 6) 0) p.second;
          third = port_place project (n + 2) (given_slot 1) p.third;
        };
        one = refl;
      }

  pub out_taken : (i : ℕ) (host : HostPort) → slice_get project.joints.outputs i ≡ Some host
      → IsTaken project (length project.joints.inputs + i) (width_of host.t) (stream_net project host.port)
  out_taken i host e =
      let l = length project.joints.links in
      let tap : Tap = record { number = length project.joints.inputs + i; port = host.port } in
      let here : slice_get (draining project) (l + i) ≡ Some tap =
      at_behind (taps_from (host_count project) project.joints.links) (taps_of (length project.joints.inputs) project.joints.outputs) l i tap
      (sym (length_from (host_count project) project.joints.links))
      (host_at (length project.joints.inputs) project.joints.outputs i host e) in
      let p = drained_output project (l + i) tap here in
      let typed = one_of (HasType project.kernels) project.joints.outputs project.whole.outputs.typed i host e in
      taken_side project (l + i) tap (width_of host.t) here (host_wide project host p.kernel p.node typed p.known p.at)

  pub link_taken : (i : ℕ) (link : LinkEnds) → slice_get project.joints.links i ≡ Some link
      → IsTaken project (host_count project + i) (port_width project.kernels link.from) (stream_net project link.from)
  link_taken i link e =
      let tap : Tap = record { number = host_count project + i; port = link.from } in
      let here : slice_get (draining project) i ≡ Some tap =
      at_left (taps_from (host_count project) project.joints.links) (taps_of (length project.joints.inputs) project.joints.outputs) i tap
      (link_from (host_count project) project.joints.links i link e) in
      let p = drained_output project i tap here in
      taken_side project i tap (port_width project.kernels link.from) here (sym (port_wide project.kernels link.from p.kernel p.known))

  pub link_given : (i : ℕ) (link : LinkEnds) → slice_get project.joints.links i ≡ Some link
      → IsGiven project (host_count project + i) (port_width project.kernels link.from) (stream_net project link.to)
  link_given i link e =
      let tap : Tap = record { number = host_count project + i; port = link.to } in
      let here : slice_get (feeding project) i ≡ Some tap =
      at_left (taps_to (host_count project) project.joints.links) (taps_of 0 project.joints.inputs) i tap
      (link_to (host_count project) project.joints.links i link e) in
      let source : Tap = record { number = host_count project + i; port = link.from } in
      let there' : slice_get (draining project) i ≡ Some source =
      at_left (taps_from (host_count project) project.joints.links) (taps_of (length project.joints.inputs) project.joints.outputs) i source
      (link_from (host_count project) project.joints.links i link e) in
      let p = fed_input project i tap here in
      let q = drained_output project i source there' in
      let typed = one_of (λ (link : LinkEnds). type_of project.kernels link.from ≡ type_of project.kernels link.to) project.joints.links project.whole.types i link e in
      given_side project i tap (port_width project.kernels link.from) here
      (sym (same_wide project link.from link.to q.kernel p.kernel q.node p.node typed q.known q.at p.known p.at)
      ∙ sym (port_wide project.kernels link.from q.kernel q.known))

module _ (project : Project) (made : Links) (inners : List Module) (d : Design) (whole : IsProjectOf project made inners d) (keeps : AllKeepRules project inners) where
  abbrev pub top : Module
  top = top_module project

  -- ---- the module of a kernel

  pub record HasModule (k : ℕ) (kernel : Kernel) : Type 0 where
    pub inner : Module
    pub is : slice_get inners k ≡ Some inner
    pub keeps_rules : KeepsRules kernel inner

  pub module_of : (k : ℕ) (kernel : Kernel) → slice_get project.kernels k ≡ Some kernel → HasModule k kernel
  module_of k kernel e =
      let lt = within project.kernels k kernel e in
      let same = whole.kernels in
      let m = there inners k (omega (arith, lt, same)) in
      record { inner = m.0; is = m.1; keeps_rules = zip_at KeepsRules project.kernels inners k kernel m.0 keeps e m.1 }

  -- ---- instances, uniformly

  -- nothing leads from an input of an instance to an output of it within an edge, or outputs have rank 1 and inputs rank 0
  pub data IsSlow (inner : Module) (views : List PortView) (ss : List Slot) : Type 0 where
    no_way : ((a b : ℕ) → is_given_port inner.ports a ≡ true → is_taken_port inner.ports b ≡ true → Way d inner a b → ⊥) → IsSlow inner views ss
    ranked : AreRanked views ss → IsSlow inner views ss

  pub record IsPart (k : ℕ) : Type 0 where
    pub nets : List ℕ
    pub views : List PortView
    pub inner : Module
    pub ss : List Slot
    pub joint : IsJoint d top k nets views inner
    pub reads : Reads (slots project) nets ss
    pub fits : Fits k 0 views ss
    pub slow : IsSlow inner views ss
    pub formed : length nets ≡ length views

  fifo_part : (k width taken given : ℕ) → IsFifoPart project made inners d whole k width taken given → IsTaken project k width taken
      → IsGiven project k width given → IsPart k
  fifo_part k width taken given f t g = record {
    nets = fifo_nets taken given;
    views = fifo_ports width;
    inner = f.fifo;
    ss = fifo_slots project k width taken given t g;
    joint = f.joint;
    reads = fifo_reads project k width taken given t g;
    fits = fifo_fits project k width taken given t g;
    slow = no_way (f.is.apart d);
    formed = refl;
  }

  reads_fit_length : (k j : ℕ) (nets : List ℕ) (views : List PortView) (ss : List Slot) → Reads (slots project) nets ss → Fits k j views ss → length nets ≡ length views
  reads_fit_length k j [] [] [] h g = refl
  reads_fit_length k j [] [] (s ∷ ss) h g = absurd h
  reads_fit_length k j [] (v ∷ views) [] h g = absurd g
  reads_fit_length k j [] (v ∷ views) (s ∷ ss) h g = absurd h
  reads_fit_length k j (n ∷ nets) [] [] h g = absurd h
  reads_fit_length k j (n ∷ nets) [] (s ∷ ss) h g = absurd g
  reads_fit_length k j (n ∷ nets) (v ∷ views) [] h g = absurd h
  reads_fit_length k j (n ∷ nets) (v ∷ views) (s ∷ ss) h g = ap suc (reads_fit_length k (j + 1) nets views ss h.1 g.1)

  pub kernel_is_part : (k : ℕ) (kernel : Kernel) → slice_get project.kernels k ≡ Some kernel → IsPart (fifo_count project + k)
  kernel_is_part k kernel e =
      let m = module_of k kernel e in
      let reads = kernel_reads project k kernel e in
      let fits = kernel_fits project k kernel in
      record {
        nets = kernel_nets project k kernel;
        views = module_ports kernel.nodes;
        inner = m.inner;
        ss = own_slots project k kernel;
        joint = kernel_joint project made inners d whole k kernel m.inner e m.is m.keeps_rules.ports;
        reads = reads;
        fits = fits;
        slow = ranked (kernel_ranked project k kernel);
        formed = reads_fit_length (fifo_count project + k) 0 (kernel_nets project k kernel) (module_ports kernel.nodes) (own_slots project k kernel) reads fits;
      }

  pub part_at : (k : ℕ) → Which project k → IsPart k
  part_at k (of_input i host e same) =
      subst IsPart same
      (fifo_part i (width_of host.t) (first_input (shape_of project) + 3 * i) (stream_net project host.port)
      (input_joint project made inners d whole i host e) (in_taken project i host e)
      (in_given project i host e))
  part_at k (of_output i host e same) =
      subst IsPart same
      (fifo_part (length project.joints.inputs + i) (width_of host.t) (stream_net project host.port) (first_output (shape_of project) + 3 * i)
      (output_joint project made inners d whole i host e) (out_taken project i host e) (out_given project i host e))
  part_at k (of_link i link e same) =
      subst IsPart same
      (fifo_part (host_count project + i) (port_width project.kernels link.from) (stream_net project link.from) (stream_net project link.to)
      (link_joint project made inners d whole i link e) (link_taken project i link e) (link_given project i link e))
  part_at k (of_kernel i kernel e same) = subst IsPart same (kernel_is_part i kernel e)

  -- ---- what FIFOs drive

  pub record FifoDrives (k taken given : ℕ) : Type 0 where
    pub ready : Drives d top (ByPort k 4) (taken + 2)
    pub word : Drives d top (ByPort k 5) given
    pub valid : Drives d top (ByPort k 6) (given + 1)

  pub drives_by : (k j n : ℕ) (nets : List ℕ) (views : List PortView) (v : PortView) (inner : Module) → IsJoint d top k nets views inner
      → slice_get nets j ≡ Some n → slice_get views j ≡ Some v → v.output ≡ true → Drives d top (ByPort k j) n
  drives_by k j n nets views v inner h e f o =
      let c = join d top k j n nets views v inner h e f in
      (c.0, ap (λ (v : PortView). v.output) c.1.view ∙ o, c.1.net)

  pub fifo_drives : (k width taken given : ℕ) → IsFifoPart project made inners d whole k width taken given → FifoDrives k taken given
  fifo_drives k width taken given f =
      let nets = fifo_nets taken given in
      let views = fifo_ports width in
      let z : taken + 1 + 1 ≡ taken + 2 = omega arith in
      record {
        ready = subst (λ n. Drives d top (ByPort k 4) n) z (drives_by k 4 (taken + 1 + 1) nets views (output_port (codes "in$ready") 1) f.fifo f.joint refl refl refl);
        word = drives_by k 5 given nets views (output_port (codes "out$data") width) f.fifo f.joint refl refl refl;
        valid = drives_by k 6 (given + 1) nets views (output_port (codes "out$valid") 1) f.fifo f.joint refl refl refl;
      }

  -- the FIFO of a tap gives words to its port
  pub record Feeds (k n : ℕ) : Type 0 where
    pub taken : ℕ
    pub drives : FifoDrives k taken n

  tap_feeds : (q : ℕ) (tap : Tap) → slice_get (feeding project) q ≡ Some tap → Feeds tap.number (stream_net project tap.port)
  tap_feeds q tap e = by_case (below_or q (length project.joints.links))
    where
      count : length (taps_to (host_count project) project.joints.links) ≡ length project.joints.links
      count = length_to (host_count project) project.joints.links

      by_case : (q < length project.joints.links) ⊎ (length project.joints.links ≤ q) → Feeds tap.number (stream_net project tap.port)
      by_case (inl lt) =
          let c = count in
          let t = tap_to (host_count project) project.joints.links q tap
          (sym (get_left (taps_to (host_count project) project.joints.links) (taps_of 0 project.joints.inputs) q (omega (arith, lt, c))) ∙ e) in
          let f = link_joint project made inners d whole q t.link t.is in
          let own : Feeds (host_count project + q) (stream_net project t.link.to) = record {
            taken = stream_net project t.link.from;
            drives = fifo_drives (host_count project + q) (port_width project.kernels t.link.from) (stream_net project t.link.from) (stream_net project t.link.to) f;
          } in
          subst (λ k. Feeds k (stream_net project tap.port)) (sym t.numbered) (subst (λ p. Feeds (host_count project + q) (stream_net project p)) (sym t.port) own)
      by_case (inr ge) =
          let c = count in
          let i = q - length project.joints.links in
          let z : length project.joints.links + i ≡ q = omega (arith, ge) in
          let t = tap_of 0 project.joints.inputs i tap
          (sym (get_behind (taps_to (host_count project) project.joints.links) (taps_of 0 project.joints.inputs) (length project.joints.links) i
          (sym c)) ∙ ap (λ j. slice_get (feeding project) j) z ∙ e) in
          let f = input_joint project made inners d whole i t.host t.is in
          let own : Feeds i (stream_net project t.host.port) = record {
            taken = first_input (shape_of project) + 3 * i;
            drives = fifo_drives i (width_of t.host.t) (first_input (shape_of project) + 3 * i) (stream_net project t.host.port) f;
          } in
          let n = t.numbered in
          let number : i ≡ tap.number = omega (arith, n) in
          subst (λ k. Feeds k (stream_net project tap.port)) number (subst (λ p. Feeds i (stream_net project p)) (sym t.port) own)

  -- the FIFO of a tap takes words from its port
  pub record Drains (k n : ℕ) : Type 0 where
    pub given : ℕ
    pub drives : FifoDrives k n given

  tap_drains : (q : ℕ) (tap : Tap) → slice_get (draining project) q ≡ Some tap → Drains tap.number (stream_net project tap.port)
  tap_drains q tap e = by_case (below_or q (length project.joints.links))
    where
      count : length (taps_from (host_count project) project.joints.links) ≡ length project.joints.links
      count = length_from (host_count project) project.joints.links

      by_case : (q < length project.joints.links) ⊎ (length project.joints.links ≤ q) → Drains tap.number (stream_net project tap.port)
      by_case (inl lt) =
          let c = count in
          let t = tap_from (host_count project) project.joints.links q tap
          (sym (get_left (taps_from (host_count project) project.joints.links) (taps_of (length project.joints.inputs) project.joints.outputs) q
          (omega (arith, lt, c))) ∙ e) in
          let f = link_joint project made inners d whole q t.link t.is in
          let own : Drains (host_count project + q) (stream_net project t.link.from) = record {
            given = stream_net project t.link.to;
            drives = fifo_drives (host_count project + q) (port_width project.kernels t.link.from) (stream_net project t.link.from) (stream_net project t.link.to) f;
          } in
          subst (λ k. Drains k (stream_net project tap.port)) (sym t.numbered) (subst (λ p. Drains (host_count project + q) (stream_net project p)) (sym t.port) own)
      by_case (inr ge) =
          let c = count in
          let i = q - length project.joints.links in
          let z : length project.joints.links + i ≡ q = omega (arith, ge) in
          let t = tap_of (length project.joints.inputs) project.joints.outputs i tap
          (sym (get_behind (taps_from (host_count project) project.joints.links) (taps_of (length project.joints.inputs) project.joints.outputs)
          (length project.joints.links) i (sym c))
          ∙ ap (λ j. slice_get (draining project) j) z ∙ e) in
          let f = output_joint project made inners d whole i t.host t.is in
          let own : Drains (length project.joints.inputs + i) (stream_net project t.host.port) = record {
            given = first_output (shape_of project) + 3 * i;
            drives = fifo_drives (length project.joints.inputs + i) (width_of t.host.t) (stream_net project t.host.port) (first_output (shape_of project) + 3 * i) f;
          } in
          subst (λ k. Drains k (stream_net project tap.port)) (sym t.numbered) (subst (λ p. Drains (length project.joints.inputs + i)
          (stream_net project p)) (sym t.port) own)

  -- so it is with each input and output of a kernel
  pub fed_drives : (k : ℕ) (kernel : Kernel) (i n : ℕ) → slice_get project.kernels k ≡ Some kernel → slice_get (inputs_of kernel.nodes) i ≡ Some n
      → Feeds (feeder project k n) (first_net project k + 3 * i)
  fed_drives k kernel i n e f =
      let t = is_fed project k kernel i n e f in
      let number : t.tap.number ≡ feeder project k n = sym (fed_once project t.place t.tap t.is) ∙ ap (λ p. find p (feeding project)) t.own in
      subst (λ j. Feeds j (first_net project k + 3 * i)) number
      (subst (λ j. Feeds t.tap.number j) (ap (λ p. stream_net project p) t.own ∙ input_net project k kernel i n e f) (tap_feeds t.place t.tap t.is))

  pub drained_drives : (k : ℕ) (kernel : Kernel) (i n : ℕ) → slice_get project.kernels k ≡ Some kernel → slice_get (outputs_of kernel.nodes) i ≡ Some n
      → Drains (drain project k n) (first_net project k + 3 * (length (inputs_of kernel.nodes) + i))
  drained_drives k kernel i n e f =
      let t = is_drained project k kernel i n e f in
      let number : t.tap.number ≡ drain project k n = sym (drained_once project t.place t.tap t.is) ∙ ap (λ p. find p (draining project)) t.own in
      subst (λ j. Drains j (first_net project k + 3 * (length (inputs_of kernel.nodes) + i))) number
      (subst (λ j. Drains t.tap.number j) (ap (λ p. stream_net project p) t.own ∙ output_net project k kernel i n e f) (tap_drains t.place t.tap t.is))
