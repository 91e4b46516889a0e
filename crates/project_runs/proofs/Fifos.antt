-- The FIFOs and the kernels of a project as a network.
use Rattle.std.proofs.Common.{◌≡◌, ℕ, ◌+◌, ◌-◌, ◌*◌, List, [], map, Option, Some, length, refl, sym, ap, ◌∙◌, subst, arith, inl, inr}
use Rattle.std.specs.Prelude.{slice_get, slice_index_or, unwrap_or}
use Rattle.std.specs.Option.{option_map_or}
use Rattle.rtl_ir.specs.declared.design.Module.{Module}
use Rattle.rtl_ir.specs.Ports.{first_input, first_output}
use Rattle.stream_graph.specs.Kinds.{is_input, is_output}
use Rattle.kernel_control.specs.Ports.{PortChannel, inputs_of, outputs_of, channels_of, nets_of}
use Rattle.kernel_control.specs.Ports as kernel_ports
use Rattle.kernel_control.specs.Refines.{timed_run}
use Rattle.manager_links.specs.declared.hosts.HostPort.{HostPort}
use Rattle.manager_links.specs.declared.links.Link.{Link}
use Rattle.manager_links.specs.declared.links.LinkEnds.{LinkEnds}
use Rattle.manager_links.specs.declared.links.Links.{Links}
use Rattle.manager_links.specs.declared.links.PortAt.{PortAt}
use Rattle.manager_links.specs.declared.project.Project.{Project}
use Rattle.manager_links.specs.Ports.{IsPort}
use Rattle.manager_links.specs.Projects.{fed, given}
use Rattle.project_streams.specs.Streams.{GivenProject, ProjectValues, nodes_at, run_of, words_of, word_from, host_to, host_word}
use Rattle.project_rtl.specs.Shapes.{shape_of, host_shape}
use Rattle.project_rtl.specs.Blocks.{streams_of, place_of}
use Rattle.project_rtl.specs.Tops.{host_count, fifo_count, top_module}
use Rattle.project_rtl.specs.Words.{outer}
use Rattle.project_runs.proofs.Steps.{known, word_of_known}
use Rattle.project_runs.proofs.Lists.{get_left, get_behind, get_map, length_map, within, either_part}
use Rattle.project_runs.proofs.Lookups.{channel, port_channel, channel_at, of_channel, outer_at}
use Rattle.project_runs.proofs.Places.{input_port, output_port, kernel_there, input_is_port, input_placed}
use Rattle.project_runs.proofs.Feeding.{all_at, among, linked, unlinked, hosted}
use Rattle.project_runs.proofs.Network.{Kernels, Words, Output, Leaves, Input, Fifo, IsBetween, IsAmong, IsFed}
use Rattle.project_runs.proofs.Networks.{IsNetwork}

-- ---- the kernels

-- the module of a kernel
abbrev pub body : Project → List Module → ℕ → Module
body project inners k = unwrap_or (slice_get inners k) (top_module project)

-- the kernels, where their positions are these nets
abbrev pub kernels_of : Project → List Module → (ℕ → ℕ → ℕ) → (ℕ → ℕ) → GivenProject → ProjectValues → Kernels
kernels_of project inners times positions given values = record {
  count = length project.kernels;
  number = λ k. fifo_count project + k;
  body = body project inners;
  timed = λ k. timed_run (nodes_at project.kernels k) (times k) (run_of project given values k) (values k);
  nets = λ k. nets_of (nodes_at project.kernels k) (body project inners k) (positions k);
}

-- the port of the kernel's module for a stream
abbrev pub port_number : Project → PortAt → ℕ
port_number project port =
    kernel_ports.first_input (nodes_at project.kernels port.kernel) + 3 * place_of port.node (streams_of (nodes_at project.kernels port.kernel))

abbrev pub port_at : Project → List Module → PortAt → PortChannel
port_at project inners port = port_channel (body project inners port.kernel) port.node (port_number project port)

-- ---- the FIFOs

-- a stream of the host
pub record HostAt (hosts : List HostPort) : Type 0 where
  pub number : ℕ
  pub host : HostPort
  pub at : slice_get hosts number ≡ Some host

-- a link
pub record LinkAt (links : List LinkEnds) : Type 0 where
  pub number : ℕ
  pub link : LinkEnds
  pub at : slice_get links number ≡ Some link

-- which FIFO
pub data Which (project : Project) : Type 0 where
  FromHost : HostAt project.joints.inputs → Which project
  ToHost : HostAt project.joints.outputs → Which project
  Between : LinkAt project.joints.links → Which project

-- the words of a stream from the host
abbrev pub host_words : GivenProject → ℕ → List ℕ
host_words given number = slice_index_or given.words number []

-- how deep a link is
abbrev pub depth_at : Links → ℕ → ℕ
depth_at made number = option_map_or (λ (link : Link). link.depth) (slice_get made.links number) 0

-- the number of the port of a stream of the host
abbrev pub input_number : Project → ℕ → ℕ
input_number project i = first_input (shape_of project) + 3 * i

abbrev pub output_number : Project → ℕ → ℕ
output_number project i = first_output (shape_of project) + 3 * i

abbrev pub fifo_of : (project : Project) → Links → List Module → GivenProject → ProjectValues → Which project → Fifo
fifo_of project made inners given values (FromHost h) = record {
  number = h.number;
  depth = 2;
  giver = Words h.number (channel (top_module project) (input_number project h.number)) (host_words given h.number);
  taker = Input h.host.port.kernel (port_at project inners h.host.port);
  word = λ n. known (slice_get (host_words given h.number) n);
}
fifo_of project made inners given values (ToHost h) = record {
  number = length project.joints.inputs + h.number;
  depth = 2;
  giver = Output h.host.port.kernel (port_at project inners h.host.port);
  taker = Leaves (channel (top_module project) (output_number project h.number));
  word = λ n. slice_get (words_of project.kernels given values h.host.port) n;
}
fifo_of project made inners given values (Between l) = record {
  number = host_count project + l.number;
  depth = depth_at made l.number;
  giver = Output l.link.from.kernel (port_at project inners l.link.from);
  taker = Input l.link.to.kernel (port_at project inners l.link.to);
  word = λ n. slice_get (words_of project.kernels given values l.link.from) n;
}

-- ---- their ports are ports of kernels

module _ (project : Project) where
  pub host_fed : (h : HostAt project.joints.inputs) → IsPort project.kernels is_input h.host.port
  host_fed h =
      let n = length (map (λ (link : LinkEnds). link.to) project.joints.links) in
      all_at (IsPort project.kernels is_input) (fed project.joints) (n + h.number) h.host.port project.whole.feeds.each
      (get_behind (map (λ (link : LinkEnds). link.to) project.joints.links) (map (λ (host : HostPort). host.port) project.joints.inputs) n h.number refl
      ∙ get_map (λ (host : HostPort). host.port) project.joints.inputs h.number h.host h.at)

  pub host_gives : (h : HostAt project.joints.outputs) → IsPort project.kernels is_output h.host.port
  host_gives h =
      let n = length (map (λ (link : LinkEnds). link.from) project.joints.links) in
      all_at (IsPort project.kernels is_output) (given project.joints) (n + h.number) h.host.port project.whole.gives.each
      (get_behind (map (λ (link : LinkEnds). link.from) project.joints.links) (map (λ (host : HostPort). host.port) project.joints.outputs) n h.number refl
      ∙ get_map (λ (host : HostPort). host.port) project.joints.outputs h.number h.host h.at)

  pub link_fed : (l : LinkAt project.joints.links) → IsPort project.kernels is_input l.link.to
  link_fed l =
      let w = within project.joints.links l.number l.link l.at in
      let m = length_map (λ (link : LinkEnds). link.to) project.joints.links in
      all_at (IsPort project.kernels is_input) (fed project.joints) l.number l.link.to project.whole.feeds.each
      (get_left (map (λ (link : LinkEnds). link.to) project.joints.links) (map (λ (host : HostPort). host.port) project.joints.inputs) l.number (omega arith)
      ∙ get_map (λ (link : LinkEnds). link.to) project.joints.links l.number l.link l.at)

  pub link_gives : (l : LinkAt project.joints.links) → IsPort project.kernels is_output l.link.from
  link_gives l =
      let w = within project.joints.links l.number l.link l.at in
      let m = length_map (λ (link : LinkEnds). link.from) project.joints.links in
      all_at (IsPort project.kernels is_output) (given project.joints) l.number l.link.from project.whole.gives.each
      (get_left (map (λ (link : LinkEnds). link.from) project.joints.links) (map (λ (host : HostPort). host.port) project.joints.outputs) l.number (omega arith)
      ∙ get_map (λ (link : LinkEnds). link.from) project.joints.links l.number l.link l.at)

-- ---- the network

module _ (project : Project) (made : Links) (inners : List Module) (times : ℕ → ℕ → ℕ) (positions : ℕ → ℕ) (given : GivenProject) (values : ProjectValues) where
  abbrev ks : Kernels
  ks = kernels_of project inners times positions given values

  abbrev fifo : Which project → Fifo
  fifo = fifo_of project made inners given values

  abbrev top : Module
  top = top_module project

  among_inputs : (port : PortAt) → IsPort project.kernels is_input port → IsAmong (ks.nets port.kernel).inputs (port_at project inners port)
  among_inputs port h =
      let nodes = nodes_at project.kernels port.kernel in
      let p = input_port project.kernels port h in
      let e : kernel_ports.first_input nodes + 3 * p.place ≡ port_number project port = let is = p.is in omega arith in
      record {
        place = p.place;
        at =
            channel_at (body project inners port.kernel) (inputs_of nodes) (kernel_ports.first_input nodes) p.place port.node p.at
            ∙ ap (λ j. Some (port_channel (body project inners port.kernel) port.node j)) e;
      }

  among_outputs : (port : PortAt) → IsPort project.kernels is_output port → IsAmong (ks.nets port.kernel).outputs (port_at project inners port)
  among_outputs port h =
      let nodes = nodes_at project.kernels port.kernel in
      let p = output_port project.kernels port h in
      let e : kernel_ports.first_output nodes + 3 * p.place ≡ port_number project port = let is = p.is in omega arith in
      record {
        place = p.place;
        at =
            channel_at (body project inners port.kernel) (outputs_of nodes) (kernel_ports.first_output nodes) p.place port.node p.at
            ∙ ap (λ j. Some (port_channel (body project inners port.kernel) port.node j)) e;
      }

  between : (x : Which project) → IsBetween ks (outer project top) (fifo x)
  between (FromHost h) =
      let w = within project.joints.inputs h.number h.host h.at in
      let m = length_map host_shape project.joints.inputs in
      record {
        giver = (outer_at top (map host_shape project.joints.inputs) (first_input (shape_of project)) h.number (omega arith), λ n. refl);
        taker = (kernel_there project.kernels is_input h.host.port (host_fed project h), among_inputs h.host.port (host_fed project h));
      }
  between (ToHost h) = record {
    giver = (kernel_there project.kernels is_output h.host.port (host_gives project h), among_outputs h.host.port (host_gives project h), λ n. refl);
    taker = tt;
  }
  between (Between l) = record {
    giver = (kernel_there project.kernels is_output l.link.from (link_gives project l), among_outputs l.link.from (link_gives project l), λ n. refl);
    taker = (kernel_there project.kernels is_input l.link.to (link_fed project l), among_inputs l.link.to (link_fed project l));
  }

  -- an input of a kernel
  fed_by : (k n : ℕ) (port : PortAt) → port ≡ record { kernel = k; node = n } → IsPort project.kernels is_input port
      → IsFed ks fifo k (port_at project inners (record { kernel = k; node = n }))
  fed_by k n port e h =
      let here : PortAt = record { kernel = k; node = n } in
      let is : IsPort project.kernels is_input here = subst (λ p. IsPort project.kernels is_input p) e h in
      let a = among here (fed project.joints) (project.whole.feeds.all here is) in
      elim (linked project.joints.links here) [
        | inl l ↦
            record {
              from = Between (record { number = l.number; link = l.link; at = l.at });
              taker = ap (λ (p : PortAt). Input p.kernel (port_at project inners p)) l.to;
              words = λ j. ap (λ (o : Option PortAt). word_from project.kernels given values o (host_to 0 project.joints.inputs here) j) l.first;
            }
        | inr none ↦
            elim (either_part (map (λ (link : LinkEnds). link.to) project.joints.links) (map (λ (host : HostPort). host.port) project.joints.inputs) a.place here a.at) [
              | inl b ↦ absurd (unlinked project.joints.links here a.place none b)
              | inr b ↦
                  let x = hosted 0 project.joints.inputs here (a.place - length (map (λ (link : LinkEnds). link.to) project.joints.links)) b.1 in
                  let z : 0 + x.number ≡ x.number = omega arith in
                  record {
                    from = FromHost (record { number = x.number; host = x.host; at = x.at });
                    taker = ap (λ (p : PortAt). Input p.kernel (port_at project inners p)) x.to;
                    words = λ j.
                        ap (λ (o : Option PortAt). word_from project.kernels given values o (host_to 0 project.joints.inputs here) j) none
                        ∙ ap (λ (o : Option ℕ). host_word given o j) (x.first ∙ ap (λ (m : ℕ). Some m) z)
                        ∙ sym (word_of_known (slice_get (host_words given x.number) j));
                  }
            ]
      ]

  pub network : IsNetwork ks (outer project top) fifo
  network = record {
    between = between;
    fed = λ k i y lt e.
        let nodes = nodes_at project.kernels k in
        let m = body project inners k in
        let c = of_channel m (inputs_of nodes) (kernel_ports.first_input nodes) i y e in
        let here : PortAt = record { kernel = k; node = c.node } in
        let p = input_placed nodes c.node i c.at in
        let s : port_number project here ≡ kernel_ports.first_input nodes + 3 * i = omega arith in
        let same : port_at project inners here ≡ y = ap (λ j. port_channel m c.node j) s ∙ c.is in
        subst (λ (z : PortChannel). IsFed ks fifo k z) same (fed_by k c.node here refl (input_is_port project.kernels k i c.node c.at));
  }
