-- The counts of a project's FIFOs in a balanced run, and that its kernels keep them.
use Rattle.std.proofs.Common.{◌≡◌, ℕ, ℤ, suc, ◌+◌, ◌-◌, ◌<◌, ◌≤◌, Bool, true, zero, List, [], ◌∷◌, map, inl, inr}
use Rattle.std.proofs.Common.{Option, Some, length, refl, sym, ap, ◌∙◌, subst, arith}
use Rattle.std.specs.Prelude.{slice_get, slice_index, min}
use Rattle.std.specs.Option.{option_map_or}
use Rattle.std.proofs.lemmas.Bool.{cases_lt}
use Rattle.std.proofs.lemmas.Option.{same_Some}
use Rattle.rtl_ir.specs.declared.design.Module.{Module}
use Rattle.rtl_ir.specs.Ports.{first_output}
use Rattle.stream_equations.specs.Equations.{count_before}
use Rattle.stream_graph.specs.Kinds.{is_input, is_output}
use Rattle.kernel_control.specs.Ports.{inputs_of, outputs_of}
use Rattle.kernel_control.specs.Refines.{greatest_time, last_time}
use Rattle.manager_links.specs.declared.links.Link.{Link}
use Rattle.manager_links.specs.declared.links.LinkEnds.{LinkEnds}
use Rattle.manager_links.specs.declared.links.Links.{Links}
use Rattle.manager_links.specs.declared.links.PortAt.{PortAt}
use Rattle.manager_links.specs.declared.project.Project.{Project}
use Rattle.manager_links.specs.Joined.{ends_of_link}
use Rattle.manager_links.specs.Ports.{IsPort}
use Rattle.manager_links.specs.Starts.{first_edge, time_of}
use Rattle.project_streams.specs.declared.side.Side.TheVariants.{Dry, Full}
use Rattle.project_streams.specs.Streams.{GivenProject, ProjectValues, nodes_at}
use Rattle.project_streams.specs.Balanced.{IsEvenLink, IsBalanced}
use Rattle.project_streams.specs.Ideal.{passed, port_in, IsEven}
use Rattle.project_rtl.specs.Shapes.{shape_of, host_shape}
use Rattle.project_rtl.specs.Blocks.{streams_of}
use Rattle.project_rtl.specs.Tops.{top_module}
use Rattle.project_rtl.specs.Kept.{times_of}
use Rattle.project_rtl.specs.Words.{outer}
use Rattle.project_rtl.specs.Times.{enabled_at, reads_of}
use Rattle.project_runs.proofs.Lists.{IsFrom, from_map, get_left, get_behind, within, length_map}
use Rattle.project_runs.proofs.Lookups.{outer_at}
use Rattle.project_runs.proofs.Places.{input_port, output_port}
use Rattle.project_runs.proofs.Feeding.{all_at}
use Rattle.project_runs.proofs.Network.{Kernels, Fifo}
use Rattle.project_runs.proofs.Fifos.{kernels_of, port_at, HostAt, LinkAt, Which, FromHost, ToHost, Between, fifo_of, depth_at, host_fed, host_gives, link_fed, link_gives}
use Rattle.project_on_time.proofs.Counts.{grows, counts, IsActive, due_before, due_count, due_most, tick_of}
use Rattle.project_on_time.proofs.Schedule.{IsPortTime, GivesInTime, TakesInTime}

-- ---- the greatest time

time_within : (times : ℕ → ℕ) (ns : List ℕ) (i n : ℕ) → slice_get ns i ≡ Some n → times n ≤ greatest_time times ns
time_within times [] i n e = absurd (cc)
time_within times (m ∷ ns) zero n e = let same : m ≡ n = same_Some m n e in let t = ap times same in omega arith
time_within times (m ∷ ns) (suc i) n e = let h = time_within times ns i n e in omega arith

module _ (project : Project) (times : List (List ℤ)) (made : Links) (inners : List Module) (positions : ℕ → ℕ) (given : GivenProject) (values : ProjectValues) where
  abbrev ks : Kernels
  ks = kernels_of project inners (times_of times) positions given values

  abbrev fifo : Which project → Fifo
  fifo = fifo_of project made inners given values

  abbrev pub start : ℕ → ℕ
  start = slice_index made.starts

  -- where a kernel has ended
  abbrev pub last : ℕ → ℕ
  last k = given.ticks k + last_time (nodes_at project.kernels k) (times_of times k)

  abbrev due : PortAt → ℕ → Bool
  due port = (ks.timed port.kernel).due port.node

  abbrev count : PortAt → ℕ → ℕ
  count port p = count_before (due port) p

  abbrev time : PortAt → ℕ
  time port = time_of times port

  -- how many words are given at least before an edge behind so many, and how many are taken
  abbrev pub given_count : Which project → ℕ → ℕ
  given_count (FromHost h) N = count h.host.port (N + 1 - start h.host.port.kernel)
  given_count (ToHost h) N = count h.host.port (N - start h.host.port.kernel)
  given_count (Between l) N = count l.link.from (N - start l.link.from.kernel)

  abbrev pub taken_count : Which project → ℕ → ℕ
  taken_count (FromHost h) N = count h.host.port (N - start h.host.port.kernel)
  taken_count (ToHost h) N = count h.host.port (N - 1 - start h.host.port.kernel)
  taken_count (Between l) N = count l.link.to (N - start l.link.to.kernel)

  abbrev pub total_count : Which project → ℕ
  total_count (FromHost h) = reads_of project given values h.host
  total_count (ToHost h) = 0
  total_count (Between l) = 0

  -- ---- a port

  active : (port : PortAt) → IsActive (due port) (enabled_at project values port) (time port) (given.ticks port.kernel)
  active port = record { is = λ p. refl }

  -- it is past its last tick where its kernel has ended
  input_ends : (port : PortAt) → IsPort project.kernels is_input port → time port + given.ticks port.kernel ≤ last port.kernel
  input_ends port h =
      let nodes = nodes_at project.kernels port.kernel in
      let p = input_port project.kernels port h in
      let w = within (inputs_of nodes) p.place port.node p.at in
      let t = time_within (times_of times port.kernel) (streams_of nodes) p.place port.node (get_left (inputs_of nodes) (outputs_of nodes) p.place w ∙ p.at) in
      omega (arith, t)

  output_ends : (port : PortAt) → IsPort project.kernels is_output port → time port + given.ticks port.kernel ≤ last port.kernel
  output_ends port h =
      let nodes = nodes_at project.kernels port.kernel in
      let p = output_port project.kernels port h in
      let t = time_within (times_of times port.kernel) (streams_of nodes) (length (inputs_of nodes) + p.place) port.node
      (get_behind (inputs_of nodes) (outputs_of nodes) (length (inputs_of nodes)) p.place refl ∙ p.at) in
      omega (arith, t)

  port_time : (port : PortAt) → time port + given.ticks port.kernel ≤ last port.kernel
      → IsPortTime ks start last port.kernel (port_at project inners port) (λ N. count port (N - start port.kernel))
  port_time port ends = record {
    is = λ N. refl;
    most = λ i. due_most (due port) (enabled_at project values port) (time port) (given.ticks port.kernel) (last port.kernel) i (active port) ends;
  }

  slow : (port : PortAt) (i j : ℕ) → j ≤ i + 1 → count port j ≤ count port i + 1
  slow port i j le = (grows (due port)).slow i j le

  -- the ideal run has as many words
  in_ideal : (port : PortAt) (N : ℕ) → count port (N - start port.kernel) ≡ passed (port_in project times start given values port) N
  in_ideal port N =
      let e : N - start port.kernel - time port ≡ N - first_edge times start port = omega arith in
      due_count (due port) (enabled_at project values port) (time port) (given.ticks port.kernel) (N - start port.kernel) (active port)
      ∙ ap (λ j. count_before (enabled_at project values port) (min (given.ticks port.kernel) j)) e

  -- ---- links

  module _ (balanced : IsBalanced project times made given values) (same : map ends_of_link made.links ≡ project.joints.links) where
    link_at : (l : LinkAt project.joints.links) → IsFrom ends_of_link made.links l.number l.link
    link_at l = from_map ends_of_link made.links l.number l.link (ap (λ (links : List LinkEnds). slice_get links l.number) same ∙ l.at)

    even : (l : LinkAt project.joints.links)
        → IsEven (port_in project times start given values l.link.from) (port_in project times start given values l.link.to) (depth_at made l.number)
    even l =
        let k = link_at l in
        let h = all_at (IsEvenLink project times made given values) made.links l.number k.one balanced k.at in
        let d : k.one.depth ≡ depth_at made l.number = sym (ap (λ (o : Option Link). option_map_or (λ (link : Link). link.depth) o 0) k.at) in
        let P : LinkEnds → ℕ → Type 0 = λ ends depth. IsEven (port_in project times start given values ends.from) (port_in project times start given values ends.to) depth in
        let at_depth : P (ends_of_link k.one) (depth_at made l.number) = subst (λ (depth : ℕ). P (ends_of_link k.one) depth) d h in
        subst (λ (ends : LinkEnds). P ends (depth_at made l.number)) k.is at_depth

    not_dry : (l : LinkAt project.joints.links) (N : ℕ) → start l.link.to.kernel ≤ N → due l.link.to (N - start l.link.to.kernel) ≡ true
        → count l.link.to (N - start l.link.to.kernel) < count l.link.from (N - start l.link.from.kernel)
    not_dry l N le on =
        let to = l.link.to in
        let from = l.link.from in
        let t = tick_of (due to) (enabled_at project values to) (time to) (given.ticks to.kernel) (N - start to.kernel) (active to) on in
        let is = t.is in
        let w = t.within in
        let edge : first_edge times start to + t.tick ≡ N = omega arith in
        let read : count to (N - start to.kernel) ≡ count_before (enabled_at project values to) t.tick =
        ap (λ j. count to j) (sym is) ∙ due_before (due to) (enabled_at project values to) (time to) (given.ticks to.kernel) t.tick (active to) (omega arith) in
        let written : count from (N - start from.kernel) ≡ passed (port_in project times start given values from) (first_edge times start to + t.tick) =
        in_ideal from N ∙ ap (λ j. passed (port_in project times start given values from) j) (sym edge) in
        elim (cases_lt (count to (N - start to.kernel)) (count from (N - start from.kernel))) [
          | inl lt ↦ lt
          | inr ge ↦ absurd (even l Dry t.tick (record { due = record { within = w; due = t.due }; dry = omega (arith, read, written, ge) }))
        ]

    not_full : (l : LinkAt project.joints.links) (N : ℕ) → start l.link.from.kernel ≤ N → due l.link.from (N - start l.link.from.kernel) ≡ true
        → count l.link.from (N - start l.link.from.kernel) < depth_at made l.number + count l.link.to (N - start l.link.to.kernel)
    not_full l N le on =
        let to = l.link.to in
        let from = l.link.from in
        let t = tick_of (due from) (enabled_at project values from) (time from) (given.ticks from.kernel) (N - start from.kernel) (active from) on in
        let is = t.is in
        let w = t.within in
        let edge : first_edge times start from + t.tick ≡ N = omega arith in
        let written : count from (N - start from.kernel) ≡ count_before (enabled_at project values from) t.tick =
        ap (λ j. count from j) (sym is) ∙ due_before (due from) (enabled_at project values from) (time from) (given.ticks from.kernel) t.tick (active from) (omega arith) in
        let read : count to (N - start to.kernel) ≡ passed (port_in project times start given values to) (first_edge times start from + t.tick) =
        in_ideal to N ∙ ap (λ j. passed (port_in project times start given values to) j) (sym edge) in
        elim (cases_lt (count from (N - start from.kernel)) (depth_at made l.number + count to (N - start to.kernel))) [
          | inl lt ↦ lt
          | inr ge ↦ absurd (even l Full t.tick (record { due = record { within = w; due = t.due }; full = omega (arith, read, written, ge) }))
        ]

    -- ---- all FIFOs

    pub gives : (x : Which project) → GivesInTime ks start last (total_count x) (given_count x) (taken_count x) (fifo x).depth (fifo x).giver
    gives (FromHost h) =
        let port = h.host.port in
        let s = start port.kernel in
        record {
          depth_is = refl;
          most = λ N.
              let e = due_count (due port) (enabled_at project values port) (time port) (given.ticks port.kernel) (N + 1 - s) (active port) in
              let g = (grows (enabled_at project values port)).up (min (given.ticks port.kernel) (N + 1 - s - time port)) (given.ticks port.kernel) (omega arith) in
              omega (arith, e, g);
          near = λ N. slow port (N - s) (N + 1 - s) (omega arith);
          slow = λ N. slow port (N + 1 - s) (N + 1 + 1 - s) (omega arith);
        }
    gives (ToHost h) =
        let port = h.host.port in
        let s = start port.kernel in (
          port_time port (output_ends port (host_gives project h)),
          λ N le on. let g = slow port (N - 1 - s) (N - s) (omega arith) in omega (arith, g),
        )
    gives (Between l) = (port_time l.link.from (output_ends l.link.from (link_gives project l)), not_full l)

    -- where so many edges are behind the ends of all kernels
    module _ (most : ℕ) (after : (N k : ℕ) → most ≤ N → k < length project.kernels → start k + last k + 1 ≤ N)
        (there_is : (h : HostAt project.joints.outputs) → h.host.port.kernel < length project.kernels) where
      pub takes : (x : Which project)
          → TakesInTime ks (outer project (top_module project)) start last (fifo x) most (given_count x) (taken_count x) (fifo x).taker
      takes (FromHost h) =
          let port = h.host.port in
          let s = start port.kernel in (
            port_time port (input_ends port (host_fed project h)),
            λ N le on.
                let c = counts (due port) (N - s) on in
                let e : N + 1 - s ≡ suc (N - s) = omega arith in
                let f = ap (λ j. count port j) e in
                omega (arith, c, f),
          )
      takes (ToHost h) =
          let port = h.host.port in
          let s = start port.kernel in
          let w = within project.joints.outputs h.number h.host h.at in
          let m = length_map host_shape project.joints.outputs in
          record {
            place = h.number;
            at = outer_at (top_module project) (map host_shape project.joints.outputs) (first_output (shape_of project)) h.number (omega arith);
            behind = λ N. let e : N + 1 - 1 - s ≡ N - s = omega arith in let f = ap (λ j. count port j) e in omega (arith, f);
            slow = λ N. slow port (N - 1 - s) (N + 1 - 1 - s) (omega arith);
            spent = λ N w at left le has.
                let a = after N port.kernel le (there_is h) in
                let b = due_most (due port) (enabled_at project values port) (time port) (given.ticks port.kernel) (last port.kernel)
                (at port.kernel) (active port) (output_ends port (host_gives project h)) in
                let c = (grows (due port)).up (last port.kernel) (N - 1 - s) (omega (arith, a)) in
                omega (arith, has, b, c);
          }
      takes (Between l) = (port_time l.link.to (input_ends l.link.to (link_fed project l)), not_dry l)
