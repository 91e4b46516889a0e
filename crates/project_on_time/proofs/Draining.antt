-- Each output of a kernel has a FIFO; when all kernels have ended.
use Rattle.std.proofs.Common.{◌≡◌, ℕ, ℤ, zero, suc, ◌+◌, ◌-◌, ◌*◌, ◌<◌, ◌≤◌, List, [], ◌∷◌, ◌++◌, map, inl, inr, Option, Some, length, sym, ap, ◌∙◌, subst, arith}
use Rattle.std.specs.Prelude.{slice_get}
use Rattle.std.specs.Option.{option_map_or}
use Rattle.std.proofs.lemmas.Option.{same_Some}
use Rattle.rtl_ir.specs.declared.design.Module.{Module}
use Rattle.stream_graph.specs.declared.kernel.Kernel.{Kernel}
use Rattle.stream_graph.specs.Kinds.{is_output}
use Rattle.kernel_control.specs.Ports.{PortChannel, inputs_of, outputs_of}
use Rattle.kernel_control.specs.Ports as kernel_ports
use Rattle.kernel_control.specs.Refines.{last_time}
use Rattle.manager_links.specs.declared.hosts.HostPort.{HostPort}
use Rattle.manager_links.specs.declared.links.LinkEnds.{LinkEnds}
use Rattle.manager_links.specs.declared.links.Links.{Links}
use Rattle.manager_links.specs.declared.links.PortAt.{PortAt}
use Rattle.manager_links.specs.declared.project.Project.{Project}
use Rattle.manager_links.specs.Ports.{IsPort, node_of}
use Rattle.manager_links.specs.Starts.{Starts}
use Rattle.project_streams.specs.Streams.{GivenProject, ProjectValues, nodes_at}
use Rattle.project_rtl.specs.Kept.{times_of}
use Rattle.project_rtl.specs.Times.{done_count}
use Rattle.project_runs.proofs.Lists.{there, from_map, either_part}
use Rattle.project_runs.proofs.Lookups.{port_channel, of_channel}
use Rattle.project_runs.proofs.Places.{output_placed, output_is_port}
use Rattle.project_runs.proofs.Feeding.{among}
use Rattle.project_runs.proofs.Network.{Kernels, Output, Fifo}
use Rattle.project_runs.proofs.Fifos.{body, kernels_of, port_number, port_at, Which, ToHost, Between, fifo_of}
use Rattle.project_on_time.proofs.Schedule.{IsDrained}

module _ (project : Project) (times : ℕ → ℕ → ℕ) (made : Links) (inners : List Module) (positions : ℕ → ℕ) (given : GivenProject) (values : ProjectValues) where
  abbrev ks : Kernels
  ks = kernels_of project inners times positions given values

  abbrev fifo : Which project → Fifo
  fifo = fifo_of project made inners given values

  drained_by : (here : PortAt) → IsPort project.kernels is_output here → IsDrained ks fifo here.kernel (port_at project inners here)
  drained_by here is =
      let links = map (λ (link : LinkEnds). link.from) project.joints.links in
      let hosts = map (λ (host : HostPort). host.port) project.joints.outputs in
      let a = among here (links ++ hosts) (project.whole.gives.all here is) in
      elim (either_part links hosts a.place here a.at) [
        | inl b ↦
            let l = from_map (λ (link : LinkEnds). link.from) project.joints.links a.place here b in
            record { to = Between (record { number = a.place; link = l.one; at = l.at }); giver = ap (λ (p : PortAt). Output p.kernel (port_at project inners p)) l.is }
        | inr b ↦
            let h = from_map (λ (host : HostPort). host.port) project.joints.outputs (a.place - length links) here b.1 in
            record { to = ToHost (record { number = a.place - length links; host = h.one; at = h.at }); giver = ap (λ (p : PortAt). Output p.kernel (port_at project inners p)) h.is }
      ]

  pub drained : (k i : ℕ) (y : PortChannel) → k < length project.kernels → slice_get (ks.nets k).outputs i ≡ Some y → IsDrained ks fifo k y
  drained k i y lt e =
      let nodes = nodes_at project.kernels k in
      let m = body project inners k in
      let c = of_channel m (outputs_of nodes) (kernel_ports.first_output nodes) i y e in
      let here : PortAt = record { kernel = k; node = c.node } in
      let p = output_placed nodes c.node i c.at in
      let s : port_number project here ≡ kernel_ports.first_output nodes + 3 * i = omega arith in
      let same : port_at project inners here ≡ y = ap (λ j. port_channel m c.node j) s ∙ c.is in
      subst (λ (z : PortChannel). IsDrained ks fifo k z) same (drained_by here (output_is_port project.kernels k i c.node c.at))

-- ---- the end

done_at : (times : List (List ℤ)) (start : Starts) (given : GivenProject) (b : ℕ) (kernels : List Kernel) (k : ℕ) (kernel : Kernel) → slice_get kernels k ≡ Some kernel
    → start (b + k) + given.ticks (b + k) + last_time kernel.nodes (times_of times (b + k)) + 1 ≤ done_count times start given b kernels
done_at times start given b [] k kernel e = absurd (cc)
done_at times start given b (x ∷ kernels) zero kernel e =
    let z : b + 0 ≡ b = omega arith in
    let P : ℕ → Type 0 = λ j. start j + given.ticks j + last_time kernel.nodes (times_of times j) + 1 ≤ done_count times start given b (x ∷ kernels) in
    let same = ap (λ (y : Kernel). last_time y.nodes (times_of times b)) (same_Some x kernel e) in
    let here : P b = omega (arith, same) in
    subst P (sym z) here
done_at times start given b (x ∷ kernels) (suc k) kernel e =
    let z : b + 1 + k ≡ b + suc k = omega arith in
    let P : ℕ → Type 0 = λ j. start j + given.ticks j + last_time kernel.nodes (times_of times j) + 1 ≤ done_count times start given b (x ∷ kernels) in
    let h = done_at times start given (b + 1) kernels k kernel e in
    let here : P (b + 1 + k) = omega (arith, h) in
    subst P z here

pub all_after : (project : Project) (times : List (List ℤ)) (start : Starts) (given : GivenProject) (N k : ℕ)
    → done_count times start given 0 project.kernels ≤ N → k < length project.kernels
    → start k + (given.ticks k + last_time (nodes_at project.kernels k) (times_of times k)) + 1 ≤ N
all_after project times start given N k le lt =
    let kernel = there project.kernels k lt in
    let h = done_at times start given 0 project.kernels k kernel.one kernel.at in
    let z : 0 + k ≡ k = omega arith in
    let P : ℕ → Type 0 = λ j. start j + given.ticks j + last_time kernel.one.nodes (times_of times j) + 1 ≤ done_count times start given 0 project.kernels in
    let here : P k = subst P z h in
    let same = ap (λ (o : Option Kernel). last_time (option_map_or (λ (x : Kernel). x.nodes) o []) (times_of times k)) kernel.at in
    omega (arith, here, same)
