-- The words of a balanced run leave the design of a project in time, and the design is done in time.
use Rattle.std.proofs.Common.{◌≡◌, ℕ, ℤ, suc, ◌+◌, ◌-◌, ◌*◌, ◌≤◌, List, [], ◌∷◌, map}
use Rattle.std.proofs.Common.{Some, length, refl, ap, ◌∙◌, arith}
use Rattle.std.specs.Prelude.{slice_get, slice_index, slice_index_or}
use Rattle.std.proofs.lemmas.Bool.{le-leb, lt-leb}
use Rattle.rtl_ir.specs.declared.design.Design.{Design}
use Rattle.rtl_ir.specs.declared.design.Module.{Module}
use Rattle.rtl_ir.specs.Edge.{after_edge}
use Rattle.rtl_ir.specs.Flat.{Families}
use Rattle.rtl_ir.specs.Parts.{own_of}
use Rattle.rtl_ir.specs.Run.{Channel, Outer, Event, moved, Driven}
use Rattle.rtl_ir.specs.Ports.{first_output}
use Rattle.stream_graph.specs.declared.kernel.Kernel.{Kernel}
use Rattle.stream_graph.specs.Kinds.{is_input, is_output}
use Rattle.stream_equations.specs.Equations.{count_before}
use Rattle.manager_links.specs.declared.links.Links.{Links}
use Rattle.manager_links.specs.declared.project.Project.{Project}
use Rattle.manager_links.specs.Joined.{ends_of_link}
use Rattle.manager_links.specs.Links.{AreLinksOf}
use Rattle.manager_links.specs.Rules.{kernel_names}
use Rattle.manager_links.specs.Starts.{Starts, time_of}
use Rattle.project_streams.specs.Streams.{GivenProject, ProjectValues}
use Rattle.project_streams.specs.Balanced.{IsBalanced}
use Rattle.project_rtl.specs.Shapes.{shape_of}
use Rattle.project_rtl.specs.Tops.{top_module}
use Rattle.project_rtl.specs.Projects.{IsProjectOf}
use Rattle.project_rtl.specs.Kept.{times_of, AllRefine}
use Rattle.project_rtl.specs.Words.{steady_of, outer}
use Rattle.project_rtl.specs.Times.{enabled_at, reads_of, all_reads, unstalled_in, HasLeft, LeavesBy, done_count, RunsOnTime}
use Rattle.project_runs.proofs.Lists.{get_map, length_map}
use Rattle.project_runs.proofs.Lookups.{top_net, channel, zip_hosts}
use Rattle.project_runs.proofs.Places.{kernel_there}
use Rattle.project_runs.proofs.Network.{Kernels, Fifo}
use Rattle.project_runs.proofs.Fifos.{kernels_of, HostAt, Which, FromHost, ToHost, Between, fifo_of, host_fed, host_gives, output_number, network}
use Rattle.project_runs.proofs.Steady.{second_at}
use Rattle.project_runs.proofs.Parts.{ByLaw}
use Rattle.project_runs.proofs.Runs.{offered_there, positions_of, joined, contents, all_run, running}
use Rattle.project_on_time.proofs.Counts.{grows, counts, IsActive, due_before}
use Rattle.project_on_time.proofs.Schedule.{Timing, IsScheduled, IsInTime, IsStill}
use Rattle.project_on_time.proofs.Kept.{IsKept, left_none, times_kept}
use Rattle.project_on_time.proofs.Balance.{last, given_count, taken_count, total_count, gives, takes}
use Rattle.project_on_time.proofs.Draining.{drained, all_after}
use Rattle.project_on_time.proofs.Done.{hold_net, all_around}

-- nothing has to be shown where no edge follows the reset edge
by_edges : {I : Type 0} (o : Outer) (fifo : I → Fifo) (b : Timing I) (steady : List ℕ) (es : List Event) (Vs : List Families) (left : List (List ℕ)) (still : List ℕ)
    → Driven o steady left es (own_of Vs)
    → ((x : I) → b.taken x 0 ≤ 0)
    → (((i : ℕ) (x : Channel) → slice_get o.inputs i ≡ Some x → slice_get left i ≡ Some (slice_index_or left i [])) → IsKept o fifo b es Vs left still 0 (λ x. 0))
    → IsKept o fifo b es Vs left still 0 (λ x. 0)
by_edges o fifo b steady [] [] left still driven none kept = record { left_by = λ x. left_none (b.taken x) 0 0 (fifo x).taker (none x); done = tt }
by_edges o fifo b steady (e ∷ es) [] left still driven none kept = absurd driven
by_edges o fifo b steady [] (V ∷ Vs) left still driven none kept = absurd driven
by_edges o fifo b steady (e ∷ es) (V ∷ Vs) left still driven none kept =
    kept (λ i x at. offered_there e 0 o.inputs left (V []) i x driven.0.offered at)

module _ (project : Project) (times : List (List ℤ)) (made : Links) (inners : List Module) (positions : ℕ → ℕ) (given : GivenProject) (values : ProjectValues) where
  abbrev ks : Kernels
  ks = kernels_of project inners (times_of times) positions given values

  abbrev fifo : Which project → Fifo
  fifo = fifo_of project made inners given values

  abbrev top : Module
  top = top_module project

  abbrev start : Starts
  start = slice_index made.starts

  abbrev timing : Timing (Which project)
  timing = record {
    start = start;
    last = last project times made inners positions given values;
    hold = hold_net project made inners (times_of times) positions given values;
    given = given_count project times made inners positions given values;
    taken = taken_count project times made inners positions given values;
    total = total_count project times made inners positions given values;
    most = done_count times start given 0 project.kernels;
  }

  scheduled : AreLinksOf project times made → IsBalanced project times made given values → map ends_of_link made.links ≡ project.joints.links
      → IsScheduled ks (outer project top) fifo timing
  scheduled links balanced same = record {
    running = λ k p lt. lt-leb (timing.last k) p lt;
    ended = λ k p le. le-leb (timing.last k) p le;
    gives = gives project times made inners positions given values balanced same;
    takes =
        takes project times made inners positions given values balanced same timing.most (λ N k le lt. all_after project times start given N k le lt)
        (λ h. kernel_there project.kernels is_output h.host.port (host_gives project h));
    drained = drained project (times_of times) made inners positions given values;
    holds = λ k lt.
        let names = kernel_names project.kernels in
        let l = length_map (λ (kernel : Kernel). kernel.name) project.kernels in
        second_at top names 2 k (omega arith) ∙ ap (λ (n : ℕ). Some n) (top_net project (2 + 2 * k) (omega arith));
    after = λ N k le lt. let a = all_after project times start given N k le lt in omega (arith, a);
  }

  -- ---- the first edge behind the reset edge

  none_taken : (x : Which project) → timing.taken x 0 ≤ 0
  none_taken (FromHost h) =
      let e : 0 - start h.host.port.kernel ≡ 0 = omega arith in
      let f = ap (λ j. count_before ((ks.timed h.host.port.kernel).due h.host.port.node) j) e in
      omega (arith, f)
  none_taken (ToHost h) =
      let e : 0 - 1 - start h.host.port.kernel ≡ 0 = omega arith in
      let f = ap (λ j. count_before ((ks.timed h.host.port.kernel).due h.host.port.node) j) e in
      omega (arith, f)
  none_taken (Between l) =
      let e : 0 - start l.link.to.kernel ≡ 0 = omega arith in
      let f = ap (λ j. count_before ((ks.timed l.link.to.kernel).due l.link.to.node) j) e in
      omega (arith, f)

  none_given : AreLinksOf project times made → (x : Which project) → timing.given x 0 ≤ 0
  none_given links (FromHost h) =
      let one = links.starts.legal.one h.host.port.kernel (kernel_there project.kernels is_input h.host.port (host_fed project h)) in
      let e : 0 + 1 - start h.host.port.kernel ≡ 0 = omega (arith, one) in
      let f = ap (λ j. count_before ((ks.timed h.host.port.kernel).due h.host.port.node) j) e in
      omega (arith, f)
  none_given links (ToHost h) =
      let e : 0 - start h.host.port.kernel ≡ 0 = omega arith in
      let f = ap (λ j. count_before ((ks.timed h.host.port.kernel).due h.host.port.node) j) e in
      omega (arith, f)
  none_given links (Between l) =
      let e : 0 - start l.link.from.kernel ≡ 0 = omega arith in
      let f = ap (λ j. count_before ((ks.timed l.link.from.kernel).due l.link.from.node) j) e in
      omega (arith, f)

  all_still : (x : Which project) → IsStill (all_reads project given values) (timing.total x) (0 + length {A = ℕ} []) (fifo x).giver
  all_still (FromHost h) =
      let total = reads_of project given values h.host in
      let e : total ≡ total - 0 = omega arith in
      get_map (reads_of project given values) project.joints.inputs h.number h.host h.at ∙ ap (λ (n : ℕ). Some n) e
  all_still (ToHost h) = tt
  all_still (Between l) = tt

  begins : AreLinksOf project times made → (x : Which project)
      → IsInTime (timing.total x) (timing.given x) (timing.taken x) (all_reads project given values) (fifo x).giver 0 0 (0 + length {A = ℕ} [])
  begins links x = record { given = none_given links x; taken = none_taken x; still_is = all_still x }

  -- the word of a tick has left by then
  has_left : (h : HostAt project.joints.outputs) (N left : ℕ) → timing.taken (ToHost h) N ≤ 0 + left → HasLeft project times start given values h.host.port N left
  has_left h N left le t within on far =
      let port = h.host.port in
      let due = (ks.timed port.kernel).due port.node in
      let test = enabled_at project values port in
      let time = time_of times port in
      let active : IsActive due test time (given.ticks port.kernel) = record { is = λ p. refl } in
      let a = due_before due test time (given.ticks port.kernel) (suc t) active (omega arith) in
      let b = (grows due).up (time + suc t) (N - 1 - start port.kernel) (omega arith) in
      let c = counts test t on in
      omega (arith, a, b, c, le)

pub runs_on_time : ByLaw → (project : Project) (times : List (List ℤ)) (made : Links) (inners : List Module) (d : Design)
    → AllRefine project times inners → AreLinksOf project times made → IsProjectOf project made inners d → RunsOnTime project d (top_module project) times made
runs_on_time law project times made inners d refine links is given values es c V Vs short equations guarded balanced edges driven =
    let top = top_module project in
    let o = outer project top in
    let positions = positions_of project (times_of times) inners refine.each in
    let ks = kernels_of project inners (times_of times) positions given values in
    let fifo = fifo_of project made inners given values in
    let b = timing project times made inners positions given values in
    let first = driven.0.reset in
    let all_joined = joined law project (times_of times) made inners d refine.each is given values short equations guarded c V Vs edges first es driven.1 in
    let around = all_around project made inners (times_of times) positions given values (after_edge top (c []) (V [])) Vs all_joined.1 (law d top c (V ∷ Vs) edges).own.1 in
    let kept : IsKept o fifo b es Vs given.words (all_reads project given values) 0 (λ x. 0) =
    by_edges o fifo b (steady_of project given) es Vs given.words (all_reads project given values) driven.1
    (none_taken project times made inners positions given values)
    (λ are.
    times_kept ks o fifo b (steady_of project given) es Vs (λ k. 0)
    (contents law project (times_of times) made inners d refine.each is given values short equations guarded c V Vs edges first es driven.1)
    given.words (all_reads project given values) 0 (λ x. 0) (λ x. [])
    (network project made inners (times_of times) positions given values)
    (scheduled project times made inners positions given values links balanced is.links)
    around driven.1
    (running law project (times_of times) made inners d refine.each is given values short equations guarded c V Vs edges first es driven.1 are)
    (all_run law project (times_of times) made inners d refine.each is given values short equations guarded c V Vs edges first es driven.1)
    (λ k lt. omega arith)
    (begins project times made inners positions given values links)) in
    record {
      left =
          zip_hosts
          (LeavesBy project times (slice_index made.starts) given values (unstalled_in o (all_reads project given values) given.words 0 es (own_of Vs)) (own_of Vs))
          top project.joints.outputs (first_output (shape_of project))
          (λ i host at.
          let h : HostAt project.joints.outputs = record { number = i; host = host; at = at } in
          has_left project times made inners positions given values h (unstalled_in o (all_reads project given values) given.words 0 es (own_of Vs))
          (length (moved (channel top (output_number project i)) (own_of Vs))) (kept.left_by (ToHost h)));
      done = kept.done;
    }
