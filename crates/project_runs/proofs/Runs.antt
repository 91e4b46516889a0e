-- The design of a project runs as the stream equations.
use Rattle.std.proofs.Common.{◌≡◌, ℕ, ℤ, zero, suc, ◌+◌, ◌<◌, List, [], ◌∷◌, map, Option, Some, None, length, refl, sym, ◌∙◌, subst, arith}
use Rattle.std.specs.Prelude.{slice_get, slice_index_or, unwrap_or}
use Rattle.std.specs.Option.{option_map_or}
use Rattle.rtl_ir.specs.declared.design.Design.{Design}
use Rattle.rtl_ir.specs.declared.design.Module.{Module}
use Rattle.rtl_ir.specs.Value.{Family, Contents}
use Rattle.rtl_ir.specs.Edge.{after_edge}
use Rattle.rtl_ir.specs.Flat.{Families, AllContents, EdgesFlat}
use Rattle.rtl_ir.specs.Parts.{own_of, below_all}
use Rattle.rtl_ir.specs.Run.{Channel, Outer, Event, moved, NoneAccepted, OfferedAll, Driven, Agrees}
use Rattle.rtl_ir.specs.Ports.{first_input, first_output}
use Rattle.stream_graph.specs.declared.kernel.Kernel.{Kernel}
use Rattle.stream_graph.specs.declared.node.Node.{Node}
use Rattle.kernel_control.specs.Ports.{nets_of}
use Rattle.kernel_control.specs.Refines.{Refines, RunsAs}
use Rattle.manager_links.specs.declared.links.Links.{Links}
use Rattle.manager_links.specs.declared.project.Project.{Project}
use Rattle.project_streams.specs.Streams.{GivenProject, ProjectValues, ProjectEquations, nodes_at, run_of, words_of}
use Rattle.project_streams.specs.Guarded.{IsGuarded}
use Rattle.project_rtl.specs.Shapes.{shape_of, host_shape}
use Rattle.project_rtl.specs.Tops.{top_module}
use Rattle.project_rtl.specs.Projects.{IsProjectOf}
use Rattle.project_rtl.specs.Kept.{times_of, AllRefine}
use Rattle.project_rtl.specs.Words.{AreShort, steady_of, outer, AgreesWith, RunsAsEquations}
use Rattle.project_runs.proofs.Steps.{agrees_from, none_left}
use Rattle.project_runs.proofs.Lists.{IsThere, there, within, length_map}
use Rattle.project_runs.proofs.Lookups.{channel, outer_at, zip_hosts}
use Rattle.project_runs.proofs.Network.{Kernels, Taker, Fifo, HasGiven, HasTaken, IsRunning, AllRun, HasLeft}
use Rattle.project_runs.proofs.Edges.{none_yet}
use Rattle.project_runs.proofs.Networks.{words_leave}
use Rattle.project_runs.proofs.Fifos.{kernels_of, HostAt, Which, FromHost, ToHost, Between, input_number, output_number, fifo_of, host_words, network}
use Rattle.project_runs.proofs.Wiring.{nets_for, AllJoined, all_joined, are_wired}
use Rattle.project_runs.proofs.Steady.{reset_is, steady}
use Rattle.project_runs.proofs.Parts.{ByLaw, IsPart, kernel_part, fifo_part, begins_empty}

-- ---- where the modules of the kernels have their positions

-- the position of a module that refines a kernel, where both are there
abbrev pub position_in : (t : ℕ → ℕ) (o : Option Kernel) (p : Option Module) → ((kernel : Kernel) (m : Module) → o ≡ Some kernel → p ≡ Some m → Refines m kernel t) → ℕ
position_in t (Some kernel) (Some m) h = (h kernel m refl refl).position
position_in t (Some kernel) None h = 0
position_in t None p h = 0

abbrev pub nodes_in : Option Kernel → List Node
nodes_in o = option_map_or (λ (kernel : Kernel). kernel.nodes) o []

runs_in : (t : ℕ → ℕ) (o : Option Kernel) (p : Option Module) (top : Module) (h : (kernel : Kernel) (m : Module) → o ≡ Some kernel → p ≡ Some m → Refines m kernel t)
    → IsThere o → IsThere p → RunsAs (unwrap_or p top) (nets_of (nodes_in o) (unwrap_or p top) (position_in t o p h)) (nodes_in o) t
runs_in t (Some kernel) (Some m) top h a b = (h kernel m refl refl).runs
runs_in t (Some kernel) None top h a b = absurd (let e = b.at in cc)
runs_in t None p top h a b = absurd (let e = a.at in cc)

abbrev pub positions_of : (project : Project) (times : ℕ → ℕ → ℕ) (inners : List Module)
    → ((k : ℕ) (kernel : Kernel) (m : Module) → slice_get project.kernels k ≡ Some kernel → slice_get inners k ≡ Some m → Refines m kernel (times k))
    → ℕ → ℕ
positions_of project times inners refines k = position_in (times k) (slice_get project.kernels k) (slice_get inners k) (refines k)

-- ---- what is known where edges follow the reset edge

-- the words of a stream from the host are there
pub offered_there : (e : Event) (k : ℕ) (chs : List Channel) (left : List (List ℕ)) (v : Family) (i : ℕ) (x : Channel)
    → OfferedAll e k chs left v → slice_get chs i ≡ Some x → slice_get left i ≡ Some (slice_index_or left i [])
offered_there e k [] left v i x h a = absurd (cc)
offered_there e k (ch ∷ chs) [] v i x h a = absurd h
offered_there e k (ch ∷ chs) (ws ∷ left) v zero x h a = refl
offered_there e k (ch ∷ chs) (ws ∷ left) v (suc i) x h a = offered_there e (k + 1) chs left v i x h.1 a

pub none_at : (chs : List Channel) (v : Family) (i : ℕ) (x : Channel) → NoneAccepted chs v → slice_get chs i ≡ Some x → v x.ready ≡ 0
none_at [] v i x h e = absurd (cc)
none_at (ch ∷ chs) v zero x h e = let same : ch ≡ x = cc in subst (λ (y : Channel). v y.ready ≡ 0) same h.0
none_at (ch ∷ chs) v (suc i) x h e = none_at chs v i x h.1 e

-- so nothing has to be shown of what leaves where they aren't
by_edges : (o : Outer) (steady : List ℕ) (left : List (List ℕ)) (es : List Event) (Vs : List Families) (word : ℕ → Option (Option ℕ)) (n : ℕ) (t : Taker)
    → Driven o steady left es (own_of Vs)
    → (((i : ℕ) (x : Channel) → slice_get o.inputs i ≡ Some x → slice_get left i ≡ Some (slice_index_or left i [])) → HasLeft word n t Vs)
    → HasLeft word n t Vs
by_edges o steady left es [] word n t driven shown = none_yet word n t
by_edges o steady left [] (V ∷ Vs) word n t driven shown = absurd driven
by_edges o steady left (e ∷ es) (V ∷ Vs) word n t driven shown =
    shown (λ i x at. offered_there e 0 o.inputs left (V []) i x driven.0.offered at)

module _ (law : ByLaw) (project : Project) (times : ℕ → ℕ → ℕ) (made : Links) (inners : List Module) (d : Design)
    (refines : (k : ℕ) (kernel : Kernel) (m : Module) → slice_get project.kernels k ≡ Some kernel → slice_get inners k ≡ Some m → Refines m kernel (times k))
    (is : IsProjectOf project made inners d) (given : GivenProject) (values : ProjectValues) where
  abbrev top : Module
  top = top_module project

  abbrev pub positions : ℕ → ℕ
  positions = positions_of project times inners refines

  abbrev ks : Kernels
  ks = kernels_of project inners times positions given values

  abbrev fifo : Which project → Fifo
  fifo = fifo_of project made inners given values

  kernel_runs : (k : ℕ) → k < length project.kernels → RunsAs (ks.body k) (ks.nets k) (nodes_at project.kernels k) (times k)
  kernel_runs k lt =
      let n = is.kernels in
      runs_in (times k) (slice_get project.kernels k) (slice_get inners k) top (refines k) (there project.kernels k lt) (there inners k (omega arith))

  module _ (short : AreShort project given) (equations : ProjectEquations project given values) (guarded : IsGuarded project given values)
      (c : AllContents) (V : Families) (Vs : List Families) (edges : EdgesFlat d top c (V ∷ Vs)) (first : V [] (outer project top).reset ≡ 1)
      (es : List Event) (driven : Driven (outer project top) (steady_of project given) given.words es (own_of Vs)) where
    kernel : (k : ℕ) → k < length project.kernels → IsPart (ks.body k) (ks.number k) (nets_for project k (nodes_at project.kernels k)) c (V ∷ Vs)
    kernel k lt = kernel_part law project made inners d is given values k c (V ∷ Vs) lt edges

    pub joined : AllJoined project made inners times positions given values (V ∷ Vs)
    joined = all_joined project made inners times positions given values (V ∷ Vs) (λ k lt. let p = kernel k lt in record { joint = p.joint; same = p.same; joins = p.joins })

    abbrev pub contents : ℕ → Contents
    contents k = after_edge (ks.body k) (c (ks.number k ∷ [])) (V (ks.number k ∷ []))

    pub all_run : AllRun ks (λ k. 0) contents Vs
    all_run k lt =
        let kv : Family = V (ks.number k ∷ []) in
        kernel_runs k lt (run_of project given values k) (values k) (c (ks.number k ∷ [])) kv (own_of (below_all (ks.number k) Vs))
        (short k lt) (equations k lt)
        (λ n control t within is_control tick none. guarded (record { kernel = k; node = n; tick = t })
        (record { kernel = lt; node = within; tick = tick; control = control; is = is_control; undefined = none }))
        (kernel k lt).edges
        (reset_is project inners given k (V []) kv (joined.0 k lt) ∙ first)
        (steady project made inners times positions given values k given.words es Vs lt joined.1 driven)

    -- ---- the FIFOs behind the reset edge

    abbrev pub AreThere : Type 0
    AreThere = (i : ℕ) (x : Channel) → slice_get (outer project top).inputs i ≡ Some x → slice_get given.words i ≡ Some (host_words given i)

    given_yet : AreThere → (x : Which project) → HasGiven ks (λ k. 0) given.words (fifo x).giver (0 + length {A = ℕ} [])
    given_yet are (FromHost h) =
        let w = within project.joints.inputs h.number h.host h.at in
        let m = length_map host_shape project.joints.inputs in
        are h.number (channel top (input_number project h.number)) (outer_at top (map host_shape project.joints.inputs) (first_input (shape_of project)) h.number (omega arith))
    given_yet are (ToHost h) = refl
    given_yet are (Between l) = refl

    taken_yet : (x : Which project) → HasTaken ks (λ k. 0) (fifo x).taker 0
    taken_yet (FromHost h) = refl
    taken_yet (ToHost h) = tt
    taken_yet (Between l) = refl

    pub running : AreThere → (x : Which project) → IsRunning ks (λ k. 0) given.words (fifo x) 0 [] Vs
    running are x =
        let p = fifo_part law project made inners d is given values x c (V ∷ Vs) edges in
        record {
          wired = are_wired project made inners times positions given values x p.module_is p.piece.joint Vs p.is_fifo.numbered p.piece.same joined.1 p.piece.joins.1;
          shows = begins_empty law project made inners d is given values x c V Vs (steady_of project given) given.words es first driven p;
          agree = tt;
          given = given_yet are x;
          taken = taken_yet x;
        }

    left : (x : Which project) → HasLeft (fifo x).word 0 (fifo x).taker Vs
    left x =
        by_edges (outer project top) (steady_of project given) given.words es Vs (fifo x).word 0 (fifo x).taker driven
        (λ are.
        words_leave ks (outer project top) fifo (steady_of project given) es Vs (λ k. 0) contents given.words (λ y. 0) (λ y. [])
        (network project made inners times positions given values) driven (running are) all_run x)

    pub leaves : NoneAccepted (outer project top).outputs (V []) → (h : HostAt project.joints.outputs)
        → AgreesWith project given values (own_of (V ∷ Vs)) (channel top (output_number project h.number)) h.host
    leaves none h =
        let x = channel top (output_number project h.number) in
        let words = words_of project.kernels given values h.host.port in
        let rest = moved x (own_of Vs) in
        let w = within project.joints.outputs h.number h.host h.at in
        let m = length_map host_shape project.joints.outputs in
        let refused = none_at (outer project top).outputs (V []) h.number x none (outer_at top (map host_shape project.joints.outputs) (first_output (shape_of project)) h.number (omega arith)) in
        let whole : Agrees rest words = agrees_from words 0 rest (left (ToHost h)) in
        subst (λ l. Agrees l words) (sym (none_left x (V []) rest refused)) whole

pub runs : ByLaw → (project : Project) (times : List (List ℤ)) (made : Links) (inners : List Module) (d : Design)
    → AllRefine project times inners → IsProjectOf project made inners d → RunsAsEquations project d (top_module project)
runs law project times made inners d refine is given values es c [] short equations guarded edges driven = absurd driven
runs law project times made inners d refine is given values es c (V ∷ Vs) short equations guarded edges driven =
    zip_hosts (AgreesWith project given values (own_of (V ∷ Vs))) (top_module project) project.joints.outputs (first_output (shape_of project))
    (λ i host at.
    leaves law project (times_of times) made inners d refine.each is given values short equations guarded c V Vs edges driven.0.reset es driven.1 driven.0.none_accepted
    (record { number = i; host = host; at = at }))
