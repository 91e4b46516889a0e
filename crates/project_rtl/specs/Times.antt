-- When the words of a run have left the design of a project, and when the design is done: after so
-- many edges in which nothing waits for the host, wherever these stand among the others.
use Rattle.std.specs.Prelude.{
  ◌≡◌,
  ℕ,
  ◌+◌,
  ◌-◌,
  ◌<◌,
  ◌≤◌,
  max,
  Bool,
  true,
  false,
  not,
  ◌&&◌,
  ◌||◌,
  if◌then◌else◌,
  nat_eq,
  ℤ,
  List,
  [],
  ◌∷◌,
  map,
  length,
  slice_index,
}
use Rattle.std.specs.List.{AllZip}
use Rattle.rtl_ir.specs.declared.design.Design.{Design}
use Rattle.rtl_ir.specs.declared.design.Module.{Module}
use Rattle.rtl_ir.specs.Value.{Family}
use Rattle.rtl_ir.specs.Flat.{AllContents, Families, EdgesFlat}
use Rattle.rtl_ir.specs.Parts.{own_of}
use Rattle.rtl_ir.specs.Run.{Channel, Outer, Event, moves, moved, left_of, IsDriven}
use Rattle.stream_graph.specs.declared.kernel.Kernel.{Kernel}
use Rattle.stream_equations.specs.Equations.{enabled, count_before}
use Rattle.kernel_control.specs.Refines.{last_time}
use Rattle.manager_links.specs.declared.hosts.HostPort.{HostPort}
use Rattle.manager_links.specs.declared.links.Links.{Links}
use Rattle.manager_links.specs.declared.links.PortAt.{PortAt}
use Rattle.manager_links.specs.declared.project.Project.{Project}
use Rattle.manager_links.specs.Starts.{Starts}
use Rattle.project_streams.specs.Streams.{
  GivenProject,
  ProjectValues,
  ProjectEquations,
  nodes_at,
}
use Rattle.project_streams.specs.Guarded.{IsGuarded}
use Rattle.project_streams.specs.Balanced.{IsBalanced}
use Rattle.project_streams.specs.Ideal.{due_count}
use Rattle.project_rtl.specs.Kept.{times_of}
use Rattle.project_rtl.specs.Words.{AreShort, steady_of, outer}

-- ---- edges in which nothing waits for the host

-- whether a port is enabled in a tick of its kernel
abbrev pub enabled_at : Project → ProjectValues → PortAt → ℕ → Bool
enabled_at project values port =
    enabled (nodes_at project.kernels port.kernel) (values port.kernel) port.node

-- how many words a run reads of a stream from the host: one in each enabled tick of the input that
-- it feeds
abbrev pub reads_of : Project → GivenProject → ProjectValues → HostPort → ℕ
reads_of project given values host =
    count_before (enabled_at project values host.port) (given.ticks host.port.kernel)

-- how many words it reads of each
abbrev pub all_reads : Project → GivenProject → ProjectValues → List ℕ
all_reads project given values = map (reads_of project given values) project.joints.inputs

-- none of these kernels, from number k on, is held
abbrev pub none_held : Event → ℕ → List ℕ → Bool
none_held e k [] = true
none_held e k (hold ∷ holds) = not (e.held k) && none_held e (k + 1) holds

-- each of these outputs, from number k on, accepts
abbrev pub all_accept : Event → ℕ → List Channel → Bool
all_accept e k [] = true
all_accept e k (ch ∷ chs) = e.accepts k && all_accept e (k + 1) chs

abbrev pub has_one : List ℕ → Bool
has_one [] = false
has_one (w ∷ ws) = true

-- Each input from number k on offers a word, unless all words that the run reads of it were taken.
-- `still` says how many words of each input it has yet to take, `left` has the words that were not
-- taken.
abbrev pub all_offer : Event → ℕ → List ℕ → List (List ℕ) → Bool
all_offer e k [] left = true
all_offer e k (n ∷ ns) [] = false
all_offer e k (n ∷ ns) (ws ∷ left) =
    (nat_eq n 0 || (e.offers k && has_one ws)) && all_offer e (k + 1) ns left

-- no kernel is held, each output accepts, and each input offers a word that is to be read yet
abbrev pub is_unstalled : Outer → Event → List ℕ → List (List ℕ) → Bool
is_unstalled o e still left =
    none_held e 0 o.holds && (all_accept e 0 o.outputs && all_offer e 0 still left)

-- how many words of each input are to be taken after an edge
abbrev pub still_of : List Channel → List ℕ → Family → List ℕ
still_of [] still v = still
still_of (ch ∷ chs) [] v = []
still_of (ch ∷ chs) (n ∷ still) v = (if moves ch v then n - 1 else n) ∷ still_of chs still v

abbrev pub next_count : Bool → ℕ → ℕ
next_count unstalled count = if unstalled then count + 1 else count

-- how many of these edges are such, beside so many before them
abbrev pub unstalled_in :
    Outer → List ℕ → List (List ℕ) → ℕ → List Event → List Family → ℕ
unstalled_in o still left count [] vs = count
unstalled_in o still left count (e ∷ es) [] = count
unstalled_in o still left count (e ∷ es) (v ∷ vs) =
    unstalled_in o (still_of o.inputs still v) (left_of o.inputs left v)
    (next_count (is_unstalled o e still left) count) es vs

-- ---- what has left by then

-- After so many such edges the word of each enabled tick of an output has left, if it is due by
-- then.
abbrev pub HasLeft :
    Project → List (List ℤ) → Starts → GivenProject → ProjectValues → PortAt → ℕ → ℕ → Type 0
HasLeft project times start given values port count left =
    (t : ℕ)
    → t < given.ticks port.kernel
    → enabled_at project values port t ≡ true
    → due_count times start port t ≤ count
    → count_before (enabled_at project values port) t < left

-- so it is with a stream to the host and the words that moved over its channel
abbrev pub LeavesBy :
    Project → List (List ℤ) → Starts → GivenProject → ProjectValues → ℕ → List Family
    → Channel → HostPort → Type 0
LeavesBy project times start given values count vs channel host =
    HasLeft project times start given values host.port count (length (moved channel vs))

-- in each edge before which so many such edges were made, the design is done
abbrev pub IsDoneBy :
    Outer → ℕ → List ℕ → List (List ℕ) → ℕ → List Event → List Family → Type 0
IsDoneBy o most still left count [] vs = Unit {0}
IsDoneBy o most still left count (e ∷ es) [] = Unit {0}
IsDoneBy o most still left count (e ∷ es) (v ∷ vs) =
    (most ≤ count → v o.done ≡ 1)
    × IsDoneBy o most (still_of o.inputs still v) (left_of o.inputs left v)
    (next_count (is_unstalled o e still left) count) es vs

-- After so many such edges all of these kernels have ended, which are numbered from this number on,
-- and their last words have left: a kernel ends where its ticks and the greatest time of its ports
-- have passed since its start.
abbrev pub done_count : List (List ℤ) → Starts → GivenProject → ℕ → List Kernel → ℕ
done_count times start given k [] = 0
done_count times start given k (kernel ∷ kernels) =
    max (start k + given.ticks k + last_time kernel.nodes (times_of times k) + 1)
    (done_count times start given (k + 1) kernels)

-- What a run has shown behind its reset edge: each word has left in time, and so the design is done.
pub record IsOnTime (project : Project) (times : List (List ℤ)) (start : Starts)
    (given : GivenProject) (values : ProjectValues) (o : Outer) (events : List Event)
    (vs : List Family) : Type 0
  where
    pub left :
        AllZip
        (LeavesBy project times start given values
        (unstalled_in o (all_reads project given values) given.words 0 events vs) vs)
        o.outputs project.joints.outputs
    pub done :
        IsDoneBy o (done_count times start given 0 project.kernels)
        (all_reads project given values) given.words 0 events vs

-- In every guarded and balanced run in which each kernel has at most 2^40 ticks, from any contents,
-- whatever waits, is refused or held, the words have left in time. The first edge is the reset edge.
abbrev pub RunsOnTime : Project → Design → Module → List (List ℤ) → Links → Type 0
RunsOnTime project d top times made =
    (given : GivenProject) (values : ProjectValues) (events : List Event)
    (c : AllContents) (v : Families) (vs : List Families)
    → AreShort project given
    → ProjectEquations project given values
    → IsGuarded project given values
    → IsBalanced project times made given values
    → EdgesFlat d top c (v ∷ vs)
    → IsDriven (outer project top) (steady_of project given) given.words events (own_of (v ∷ vs))
    → IsOnTime project times (slice_index made.starts) given values (outer project top) events
    (own_of vs)
