-- The words that leave the design of a project in a run.
use Rattle.std.specs.Prelude.{ℕ, ◌+◌, ◌<◌, ◌≤◌, ◌^◌, List, [], ◌∷◌, ◌++◌, map, length}
use Rattle.std.specs.List.{AllZip}
use Rattle.rtl_ir.specs.declared.design.Design.{Design}
use Rattle.rtl_ir.specs.declared.design.Module.{Module}
use Rattle.rtl_ir.specs.Value.{Family}
use Rattle.rtl_ir.specs.Flat.{AllContents, Families, EdgesFlat}
use Rattle.rtl_ir.specs.Parts.{own_of}
use Rattle.rtl_ir.specs.Run.{Channel, Outer, Event, moved, IsDriven, Agrees}
use Rattle.rtl_ir.specs.Ports.{outer_of}
use Rattle.stream_graph.specs.declared.kernel.Kernel.{Kernel}
use Rattle.kernel_control.specs.Ports.{scalars_of}
use Rattle.manager_links.specs.declared.hosts.HostPort.{HostPort}
use Rattle.manager_links.specs.declared.project.Project.{Project}
use Rattle.project_streams.specs.Streams.{GivenProject, ProjectValues, ProjectEquations, words_of}
use Rattle.project_streams.specs.Guarded.{IsGuarded}
use Rattle.project_rtl.specs.Shapes.{shape_of}

-- ---- what is given to a run

-- each kernel has at most 2^40 ticks
abbrev pub AreShort : Project → GivenProject → Type 0
AreShort project given = (k : ℕ) → k < length project.kernels → given.ticks k ≤ 2 ^ 40

-- the ticks of these kernels, which are numbered from this number on
abbrev pub ticks_from : GivenProject → ℕ → List Kernel → List ℕ
ticks_from given k [] = []
ticks_from given k (kernel ∷ kernels) = given.ticks k ∷ ticks_from given (k + 1) kernels

-- the words of their scalars
abbrev pub scalars_from : GivenProject → ℕ → List Kernel → List ℕ
scalars_from given k [] = []
scalars_from given k (kernel ∷ kernels) =
    map (given.scalar k) (scalars_of kernel.nodes) ++ scalars_from given (k + 1) kernels

-- what stays the same in all edges of a run
abbrev pub steady_of : Project → GivenProject → List ℕ
steady_of project given =
    ticks_from given 0 project.kernels ++ scalars_from given 0 project.kernels

-- ---- what leaves

-- the nets of the design by which a run sees it
abbrev pub outer : Project → Module → Outer
outer project top = outer_of (shape_of project) top

-- the words that moved over a channel agree with a beginning of those of the stream to the host
abbrev pub AgreesWith :
    Project → GivenProject → ProjectValues → List Family → Channel → HostPort → Type 0
AgreesWith project given values vs channel host =
    Agrees (moved channel vs) (words_of project.kernels given values host.port)

-- In every guarded run in which each kernel has at most 2^40 ticks, from any contents, whatever
-- waits, is refused or held, the words that left by each stream to the host agree with a beginning
-- of those of the stream equations. Nothing is needed of how deep the links are.
abbrev pub RunsAsEquations : Project → Design → Module → Type 0
RunsAsEquations project d top =
    (given : GivenProject) (values : ProjectValues) (events : List Event)
    (c : AllContents) (vs : List Families)
    → AreShort project given
    → ProjectEquations project given values
    → IsGuarded project given values
    → EdgesFlat d top c vs
    → IsDriven (outer project top) (steady_of project given) given.words events (own_of vs)
    → AllZip (AgreesWith project given values (own_of vs)) (outer project top).outputs
    project.joints.outputs
