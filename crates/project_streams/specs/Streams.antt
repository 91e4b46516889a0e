-- The streams of a project: for each kernel, each of its nodes and each tick a word, or none where
-- it is undefined. They say nothing of hardware.
use Rattle.std.specs.Prelude.{ℕ, ◌+◌, ◌<◌, if◌then◌else◌, List, [], ◌∷◌, length, Option, Some, None, slice_get, slice_index_or}
use Rattle.std.specs.Option.{option_map_or}
use Rattle.stream_graph.specs.declared.kernel.Kernel.{Kernel}
use Rattle.stream_graph.specs.declared.node.Node.{Node}
use Rattle.stream_equations.specs.Equations.{GivenRun, Values, StreamEquations, chosen}
use Rattle.stream_equations.specs.Words.{port_words}
use Rattle.manager_links.specs.declared.hosts.HostPort.{HostPort}
use Rattle.manager_links.specs.declared.links.LinkEnds.{LinkEnds}
use Rattle.manager_links.specs.declared.links.PortAt.{PortAt}
use Rattle.manager_links.specs.declared.project.Project.{Project}
use Rattle.manager_links.specs.Ports.{is_same_port}

-- What is given to a run: the ticks of each kernel, 0 up to below their number; the word of each
-- scalar, by its kernel and node; and the words of each stream from the CPU, in the order of these.
pub record GivenProject : Type 0 where
  pub ticks : ℕ → ℕ
  pub scalar : ℕ → ℕ → ℕ
  pub words : List (List ℕ)

-- by kernel, node and tick
abbrev pub ProjectValues : Type 0
ProjectValues = ℕ → Values

-- the nodes of the kernel of this number
abbrev pub nodes_at : List Kernel → ℕ → List Node
nodes_at kernels k = option_map_or (λ (kernel : Kernel). kernel.nodes) (slice_get kernels k) []

-- ---- what feeds an input

-- the output that the first of these links to it comes from
abbrev pub link_to : List LinkEnds → PortAt → Option PortAt
link_to [] port = None
link_to (link ∷ links) port =
    if is_same_port link.to port then Some link.from else link_to links port

-- the number of the first of these streams from the CPU that goes to it; they are numbered from
-- this one on
abbrev pub host_to : ℕ → List HostPort → PortAt → Option ℕ
host_to number [] port = None
host_to number (host ∷ hosts) port =
    if is_same_port host.port port then Some number else host_to (number + 1) hosts port

-- the word of this number of a stream from the CPU, none past its end
abbrev pub host_word : GivenProject → Option ℕ → ℕ → Option ℕ
host_word given None n = None
host_word given (Some number) n = slice_get (slice_index_or given.words number []) n

-- ---- the equations

-- The run of a kernel where its inputs have these sources, by node and number of the word.
abbrev pub run_from : GivenProject → ℕ → (ℕ → ℕ → Option ℕ) → GivenRun
run_from given k source =
    record { ticks = given.ticks k; scalar = given.scalar k; source = source }

-- The words of a port of kernels, in order. They don't hang on the sources of its kernel beside the
-- values.
abbrev pub words_of : List Kernel → GivenProject → ProjectValues → PortAt → List (Option ℕ)
words_of kernels given values port =
    port_words (nodes_at kernels port.kernel) (run_from given port.kernel (λ _ _. None))
    (values port.kernel) port.node

-- The word of this number that comes to an input: of the output that it is linked from, where an
-- undefined one stays undefined, else of the stream from the CPU.
abbrev pub word_from :
    List Kernel → GivenProject → ProjectValues → Option PortAt → Option ℕ → ℕ → Option ℕ
word_from kernels given values (Some output) host n =
    chosen (words_of kernels given values output) n
word_from kernels given values None host n = host_word given host n

-- the run of the kernel of this number in a run of its project
abbrev pub run_of : Project → GivenProject → ProjectValues → ℕ → GivenRun
run_of project given values k =
    run_from given k
    (λ node. word_from project.kernels given values
    (link_to project.joints.links (record { kernel = k; node = node }))
    (host_to 0 project.joints.inputs (record { kernel = k; node = node })))

-- The words of all nodes of all kernels in a run: those of each kernel satisfy its equations over
-- what comes to its inputs.
abbrev pub ProjectEquations : Project → GivenProject → ProjectValues → Type 0
ProjectEquations project given values =
    (k : ℕ)
    → k < length project.kernels
    → StreamEquations (nodes_at project.kernels k) (run_of project given values k) (values k)
