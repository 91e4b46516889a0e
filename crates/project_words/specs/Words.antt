-- The words that a value has.
use Rattle.std.specs.Prelude.{ℕ, ◌≡◌, ◌<◌, List, length, Some, None, slice_get}
use Rattle.std.specs.Option.{option_map_or}
use Rattle.kernel_words.specs.Streams as OneKernel
use Rattle.kernel_words.specs.declared.streams.Streams.{Streams}
use Rattle.stream_graph.specs.declared.kernel.Kernel.{Kernel}
use Rattle.project_streams.specs.Streams.{GivenProject, ProjectValues, nodes_at}
use Rattle.project_words.specs.declared.words.ProjectWords.{ProjectWords}

-- by kernel, node and tick
abbrev pub values_of : ProjectWords → ProjectValues
values_of words k =
    option_map_or OneKernel.values_of (slice_get words.kernels k) (λ n t. None)

-- the words of each kernel are those of its ticks
abbrev pub HaveTicks : GivenProject → ProjectWords → Type 0
HaveTicks given words =
    (k : ℕ) (streams : Streams)
    → slice_get words.kernels k ≡ Some streams
    → streams.ticks ≡ given.ticks k

-- each word has the width of its node
abbrev pub HaveWidths : List Kernel → ProjectWords → Type 0
HaveWidths kernels words =
    (k : ℕ)
    → k < length kernels
    → OneKernel.AreWords (nodes_at kernels k) (values_of words k)
