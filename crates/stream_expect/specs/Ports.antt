-- Ports as they are computed.
use Rattle.std.specs.Prelude.{◌≡◌, ℕ, ◌*◌, ◌<◌, ◌≤◌, ◌^◌, List, length, Some, slice_get}
use Rattle.kernel_words.specs.declared.streams.Streams.{Streams}
use Rattle.project_streams.specs.Ideal.{Port}
use Rattle.project_streams.specs.Streams.{nodes_at}
use Rattle.project_words.specs.declared.words.ProjectWords.{ProjectWords}
use Rattle.stream_graph.specs.declared.kernel.Kernel.{Kernel}

-- no kernel has more than 2^24 words
abbrev pub AreFew : List Kernel → ProjectWords → Type 0
AreFew kernels words =
    (k : ℕ) (streams : Streams)
    → slice_get words.kernels k ≡ Some streams
    → length (nodes_at kernels k) * streams.ticks ≤ 2 ^ 24

-- two ports are in tick 0 in one edge and have equally many ticks, in the same ones of which a word
-- is due
pub record IsSamePort (one other : Port) : Type 0 where
  pub begin : one.begin ≡ other.begin
  pub ticks : one.ticks ≡ other.ticks
  pub due : (t : ℕ) → t < one.ticks → one.due t ≡ other.due t
