-- What a value of a run gives to a project, and when it fits the project.
use Rattle.std.specs.Prelude.{ℕ, ◌≡◌, ◌<◌, ◌+◌, ◌*◌, ◌^◌, List, [], ◌∷◌, length, Some, slice_get, slice_index, slice_index_or}
use Rattle.fix_arith.specs.Types.{width_of}
use Rattle.manager_links.specs.declared.hosts.HostPort.{HostPort}
use Rattle.manager_links.specs.declared.project.Project.{Project}
use Rattle.stream_graph.specs.LookUps.{kind_at, width_at}
use Rattle.offset_edges.specs.Edges.{edges_of}
use Rattle.offset_edges.specs.Walks.{IsCausal}
use Rattle.project_streams.specs.Streams.{GivenProject, nodes_at}
use Rattle.project_words.specs.declared.given.ProjectRun.{ProjectRun}
use Rattle.stream_graph.specs.declared.kernel.Kernel.{Kernel}
use Rattle.stream_graph.specs.declared.node.Kind.TheVariants as K

-- the run that a value gives
abbrev pub given_of : ProjectRun → GivenProject
given_of run = record {
  ticks = λ k. slice_index run.ticks k;
  scalar = λ k n. slice_index (slice_index_or run.scalars k []) n;
  words = run.words;
}

-- there is something for each kernel and each stream from the CPU, and each word has the width of
-- its node or its stream
pub record IsGiven (project : Project) (run : ProjectRun) : Type 0 where
  pub ticks : length run.ticks ≡ length project.kernels
  pub scalars : length run.scalars ≡ length project.kernels
  pub nodes :
      (k : ℕ)
      → k < length project.kernels
      → length (slice_index_or run.scalars k []) ≡ length (nodes_at project.kernels k)
  pub scalar :
      (k n : ℕ)
      → k < length project.kernels
      → n < length (nodes_at project.kernels k)
      → kind_at (nodes_at project.kernels k) n ≡ K.Scalar
      → slice_index (slice_index_or run.scalars k []) n
      < 2 ^ width_at (nodes_at project.kernels k) n
  pub words : length run.words ≡ length project.joints.inputs
  pub word :
      (m j x : ℕ) (host : HostPort)
      → slice_get project.joints.inputs m ≡ Some host
      → slice_get (slice_index_or run.words m []) j ≡ Some x
      → x < 2 ^ width_of host.t

-- how many words kernels have in so many ticks each, one for each node in each tick
abbrev pub word_count : List Kernel → List ℕ → ℕ
word_count [] ticks = 0
word_count (kernel ∷ kernels) [] = 0
word_count (kernel ∷ kernels) (t ∷ ticks) = length kernel.nodes * t + word_count kernels ticks

-- no kernel reads a word that hangs on the same word
abbrev pub AreCausal : List Kernel → Type 0
AreCausal kernels =
    (k : ℕ) (kernel : Kernel) → slice_get kernels k ≡ Some kernel → IsCausal (edges_of kernel.nodes)
