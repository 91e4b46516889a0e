-- What a value of a run gives, and the words that a value of the streams has.
use Rattle.std.specs.Prelude.{
  ◌≡◌,
  ℕ,
  ◌+◌,
  ◌*◌,
  ◌<◌,
  ◌&&◌,
  ◌^◌,
  nat_lt,
  if◌then◌else◌,
  ℤ,
  pos,
  negsuc,
  List,
  [],
  length,
  slice_index,
  slice_index_or,
  Option,
  Some,
  None,
}
use Rattle.stream_graph.specs.declared.node.Kind.TheVariants as K
use Rattle.stream_graph.specs.declared.node.Node.{Node}
use Rattle.stream_graph.specs.LookUps.{kind_at, width_at}
use Rattle.stream_equations.specs.Equations.{GivenRun, Values, chosen}
use Rattle.kernel_words.specs.declared.run.KernelRun.{KernelRun}
use Rattle.kernel_words.specs.declared.cell.Cell.{Cell}
use Rattle.kernel_words.specs.declared.cell.Cell.TheVariants.{Open, Undefined, Word}
use Rattle.kernel_words.specs.declared.streams.Streams.{Streams}

-- ---- what is given

-- the run that a value gives: both lists are by node, and a list of words is from number 0 on
abbrev pub given_of : KernelRun → GivenRun
given_of run = record {
  ticks = run.ticks;
  scalar = λ n. slice_index run.scalars n;
  source = λ n k. chosen (slice_index_or run.sources n []) k;
}

-- each word that is given has the width of its node
pub record IsGiven (nodes : List Node) (run : KernelRun) : Type 0 where
  pub scalars : length run.scalars ≡ length nodes
  pub sources : length run.sources ≡ length nodes
  pub scalar :
      (n : ℕ)
      → n < length nodes
      → kind_at nodes n ≡ K.Scalar
      → slice_index run.scalars n < 2 ^ width_at nodes n
  pub word :
      (n k x : ℕ)
      → n < length nodes
      → chosen (slice_index_or run.sources n []) k ≡ Some x
      → x < 2 ^ width_at nodes n

-- what is given to one node has its width
pub record IsGivenAt (nodes : List Node) (run : KernelRun) (n : ℕ) : Type 0 where
  pub scalar : kind_at nodes n ≡ K.Scalar → slice_index run.scalars n < 2 ^ width_at nodes n
  pub word :
      (k x : ℕ)
      → chosen (slice_index_or run.sources n []) k ≡ Some x
      → x < 2 ^ width_at nodes n

-- ---- the words of streams

-- what a cell shows
abbrev pub shown : Cell → Option ℕ
shown Open = None
shown Undefined = None
shown (Word bits) = Some bits

-- the cell of a node in a tick, of a list that has those of one node after those of another
abbrev pub cell_at : Streams → ℕ → ℕ → Cell
cell_at streams n t = slice_index_or streams.cells.items (n * streams.ticks + t) Open

-- the words of all nodes; there are none past the last node, nor outside the ticks of the run
abbrev pub values_of : Streams → Values
values_of streams n (pos t) =
    if nat_lt n streams.nodes && nat_lt t streams.ticks then shown (cell_at streams n t) else None
values_of streams n (negsuc t) = None

-- each word has the width of its node
abbrev pub AreWords : List Node → Values → Type 0
AreWords nodes val =
    (n : ℕ) (t : ℤ) (x : ℕ) → n < length nodes → val n t ≡ Some x → x < 2 ^ width_at nodes n
