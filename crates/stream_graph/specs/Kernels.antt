-- When calls make a kernel, and why they don't.
use Rattle.std.specs.Prelude.{◌≡◌, ◌⊎◌, ◌<◌, ◌≤◌, List, []}
use Rattle.kernel_calls.specs.declared.call.Call.{Call}
use Rattle.kernel_calls.specs.Calls.{count_of}
use Rattle.kernel_calls.specs.Laws.{AreLawful}
use Rattle.stream_graph.specs.declared.error.GraphError.{GraphError}
use Rattle.stream_graph.specs.declared.error.GraphError.TheVariants as E
use Rattle.stream_graph.specs.declared.fault.Fault.TheVariants.{EmptyChain, ConnectedTwice, Unconnected}
use Rattle.stream_graph.specs.declared.node.Node.{Node}
use Rattle.stream_graph.specs.Nodes.{later, AreNodes}
use Rattle.stream_graph.specs.Ports.{AllDiffer, FirstAgain}
use Rattle.stream_graph.specs.Faults.{Breaks, NoneBreaks, IsFirst}

-- the calls, in their order, keep all rules of a kernel
pub record IsSound (calls : List Call) : Type 0 where
  pub few : count_of calls ≤ 4096
  pub names : AllDiffer [] calls
  pub chains : NoneBreaks EmptyChain (later [] calls)
  pub once : NoneBreaks ConnectedTwice (later [] calls)
  pub connected : NoneBreaks Unconnected (later [] calls)

-- the error says the rule that the calls break, the first of them in this order: too many nodes, ports of
-- one name, a chain without a digit, a feed that is connected twice, a feed that isn't connected
abbrev pub Refuses : List Call → GraphError → Type 0
Refuses calls (E.TooManyNodes n) = (n ≡ count_of calls) × (4096 < count_of calls)
Refuses calls (E.SamePort name) = (count_of calls ≤ 4096) × FirstAgain [] calls name
Refuses calls (E.EmptyChain n) = (count_of calls ≤ 4096) × AllDiffer [] calls × IsFirst
    (Breaks EmptyChain (later [] calls)) n
Refuses calls (E.ConnectedTwice n) =
    (count_of calls ≤ 4096) × AllDiffer [] calls × NoneBreaks EmptyChain (later [] calls) × IsFirst
    (Breaks ConnectedTwice (later [] calls)) n
Refuses calls (E.Unconnected n) =
    (count_of calls ≤ 4096) × AllDiffer [] calls × NoneBreaks EmptyChain (later [] calls) × NoneBreaks
    ConnectedTwice (later [] calls)
    × IsFirst (Breaks Unconnected (later [] calls)) n
Refuses calls _ = ⊥

-- memory was short, or this is why the calls are refused
abbrev pub MayRefuse : List Call → GraphError → Type 0
MayRefuse calls error = (error ≡ E.NoMemory) ⊎ Refuses calls error

-- the nodes are those of lawful calls that keep all rules
abbrev pub AreKernel : List Node → Type 0
AreKernel nodes = (calls : List Call) × AreLawful [] calls × IsSound calls × AreNodes (later [] calls) nodes
