-- What finishing a graph answers.
use Rattle.std.proofs.Common.{◌≡◌, ℕ, ◌≤◌, ◌<◌, List, [], sym, arith, subst, inl, inr}
use Rattle.kernel_calls.specs.declared.call.Call.{Call}
use Rattle.kernel_calls.specs.Calls.{count_of}
use Rattle.stream_graph.specs.declared.error.GraphError.{GraphError}
use Rattle.stream_graph.specs.declared.error.GraphError.TheVariants as E
use Rattle.stream_graph.specs.declared.fault.Fault.TheVariants.{EmptyChain, ConnectedTwice, Unconnected}
use Rattle.stream_graph.specs.declared.node.Node.{Node}
use Rattle.stream_graph.specs.Nodes.{later, AreNodes}
use Rattle.stream_graph.specs.Ports.{AllDiffer, SaysAgain}
use Rattle.stream_graph.specs.Faults.{NoneHas, SaysFault}
use Rattle.stream_graph.specs.Kernels.{IsSound, MayRefuse}
use Rattle.stream_graph.proofs.Faulty.{none_broken, first_broken}

pub too_many : (calls : List Call) (made : ℕ) → count_of calls ≡ made → 4096 < made →
    MayRefuse calls (E.TooManyNodes made)
too_many calls made e h = inr (sym e, omega arith)

pub same_port : (calls : List Call) (error : GraphError) → count_of calls ≤ 4096 → SaysAgain calls error →
    MayRefuse calls error
same_port calls error few (inl e) = inl e
same_port calls error few (inr p) = subst (λ e. MayRefuse calls e) (sym p.1) (inr (few, p.2))

pub faulty : (calls : List Call) (nodes : List Node) (error : GraphError) → count_of calls ≤ 4096 →
    AllDiffer [] calls → AreNodes (later [] calls) nodes → SaysFault nodes error → MayRefuse calls error
faulty calls nodes (E.EmptyChain n) few names a s = inr (few, names, first_broken EmptyChain _ nodes n a s)
faulty calls nodes (E.ConnectedTwice n) few names a s = inr
    (few, names, none_broken EmptyChain _ nodes a s.0, first_broken ConnectedTwice _ nodes n a s.1)
faulty calls nodes (E.Unconnected n) few names a s = inr (
  few,
  names,
  none_broken EmptyChain _ nodes a s.0,
  none_broken ConnectedTwice _ nodes a s.1,
  first_broken
      Unconnected _ nodes n a s.2,
)
faulty calls nodes (E.SamePort name) few names a s = absurd s
faulty calls nodes (E.TooManyNodes n) few names a s = absurd s
faulty calls nodes (E.OffsetRange k) few names a s = absurd s
faulty calls nodes E.NoMemory few names a s = absurd s

pub sound : (calls : List Call) (nodes : List Node) → count_of calls ≤ 4096 → AllDiffer [] calls →
    AreNodes (later [] calls) nodes → NoneHas EmptyChain nodes → NoneHas ConnectedTwice nodes →
    NoneHas Unconnected nodes → IsSound calls
sound calls nodes few names a c t u =
    record {
      few = few;
      names = names;
      chains = none_broken EmptyChain _ nodes a c;
      once = none_broken
          ConnectedTwice _ nodes a t;
      connected = none_broken Unconnected _ nodes a u;
    }
