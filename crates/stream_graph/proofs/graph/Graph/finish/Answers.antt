use Rattle.std.proofs.Common.{rules, arith, ◌≡◌, ◌≤◌, length, ap, sym, ◌∙◌, [], subst, List}
use Rattle.kernel_calls.specs.Calls.{count_of}
use Rattle.stream_graph.specs.Nodes.{later, AreNodes}
use Rattle.stream_graph.specs.Received.{received}
use Rattle.stream_graph.specs.Ports.{AllDiffer}
use Rattle.stream_graph.specs.Faults.{NoneHas, SaysFault}
use Rattle.stream_graph.specs.declared.fault.Fault.TheVariants.{EmptyChain, ConnectedTwice, Unconnected}
use Rattle.stream_graph.specs.declared.node.Node.{Node}
use Rattle.stream_graph.specs.Kernels.{IsSound, MayRefuse}
use Rattle.stream_graph.specs.declared.graph.Graph.{Graph}
use Rattle.stream_graph.proofs.Rows.{count_same}
use Rattle.stream_graph.proofs.Taking.{count_later}
use Rattle.stream_graph.proofs.Finishing.{too_many, same_port, faulty, sound}
use Rattle.stream_graph.proofs.graph.Graph.finish.Goals as goal

count_is : (g : Graph) → count_of (received g) ≡ g.made
count_is g = count_same g.bytes.items.items g.operands.items.items g.rows.items.items ∙ sym g.counted

sounds : (g : Graph) (nodes read : List Node) → g.made ≤ 4096 → AllDiffer [] (received g) →
    AreNodes (later [] (received g)) nodes → read ≡ nodes → NoneHas EmptyChain read → NoneHas ConnectedTwice read →
    NoneHas Unconnected read → IsSound (received g)
sounds g nodes read few names a e c t u =
    let n = count_is g in
    sound (received g) nodes (omega arith) names a (subst (NoneHas EmptyChain) e c)
    (subst (NoneHas ConnectedTwice) e t) (subst (NoneHas Unconnected) e u)

-- there are as many nodes as calls that make one
as_many : (g : Graph) (nodes : List Node) → AreNodes (later [] (received g)) nodes → length nodes ≡ g.made
as_many g nodes a = a.count ∙ count_later [] (received g) ∙ (let n = count_is g in omega arith)

pub returns-then-self-gt-MOST_NODES-clause-err : goal.returns-then-self-gt-MOST_NODES-clause-err
returns-then-self-gt-MOST_NODES-clause-err c =
    too_many (received c.args.self) c.args.self.made (count_is c.args.self) c.if-self-gt-MOST_NODES.true

pub returns-in_err-ports_differ-clause-err : goal.returns-in_err-ports_differ-clause-err
returns-in_err-ports_differ-clause-err c =
    let few : count_of (received c.args.self) ≤ 4096 = (let e = count_is c.args.self in omega arith) in
    let why : MayRefuse (received c.args.self) c.in_err-ports_differ.field-0.0 = same_port (received c.args.self)
    c.in_err-ports_differ.field-0.0 few c.in_err-ports_differ.ensures.err in
    search rules

pub find_fault-requires : goal.find_fault-requires
find_fault-requires c =
    let n = as_many c.args.self c.in_ok-nodes.nodes.items c.in_ok-nodes.ensures in
    let r = ap length c.as_slice.ensures.value in
    omega arith

pub returns-in_err-find_fault-clause-err : goal.returns-in_err-find_fault-clause-err
returns-in_err-find_fault-clause-err c =
    let few : count_of (received c.args.self) ≤ 4096 = (let e = count_is c.args.self in omega arith) in
    let says : SaysFault c.in_ok-nodes.nodes.items c.in_err-find_fault.field-0.0 = subst
    (λ l. SaysFault l c.in_err-find_fault.field-0.0) c.as_slice.ensures.value c.in_err-find_fault.ensures.err in
    let why : MayRefuse (received c.args.self) c.in_err-find_fault.field-0.0 = faulty (received c.args.self)
    c.in_ok-nodes.nodes.items c.in_err-find_fault.field-0.0 few c.in_ok-ports_differ.ensures.ok
    c.in_ok-nodes.ensures says in
    search rules

pub invariant_of-result : goal.invariant_of-result
invariant_of-result c =
    let n = as_many c.args.self c.in_ok-nodes.nodes.items c.in_ok-nodes.ensures in
    let r = ap length c.from_vec.ensures in
    record {
      named = c.requires.name;
      few = omega arith;
      made = ∣ (
        received c.args.self,
        c.requires.lawful,
        sounds c.args.self c.in_ok-nodes.nodes.items c.as_slice.result.now c.if-self-gt-MOST_NODES.false
            c.in_ok-ports_differ.ensures.ok c.in_ok-nodes.ensures c.as_slice.ensures.value
            c.in_ok-find_fault.ensures.chains c.in_ok-find_fault.ensures.once
            c.in_ok-find_fault.ensures.connected,
        subst (λ l. AreNodes (later [] (received c.args.self)) l) (sym c.from_vec.ensures) c.in_ok-nodes.ensures,
      )
          ∣₁;
    }

pub returns-clause-sound : goal.returns-clause-sound
returns-clause-sound c =
    sounds c.args.self c.in_ok-nodes.nodes.items c.as_slice.result.now c.if-self-gt-MOST_NODES.false
    c.in_ok-ports_differ.ensures.ok c.in_ok-nodes.ensures c.as_slice.ensures.value
    c.in_ok-find_fault.ensures.chains c.in_ok-find_fault.ensures.once c.in_ok-find_fault.ensures.connected
