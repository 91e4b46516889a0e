use Rattle.std.proofs.Common.{ℕ, List, length, arith, subst, sym, ap}
use Rattle.digraph.specs.Graph.{IsGraph, RanksOrWalk}
use Rattle.verilog_sim.specs.Drivers.{AreDrivers}
use Rattle.std.proofs.lemmas.Result.{IfOk-weaker}
use Rattle.verilog_sim.proofs.Ordering.{graph_is, no_walk, nodes_in, driver_in, order_of}
use Rattle.verilog_sim.proofs.order.in_order.Goals as goal

pub rank-requires-clause-graph : goal.rank-requires-clause-graph
rank-requires-clause-graph c =
    subst IsGraph (sym c.as_slice.ensures.value)
    (graph_is c.args.module.now c.in_ok-drivers.drivers.graph.items c.in_ok-drivers.drivers.by_net.items (length c.args.module.now.assigns) c.requires.runnable c.in_ok-drivers.ensures)

pub gather-requires-clause-nodes : goal.gather-requires-clause-nodes
gather-requires-clause-nodes c =
    let found = subst (RanksOrWalk c.as_slice.result.now) c.in-Ranks.is c.in_ok-order.ensures in
    rw (c.as_slice-in-Ranks-3.ensures.value, c.as_slice-in-Ranks-2.ensures.value)
    (λ i lt. let n = nodes_in c.as_slice.result.now c.in-Ranks.order.nodes.items
    c.in-Ranks.order.rank.items found.0 found.1 i lt in omega (
      arith,
      n,
      c.as_slice.ensures.len,
      c.in_ok-drivers.ensures.nodes,
      c.in_ok-drivers.ensures.nets,
      ap length c.as_slice.ensures.value,
    ))

pub gather-requires-clause-drivers : goal.gather-requires-clause-drivers
gather-requires-clause-drivers c = rw (c.as_slice-in-Ranks-2.ensures.value, c.as_slice-in-Ranks.ensures)
    (driver_in c.args.module.now c.in_ok-drivers.drivers.graph.items c.in_ok-drivers.drivers.by_net.items (length c.args.module.now.assigns) c.in_ok-drivers.ensures)

pub unreachable-requires : goal.unreachable-requires
unreachable-requires c =
    let found = subst (RanksOrWalk c.as_slice.result.now) c.in-Walk.is c.in_ok-order.ensures in
    no_walk c.args.module.now c.as_slice.result.now c.in_ok-drivers.drivers.by_net.items (length c.args.module.now.assigns) c.in-Walk.field-0.items c.requires.runnable
    (subst (λ (g : List (List ℕ)). AreDrivers c.args.module.now g
    c.in_ok-drivers.drivers.by_net.items (length c.args.module.now.assigns))
    (sym c.as_slice.ensures.value) c.in_ok-drivers.ensures) found.0

pub returns : goal.returns
returns c =
    let found = subst (RanksOrWalk c.as_slice.result.now) c.in-Ranks.is c.in_ok-order.ensures in
    let drivers = subst (λ (g : List
    (List ℕ)). AreDrivers c.args.module.now g c.in_ok-drivers.drivers.by_net.items
    (length c.args.module.now.assigns))
    (sym c.as_slice.ensures.value) c.in_ok-drivers.ensures in
    IfOk-weaker c.gather.result _ _
    (λ order gathered. order_of c.args.module.now c.as_slice.result.now
    c.in_ok-drivers.drivers.by_net.items c.in-Ranks.order.nodes.items
    c.in-Ranks.order.rank.items order.items c.requires.runnable drivers found.0 found.1
    (rw (← c.as_slice-in-Ranks.ensures, ← c.as_slice-in-Ranks-2.ensures.value, ← c.as_slice-in-Ranks-3.ensures.value) gathered)) c.gather.ensures
