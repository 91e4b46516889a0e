use Rattle.std.proofs.Common.{rules, ◌+◌, ◌++◌, ◌∷◌, [], ◌≡◌, ◌<◌, ℕ, List, None, Some, Option, length, get_or, subst, sym, ◌∙◌, ap, refl, Vec, Global}
use Rattle.std.specs.Prelude.{slice_get}
use Rattle.std.proofs.lemmas.Option.{slice_get-get_or, slice_get_read}
use Rattle.rtl_ir.specs.declared.design.Assign.{Assign}
use Rattle.verilog_sim.specs.Drivers.{AreGathered}
use Rattle.verilog_sim.proofs.Gathering.{none_gathered, passed_over, one_gathered}
use Rattle.verilog_sim.proofs.order.gather.Goals.{in-Some+in_ok-push, in_default}
use Rattle.verilog_sim.proofs.order.gather.Goals as goal

-- the driver of a node is a number of an assignment
driver_at : (by_net : List (Option ℕ)) (nodes : List ℕ) (count i k : ℕ)
    → ((j : ℕ) → j < length nodes → get_or nodes j 0 < length by_net)
    → ((n q : ℕ) → slice_get by_net n ≡ Some (Some q) → q < count) → i < length nodes
    → get_or by_net (get_or nodes i 0) None ≡ Some k → k < count
driver_at by_net nodes count i k within drivers lt is =
    drivers (get_or nodes i 0) k (slice_get-get_or by_net (get_or nodes i 0) None (within i lt) ∙ (let f : get_or by_net (get_or nodes i 0) None ≡ Some k = is in cc))

pub loop-node-init : goal.loop-node-init
loop-node-init c = subst (λ
    (l : List Assign). AreGathered c.args.assigns.now c.args.by_net.now c.args.nodes.now l 0)
    (sym c.new-order.ensures.items)
    (none_gathered c.args.assigns.now c.args.by_net.now c.args.nodes.now)

pub bounds-assigns-k : goal.bounds-assigns-k
bounds-assigns-k c = driver_at c.args.by_net.now c.args.nodes.now (length c.args.assigns.now) c.loop-node.node-index c.in-Some.k c.requires.nodes c.requires.drivers c.loop-node-test.true c.in-Some.is

pub offset_bounds-assigns-k : goal.offset_bounds-assigns-k
offset_bounds-assigns-k c =
    let lt : c.in-Some.k < length c.args.assigns.now = driver_at c.args.by_net.now
    c.args.nodes.now (length c.args.assigns.now) c.loop-node.node-index c.in-Some.k
    c.requires.nodes c.requires.drivers c.loop-node-test.true c.in-Some.is in
    search rules

pub loop-node-preserved : goal.loop-node-preserved
loop-node-preserved c =
    elim c.match-by_net-node.branch [
      | in-Some+in_ok-push w ↦ (
          let i = c.loop-node.node-index in
          let lt : w.in-Some.k < length c.args.assigns.now = driver_at c.args.by_net.now
          c.args.nodes.now (length c.args.assigns.now) i w.in-Some.k c.requires.nodes
          c.requires.drivers c.loop-node-test.true w.in-Some.is in
          let at : slice_get c.args.assigns.now w.in-Some.k
          ≡ Some w.index-assigns-k.result = slice_get_read c.args.assigns.now
          (length c.args.assigns.now) w.in-Some.k w.index-assigns-k.result refl lt
          w.index-assigns-k.is in
          let more = one_gathered c.args.assigns.now c.args.by_net.now c.args.nodes.now c.loop-node.order.items i w.in-Some.k w.index-assigns-k.result w.in-Some.is at c.loop-node.invariant in
          let items : c.match-by_net-node.order.items ≡ c.loop-node.order.items ++ w.index-assigns-k.result ∷ [] = ap (λ (v : Vec Assign Global). v.items) w.order-is ∙ w.in_ok-push.ensures.items in
          subst (λ (l : List Assign). AreGathered c.args.assigns.now c.args.by_net.now c.args.nodes.now l (i + 1)) (sym items) more)
      | in_default w ↦ (
          let more = passed_over c.args.assigns.now c.args.by_net.now c.args.nodes.now c.loop-node.order.items c.loop-node.node-index w.in_default.is c.loop-node.invariant in
          subst (λ (l : List Assign). AreGathered c.args.assigns.now c.args.by_net.now c.args.nodes.now l (c.loop-node.node-index + 1)) (sym (ap (λ (v : Vec Assign Global). v.items) w.order-is)) more)
    ]
