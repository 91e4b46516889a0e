use Rattle.std.proofs.Common.{◌≡◌, ⊎_elim, length, get_or, sym, ap, ◌∙◌, arith}
use Rattle.schedule_flow.specs.Queue.{Waits}
use Rattle.schedule_flow.proofs.search.nearest.Goals as goal

pub bounds-place-node : goal.bounds-place-node
bounds-place-node c =
    let low = c.requires c.in-Some.distance c.in-Some.node (c.loop-distance.invariant.only c.in-Some.distance c.in-Some.node c.in-Some.ensures.nearest.here) in
    omega (arith, low, ap length c.as_slice-place.ensures.value)

pub returns-then-place-node-eq0-clause-taken : goal.returns-then-place-node-eq0-clause-taken
returns-then-place-node-eq0-clause-taken c =
    let inv = c.loop-distance.invariant in
    let n = c.in-Some.ensures.nearest in
    record {
      here = inv.only c.in-Some.distance c.in-Some.node n.here;
      fresh = sym (ap (λ l. get_or l c.in-Some.node 0) c.as_slice-place.ensures.value) ∙ c.if-place-node-eq0.true;
      least = λ e u w. n.least e u (n.only e u w);
      kept = λ e u z w. n.kept e u (inv.kept e u z w);
      only = λ e u w. inv.only e u (n.only e u w);
    }

pub returns-then-place-node-eq0-clause-node : goal.returns-then-place-node-eq0-clause-node
returns-then-place-node-eq0-clause-node c = c.requires c.in-Some.distance c.in-Some.node (c.loop-distance.invariant.only c.in-Some.distance c.in-Some.node c.in-Some.ensures.nearest.here)

pub loop-distance-preserved : goal.loop-distance-preserved
loop-distance-preserved c =
    let inv = c.loop-distance.invariant in
    let n = c.in-Some.ensures.nearest in
    let here = ap (λ l. get_or l c.in-Some.node 0) c.as_slice-place.ensures.value in
    record {
      kept = λ d v z w. ⊎_elim
          (λ (k : Waits c.pop.new.self d v). k)
          (λ (q : (d ≡ c.in-Some.distance) × (v ≡ c.in-Some.node)).
          let e : get_or c.args.tree.now.place.items v 0 ≡ get_or c.args.tree.now.place.items c.in-Some.node 0 = ap (λ k. get_or c.args.tree.now.place.items k 0) q.1 in
          absurd (omega (arith, e, z, here, c.if-place-node-eq0.false)))
          (n.kept d v (inv.kept d v z w));
      only = λ d v w. inv.only d v (n.only d v w);
    }

pub returns-clause-none : goal.returns-clause-none
returns-clause-none c = λ d v z w. c.in_default.ensures.none d v (c.loop-distance.invariant.kept d v z w)
