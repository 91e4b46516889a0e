use Rattle.std.proofs.Common.{◌≡◌, ◌⊎◌, List, ◌-◌, ◌<◌, ℕ, length, get_or, sym, ap, subst, ◌∙◌, arith, rules}
use Rattle.cycle_find.specs.Constraints.{numbers_of, EndsInRange}
use Rattle.schedule_problem.specs.Flow.{flow_of}
use Rattle.schedule_flow.specs.Network.{tail_of}
use Rattle.schedule_flow.specs.Adjacency.{IsLastBelow}
use Rattle.schedule_flow.specs.Search.{Stays, Nears}
use Rattle.schedule_flow.proofs.Reaching.{going_more, going_arc, going_all}
use Rattle.schedule_flow.proofs.search.relax_all.Goals as goal

pub loop-next-preserved : goal.loop-next-preserved
loop-next-preserved c =
    let p = c.args.problem.now in
    let x = numbers_of c.args.x.now in
    let f = flow_of c.args.flow.now in
    let place = c.args.tree.now.place.items in
    let via = c.args.tree.now.via.items in
    let d = c.args.tree.now.distance.items in
    let queue = c.args.queue.now in
    let inv = c.loop-next.invariant in
    let next : ℕ = c.loop-next.next in
    let up : 0 < next = c.loop-next-test.true in
    let arc = going_arc p x f place via c.loop-next.tree.via.items d c.loop-next.tree.distance.items queue c.loop-next.queue c.args.node next inv.going up in
    let before = c.as_slice-before.result.now in
    let same : get_or before (next - 1) 0 ≡ get_or c.args.links.now.before.items (next - 1) 0 = ap (λ l. get_or l (next - 1) 0) (search rules) in
    let P : ℕ → Type 0 = λ k. IsLastBelow p.arcs.list (tail_of p.arcs.list (next - 1)) (next - 1) k in
    let E : ℕ → Type 0 = λ k. EndsInRange k p.arcs.list in
    let chain = subst P (sym same) (c.requires.links.linked.befores (next - 1) (omega (arith, arc))) in
    let S : List ℕ → Type 0 = λ l. Stays p x f l c.loop-next.tree.via.items
    c.relax.new.tree.via.items c.loop-next.tree.distance.items
    c.relax.new.tree.distance.items c.loop-next.queue c.relax.new.queue (next - 1)
    ⊎ Nears p x f l c.loop-next.tree.via.items c.relax.new.tree.via.items c.loop-next.tree.distance.items c.relax.new.tree.distance.items c.loop-next.queue c.relax.new.queue (next - 1) in
    let step : Stays p x f place c.loop-next.tree.via.items c.relax.new.tree.via.items c.loop-next.tree.distance.items c.relax.new.tree.distance.items c.loop-next.queue c.relax.new.queue (next - 1)
    ⊎ Nears p x f place c.loop-next.tree.via.items c.relax.new.tree.via.items
    c.loop-next.tree.distance.items c.relax.new.tree.distance.items c.loop-next.queue
    c.relax.new.queue (next - 1) = subst S (ap
    (λ v. v.items) inv.place) c.in_ok-relax.ensures.relaxed in
    let len : length c.loop-next.tree.distance.items ≡ p.arcs.nodes = inv.tree.distances ∙ c.requires.numbers in
    let going = going_more p x f place via c.loop-next.tree.via.items d
    c.loop-next.tree.distance.items queue c.loop-next.queue c.args.node next inv.going up
    c.relax.new.tree.via.items c.relax.new.tree.distance.items c.relax.new.queue
    (get_or before (next - 1) 0)
    (subst E c.requires.numbers c.requires.ends) c.requires.legal c.requires.tight len chain
    step in
    record {
      going = going;
      place = c.in_ok-relax.ensures.place ∙ inv.place;
      tree = c.in_ok-relax.ensures.tree;
      within = λ v. omega (arith, going.falls v, c.requires.within v);
    }

pub returns-clause-relaxed : goal.returns-clause-relaxed
returns-clause-relaxed c =
    going_all c.args.problem.now (numbers_of c.args.x.now)
    (flow_of c.args.flow.now) c.args.tree.now.place.items c.args.tree.now.via.items
    c.loop-next.tree.via.items c.args.tree.now.distance.items
    c.loop-next.tree.distance.items c.args.queue.now c.loop-next.queue c.args.node
    c.loop-next.next c.loop-next.invariant.going (omega (arith, c.loop-next-test.false))
