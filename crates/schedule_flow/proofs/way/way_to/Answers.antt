use Rattle.std.proofs.Common.{◌≡◌, ◌<◌, ◌∷◌, [], ◌++◌, ℕ, pos, ◌≤ℤ◌, ◌<ℤ◌, ⊎_elim, List, length, reverse, get_or, sym, ap, ◌∙◌, subst, arith, rules, FitsSigned}
use Rattle.std.specs.Int.{w64}
use Rattle.std.proofs.lemmas.Int.{ints}
use Rattle.cycle_find.specs.declared.arcs.Arc.{Arc}
use Rattle.cycle_find.specs.Constraints.{numbers_of}
use Rattle.schedule_problem.specs.Flow.{flow_of}
use Rattle.schedule_flow.specs.Network.{IsPath, tail_of}
use Rattle.schedule_flow.specs.Reach.{IsStep, IsFree}
use Rattle.schedule_flow.proofs.Trail.{IsTrail, trail_more, way_path, way_free}
use Rattle.schedule_flow.proofs.Sending.{tail_in}
use Rattle.schedule_flow.proofs.way.way_to.Goals as goal

pub loop-node-preserved : goal.loop-node-preserved
loop-node-preserved c =
    let p = c.args.problem.now in
    let x = numbers_of c.args._x.now in
    let f = flow_of c.args.flow.now in
    let place = c.args.tree.now.place.items in
    let via = c.args.tree.now.via.items in
    let node = c.loop-node.node in
    let inv = c.loop-node.invariant in
    let r : ℕ = get_or c.as_slice-via.result.now node 0 in
    let same : r ≡ get_or via node 0 = ap (λ l. get_or l node 0) c.as_slice-via.ensures.value in
    let S : ℕ → Type 0 = λ k. IsStep p x f place k node in
    let low : numbers_of c.args.rest.now node ≤ℤ pos 0 = search (rules, ints, c.loop-node-test.true) in
    let s : IsStep p x f place r node = ⊎_elim
    (λ (up : pos 0 <ℤ numbers_of c.args.rest.now node). absurd (omega (arith, ints, up, low)))
    (λ (s : IsStep p x f place (get_or c.args.tree.now.via.items node 0) node). subst S (sym same) s)
    (c.requires.reached.steps node inv.reached) in
    let items : c.push.new.self.items ≡ c.loop-node.back.items ++ r ∷ [] = search rules in
    let t : c.tail-node.result ≡ tail_of p.arcs.list r = c.tail-node.ensures ∙ ap (λ (l : List Arc). tail_of l r) c.as_slice-list.ensures in
    let less = c.narrowed-amount.result in
    let more = trail_more p x f place c.loop-node.back.items c.args.want node c.loop-node.amount r less inv.trail s c.narrowed-amount.ensures.most c.narrowed-amount.ensures.room in
    let P : List ℕ → Type 0 = λ l. IsTrail p x f place l c.args.want c.tail-node.result less in
    let Q : ℕ → Type 0 = λ v. IsTrail p x f place (c.loop-node.back.items ++ r ∷ []) c.args.want v less in
    let at : get_or place c.tail-node.result 0 ≡ get_or place (tail_of p.arcs.list r) 0 = ap (λ v. get_or place v 0) t in
    record {
      trail = subst P (sym items) (subst Q (sym t) more);
      node = omega (arith, t, tail_in p.arcs.nodes p.arcs.list c.requires.ends r s.arc, c.requires.reached.places);
      reached = omega (arith, at, s.from);
      some = c.narrowed-amount.ensures.some inv.some (λ e. s.free.1 e);
      wants = omega (arith, ints, inv.wants, c.narrowed-amount.ensures.most);
    }

pub loop-node-smaller : goal.loop-node-smaller
loop-node-smaller c =
    let p = c.args.problem.now in
    let x = numbers_of c.args._x.now in
    let f = flow_of c.args.flow.now in
    let place = c.args.tree.now.place.items in
    let node = c.loop-node.node in
    let r : ℕ = get_or c.as_slice-via.result.now node 0 in
    let same : r ≡ get_or c.args.tree.now.via.items node 0 = ap (λ l. get_or l node 0) c.as_slice-via.ensures.value in
    let S : ℕ → Type 0 = λ k. IsStep p x f place k node in
    let low : numbers_of c.args.rest.now node ≤ℤ pos 0 = search (rules, ints, c.loop-node-test.true) in
    let s : IsStep p x f place r node = ⊎_elim
    (λ (up : pos 0 <ℤ numbers_of c.args.rest.now node). absurd (omega (arith, ints, up, low)))
    (λ (s : IsStep p x f place (get_or c.args.tree.now.via.items node 0) node). subst S (sym same) s)
    (c.requires.reached.steps node c.loop-node.invariant.reached) in
    let t : c.tail-node.result ≡ tail_of p.arcs.list r = c.tail-node.ensures ∙ ap (λ (l : List Arc). tail_of l r) c.as_slice-list.ensures in
    let at : get_or place c.tail-node.result 0 ≡ get_or place (tail_of p.arcs.list r) 0 = ap (λ v. get_or place v 0) t in
    omega (arith, at, s.earlier)

pub returns-clause-path : goal.returns-clause-path
returns-clause-path c =
    let p = c.args.problem.now in
    let x = numbers_of c.args._x.now in
    let f = flow_of c.args.flow.now in
    let inv = c.loop-node.invariant in
    let node = c.loop-node.node in
    let back = c.loop-node.back.items in
    let rest = c.args.rest.now in
    let less = c.min-amount.result in
    let fits : FitsSigned w64 (get_or rest node (pos 0)) = search rules in
    let high : pos 0 <ℤ numbers_of rest node = omega (arith, ints, fits, c.loop-node-test.false) in
    let items : c.in_ok-turned.field-0.items ≡ reverse back = c.in_ok-turned.ensures ∙ ap reverse c.deref.ensures.value in
    let P : List ℕ → Type 0 = λ l. IsPath p f l less in
    subst P (sym items) (way_path p x f c.args.tree.now.place.items back c.args.want node c.loop-node.amount less inv.trail
    (omega (arith, ints, c.min-amount.ensures))
    (omega (arith, ints, fits, high, inv.some, c.min-amount.ensures))
    (omega (arith, ints, fits, high, c.min-amount.ensures, c.requires.excesses node))
    (omega (arith, ints, inv.wants, c.requires.excesses c.args.want)))

pub returns-clause-free : goal.returns-clause-free
returns-clause-free c =
    let p = c.args.problem.now in
    let x = numbers_of c.args._x.now in
    let f = flow_of c.args.flow.now in
    let back = c.loop-node.back.items in
    let items : c.in_ok-turned.field-0.items ≡ reverse back = c.in_ok-turned.ensures ∙ ap reverse c.deref.ensures.value in
    let P : List ℕ → Type 0 = λ l. (k : ℕ) → k < length l → IsFree p x f (get_or l k 0) in
    subst P (sym items) (way_free p x f c.args.tree.now.place.items back c.args.want c.loop-node.node c.loop-node.amount c.min-amount.result c.loop-node.invariant.trail)
