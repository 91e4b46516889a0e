use Rattle.std.proofs.Common.{◌≡◌, ℕ, ◌+◌, ◌<◌, ◌≤◌, ◌^◌, ℤ, pos, ◌+ℤ◌, ◌≤ℤ◌, ◌<ℤ◌, List, length, get_or, unsigned_abs, sym, ap, ◌∙◌, subst, arith, rules}
use Rattle.std.proofs.lemmas.Int.{ints}
use Rattle.std.proofs.lemmas.List.{get_or_past, length-set}
use Rattle.cycle_find.specs.Constraints.{numbers_of, Solves}
use Rattle.schedule_problem.specs.Flow.{flow_of}
use Rattle.schedule_flow.specs.Network.{IsTight, tail_of}
use Rattle.schedule_flow.specs.Queue.{Entry, IsQueued}
use Rattle.schedule_flow.specs.Search.{IsSearch, AllRelaxed}
use Rattle.schedule_flow.proofs.Finding.{begin_search, never_ends}
use Rattle.schedule_flow.proofs.Found.{after, last_settled, reach_low, others, calm_all, found}
use Rattle.schedule_flow.proofs.search.find.Goals as goal

pub loop-reach-init : goal.loop-reach-init
loop-reach-init c =
    let b = c.begin.ensures in
    let none : (v : ℕ) → get_or c.begin.new.self.place.items v 0 ≡ 0 = b.places in
    let tree = b.tree in
    let places : length c.args.tree.now.place.items ≡ c.args.problem.now.arcs.nodes = c.requires.tree.places in
    let len : length c.begin.new.self.distance.items ≡ c.args.problem.now.arcs.nodes = tree.distances ∙ places in
    let P : List Entry → Type 0 = λ l. IsQueued l c.push.new.self 0 c.args.source in
    record {
      search = begin_search c.args.problem.now (numbers_of c.args.x.now)
          (flow_of c.args.flow.now)
          (numbers_of c.args.rest.now) c.begin.new.self.place.items c.begin.new.self.via.items
          c.begin.new.self.distance.items c.push.new.self c.args.source
          (tree.places ∙ places) (tree.vias ∙ places) len none b.source
          (λ v l n. b.others v (omega (arith, l, len)) n)
          b.within (subst P c.new-queue.ensures c.in_ok-push.ensures) c.requires.source c.requires.surplus c.requires.low;
      relaxed = λ r l up. absurd (omega (arith, up, none (tail_of c.args.problem.now.arcs.list r)));
      calm = λ v up. absurd (omega (arith, up, none v));
      still = search rules;
      begun = omega (arith, b.source);
    }

pub nearest-requires : goal.nearest-requires
nearest-requires c =
    let s = c.loop-reach.invariant.search in
    λ d v w. omega (arith, s.places, (s.entries d v w).0)

pub unreachable-requires : goal.unreachable-requires
unreachable-requires c =
    let inv = c.loop-reach.invariant in
    let p = c.args.problem.now in
    let x = c.loop-reach.x in
    let L : List ℤ → Type 0 = λ l. Solves (numbers_of l) p.arcs.list in
    let H : List ℤ → Type 0 = λ l. (v : ℕ) → unsigned_abs (numbers_of l v) ≤ 2 ^ 116 in
    let high : (v : ℕ) → unsigned_abs (numbers_of c.args.x.now v) ≤ 2 ^ 116 = λ v. omega (arith, ints, c.requires.low v, c.requires.high v) in
    never_ends p (numbers_of x) (flow_of c.args.flow.now)
    (numbers_of c.args.rest.now) c.loop-reach.tree.place.items c.loop-reach.tree.via.items
    c.loop-reach.tree.distance.items c.loop-reach.queue c.loop-reach.count inv.search
    c.requires.problem
    (subst L (sym inv.still) c.requires.legal) (subst H (sym inv.still) high) inv.relaxed
    (λ d v z w. c.in-None.ensures.none d v z w)
    c.args.source c.requires.source inv.begun c.requires.surplus c.requires.excesses inv.calm

pub raise-requires-clause-reach : goal.raise-requires-clause-reach
raise-requires-clause-reach c =
    reach_low c.args.problem.now (numbers_of c.loop-reach.x) (flow_of c.args.flow.now)
    (numbers_of c.args.rest.now) c.loop-reach.tree.place.items c.loop-reach.tree.via.items
    c.loop-reach.tree.distance.items c.loop-reach.queue c.nearest.new.queue
    c.loop-reach.count c.in-Some.reach c.in-Some.node c.loop-reach.invariant.search
    c.in-Some.ensures.taken

pub raise-requires-clause-small : goal.raise-requires-clause-small
raise-requires-clause-small c =
    let H : List ℤ → Type 0 = λ l. (v : ℕ) → unsigned_abs (numbers_of l v) ≤ 2 ^ 116 in
    let high : (v : ℕ) → unsigned_abs (numbers_of c.args.x.now v) ≤ 2 ^ 116 = λ v. omega (arith, ints, c.requires.low v, c.requires.high v) in
    subst H (sym c.loop-reach.invariant.still) high

pub returns-then-rest-node-lt0 : goal.returns-then-rest-node-lt0
returns-then-rest-node-lt0 c =
    let p = c.args.problem.now in
    let inv = c.loop-reach.invariant in
    let rest = numbers_of c.args.rest.now in
    let x = c.loop-reach.x in
    let y = c.raise.new.x in
    let node = c.in-Some.node in
    let L : List ℤ → Type 0 = λ l. Solves (numbers_of l) p.arcs.list in
    let T : List ℤ → Type 0 = λ l. IsTight p (numbers_of l) (flow_of c.args.flow.now) in
    let U : List ℤ → Type 0 = λ l. (v : ℕ) → pos 0 ≤ℤ numbers_of l v in
    let W : List ℤ → Type 0 = λ l. (v : ℕ) → rest v <ℤ pos 0 → numbers_of l v ≤ℤ pos (2 ^ 60) in
    let low : rest node <ℤ pos 0 = search (rules, ints, c.if-rest-node-lt0.true) in
    let len : length x ≡ p.arcs.nodes = c.loop-reach.auto.x ∙ c.requires.numbers in
    let len' : length y ≡ length x = c.raise.auto.x in
    let g = found p (numbers_of x)
    (flow_of c.args.flow.now) rest c.loop-reach.tree.place.items c.loop-reach.tree.via.items
    c.loop-reach.tree.distance.items c.loop-reach.queue c.nearest.new.queue
    c.loop-reach.count c.in-Some.reach node inv.search c.in-Some.ensures.taken
    (numbers_of y) c.requires.problem
    (subst L (sym inv.still) c.requires.legal) (subst T (sym inv.still) c.requires.tight) inv.relaxed inv.calm
    (λ v l. c.raise.ensures v (omega (arith, l, len)))
    (λ v l. get_or_past y v (pos 0) (omega (arith, l, len, len')) ∙ sym (get_or_past x v (pos 0) (omega (arith, l, len))))
    (subst U (sym inv.still) c.requires.low)
    (subst W (sym inv.still) c.requires.wants node low) in
    let A : List ℤ → Type 0 = λ l. (v : ℕ) → numbers_of y v ≤ℤ (numbers_of l v +ℤ pos (2 ^ 61)) in
    let B : List ℤ → Type 0 = λ l. (v : ℕ) → rest v <ℤ pos 0 → numbers_of y v ≡ numbers_of l v in
    record {
      tree = record {
        places = length-set c.loop-reach.tree.place.items node (c.loop-reach.count + 1) ∙ inv.search.places;
        vias = inv.search.vias;
        distances = inv.search.distances;
      };
      legal = g.legal;
      tight = g.tight;
      low = g.low;
      high = subst A inv.still g.high;
      wants = subst B inv.still g.wants;
      reached = g.reached;
      wanting = record {
        node = search rules;
        reached = (last_settled p (numbers_of x)
            (flow_of c.args.flow.now) rest c.loop-reach.tree.place.items
            c.loop-reach.tree.via.items c.loop-reach.tree.distance.items c.loop-reach.queue
            c.nearest.new.queue c.loop-reach.count c.in-Some.reach node inv.search
            c.in-Some.ensures.taken).here;
        want = low;
      };
    }

pub relax_all-requires-clause-legal : goal.relax_all-requires-clause-legal
relax_all-requires-clause-legal c =
    let L : List ℤ → Type 0 = λ l. Solves (numbers_of l) c.args.problem.now.arcs.list in
    subst L (sym c.loop-reach.invariant.still) c.requires.legal

pub relax_all-requires-clause-tight : goal.relax_all-requires-clause-tight
relax_all-requires-clause-tight c =
    let T : List ℤ → Type 0 = λ l. IsTight c.args.problem.now (numbers_of l) (flow_of c.args.flow.now) in
    subst T (sym c.loop-reach.invariant.still) c.requires.tight

pub relax_all-requires-clause-small : goal.relax_all-requires-clause-small
relax_all-requires-clause-small c =
    let H : List ℤ → Type 0 = λ l. (v : ℕ) → unsigned_abs (numbers_of l v) ≤ 2 ^ 116 in
    let high : (v : ℕ) → unsigned_abs (numbers_of c.args.x.now v) ≤ 2 ^ 116 = λ v. omega (arith, ints, c.requires.low v, c.requires.high v) in
    subst H (sym c.loop-reach.invariant.still) high

pub relax_all-requires-clause-farthest : goal.relax_all-requires-clause-farthest
relax_all-requires-clause-farthest c =
    last_settled c.args.problem.now (numbers_of c.loop-reach.x) (flow_of c.args.flow.now)
    (numbers_of c.args.rest.now) c.loop-reach.tree.place.items c.loop-reach.tree.via.items
    c.loop-reach.tree.distance.items c.loop-reach.queue c.nearest.new.queue
    c.loop-reach.count c.in-Some.reach c.in-Some.node c.loop-reach.invariant.search
    c.in-Some.ensures.taken

pub loop-reach-preserved : goal.loop-reach-preserved
loop-reach-preserved c =
    let p = c.args.problem.now in
    let inv = c.loop-reach.invariant in
    let x = numbers_of c.loop-reach.x in
    let f = flow_of c.args.flow.now in
    let rest = numbers_of c.args.rest.now in
    let e = c.in_ok-relax_all-in-Some.ensures in
    let up : pos 0 ≤ℤ rest c.in-Some.node = search (rules, ints, c.if-rest-node-lt0.false) in
    let q = c.relax_all.new.queue in
    let via = c.relax_all.new.tree.via.items in
    let d = c.relax_all.new.tree.distance.items in
    let same = sym (ap (λ v. v.items) e.place) in
    let K : List ℕ → Type 0 = λ l. IsSearch p x f rest l via d q (c.loop-reach.count + 1) in
    let R : List ℕ → Type 0 = λ l. AllRelaxed p x f l d in
    let C : List ℕ → Type 0 = λ l. (v : ℕ) → 0 < get_or l v 0 → pos 0 ≤ℤ rest v in
    record {
      search = subst K same (e.kept rest (c.loop-reach.count + 1)
          (after p x f rest c.loop-reach.tree.place.items c.loop-reach.tree.via.items
          c.loop-reach.tree.distance.items c.loop-reach.queue c.nearest.new.queue
          c.loop-reach.count c.in-Some.reach c.in-Some.node inv.search c.in-Some.ensures.taken));
      relaxed = subst R same (e.relaxed
          (others p x f rest c.loop-reach.tree.place.items c.loop-reach.tree.via.items
          c.loop-reach.tree.distance.items c.loop-reach.queue c.nearest.new.queue
          c.loop-reach.count c.in-Some.reach c.in-Some.node inv.search c.in-Some.ensures.taken
          inv.relaxed));
      calm = subst C same (calm_all p x f rest c.loop-reach.tree.place.items
          c.loop-reach.tree.via.items c.loop-reach.tree.distance.items c.loop-reach.queue
          c.nearest.new.queue c.loop-reach.count c.in-Some.reach c.in-Some.node inv.search
          c.in-Some.ensures.taken inv.calm up);
      still = inv.still;
      begun = omega (arith, e.falls c.args.source, inv.begun);
    }
