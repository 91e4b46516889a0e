use Rattle.std.proofs.Common.{◌≡◌, ℕ, ◌*◌, ◌<◌, get_or, sym, ◌∙◌, subst, arith}
use Rattle.std.proofs.lemmas.List.{length-set}
use Rattle.cycle_find.specs.Constraints.{numbers_of}
use Rattle.schedule_flow.proofs.Following.{followed_on, followed_reached}
use Rattle.schedule_flow.proofs.follow.follow.Goals as goal

pub returns-then-rest-node-lt0-clause-reached : goal.returns-then-rest-node-lt0-clause-reached
returns-then-rest-node-lt0-clause-reached c =
    let tree = c.loop-count.tree in
    followed_reached c.args.problem.now (numbers_of c.args.x.now) (numbers_of c.args.rest.now) tree.place.items tree.via.items c.loop-count.count c.loop-count.node c.loop-count.invariant.followed

pub loop-count-preserved : goal.loop-count-preserved
loop-count-preserved c =
    let inv = c.loop-count.invariant in
    let place = c.loop-count.tree.place.items in
    let via = c.loop-count.tree.via.items in
    let to = c.in_ok-to.to in
    let j = c.in_ok-number.number in
    let a = c.in_ok-to.ensures in
    let P : ℕ → Type 0 = λ z. z ≡ get_or place to z in
    let fresh : get_or place to 0 ≡ 0 = sym (subst P c.if-index-ne0.false c.index.ensures) in
    let node : to < c.args.problem.now.arcs.nodes = omega (arith, (c.requires.ends j a.arc).1, a.end, c.requires.numbers) in
    record {
      tree = record {
        places = length-set place to c.loop-count.count ∙ inv.tree.places;
        vias = length-set via to (2 * j) ∙ inv.tree.vias;
        distances = inv.tree.distances;
      };
      followed = followed_on c.args.problem.now (numbers_of c.args.x.now) (numbers_of c.args.rest.now) place via c.loop-count.count c.loop-count.node to j inv.followed a node fresh;
    }
