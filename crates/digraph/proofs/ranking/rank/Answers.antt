use Rattle.std.proofs.Common.{arith, sym, ◌≡◌, replicate, true, length, rules, refl}
use Rattle.digraph.proofs.Walks.{walk, begins}
use Rattle.digraph.proofs.ranking.rank.Goals as goal

pub loop-node-init : goal.loop-node-init
loop-node-init c =
    let n = length c.args.graph.now in
    let er : c.in_ok-vec.field-0.items ≡ replicate n 0 = search rules in
    let ef : c.in_ok-vec-2.field-0.items ≡ replicate n true = search rules in
    record {
      searches = rw (er, ef, c.new.ensures.items, c.new-2.ensures.items, c.new-3.ensures.items) (begins c.args.graph.now n refl);
      empty = c.new.ensures.items;
      size = refl;
      ranked = λ x h. absurd (omega arith);
    }

pub returns-in-Some : goal.returns-in-Some
returns-in-Some c =
    let s = rw c.in-Some.is at c.in_ok-at.ensures.walk in
    walk c.args.graph.now c.visit.new.search.path.items _ c.in-Some.at s c.in_ok-at.ensures.searches.apart (rw (sym c.as_slice.ensures.value) c.in_ok-walk_from.ensures)
