use Rattle.std.proofs.Common.{◌≡◌, ℕ, ◌+◌, ◌-◌, ◌*◌, ◌<◌, ◌≤◌, List, [], ◌∷◌, ◌++◌, reverse, drop, length, get_or, set, sym, ap, ◌∙◌, subst, arith, rules, refl}
use Rattle.std.proofs.lemmas.List.{length-append, length-set}
use Rattle.std.proofs.lemmas.List.Sums.{sum_by-set}
use Rattle.std.proofs.lemmas.Int.{ints}
use Rattle.cycle_find.specs.declared.arcs.Arc.{Arc}
use Rattle.cycle_find.specs.Constraints.{start_of, IsPositiveCycle}
use Rattle.cycle_find.specs.Search.{IsChain}
use Rattle.cycle_find.proofs.Raising.{parent_at}
use Rattle.cycle_find.proofs.Back.{IsStamped, chain_more, stamped_after, cycle_back}
use Rattle.std.proofs.Math.Nat.{mul-le-mul_right}
use Rattle.cycle_find.proofs.search.walk_back.Goals as goal
use Rattle.cycle_find.proofs.search.walk_back.Goals.{then-loop-node-test+else-place-node-eq0, else-loop-node-test}

pub loop-node-preserved : goal.loop-node-preserved
loop-node-preserved c =
    let list = c.args.list.now in
    let x = c.args.x.now in
    let via = c.args.via.now in
    let node = c.loop-node.node in
    let path = c.loop-node.path.items in
    let place = c.loop-node.place in
    let j = get_or via node 0 in
    let inv = c.loop-node.invariant in
    let up : 0 < get_or x node 0 = c.loop-node-test.true in
    let p = parent_at list x via c.requires.raised node j up refl in
    let next = c.arc_number-node.result.from in
    let a : next ≡ start_of list j = ap (λ (b : Arc). b.from) c.arc_number-node.ensures in
    let items : c.push.new.self.items ≡ path ++ j ∷ [] = search rules in
    let n : c.len.result ≡ length (path ++ j ∷ []) = search rules in
    let len : length (path ++ j ∷ []) ≡ length path + 1 = length-append path (j ∷ []) in
    let C : List ℕ → Type 0 = λ l. IsChain list x via c.args.start l next in
    let D : ℕ → Type 0 = λ v. IsChain list x via c.args.start (path ++ j ∷ []) v in
    let S : List ℕ → Type 0 = λ l. IsStamped list l (set place node c.len.result) in
    let fresh : get_or place node 0 ≡ 0 = search rules in
    let in_place : node < length place = omega (arith, inv.node, inv.places) in
    let both : length c.push.new.self.items ≡ length path + 1 = ap length items ∙ len in
    record {
      node = rw a (c.requires.ends j p.arc).0;
      chain = subst C (sym items) (subst D (sym a) (chain_more list x via path c.args.start node j inv.chain up refl));
      stamped = subst S (sym items) (stamped_after list path place node j c.len.result inv.stamped in_place fresh p.here n);
      count = omega (arith, both, inv.count, fresh, n, len, sum_by-set (λ p'. 1 - p') place node c.len.result 0 in_place);
      places = length-set place node c.len.result ∙ inv.places;
      climbed = λ size h.
          let e : get_or x next 0 ≡ get_or x (start_of list j) 0 = ap (λ v. get_or x v 0) a in
          let more : length c.push.new.self.items * size ≡ length path * size + size = ap (λ k. k * size) both ∙ omega arith in
          omega (arith, ints, e, p.reached, inv.climbed size h, h j p.arc, more);
    }

pub returns-then-x-node-eq0-clause-root : goal.returns-then-x-node-eq0-clause-root
returns-then-x-node-eq0-clause-root c =
    let inv = c.loop-node.invariant in
    λ size h.
    let m : length c.loop-node.path.items * size ≤ length c.args.x.now * size = mul-le-mul_right size (omega (arith, inv.count)) in
    omega (arith, m, inv.climbed size h, c.if-x-node-eq0.true)

pub returns-clause-cycle : goal.returns-clause-cycle
returns-clause-cycle c =
    let inv = c.loop-node.invariant in
    let list = c.args.list.now in
    let node = c.loop-node.node in
    let place = c.loop-node.place in
    let path = c.loop-node.path.items in
    let met : 0 < get_or place node 0 = elim c.loop-node-test.branch [
      | then-loop-node-test+else-place-node-eq0 w ↦ omega (arith, w.if-place-node-eq0.false)
      | else-loop-node-test w ↦ absurd (omega (arith, w.loop-node-test.false, c.if-x-node-eq0.false))
    ] in
    let P : List ℕ → Type 0 = λ l. IsPositiveCycle list l in
    let items : c.from_vec.result ≡ reverse (drop (get_or place node 0 - 1) path) = search rules in
    subst P (sym items) (cycle_back list c.args.x.now c.args.via.now path place c.args.start node c.requires.raised inv.stamped inv.chain met)
