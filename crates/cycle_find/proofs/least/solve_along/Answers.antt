use Rattle.std.proofs.Common.{◌≡◌, ◌≢◌, ℕ, ◌*◌, ◌≤◌, List, ⊎_elim, length, get_or, sum, sym, ap, ◌∙◌, subst, arith, rules}
use Rattle.std.proofs.lemmas.Bool.{cases_eq}
use Rattle.std.proofs.lemmas.Int.{ints}
use Rattle.std.proofs.Math.Nat.{mul-le-mul_left}
use Rattle.std.proofs.Common.{Option, IfNone}
use Rattle.cycle_find.specs.declared.arcs.Arc.{Arc}
use Rattle.cycle_find.specs.declared.arcs.Cycle.{Cycle}
use Rattle.cycle_find.specs.Constraints.{numbers_of, IsPositiveCycle, IsLeast, NeedsWithin}
use Rattle.cycle_find.specs.Search.{so_far}
use Rattle.cycle_find.proofs.Back.{unsolvable}
use Rattle.cycle_find.proofs.Settled.{least_of, sum_within}
use Rattle.cycle_find.proofs.least.solve_along.Goals as goal

pub returns-in-Some-2-clause-cycle : goal.returns-in-Some-2-clause-cycle
returns-in-Some-2-clause-cycle c =
    let p : IsPositiveCycle c.args.arcs.now.list c.in-Some-2.cycle.arcs = search rules in
    (p, unsolvable c.args.arcs.now.list c.in-Some-2.cycle.arcs p)

pub returns-in-Some-3-clause-cycle : goal.returns-in-Some-3-clause-cycle
returns-in-Some-3-clause-cycle c =
    let p : IsPositiveCycle c.args.arcs.now.list c.in-Some-3.cycle.arcs = search rules in
    (p, unsolvable c.args.arcs.now.list c.in-Some-3.cycle.arcs p)

pub loop-node-smaller : goal.loop-node-smaller
loop-node-smaller c =
    let node = c.in-Some-sweep.node in
    let x = c.sweep.new.x in
    let limit = c.args.arcs.now.nodes * c.greatest-size.result in
    let n : length x ≡ c.args.arcs.now.nodes = search rules in
    let P : Option Cycle → Type 0 = λ o. IfNone o ((s : ℕ) → NeedsWithin s c.as_slice-list.result.now → get_or x node 0 ≤ length x * s) in
    let far : get_or x node 0 ≤ length x * c.greatest-size.result = subst P c.in_default-3.is c.in_ok-cycle-2.ensures.root c.greatest-size.result c.greatest-size.ensures.within in
    let root : get_or x node 0 ≤ limit = rw n at far in
    let bound : sum x ≤ c.args.arcs.now.nodes * limit = sum_within x c.args.arcs.now.nodes limit
    n (λ v. ⊎_elim (λ (q : v ≡ node). let e : get_or x v 0 ≡ get_or x node 0 = ap
    (λ k. get_or x k 0) q in omega (
      arith,
      e,
      root,
    )) (λ (d : v ≢ node). c.in-Some-sweep.ensures.within.others v d) (cases_eq v node)) in
    omega (arith, bound, c.in-Some-sweep.ensures.more)

pub returns-clause-least : goal.returns-clause-least
returns-clause-least c =
    let e : c.as_slice-list.result.now ≡ c.args.arcs.now.list = c.as_slice-list.ensures in
    let P : List Arc → Type 0 = λ l. IsLeast (numbers_of c.in_ok-signed.field-0.items) l in
    subst P e (least_of c.as_slice-list.result.now c.sweep.new.x c.sweep.new.via
    c.in_ok-signed.field-0.items c.in_default-sweep.ensures.raised
    c.in_default-sweep.ensures.solved c.in_ok-signed.ensures.same)

pub returns-clause-within : goal.returns-clause-within
returns-clause-within c =
    λ size h v.
    let P : List Arc → Type 0 = λ l. NeedsWithin size l in
    let k : c.greatest-size.result ≤ size = c.greatest-size.ensures.least size (subst P (sym c.as_slice-list.ensures) h) in
    let m : c.args.arcs.now.nodes * c.greatest-size.result ≤ c.args.arcs.now.nodes * size = mul-le-mul_left c.args.arcs.now.nodes k in
    let e : numbers_of c.in_ok-signed.field-0.items v ≡ so_far c.loop-node.x v = c.in_ok-signed.ensures.same v ∙ ap (λ x. so_far x v) c.in_default-sweep.ensures.same in
    omega (arith, ints, e, c.loop-node.invariant.within v, m)
