use Rattle.std.proofs.Common.{◌≡◌, ℕ, ◌<◌, ◌≤◌, pos, ◌≤ℤ◌, List, length, get_or, refl, sym, ◌∙◌, subst, arith}
use Rattle.std.proofs.lemmas.Int.{ints}
use Rattle.cycle_find.specs.Constraints.{numbers_of}
use Rattle.schedule_problem.specs.declared.problem.Problem.{Problem}
use Rattle.schedule_problem.specs.Flow.{flow_of}
use Rattle.schedule_flow.specs.Network.{IsPath, IsSent, weights}
use Rattle.schedule_flow.specs.Reach.{IsFree}
use Rattle.schedule_flow.proofs.Balancing.{way_on}
use Rattle.schedule_flow.proofs.Following.{same_reached, less_path}
use Rattle.schedule_flow.proofs.follow.send_along.Goals as goal

pub way_to-requires-clause-reached : goal.way_to-requires-clause-reached
way_to-requires-clause-reached c =
    let f = flow_of c.flow.result.now in
    same_reached c.args.problem.now (numbers_of c.args.x.now) f (numbers_of c.rest.result.now) (numbers_of c.rest-2.result.now) c.follow.new.tree.place.items c.follow.new.tree.via.items
    (c.in-Some.ensures.reached f) (λ v. c.rest-2.ensures.rest v ∙ sym (c.rest.ensures.rest v))

pub augment-requires : goal.augment-requires
augment-requires c =
    let p = c.args.problem.now in
    let old = c.args.net.now in
    let way = c.in_ok-way.way in
    let a = c.max-amount.result in
    let P : List ℕ → Type 0 = λ l. IsPath p (flow_of l) way.path.items way.amount in
    let h = subst P c.flow.ensures.flow c.in_ok-way.ensures.path in
    let most : c.min.result ≤ way.amount = omega (arith, c.min.ensures) in
    let some : 0 < a = omega (arith, c.max-amount.ensures) in
    let le : a ≤ way.amount = omega (arith, most, h.positive, c.max-amount.ensures) in
    let Q : List ℕ → Type 0 = λ l. IsPath p (flow_of old.flow) l a in
    let R : Problem → Type 0 = λ q. IsPath q (flow_of old.flow) c.as_slice.result.now a in
    subst R (sym c.requires.on_way.problem) (subst Q (sym c.as_slice.ensures.value) (less_path p (flow_of old.flow) way.path.items way.amount a h some le))

pub returns-clause-on_way : goal.returns-clause-on_way
returns-clause-on_way c =
    let p = c.args.problem.now in
    let x = numbers_of c.args.x.now in
    let old = c.args.net.now in
    let new = c.augment.new.net in
    let way = c.in_ok-way.way in
    let path = way.path.items in
    let a = c.max-amount.result in
    let on_way = c.requires.on_way in
    let same : old.problem ≡ p = on_way.problem in
    let P : List ℕ → Type 0 = λ l. IsPath p (flow_of l) path way.amount in
    let h = subst P c.flow.ensures.flow c.in_ok-way.ensures.path in
    let most : c.min.result ≤ way.amount = omega (arith, c.min.ensures) in
    let some : 0 < a = omega (arith, c.max-amount.ensures) in
    let le : a ≤ way.amount = omega (arith, most, h.positive, c.max-amount.ensures) in
    let F : List ℕ → Type 0 = λ l. (k : ℕ) → k < length path → IsFree p x (flow_of l) (get_or path k 0) in
    let S : Problem → Type 0 = λ q. IsSent q (flow_of old.flow) (flow_of new.flow) c.as_slice.result.now a in
    let R : List ℕ → Type 0 = λ l. IsSent p (flow_of old.flow) (flow_of new.flow) l a in
    let W : Problem → Type 0 = λ q. pos new.sends ≤ℤ weights q in
    way_on p x x old new path a on_way on_way.legal on_way.tight on_way.low (λ v. omega (arith, ints)) (λ v g. refl)
    (less_path p (flow_of old.flow) path way.amount a h some le) (subst F c.flow.ensures.flow c.in_ok-way.ensures.free)
    (c.augment.ensures.problem ∙ same) c.augment.ensures.sends (subst R c.as_slice.ensures.value (subst S same c.augment.ensures.sent))
    (subst W (c.augment.ensures.problem ∙ same) c.augment.ensures.counted)
