use Rattle.std.proofs.Common.{◌≡◌, ℕ, ◌<◌, pos, ◌≤ℤ◌, List, length, get_or, ◌∙◌, subst, arith}
use Rattle.std.proofs.lemmas.Int.{ints}
use Rattle.cycle_find.specs.Constraints.{numbers_of}
use Rattle.schedule_problem.specs.declared.problem.Problem.{Problem}
use Rattle.schedule_problem.specs.Flow.{flow_of, excess}
use Rattle.schedule_flow.specs.Network.{IsPath, IsSent, IsTight, weights}
use Rattle.schedule_flow.specs.Reach.{IsFree}
use Rattle.schedule_flow.proofs.Balancing.{way_on, stays_down}
use Rattle.schedule_flow.proofs.balance.send_from.Goals as goal

pub returns-clause-on_way : goal.returns-clause-on_way
returns-clause-on_way c =
    let p = c.args.problem.now in
    let old = c.args.net.now in
    let new = c.augment.new.net in
    let path = c.in_ok-way.way.path.items in
    let a = c.in_ok-way.way.amount in
    let e = c.in_ok-want.ensures in
    let w = c.in_ok-way.ensures in
    let same : old.problem ≡ p = c.requires.on_way.problem in
    let fl : c.flow.result.now ≡ old.flow = c.flow.ensures.flow in
    let fl2 : c.flow-2.result.now ≡ old.flow = c.flow-2.ensures.flow in
    let T : List ℕ → Type 0 = λ l. IsTight p (numbers_of c.find.new.x) (flow_of l) in
    let P : List ℕ → Type 0 = λ l. IsPath p (flow_of l) path a in
    let F : List ℕ → Type 0 = λ l. (k : ℕ) → k < length path → IsFree p (numbers_of c.find.new.x) (flow_of l) (get_or path k 0) in
    let S : Problem → Type 0 = λ q. IsSent q (flow_of old.flow) (flow_of new.flow) c.as_slice.result.now a in
    let R : List ℕ → Type 0 = λ l. IsSent p (flow_of old.flow) (flow_of new.flow) l a in
    let E : Problem → Type 0 = λ q. (v : ℕ) → numbers_of c.rest.result.now v ≡ excess q (flow_of old.flow) v in
    let rest = subst E same c.rest.ensures.rest in
    let W : Problem → Type 0 = λ q. pos new.sends ≤ℤ weights q in
    let items : c.as_slice.result.now ≡ path = c.as_slice.ensures.value in
    way_on p (numbers_of c.args.x.now) (numbers_of c.find.new.x) old new path a c.requires.on_way e.legal (subst T fl e.tight) e.low e.high (λ v g. e.wants v (omega (arith, ints, rest v, g)))
    (subst P fl2 w.path) (subst F fl2 w.free)
    (c.augment.ensures.problem ∙ same) c.augment.ensures.sends
    (subst R items (subst S same c.augment.ensures.sent))
    (subst W (c.augment.ensures.problem ∙ same) c.augment.ensures.counted)

pub returns-clause-keeps : goal.returns-clause-keeps
returns-clause-keeps c =
    let p = c.args.problem.now in
    let old = c.args.net.now in
    let path = c.in_ok-way.way.path.items in
    let a = c.in_ok-way.way.amount in
    let new = c.augment.new.net in
    let S : Problem → Type 0 = λ q. IsSent q (flow_of old.flow) (flow_of new.flow) c.as_slice.result.now a in
    let R : List ℕ → Type 0 = λ l. IsSent p (flow_of old.flow) (flow_of new.flow) l a in
    let fl2 : c.flow-2.result.now ≡ old.flow = c.flow-2.ensures.flow in
    let P : List ℕ → Type 0 = λ l. IsPath p (flow_of l) path c.in_ok-way.way.amount in
    stays_down p (flow_of old.flow) (flow_of c.augment.new.net.flow) path c.in_ok-way.way.amount
    (subst P fl2 c.in_ok-way.ensures.path) (subst R c.as_slice.ensures.value
    (subst S c.requires.on_way.problem c.augment.ensures.sent))
