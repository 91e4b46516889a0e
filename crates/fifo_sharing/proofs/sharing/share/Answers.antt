-- The lists go through in order; each gives the chain of its producer, or none.
use Rattle.std.proofs.Common.{◌≡◌, ℕ, length, sym, ◌∙◌, subst}
use Rattle.std.proofs.lemmas.Iterator.Consumers.{
  YieldsList-from_enumerate,
  YieldsList-turn,
  YieldsList-end,
}
use Rattle.std.proofs.lemmas.Iterator.Adapters.{YieldsList-from_vec}
use Rattle.std.proofs.lemmas.List.{length_push}
use Rattle.std.proofs.lemmas.List.FromFn.{length-enumerate_from}
use Rattle.cycle_find.specs.Constraints.{numbers_of, EndsInRange}
use Rattle.fifo_sharing.proofs.Gathering.{chain_pushed, none_pushed, all_producers, its_number}
use Rattle.fifo_sharing.proofs.sharing.share.Goals as goal

pub loop-producer-preserved-in_ok-push : goal.loop-producer-preserved-in_ok-push
loop-producer-preserved-in_ok-push c =
    let lists = c.in_ok-delays_of.field-0.items in
    let yielded = c.loop-producer.yielded in
    let road = YieldsList-from_enumerate (YieldsList-from_vec lists (cc) (cc)) (cc) in
    let turn = YieldsList-turn road yielded c.loop-producer.producer-iterator
    c.loop-producer.yielded_by c.next.result c.next.new.self (
      c.in-Some.producer,
      c.in-Some.delays,
    ) c.in-Some.is c.next.ensures.steps in
    let t = its_number lists (length yielded) c.in-Some.producer c.in-Some.delays turn in
    chain_pushed c.args.problem.now (numbers_of c.args.times.now) lists (length yielded) _
    c.in-Some.delays c.loop-producer.chains _ c.in-Some-chain_for.chain
    c.loop-producer.invariant c.in_ok-delays_of.ensures.delays t.2
    (c.in-Some-chain_for.ensures.producer ∙ t.1) c.in-Some-chain_for.ensures.chain
    c.in_ok-push.ensures.ok (length_push yielded (c.in-Some.producer, c.in-Some.delays))

pub loop-producer-preserved : goal.loop-producer-preserved
loop-producer-preserved c =
    let lists = c.in_ok-delays_of.field-0.items in
    let yielded = c.loop-producer.yielded in
    let road = YieldsList-from_enumerate (YieldsList-from_vec lists (cc) (cc)) (cc) in
    let turn = YieldsList-turn road yielded c.loop-producer.producer-iterator
    c.loop-producer.yielded_by c.next.result c.next.new.self (
      c.in-Some.producer,
      c.in-Some.delays,
    ) c.in-Some.is c.next.ensures.steps in
    let t = its_number lists (length yielded) c.in-Some.producer c.in-Some.delays turn in
    none_pushed c.args.problem.now (numbers_of c.args.times.now) lists (length yielded) _
    c.in-Some.delays c.loop-producer.chains c.loop-producer.invariant
    c.in_ok-delays_of.ensures.delays t.2 c.in_default.ensures.none (length_push yielded
    (c.in-Some.producer, c.in-Some.delays))

pub returns : goal.returns
returns c =
    let lists = c.in_ok-delays_of.field-0.items in
    let list = c.args.problem.now.arcs.list in
    let yielded = c.loop-producer.yielded in
    let road = YieldsList-from_enumerate (YieldsList-from_vec lists (cc) (cc)) (cc) in
    let end = YieldsList-end road yielded c.loop-producer.producer-iterator
    c.loop-producer.yielded_by c.next.result c.next.new.self c.in-None.is c.next.ensures.steps
    in
    let all : length yielded ≡ c.args.problem.now.arcs.nodes = end.1
    ∙ length-enumerate_from 0 lists ∙ c.in_ok-delays_of.ensures.one_each in
    let Ends : ℕ → Type 0 = λ n. EndsInRange n list in
    all_producers c.args.problem.now (numbers_of c.args.times.now) (length yielded)
    c.loop-producer.chains c.loop-producer.invariant (subst Ends (sym all) c.requires.arcs.ends)
