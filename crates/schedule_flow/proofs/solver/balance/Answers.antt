use Rattle.std.proofs.Common.{◌≡◌, ℕ, List, ℤ, ap, ◌∙◌, sym, subst, arith}
use Rattle.std.proofs.lemmas.Int.{ints}
use Rattle.cycle_find.specs.Constraints.{numbers_of, start_of, end_of}
use Rattle.schedule_flow.specs.Balance.{IsOnWay}
use Rattle.schedule_flow.proofs.Finishing.{weights_up}
use Rattle.schedule_flow.proofs.solver.balance.Goals as goal

pub take_up-requires-clause-on_way : goal.take_up-requires-clause-on_way
take_up-requires-clause-on_way c =
    let p = c.args.problem.now in
    let x = numbers_of c.as_slice.result.now in
    let times = numbers_of c.args.times.now in
    let same : (v : ℕ) → x v ≡ times v = λ v. ap (λ l. numbers_of l v) c.as_slice.ensures.value ∙ c.in_ok-x.ensures.same v in
    record {
      problem = c.requires.network;
      legal = λ j l. omega (arith, ints, c.requires.legal j l, same (start_of p.arcs.list j), same (end_of p.arcs.list j));
      tight = λ j l up. absurd (omega (arith, up, c.requires.empty j));
      low = λ v. omega (arith, ints, same v, c.requires.low v);
      high = λ v. omega (arith, ints, same v, c.requires.high v, c.requires.fresh);
      wants = λ v g. omega (arith, ints, same v, c.requires.high v);
      counted = omega (arith, ints, c.requires.fresh, weights_up p);
    }

pub take_up-requires-clause-small : goal.take_up-requires-clause-small
take_up-requires-clause-small c =
    let x = numbers_of c.as_slice.result.now in
    let times = numbers_of c.args.times.now in
    let same : (v : ℕ) → x v ≡ times v = λ v. ap (λ l. numbers_of l v) c.as_slice.ensures.value ∙ c.in_ok-x.ensures.same v in
    λ v. omega (arith, ints, same v, c.requires.low v, c.requires.high v)

pub send_all-requires-clause-on_way : goal.send_all-requires-clause-on_way
send_all-requires-clause-on_way c =
    let P : List ℤ → Type 0 = λ l. IsOnWay c.args.problem.now (numbers_of l) c.take_up.new.net in
    subst P (c.as_slice.ensures.value ∙ sym c.as_mut_slice.ensures.value) c.in_ok-take_up.ensures.on_way
