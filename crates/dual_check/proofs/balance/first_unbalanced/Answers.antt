use Rattle.std.proofs.Common.{◌≡◌, ℕ, Option, Some, None, length, ◌∙◌, arith, rules}
use Rattle.std.proofs.lemmas.Int.{ints}
use Rattle.std.specs.Prelude.{IfSome}
use Rattle.cycle_find.specs.Constraints.{Numbers, numbers_of}
use Rattle.schedule_problem.specs.Flow.{flow_of, excess}
use Rattle.dual_check.specs.Balance.{IsFirstOther}
use Rattle.dual_check.proofs.balance.first_unbalanced.Goals as goal

-- the first that is not 0 is the same of equal numbers
same_first : (x y : Numbers) (n m : ℕ) (o : Option ℕ) → ((v : ℕ) → x v ≡ y v) → n ≡ m
    → IfSome o (IsFirstOther x n) → IfSome o (IsFirstOther y m)
same_first x y n m None same e h = h
same_first x y n m (Some v) same e h = record {
  place = omega (arith, e, h.place);
  other = λ z. h.other (same v ∙ z);
  before = λ u l. omega (arith, ints, same u, h.before u l);
}

pub returns-clause-unbalanced : goal.returns-clause-unbalanced
returns-clause-unbalanced c =
    let x = numbers_of c.weigh.new.rest in
    let y = excess c.args.problem.now (flow_of c.args.flow.now) in
    let same : (v : ℕ) → x v ≡ y v = λ (v : ℕ). omega (arith, ints, c.weigh.ensures v, c.carry.ensures.rest v) in
    let len : length c.weigh.new.rest ≡ c.args.problem.now.arcs.nodes = search rules in
    same_first x y (length c.weigh.new.rest) c.args.problem.now.arcs.nodes c.first_other.result same len c.first_other.ensures.some
