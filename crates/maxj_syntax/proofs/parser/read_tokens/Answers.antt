use Rattle.std.proofs.Common.{◌≡◌, arith, Some, drop, ap, ◌∙◌, subst}
use Rattle.maxj_syntax.specs.Building.{Reached, Settles, todo}
use Rattle.maxj_syntax.specs.Plain.{SettlesRanged}
use Rattle.maxj_syntax.proofs.Ranging.{token_ranged}
use Rattle.maxj_syntax.proofs.Exits.{misplaced_token, misplaced_end, read_token, finished_file, kind_here, kind_at_end}
use Rattle.maxj_syntax.proofs.parser.read_tokens.Goals as goal

pub settle-requires-clause-kind : goal.settle-requires-clause-kind
settle-requires-clause-kind c = ap (λ k. Some k) c.kind_of-kind.ensures
    ∙ kind_here c.args.tokens.now c.loop-at.at _ c.at-token.ensures

pub settle-requires-2-clause-kind : goal.settle-requires-2-clause-kind
settle-requires-2-clause-kind c = kind_at_end c.args.tokens.now c.len-count.result c.len-count.ensures.number

pub settle-requires-clause-reached : goal.settle-requires-clause-reached
settle-requires-clause-reached c = c.loop-at.invariant.reached

pub settle-requires-clause-ranged : goal.settle-requires-clause-ranged
settle-requires-clause-ranged c = c.loop-at.invariant.ranged

pub settle-requires-2-clause-reached : goal.settle-requires-2-clause-reached
settle-requires-2-clause-reached c =
    let e : c.loop-at.at ≡ c.len-count.result = omega (arith, c.loop-at.auto.at-end, c.loop-at-test.false) in
    subst (λ n. Reached c.args.tokens.now (drop n c.args.tokens.now) (todo c.loop-at.stack.items) c.loop-at.builder) e c.loop-at.invariant.reached

pub settle-requires-2-clause-ranged : goal.settle-requires-2-clause-ranged
settle-requires-2-clause-ranged c = c.loop-at.invariant.ranged

pub loop-at-init : goal.loop-at-init
loop-at-init c = record { reached = c.requires.reached; ranged = c.requires.ranged }

pub returns-in_default-clause-err : goal.returns-in_default-clause-err
returns-in_default-clause-err c =
    misplaced_token c.args.tokens.now c.args.size c.loop-at.at _ c.in_ok-settled.settled
    (todo c.settle.new.stack.items) c.settle.new.builder c.at-token.ensures
    c.in_default.ensures.none c.in_ok-settled.ensures.reached

pub loop-at-preserved : goal.loop-at-preserved
loop-at-preserved c = record {
  reached = read_token c.args.tokens.now c.loop-at.at _ c.in_ok-settled.settled c.in-Some.effect
      (todo c.settle.new.stack.items) c.settle.new.builder c.read.new.builder c.at-token.ensures
      c.in-Some.ensures.some
      (c.in_ok-read.ensures.trees _ c.at-token.ensures) c.in_ok-settled.ensures.reached;
  ranged = token_ranged c.args.tokens.now _ _ c.loop-at.at _ c.in_ok-settled.settled
      c.in-Some.effect (todo c.settle.new.stack.items) c.settle.new.builder c.read.new.builder
      c.at-token.ensures c.in-Some.ensures.some (c.in_ok-read.ensures.trees _ c.at-token.ensures)
      c.in_ok-read.ensures.numbers c.in_ok-settled.ensures.ranged;
}

pub returns-in-Empty-clause-ok : goal.returns-in-Empty-clause-ok
returns-in-Empty-clause-ok c =
    let s = subst (λ x. Settles x c.args.tokens.now (drop c.len-count.result c.args.tokens.now)
    (todo c.settle-2.new.stack.items) c.settle-2.new.builder) c.in-Empty.is
    c.in_ok-settle.ensures.reached in
    finished_file c.args.tokens.now c.len-count.result c.settle-2.new.builder c.len-count.ensures.number s

pub returns-in-Empty-clause-numbers : goal.returns-in-Empty-clause-numbers
returns-in-Empty-clause-numbers c = λ none.
    let s = subst (λ x. SettlesRanged x c.args.tokens.now (todo c.settle-2.new.stack.items) c.settle-2.new.builder) c.in-Empty.is
    c.in_ok-settle.ensures.ranged in
    (s none).6

pub returns-in_default-2 : goal.returns-in_default-2
returns-in_default-2 c = record {
  ok = tt;
  numbers = tt;
  err = misplaced_end c.args.tokens.now c.args.size c.len-count.result c.in_ok-settle.field-0
      (todo c.settle-2.new.stack.items) c.settle-2.new.builder c.len-count.ensures.number
      c.in_default-2.not-Empty c.in_ok-settle.ensures.reached;
}
