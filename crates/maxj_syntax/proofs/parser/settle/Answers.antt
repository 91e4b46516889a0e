use Rattle.std.proofs.Common.{◌≡◌, [], arith, drop, subst, sym, ap, ◌∙◌, refl, option_map}
use Rattle.maxj_tokens.specs.Reading.{placed_view}
use Rattle.maxj_syntax.specs.Symbols.{Mark, Name, Act, fixed_view, symbol_view}
use Rattle.maxj_syntax.specs.Building.{Reached, IsRule, todo}
use Rattle.maxj_syntax.proofs.Machine.{popped, step_act, step_less}
use Rattle.maxj_syntax.proofs.Exits.{is_rule, expanded_on, expanded_less, stuck_on}
use Rattle.maxj_syntax.specs.Plain.{Ranged}
use Rattle.maxj_syntax.proofs.Ranging.{none_left, step_ranged, expanded_ranged}
use Rattle.maxj_syntax.proofs.parser.settle.Goals as goal

pub returns-in-Mark-clause-reached : goal.returns-in-Mark-clause-reached
returns-in-Mark-clause-reached c =
    let e = popped _ _ c.in-Some.top (Mark c.in-Mark.class c.in-Mark.effect) c.in-Some.ensures.items (ap symbol_view c.in-Fixed.is ∙ ap fixed_view c.in-Mark.is) in
    subst (λ l. Reached c.args.tokens.now (drop c.args.at c.args.tokens.now) l c.loop-top.builder) e c.loop-top.invariant.reached

pub returns-in-Mark-clause-ranged : goal.returns-in-Mark-clause-ranged
returns-in-Mark-clause-ranged c =
    let e = popped _ _ c.in-Some.top (Mark c.in-Mark.class c.in-Mark.effect)
    c.in-Some.ensures.items (ap symbol_view c.in-Fixed.is ∙ ap fixed_view c.in-Mark.is) in
    subst (λ l. Ranged c.args.tokens.now l c.loop-top.builder) e c.loop-top.invariant.ranged

pub loop-top-init : goal.loop-top-init
loop-top-init c = record { reached = c.requires.reached; ranged = c.requires.ranged }

pub returns-in-Name-clause-reached : goal.returns-in-Name-clause-reached
returns-in-Name-clause-reached c =
    let e = popped _ _ c.in-Some.top (Name c.in-Name.name.now c.in-Name.effect)
    c.in-Some.ensures.items (ap symbol_view c.in-Name.is) in
    subst (λ l. Reached c.args.tokens.now (drop c.args.at c.args.tokens.now) l c.loop-top.builder) e c.loop-top.invariant.reached

pub returns-clause-reached : goal.returns-clause-reached
returns-clause-reached c =
    let e : todo c.loop-top.stack.items ≡ [] = none_left c.loop-top.stack.items
    (omega (arith, c.loop-top.stack.ok, c.in_default.ensures.cases.0)) in
    subst (λ l. Reached c.args.tokens.now (drop c.args.at c.args.tokens.now) l c.loop-top.builder) e c.loop-top.invariant.reached

pub loop-top-smaller-in_ok-act-in-Act : goal.loop-top-smaller-in_ok-act-in-Act
loop-top-smaller-in_ok-act-in-Act c =
    step_less c.in-Act.action (todo c.loop-top.stack.items) (todo c.pop.new.self.items)
    (popped _ _ c.in-Some.top (Act c.in-Act.action) c.in-Some.ensures.items (ap symbol_view c.in-Fixed.is ∙ ap fixed_view c.in-Act.is))

pub loop-top-preserved-in_ok-act-in-Act : goal.loop-top-preserved-in_ok-act-in-Act
loop-top-preserved-in_ok-act-in-Act c =
    let e = popped _ _ c.in-Some.top (Act c.in-Act.action) c.in-Some.ensures.items (ap symbol_view c.in-Fixed.is ∙ ap fixed_view c.in-Act.is) in record {
      reached = step_act c.args.tokens.now (drop c.args.at c.args.tokens.now) c.in-Act.action (todo c.pop.new.self.items) c.loop-top.builder c.act.new.builder c.in_ok-act-in-Act.ensures.trees
          (subst (λ l. Reached c.args.tokens.now (drop c.args.at c.args.tokens.now) l c.loop-top.builder) e c.loop-top.invariant.reached);
      ranged = step_ranged c.args.tokens.now (drop c.args.at c.args.tokens.now) c.in-Act.action
          (todo c.pop.new.self.items) c.loop-top.builder c.act.new.builder
          c.in_ok-act-in-Act.ensures.trees c.in_ok-act-in-Act.ensures.numbers (subst (λ l. Ranged
          c.args.tokens.now l c.loop-top.builder) e c.loop-top.invariant.ranged);
    }

pub returns-then-not-branch-clause-reached : goal.returns-then-not-branch-clause-reached
returns-then-not-branch-clause-reached c =
    let i = subst (λ s. IsRule (symbol_view s)) (sym c.in-Named.is) tt in
    let e = popped _ _ c.in-Some.top (symbol_view c.in-Some.top) c.in-Some.ensures.items refl in
    stuck_on c.args.tokens.now (drop c.args.at c.args.tokens.now)
    (option_map placed_view c.token_at-next.result) (symbol_view c.in-Some.top)
    (todo c.loop-top.stack.items) (todo c.pop.new.self.items)
    (todo c.expand.new.stack.items) c.loop-top.builder
    c.in_ok-expand-in-Named.field-0 c.token_at-next.ensures i c.in_ok-expand-in-Named.ensures c.if-not-branch.true e c.loop-top.invariant.reached

pub loop-top-smaller-else-not-branch : goal.loop-top-smaller-else-not-branch
loop-top-smaller-else-not-branch c =
    let i = subst (λ s. IsRule (symbol_view s)) (sym c.in-Named.is) tt in
    let e = popped _ _ c.in-Some.top (symbol_view c.in-Some.top) c.in-Some.ensures.items refl in
    expanded_less (option_map placed_view c.token_at-next.result) (symbol_view c.in-Some.top) (todo c.loop-top.stack.items) (todo c.pop.new.self.items) (todo c.expand.new.stack.items)
    c.in_ok-expand-in-Named.field-0 i c.in_ok-expand-in-Named.ensures c.if-not-branch.false e

pub loop-top-preserved-else-not-branch : goal.loop-top-preserved-else-not-branch
loop-top-preserved-else-not-branch c =
    let i = subst (λ s. IsRule (symbol_view s)) (sym c.in-Named.is) tt in
    let e = popped _ _ c.in-Some.top (symbol_view c.in-Some.top) c.in-Some.ensures.items refl in record {
      reached = expanded_on c.args.tokens.now (drop c.args.at c.args.tokens.now)
          (option_map placed_view c.token_at-next.result) (symbol_view c.in-Some.top)
          (todo c.loop-top.stack.items) (todo c.pop.new.self.items)
          (todo c.expand.new.stack.items) c.loop-top.builder
          c.in_ok-expand-in-Named.field-0 c.token_at-next.ensures i c.in_ok-expand-in-Named.ensures c.if-not-branch.false e c.loop-top.invariant.reached;
      ranged = expanded_ranged c.args.tokens.now (option_map placed_view c.token_at-next.result)
          (symbol_view c.in-Some.top) (todo c.loop-top.stack.items) (todo c.pop.new.self.items)
          (todo c.expand.new.stack.items) c.loop-top.builder c.in_ok-expand-in-Named.field-0 i
          c.in_ok-expand-in-Named.ensures c.if-not-branch.false e c.loop-top.invariant.ranged;
    }

pub returns-then-not-branch-2-clause-reached : goal.returns-then-not-branch-2-clause-reached
returns-then-not-branch-2-clause-reached c =
    let i = subst (λ s. IsRule (symbol_view s)) (sym c.in-Fixed.is) (is_rule c.in-Fixed.fixed c.in_default-fixed.not-Mark c.in_default-fixed.not-Act) in
    let e = popped _ _ c.in-Some.top (symbol_view c.in-Some.top) c.in-Some.ensures.items refl in
    stuck_on c.args.tokens.now (drop c.args.at c.args.tokens.now)
    (option_map placed_view c.token_at-next.result) (symbol_view c.in-Some.top)
    (todo c.loop-top.stack.items) (todo c.pop.new.self.items)
    (todo c.expand-in_default-fixed.new.stack.items) c.loop-top.builder
    c.in_ok-expand-in_default-fixed.field-0 c.token_at-next.ensures i c.in_ok-expand-in_default-fixed.ensures c.if-not-branch-2.true e c.loop-top.invariant.reached

pub loop-top-smaller : goal.loop-top-smaller
loop-top-smaller c =
    let i = subst (λ s. IsRule (symbol_view s)) (sym c.in-Fixed.is) (is_rule c.in-Fixed.fixed c.in_default-fixed.not-Mark c.in_default-fixed.not-Act) in
    let e = popped _ _ c.in-Some.top (symbol_view c.in-Some.top) c.in-Some.ensures.items refl in
    expanded_less (option_map placed_view c.token_at-next.result) (symbol_view c.in-Some.top) (todo c.loop-top.stack.items) (todo c.pop.new.self.items) (todo c.expand-in_default-fixed.new.stack.items)
    c.in_ok-expand-in_default-fixed.field-0 i c.in_ok-expand-in_default-fixed.ensures c.if-not-branch-2.false e

pub loop-top-preserved : goal.loop-top-preserved
loop-top-preserved c =
    let i = subst (λ s. IsRule (symbol_view s)) (sym c.in-Fixed.is) (is_rule c.in-Fixed.fixed c.in_default-fixed.not-Mark c.in_default-fixed.not-Act) in
    let e = popped _ _ c.in-Some.top (symbol_view c.in-Some.top) c.in-Some.ensures.items refl in record {
      reached = expanded_on c.args.tokens.now (drop c.args.at c.args.tokens.now)
          (option_map placed_view c.token_at-next.result) (symbol_view c.in-Some.top)
          (todo c.loop-top.stack.items) (todo c.pop.new.self.items)
          (todo c.expand-in_default-fixed.new.stack.items) c.loop-top.builder
          c.in_ok-expand-in_default-fixed.field-0 c.token_at-next.ensures i c.in_ok-expand-in_default-fixed.ensures c.if-not-branch-2.false e c.loop-top.invariant.reached;
      ranged = expanded_ranged c.args.tokens.now (option_map placed_view c.token_at-next.result)
          (symbol_view c.in-Some.top) (todo c.loop-top.stack.items) (todo c.pop.new.self.items)
          (todo c.expand-in_default-fixed.new.stack.items) c.loop-top.builder
          c.in_ok-expand-in_default-fixed.field-0 i c.in_ok-expand-in_default-fixed.ensures
          c.if-not-branch-2.false e c.loop-top.invariant.ranged;
    }

pub returns-in-Name-clause-ranged : goal.returns-in-Name-clause-ranged
returns-in-Name-clause-ranged c =
    let e = popped _ _ c.in-Some.top (Name c.in-Name.name.now c.in-Name.effect)
    c.in-Some.ensures.items (ap symbol_view c.in-Name.is) in
    subst (λ l. Ranged c.args.tokens.now l c.loop-top.builder) e c.loop-top.invariant.ranged

pub returns-clause-ranged : goal.returns-clause-ranged
returns-clause-ranged c =
    let e : todo c.loop-top.stack.items ≡ [] = none_left c.loop-top.stack.items
    (omega (arith, c.loop-top.stack.ok, c.in_default.ensures.cases.0)) in
    subst (λ l. Ranged c.args.tokens.now l c.loop-top.builder) e c.loop-top.invariant.ranged
