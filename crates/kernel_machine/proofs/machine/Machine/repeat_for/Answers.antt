-- `for`.
use Rattle.std.proofs.Common.{◌∙◌, Some, refl, sym, arith}
use Rattle.maxj_syntax.specs.declared.tree.NodeKind.TheVariants as N
use Rattle.kernel_plans.specs.Trees.{trees_of}
use Rattle.kernel_machine.specs.declared.task.Task.TheVariants as T
use Rattle.kernel_machine.specs.Going.{go, standing, leaving, after}
use Rattle.kernel_machine.proofs.Places.{how-many, four-parts}
use Rattle.kernel_machine.proofs.Moves
use Rattle.std.proofs.Common.{length}
use Rattle.kernel_machine.proofs.machine.Machine.repeat_for.Goals as goal

pub returns-then-statement-ne4-clause-does : goal.returns-then-statement-ne4-clause-does
returns-then-statement-ne4-clause-does c =
    let many = how-many c.args.class.now.cells c.args.statement.now.id
    c.args.statement.now.children.now in
    Moves.as-kind c.args.class.now.cells (standing c.args.class.now c.args.self.now)
    c.args.statement.now N.For c.args.self.now.state (after c.args.class.now c.args.self.now)
    (leaving c.args.class.now c.args.self.now) c.requires.kind
    ∙ Moves.for-odd (standing c.args.class.now c.args.self.now) c.args.statement.now.word.now
    c.args.statement.now.span (trees_of c.args.class.now.cells c.args.statement.now.id
    c.args.statement.now.children.now) c.args.self.now.state (after c.args.class.now
    c.args.self.now) (leaving c.args.class.now c.args.self.now) (λ e. absurd (omega arith))

pub returns-then-not-count-clause-does : goal.returns-then-not-count-clause-does
returns-then-not-count-clause-does c =
    Moves.as-kind c.args.class.now.cells (standing c.args.class.now c.args.self.now)
    c.args.statement.now N.For c.args.self.now.state (after c.args.class.now c.args.self.now)
    (leaving c.args.class.now c.args.self.now) c.requires.kind
    ∙ (Moves.for-four c.args.class.now.cells (standing c.args.class.now c.args.self.now)
    c.args.statement.now.word.now c.args.statement.now.span (trees_of c.args.class.now.cells
    c.args.statement.now.id c.args.statement.now.children.now) c.part-first.result
    c.part-test.result c.part-step.result c.part-body.result
    c.condition_at.result c.step_at.result c.args.self.now.state (after c.args.class.now
    c.args.self.now) (leaving c.args.class.now c.args.self.now) c.condition_at.ensures
    c.step_at.ensures
    (four-parts c.args.class.now.cells c.args.statement.now c.part-first.result
    c.part-test.result c.part-step.result c.part-body.result (omega arith)
    c.part-first.ensures c.part-test.ensures c.part-step.ensures c.part-body.ensures)
    ∙ Moves.counted-stop c.args.self.now.state _ c.if-not-count.ensures.0)

pub returns-then-absent-clause-does : goal.returns-then-absent-clause-does
returns-then-absent-clause-does c =
    let counted = c.if-not-count.ensures in
    let len = c.len.ensures in
    let absent = c.if-absent.ensures in
    Moves.leads-by c.args.class.now _ _ c.turn.result c.turn.new.self
    (Moves.as-kind c.args.class.now.cells (standing c.args.class.now c.args.self.now)
    c.args.statement.now N.For c.args.self.now.state (after c.args.class.now c.args.self.now)
    (leaving c.args.class.now c.args.self.now) c.requires.kind
    ∙ (Moves.for-four c.args.class.now.cells (standing c.args.class.now c.args.self.now)
    c.args.statement.now.word.now c.args.statement.now.span (trees_of c.args.class.now.cells
    c.args.statement.now.id c.args.statement.now.children.now) c.part-first.result
    c.part-test.result c.part-step.result c.part-body.result
    c.condition_at.result c.step_at.result c.args.self.now.state (after c.args.class.now
    c.args.self.now) (leaving c.args.class.now c.args.self.now) c.condition_at.ensures
    c.step_at.ensures
    (four-parts c.args.class.now.cells c.args.statement.now c.part-first.result
    c.part-test.result c.part-step.result c.part-body.result (omega arith)
    c.part-first.ensures c.part-test.ensures c.part-step.ensures c.part-body.ensures)
    ∙ (Moves.counted-to c.args.self.now c.count.new.self _ counted
    ∙ Moves.for-absent c.args.class.now.cells (standing c.args.class.now c.args.self.now)
    c.part-first.result (record {
      at = c.args.statement.now.span.from;
      condition = c.condition_at.result;
      step = c.step_at.result;
      body = c.part-body.result;
      count = Some c.len.result;
    }) (Moves.for_loop c.args.statement.now.span c.condition_at.result c.step_at.result
    c.part-body.result (length c.count.new.self.state.variables)) c.count.new.self.state (after
    c.args.class.now c.args.self.now) (leaving c.args.class.now c.args.self.now)
    (rw (len, counted.1) refl) (sym absent)
    ∙ rw counted.1 refl)))
    (rw c.most_turns-more.ensures at c.turn.ensures.does)

pub returns-clause-does : goal.returns-clause-does
unfolding go
returns-clause-does c =
    let counted = c.if-not-count.ensures in
    let len = c.len.ensures in
    Moves.leads-by c.args.class.now _ (Moves.executed c.args.class.now c.count.new.self
    (T.LoopBegin (record {
      at = c.args.statement.now.span.from;
      condition = c.condition_at.result;
      step = c.step_at.result;
      body = c.part-body.result;
      count = Some c.len.result;
    })) c.part-first.result) c.execute_for.result c.execute_for.new.self
    (Moves.as-kind c.args.class.now.cells (standing c.args.class.now c.args.self.now)
    c.args.statement.now N.For c.args.self.now.state (after c.args.class.now c.args.self.now)
    (leaving c.args.class.now c.args.self.now) c.requires.kind
    ∙ (Moves.for-four c.args.class.now.cells (standing c.args.class.now c.args.self.now)
    c.args.statement.now.word.now c.args.statement.now.span (trees_of c.args.class.now.cells
    c.args.statement.now.id c.args.statement.now.children.now) c.part-first.result
    c.part-test.result c.part-step.result c.part-body.result
    c.condition_at.result c.step_at.result c.args.self.now.state (after c.args.class.now
    c.args.self.now) (leaving c.args.class.now c.args.self.now) c.condition_at.ensures
    c.step_at.ensures
    (four-parts c.args.class.now.cells c.args.statement.now c.part-first.result
    c.part-test.result c.part-step.result c.part-body.result (omega arith)
    c.part-first.ensures c.part-test.ensures c.part-step.ensures c.part-body.ensures)
    ∙ (Moves.counted-to c.args.self.now c.count.new.self _ counted
    ∙ (Moves.for-present c.args.class.now.cells (standing c.args.class.now c.args.self.now)
    c.part-first.result (record {
      at = c.args.statement.now.span.from;
      condition = c.condition_at.result;
      step = c.step_at.result;
      body = c.part-body.result;
      count = Some c.len.result;
    }) (Moves.for_loop c.args.statement.now.span c.condition_at.result c.step_at.result
    c.part-body.result (length c.count.new.self.state.variables)) c.count.new.self.state (after
    c.args.class.now c.args.self.now) (leaving c.args.class.now c.args.self.now)
    (rw (len, counted.1) refl) (sym c.if-absent.ensures)
    ∙ Moves.looped c.args.class.now c.args.self.now c.count.new.self (record {
      at = c.args.statement.now.span.from;
      condition = c.condition_at.result;
      step = c.step_at.result;
      body = c.part-body.result;
      count = Some c.len.result;
    }) c.part-first.result counted.1))))
    c.execute_for.ensures.does
