-- The next element, or the array of all.
use Rattle.std.proofs.Common.{◌∙◌, refl, sym, arith, suc, length, subst}
use Rattle.kernel_plans.specs.Trees.{tree_of}
use Rattle.kernel_machine.specs.Going.{go, standing, rest}
use Rattle.kernel_machine.specs.Positions.{IsPart}
use Rattle.kernel_rows.specs.Kept.{AreArrays}
use Rattle.kernel_machine.specs.Fit.{AreFitTasks}
use Rattle.kernel_machine.proofs.Moves
use Rattle.kernel_machine.proofs.Places
use Rattle.kernel_machine.proofs.GivenFirst
use Rattle.kernel_machine.proofs.Setting
use Rattle.kernel_machine.proofs.machine.Machine.elements.Goals as goal

pub give-requires-clause-fit : goal.give-requires-clause-fit
give-requires-clause-fit c = record {
  now = c.requires.fit.now;
  tasks = c.requires.fit.tasks;
  callers = c.requires.fit.callers;
  state = record {
    variables = c.requires.fit.state.variables;
    fields = c.requires.fit.state.fields;
    arrays =
        subst AreArrays (sym c.in_ok-push.ensures.ok) (Setting.arrays-more
        c.args.self.now.state.arrays c.args.values (omega (
          arith,
          c.requires.many.0,
          c.requires.many.1,
        )) c.requires.values c.requires.fit.state.arrays);
    digits = c.requires.fit.state.digits;
  };
}

pub returns-then-place-braces-clause-does : goal.returns-then-place-braces-clause-does
returns-then-place-braces-clause-does c =
    let pushed = c.in_ok-push.ensures.ok in
    let number = c.in-Ok.ensures.1 ∙ c.len.ensures in
    Moves.leads-by c.args.class.now _ _ c.give.result c.give.new.self
    (GivenFirst.elements-end (standing c.args.class.now c.args.self.now) c.args.of
    (tree_of c.args.class.now.cells c.args.node) (length c.args.values) c.args.values
    c.args.self.now.state (rest c.args.class.now c.args.self.now)
    (Places.at-end c.args.class.now.cells (tree_of c.args.class.now.cells c.args.node)
    c.node_at-braces.result (length c.args.values) c.node_at-braces.ensures.tree (omega (
      arith,
      c.len-place.ensures,
      c.if-place-braces.true,
    )))
    ∙ rw (pushed, number) refl)
    c.give.ensures.does

pub returns-clause-does : goal.returns-clause-does
unfolding go
returns-clause-does c =
    let pushed = c.in_ok-push-2.ensures.ok in
    let here = subst (λ n. IsPart c.node_at-braces.result n c.part-element.result)
    c.len-place.ensures c.part-element.ensures in
    Moves.leads-by c.args.class.now _ _ c.value_of.result c.value_of.new.self
    (GivenFirst.elements-some c.args.class.now.cells (standing c.args.class.now c.args.self.now)
    c.args.node c.args.of c.args.values (tree_of c.args.class.now.cells c.part-element.result)
    c.args.self.now.state (rest c.args.class.now c.args.self.now)
    (Places.at-part c.args.class.now.cells (tree_of c.args.class.now.cells c.args.node)
    c.node_at-braces.result (length c.args.values) (suc (length c.args.values))
    c.part-element.result c.node_at-braces.ensures.tree here (omega (
      arith,
      c.len-place.ensures,
      c.if-place-braces.false,
    )) refl)
    ∙ rw (pushed) refl)
    c.value_of.ensures.does

pub value_of-requires : goal.value_of-requires
value_of-requires c =
    let many = Places.parts-many c.args.class.now.cells (tree_of c.args.class.now.cells c.args.node)
    c.node_at-braces.result c.node_at-braces.ensures.tree in
    record {
      fit = record {
        now = c.requires.fit.now;
        tasks =
            subst (AreFitTasks c.args.class.now) (sym c.in_ok-push-2.ensures.ok) (
              (
                c.requires.values,
                (
                  c.requires.many.0,
                  omega (arith, many, c.len-place.ensures, c.if-place-braces.false),
                ),
              ),
              c.requires.fit.tasks,
            );
        callers = c.requires.fit.callers;
        state = c.requires.fit.state;
      };
    }

pub returns-clause-falls : goal.returns-clause-falls
returns-clause-falls c =
    let many = Places.parts-many c.args.class.now.cells (tree_of c.args.class.now.cells c.args.node)
    c.node_at-braces.result c.node_at-braces.ensures.tree in
    let falls = rw c.in_ok-push-2.ensures.ok at c.value_of.ensures.falls in
    Moves.costs-more c.args.class.now _ _ c.value_of.result c.value_of.new.self (omega (
      arith,
      many,
      c.len-place.ensures,
      c.if-place-braces.false,
    )) falls
