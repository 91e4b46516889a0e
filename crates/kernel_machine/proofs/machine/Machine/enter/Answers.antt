-- A method is entered.
use Rattle.std.proofs.Common.{◌≡◌, ◌∙◌, refl, ap, arith, Ok, Err}
use Rattle.kernel_plans.specs.Trees.{tree_of}
use Rattle.kernel_machine.specs.Going.{rest}
use Rattle.kernel_machine.proofs.Moves
use Rattle.std.proofs.Common.{subst, length, List}
use Rattle.kernel_meaning.specs.declared.state.Binding.{Binding}
use Rattle.kernel_meaning.specs.Methods.{entered, method_of}
use Rattle.kernel_plans.specs.Called.{IsBody}
use Rattle.kernel_plans.specs.Classes.{library_of, members}
use Rattle.kernel_machine.proofs.machine.Machine.enter.Goals as goal

pub returns-in-Err-clause-does : goal.returns-in-Err-clause-does
returns-in-Err-clause-does c =
    Moves.leads-refused c.args.class.now c.args.class.now.cells
    (entered c.args.at c.args.values (method_of c.args.name.now (members c.args.class.now)))
    _ c.in-Err.error c.args.self.now
    (subst (λ name. IsBody c.args.class.now.cells (entered c.args.at c.args.values
    (method_of name (members c.args.class.now))) (Err c.in-Err.error))
    c.as_bytes.ensures c.in-Err.ensures.body)
    (λ e. Moves.call-refused (library_of c.args.class.now.library) (members c.args.class.now) _
    c.args.name.now
    c.args.at c.args.values c.args.self.now.state (rest c.args.class.now c.args.self.now)
    c.in-Err.error e)

pub returns-then-len-ge-DEEPEST-clause-does : goal.returns-then-len-ge-DEEPEST-clause-does
returns-then-len-ge-DEEPEST-clause-does c =
    Moves.call-deep (library_of c.args.class.now.library) (members c.args.class.now)
    (length c.args.self.now.callers) c.args.name.now c.args.at c.args.values
    c.args.self.now.state (rest c.args.class.now c.args.self.now) _ (omega arith)
    (subst (λ name. entered c.args.at c.args.values (method_of name (members
    c.args.class.now)) ≡ Ok (record {
      wanted = c.in-Ok.method.wanted;
      variables = c.in-Ok.method.variables;
      block = tree_of c.args.class.now.cells c.in-Ok.method.block;
    })) c.as_bytes.ensures c.in-Ok.ensures.body)

pub returns-clause-does : goal.returns-clause-does
returns-clause-does c =
    let tasks = c.replace-tasks.ensures.value in
    let variables = c.replace-variables.ensures.value in
    let wanted = c.replace-wanted.ensures.value in
    Moves.leads-by c.args.class.now _ _ c.body.result c.body.new.self
    (Moves.call-entered c.args.class.now c.args.self.now (record {
      now = c.args.self.now.now;
      tasks = c.replace-tasks.new.dest;
      callers = c.push.new.self;
      wanted = c.replace-wanted.new.dest;
      state = record c.args.self.now.state { variables = c.replace-variables.new.dest };
    }) c.args.name.now c.args.at c.args.values (record {
      wanted = c.in-Ok.method.wanted;
      variables = c.in-Ok.method.variables;
      block = tree_of c.args.class.now.cells c.in-Ok.method.block;
    }) (record {
      tasks = c.replace-tasks.result;
      variables = c.replace-variables.result;
      wanted = c.replace-wanted.result;
    }) (omega arith)
    (subst (λ name. entered c.args.at c.args.values (method_of name (members
    c.args.class.now)) ≡ Ok (record {
      wanted = c.in-Ok.method.wanted;
      variables = c.in-Ok.method.variables;
      block = tree_of c.args.class.now.cells c.in-Ok.method.block;
    })) c.as_bytes.ensures c.in-Ok.ensures.body)
    c.in_ok-push.ensures.ok (c.replace-tasks.ensures.after ∙ c.new.ensures)
    c.replace-wanted.ensures.after
    (ap (λ (v : List Binding). record c.args.self.now.state { variables = v })
    c.replace-variables.ensures.after)
    (rw (tasks, variables, wanted) refl))
    c.body.ensures.does
