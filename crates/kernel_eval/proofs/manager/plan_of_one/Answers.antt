-- The name of the class is none of a kernel.
use Rattle.std.proofs.Common.{◌∙◌, sym, ap}
use Rattle.kernel_calls.specs.Laws.{is_port_name}
use Rattle.kernel_eval.proofs.Planning.{bad-place}
use Rattle.kernel_eval.proofs.manager.plan_of_one.Goals as goal

pub returns-then-not-is_port_name : goal.returns-then-not-is_port_name
returns-then-not-is_port_name c kernel is =
    bad-place c.args.tree.now c.args.class.now kernel c.branch_at.result is c.branch_at.ensures.tree
    (ap is_port_name (sym is.name ∙ sym c.as_bytes-name.ensures) ∙ sym c.if-not-is_port_name.ensures)
