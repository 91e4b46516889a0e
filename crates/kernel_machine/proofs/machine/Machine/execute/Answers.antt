-- The statement is that of the node.
use Rattle.kernel_machine.proofs.Groups
use Rattle.kernel_machine.proofs.machine.Machine.execute.Goals as goal

pub execute_inner-requires-clause-other : goal.execute_inner-requires-clause-other
execute_inner-requires-clause-other c =
    let d = c.in_default in
    Groups.other-than-alone c.node_at-statement.result.kind d.not-Empty d.not-Local d.not-Set d.not-Connect d.not-Run d.not-Return

pub returns-in-Empty-clause-does : goal.returns-in-Empty-clause-does
returns-in-Empty-clause-does c = rw c.node_at-statement.ensures.tree c.nothing.ensures.does

pub returns-in-Local-clause-does : goal.returns-in-Local-clause-does
returns-in-Local-clause-does c = rw c.node_at-statement.ensures.tree c.local.ensures.does

pub returns-in-Set-clause-does : goal.returns-in-Set-clause-does
returns-in-Set-clause-does c = rw c.node_at-statement.ensures.tree c.set.ensures.does

pub returns-in-Connect-clause-does : goal.returns-in-Connect-clause-does
returns-in-Connect-clause-does c = rw c.node_at-statement.ensures.tree c.connect.ensures.does

pub returns-in-Run-clause-does : goal.returns-in-Run-clause-does
returns-in-Run-clause-does c = rw c.node_at-statement.ensures.tree c.call.ensures.does

pub returns-in-Return-clause-does : goal.returns-in-Return-clause-does
returns-in-Return-clause-does c = rw c.node_at-statement.ensures.tree c.return_value.ensures.does

pub returns-in_default-clause-does : goal.returns-in_default-clause-does
returns-in_default-clause-does c = rw c.node_at-statement.ensures.tree c.execute_inner.ensures.does
