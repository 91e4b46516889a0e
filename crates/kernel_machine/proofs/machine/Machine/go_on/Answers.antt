-- The other tasks aren't of an expression.
use Rattle.kernel_machine.proofs.Groups
use Rattle.kernel_machine.proofs.machine.Machine.go_on.Goals as goal

pub go_on_statement-requires-clause-other : goal.go_on_statement-requires-clause-other
go_on_statement-requires-clause-other c =
    let d = c.in_default in
    Groups.other-than-expression c.args.task d.not-Operands d.not-Choice d.not-Picked d.not-ChooseFirst d.not-ChooseSecond d.not-Short d.not-FlagAlone
