-- The other tasks aren't of a statement.
use Rattle.kernel_machine.proofs.Groups
use Rattle.kernel_machine.proofs.machine.Machine.go_on_statement.Goals as goal

pub go_on_setting-requires-clause-setting : goal.go_on_setting-requires-clause-setting
go_on_setting-requires-clause-setting c =
    let d = c.in_default in
    Groups.other-than-statement c.args.task d.not-Statements d.not-Test d.not-LoopBegin d.not-LoopTurn d.not-LoopBody d.not-LoopAgain d.not-Discard d.not-GiveBack d.not-Fields
