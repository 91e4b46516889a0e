-- No other task is left.
use Rattle.kernel_machine.proofs.Groups
use Rattle.kernel_machine.proofs.machine.Machine.go_on_setting.Goals as goal

pub unreachable-requires : goal.unreachable-requires
unreachable-requires c =
    let d = c.in_default in
    Groups.no-other c.args.task c.requires.other c.requires.setting d.not-Initial d.not-Elements d.not-Indexed d.not-Assign d.not-Combine d.not-Store
