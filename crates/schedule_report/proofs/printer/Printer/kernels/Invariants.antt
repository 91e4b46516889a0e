use Rattle.std.proofs.Common.{◌≡◌, ◌++◌, take}
use Rattle.std.specs.List.{flat_map}
use Rattle.schedule_report.specs.Printed.{kernel_text}
use Rattle.schedule_report.proofs.printer.Printer.kernels.Given as goal

-- the lines of the kernels so far stand behind what was there
abbrev pub invariant-loop-kernel : goal.invariant-loop-kernel
invariant-loop-kernel l = (l.self.text ≡ l.initial.self.text ++ flat_map kernel_text (take l.kernel-index l.kernels)) × (l.self.before ≡ l.initial.self.before)
