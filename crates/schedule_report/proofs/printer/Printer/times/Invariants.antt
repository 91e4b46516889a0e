use Rattle.std.proofs.Common.{◌≡◌, ◌++◌, take}
use Rattle.std.specs.List.{flat_map}
use Rattle.schedule_report.specs.Printed.{time_text}
use Rattle.schedule_report.proofs.printer.Printer.times.Given as goal

-- the lines of the times so far stand behind what was there
abbrev pub invariant-loop-time : goal.invariant-loop-time
invariant-loop-time l = (l.self.text ≡ l.initial.self.text ++ flat_map time_text (take l.time-index l.times)) × (l.self.before ≡ l.initial.self.before)
