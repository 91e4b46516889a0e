use Rattle.std.proofs.Common.{◌≡◌, ◌++◌, take}
use Rattle.std.specs.List.{flat_map}
use Rattle.schedule_report.specs.Printed.{flow_text}
use Rattle.schedule_report.proofs.printer.Printer.flows.Given as goal

-- the lines of the flows so far stand behind what was there
abbrev pub invariant-loop-flow : goal.invariant-loop-flow
invariant-loop-flow l = (l.self.text ≡ l.initial.self.text ++ flat_map flow_text (take l.flow-index l.flows)) × (l.self.before ≡ l.initial.self.before)
