-- The text of a report piece by piece, as it is printed.
use Rattle.std.specs.Prelude.{ℕ, ℤ, List, [], ◌∷◌, ◌++◌}
use Rattle.std.specs.List.{flat_map}
use Rattle.schedule_report.specs.declared.report.ReportKernel.{ReportKernel}
use Rattle.schedule_report.specs.Reports.{kernel_line, time_line, flow_line}

-- what was there before, and the text behind it
pub record Sheet : Type 0 where
  pub before : List ℕ
  pub text : List ℕ

-- a line and its end
abbrev pub ended : List ℕ → List ℕ
ended line = line ++ 10 ∷ []

abbrev pub time_text : ℤ → List ℕ
time_text s = ended (time_line s)

abbrev pub flow_text : ℕ → List ℕ
flow_text f = ended (flow_line f)

-- a kernel's line, its times and its flows
abbrev pub kernel_text : ReportKernel → List ℕ
kernel_text k = ended (kernel_line k) ++ (flat_map time_text k.times ++ flat_map flow_text k.flow)
